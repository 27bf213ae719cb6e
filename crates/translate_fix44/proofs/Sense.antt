-- What goes up or down by the rules means what it meant: codes that turn, and the messages.
use Rattle.std.proofs.Common.{◌≡◌, ℕ, [], Bool, true, false, List, Option, Some, None, refl, sym}
use Rattle.std.proofs.Common.{ap, ◌∙◌, arith, codes, subst, unwrap_or, option_map, if◌then◌else◌}
use Rattle.std.specs.Prelude.{◌==◌, ◌||◌, IfSome, IsSome}
use Rattle.std.proofs.lemmas.Bool.{eqb-true}
use Rattle.std.proofs.lemmas.Bool.Decides.{nat_tests}
use Rattle.field_groups.specs.HeadValues.{number_in}
use Rattle.message_tables.specs.Tables.{Place, Tag, Role, Said, Message, ◌>>=◌, code_of, code_in}
use Rattle.message_tables.specs.Tables.{is_one_of, said_at}
use Rattle.value_kinds.specs.ValueKind.{code_text}
use Rattle.order_meaning.specs.Report.{ExecutionReport, Executed, NotCanceled, filled, or_known}
use Rattle.order_meaning.specs.Request.{RequestKind, New, Cancel, Replace, Status}
use Rattle.row_values.specs.Amounts.{amount_of}
use Rattle.row_values.specs.Asked.{requested_by}
use Rattle.row_values.specs.Executions.{executed_by}
use Rattle.row_values.specs.Phases.{phase_of}
use Rattle.rows_fix50.specs.Meaning.{maturity_of, terms_of}
use Rattle.dict_fix50.specs.Sense as request50
use Rattle.dict_fix44.specs.Sense as sense44
use Rattle.dict_fix44.specs.Sense.{exec_of as exec44}
use Rattle.reports_fix50.specs.Sense as sense50
use Rattle.reports_fix50.specs.Sense.{exec_of as exec50}
use Rattle.sound_laws.proofs.Each.{◌&◌, one_of}
use Rattle.rule_rows.specs.ByRules.{At, by_rules, has_place, outline}
use Rattle.rule_rows.specs.Rules.{By}
use Rattle.rule_rows.proofs.Looked as looked
use Rattle.rule_rows.proofs.Looked.{rule_at, said_by}
use Rattle.request_rules.specs.Rules.{is_unlisted}
use Rattle.request_rules.proofs.TermsUp.{listed_is}
use Rattle.report_rules.specs.Rules.{at}
use Rattle.report_rules.proofs.ValuesDown.{other_0, other_2, other_4, reason_kept, report_told}
use Rattle.report_rules.proofs.ValuesDown.{reject_told}
use Rattle.translate_fix44.specs.Rules.{Same, Else, down_rules, else_said, kinds, turn, turned_code}
use Rattle.translate_fix44.specs.Rules.{up_rules}
use Rattle.translate_fix44.proofs.Tables.{are_kinds, up_own, report_own, reject_own}

-- ---- codes that turn

-- what is spelled as a code is that code
said_back : (code : Option ℕ) → (option_map code_text code >>= code_of) ≡ code
said_back None = refl
said_back (Some code) = refl

-- and a code that turns to none, too
same_code : (code : Option ℕ)
    → (option_map code_text (option_map (turn None) code) >>= code_of) ≡ code
same_code None = refl
same_code (Some code) = refl

-- what holds of the code that turns, and of each other with itself, holds of any
pub turned_is : (from to : ℕ) (P : ℕ → ℕ → Type 0) → P from to
    → ((code : ℕ) → (from == code) ≡ false → P code code)
    → (code : ℕ) → P code (turn (Some (from, to)) code)
turned_is from to P turns other code =
    elim (from == code) as (λ b. (from == code) ≡ b → P code (if b then to else code)) [
      | true ↦ λ e. subst (λ (c : ℕ). P c to) (eqb-true from code e) turns
      | false ↦ λ e. other code e
    ] refl

-- ---- ExecType and ExecID

abbrev pub types : List ℕ
types = codes "03456789ABCDEFGHI"

abbrev pub status_turns : Option (ℕ × ℕ)
status_turns = Some (76, 73)

-- WHAT A REPORT TELLS OF
exec_kept : (code : Option ℕ) → is_unlisted types (option_map (turn status_turns) code) ≡ false
    → exec50 (unwrap_or code 0)
    ≡ Some (exec44 (unwrap_or (option_map (turn status_turns) code) 0))
unfolding exec50 exec44
exec_kept None h = refl
exec_kept (Some code) h =
    turned_is 76 73 (λ c t. is_one_of types t ≡ true → exec50 c ≡ Some (exec44 t)) (λ listed. refl)
    (λ c e. one_of (λ c. exec50 c ≡ Some (exec44 c)) types
    (refl & refl & refl & refl & refl & refl & refl & refl & refl & refl & refl & refl & refl
    & refl & refl & refl & refl & tt) c) code (listed_is types (Some (turn status_turns code)) h)

id_kept : (code : Option ℕ) (id : List ℕ)
    → (if unwrap_or (option_map (turn status_turns) code) 0 == 73 then None else Some id)
    ≡ (if unwrap_or code 0 == 73 || unwrap_or code 0 == 76 then None else Some id)
id_kept None id = refl
id_kept (Some code) id =
    turned_is 76 73 (λ c t. (if t == 73 then None else Some id)
    ≡ (if c == 73 || c == 76 then None else Some id)) refl
    (λ c e. or_false (c == 73) (c == 76) (grind (arith, nat_tests))) code
  where
    or_false : (a b : Bool) → b ≡ false → (if a then None else Some id)
        ≡ (if a || b then None else Some id)
    or_false true b e = refl
    or_false false false e = refl
    or_false false true e = absurd cc

-- ---- OrdStatus: an order that was replaced is new

phase_kept : (code : Option ℕ)
    → phase_of (unwrap_or (option_map code_text (option_map (turn (Some (53, 48))) code)
    >>= code_of) 0) ≡ phase_of (unwrap_or code 0)
unfolding phase_of
phase_kept None = refl
phase_kept (Some code) =
    turned_is 53 48 (λ c t. phase_of t ≡ phase_of c) refl (λ c e. refl) code

-- ---- HandlInst

-- the requests that have a HandlInst
abbrev pub has_inst : RequestKind → Bool
has_inst New = true
has_inst Replace = true
has_inst kind = false

given : (code : Option ℕ) → IsSome code → code ≡ Some (unwrap_or code 49)
given None h = absurd cc
given (Some code) h = refl

inst_known : (inst : Said) → IfSome inst (λ text. IsSome (code_of text))
    → (or_known inst (Some (codes "1")) >>= code_of) ≡ Some (unwrap_or (inst >>= code_of) 49)
inst_known None h = refl
inst_known (Some text) h = given (code_of text) h

inst_kept : (kind : RequestKind) (b : Bool) (inst : Said) → b ≡ has_inst kind
    → IfSome inst (λ text. IsSome (code_of text))
    → (else_said b inst (Some (codes "1")) >>= code_of)
    ≡ sense44.hand_inst_of kind (inst >>= code_of)
inst_kept New true inst e h = inst_known inst h
inst_kept Replace true inst e h = inst_known inst h
inst_kept Cancel false inst e h = refl
inst_kept Status false inst e h = refl
inst_kept kind b inst e h = absurd cc

-- ---- a request

pub request_means : (m : Message) (kind : RequestKind)
    → has_place (outline m) (Tag 21) ≡ has_inst kind
    → IfSome (at m 21) (λ text. IsSome (code_of text))
    → request50.request_of kind (by_rules kinds up_rules m) ≡ sense44.request_of kind m
request_means m kind there coded =
    let says = looked.says kinds are_kinds up_rules up_own m in
    let lines = looked.has_lines_of kinds are_kinds up_rules up_own m in
    let inst = (λ i. says (Tag 21) i >>= code_of)
    ∙ inst_kept kind (has_place (outline m) (Tag 21)) (at m 21) there coded in
    let type = (λ i. says (Tag 40) i >>= code_of) ∙ same_code (at m 40 >>= code_of) in
    let capacity = (λ i. says (Tag 528) i >>= code_of) ∙ same_code (at m 528 >>= code_of) in
    λ i. requested_by kind m.resend (λ place. says place i) (λ count. lines count i) (record {
      client_id = says (Role 3) i;
      exec_broker = says (Role 1) i;
      clearing_firm = says (Role 4) i;
      hand_inst = inst i;
      max_floor = says (Tag 1138) i >>= amount_of;
      maturity = maturity_of (says (Tag 200) i) (says (Tag 541) i);
      ord_type = (terms_of (type i) (says (Tag 59) i >>= code_of)).0;
      time_in_force = (terms_of (type i) (says (Tag 59) i >>= code_of)).1;
      capacity = capacity i;
    })

-- ---- an execution report

module _ (m : Message) where
  abbrev w : Message
  w = by_rules kinds (down_rules (Same 41)) m

  says : (place : Place)
      → said_at w.cells place ≡ said_by kinds m (rule_at kinds (At place) (down_rules (Same 41)))
  says = looked.says kinds are_kinds (down_rules (Same 41)) report_own m

  type : (said_at w.cells (Tag 150) >>= code_of)
      ≡ option_map (turn status_turns) (at m 150 >>= code_of)
  type = (λ i. says (Tag 150) i >>= code_of)
      ∙ said_back (option_map (turn status_turns) (at m 150 >>= code_of))

  report_means : at m 102 ≡ None → sense44.execution_of w
      ≡ sense50.execution_of m (sense44.exec_of (code_in w.cells 150))
  report_means no_reason =
      let lines = looked.has_lines_of kinds are_kinds (down_rules (Same 41)) report_own m in
      let exec_id = (λ i. if unwrap_or (type i) 0 == 73 then None
      else Some (unwrap_or (says (Tag 17) i) []))
      ∙ id_kept (at m 150 >>= code_of) (unwrap_or (at m 17) []) in
      let status = (λ i. sense44.phase_of (unwrap_or (says (Tag 39) i >>= code_of) 0))
      ∙ phase_kept (at m 39 >>= code_of) in
      let rej = (λ i. says (Tag 103) i >>= number_in)
      ∙ reason_kept 8 0 (codes "0") other_0 (at m 103) in
      let restate = (λ i. says (Tag 378) i >>= number_in)
      ∙ reason_kept 5 4 (codes "4") other_4 (at m 378) in
      let text = says (Tag 58) ∙ report_told (at m 58) (at m 103) (at m 378) (at m 102) no_reason in
      λ i. executed_by m.resend (λ place. says place i) (λ count. lines count i) (record {
        client_id = says (Role 3) i;
        exec_broker = says (Role 1) i;
        clearing_firm = says (Role 4) i;
        exec_id = exec_id i;
        exec = sense44.exec_of (code_in w.cells 150);
        ord_status = status i;
        rej_reason = rej i;
        restate_reason = restate i;
        maturity = maturity_of (says (Tag 200) i) (says (Tag 541) i);
        ord_type = (terms_of (says (Tag 40) i >>= code_of) (says (Tag 59) i >>= code_of)).0;
        time_in_force = (terms_of (says (Tag 40) i >>= code_of) (says (Tag 59) i >>= code_of)).1;
        capacity = says (Tag 528) i >>= code_of;
        max_floor = says (Tag 111) i >>= amount_of;
        text = text i;
      })

  pub report_kept : at m 102 ≡ None
      → is_unlisted types (turned_code status_turns (at m 150)) ≡ false
      → Some (Executed (sense44.execution_of w))
      ≡ option_map (λ e. Executed (sense50.execution_of m e))
      (sense50.exec_of (code_in m.cells 150))
  report_kept no_reason listed =
      ap (λ (x : ExecutionReport). Some (Executed x)) (report_means no_reason)
      ∙ ap (option_map (λ e. Executed (sense50.execution_of m e)))
      (sym (exec_kept (at m 150 >>= code_of) listed
      ∙ ap (λ (c : Option ℕ). Some (sense44.exec_of (unwrap_or c 0))) (sym type)))

-- ---- a cancel reject

module _ (known : Said) (m : Message) where
  abbrev r : Message
  r = by_rules kinds (down_rules (By (Else 41 known))) m

  original_there : (b : Bool) (said : Said) → b ≡ true
      → else_said b said known ≡ or_known said known
  original_there true said e = refl
  original_there false said e = absurd cc

  pub reject_kept : has_place (outline m) (Tag 41) ≡ true → at m 103 ≡ None → at m 378 ≡ None
      → Some (NotCanceled (sense44.cancel_reject_of r))
      ≡ Some (filled known (NotCanceled (sense50.cancel_reject_of m)))
  reject_kept there no_rej no_restate =
      let tells = looked.says kinds are_kinds (down_rules (By (Else 41 known))) (reject_own known) m
      in
      let original = tells (Tag 41)
      ∙ original_there (has_place (outline m) (Tag 41)) (at m 41) there in
      let status = (λ i. sense44.phase_of (unwrap_or (tells (Tag 39) i >>= code_of) 0))
      ∙ phase_kept (at m 39 >>= code_of) in
      let reason = (λ i. tells (Tag 102) i >>= number_in)
      ∙ reason_kept 3 2 (codes "2") other_2 (at m 102) in
      let text = tells (Tag 58)
      ∙ reject_told (at m 58) (at m 103) (at m 378) (at m 102) no_rej no_restate in
      λ i. Some (NotCanceled (record {
        resend = m.resend;
        order_id = unwrap_or (tells (Tag 37) i) [];
        secondary_id = tells (Tag 198) i;
        cl_ord_id = unwrap_or (tells (Tag 11) i) [];
        orig_id = original i;
        ord_status = status i;
        account = tells (Tag 1) i;
        transact_time = tells (Tag 60) i;
        response_to = unwrap_or (tells (Tag 434) i >>= code_of) 0;
        cxl_reason = reason i;
        text = text i;
      }))
