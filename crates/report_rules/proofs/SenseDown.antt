-- What goes down by the rules means what it meant, and changes each book alike.
use Rattle.std.proofs.Common.{◌≡◌, ℕ, [], Bool, true, false, Option, Some, None, refl}
use Rattle.std.proofs.Common.{sym, ap, subst, ◌∙◌, codes, unwrap_or, option_map}
use Rattle.std.proofs.lemmas.Bool.{eqb-true}
use Rattle.std.specs.Prelude.{Ok, ◌==◌, if◌then◌else◌}
use Rattle.field_groups.specs.HeadValues.{number_in}
use Rattle.message_tables.specs.Tables.{Place, Tag, Said, Message, ◌>>=◌, code_of, code_if, code_in}
use Rattle.message_tables.specs.Tables.{lines_of, said_at}
use Rattle.order_meaning.specs.Book.{Book}
use Rattle.order_meaning.specs.Meant.{step_if}
use Rattle.order_meaning.specs.Report.{Exec, ExecutionReport, Report, Executed, NotCanceled}
use Rattle.order_meaning.specs.Report.{filled}
use Rattle.row_values.specs.Amounts.{amount_in, amount_of}
use Rattle.row_values.specs.Executions.{executed_by}
use Rattle.rows_fix42.specs.Meaning as meaning42
use Rattle.reports_fix42.specs.Sense as sense42
use Rattle.reports_fix42.specs.Step.{step42}
use Rattle.reports_fix50.specs.Sense as sense50
use Rattle.reports_fix50.specs.Step.{step50}
use Rattle.reports_fix42.proofs.Steps as steps42
use Rattle.reports_fix50.proofs.Steps as steps50
use Rattle.sound_laws.proofs.Each.{none_each}
use Rattle.rule_rows.specs.ByRules.{At, Grouped, by_rules, lack_by, or_lack}
use Rattle.rule_rows.proofs.Looked as looked
use Rattle.rule_rows.proofs.Looked.{rule_at, said_by, lines_by, no_lack}
use Rattle.report_rules.specs.Rules.{Rule, Same, Original, at, down_rules, is_fill, kinds}
use Rattle.report_rules.specs.Rules.{lacks_type, rules_for}
use Rattle.report_rules.specs.Down.{IsOrdinary, KeepsBooks, KeepsSense}
use Rattle.report_rules.proofs.KindsDown.{are_kinds, report_own, reject_own}
use Rattle.report_rules.proofs.Codes.{exec_kept, id_kept, phase_kept}
use Rattle.report_rules.proofs.ValuesDown.{other_0, other_2, other_4, reason_kept, report_told}
use Rattle.report_rules.proofs.ValuesDown.{reject_told, same_maturity, same_terms, terms42, terms50}

-- ---- an execution report

module _ (m : Message) where
  abbrev w : Message
  w = by_rules kinds (down_rules (Same 41)) m

  says : (place : Place)
      → said_at w.cells place ≡ said_by kinds m (rule_at kinds (At place) (down_rules (Same 41)))
  says place = looked.says kinds are_kinds (down_rules (Same 41)) report_own m place

  has_lines_of : (count : ℕ) → lines_of count w.groups
      ≡ lines_by kinds m (rule_at kinds (Grouped count) (down_rules (Same 41)))
  has_lines_of count = looked.has_lines_of kinds are_kinds (down_rules (Same 41)) report_own m count

  exec : lacks_type (code_if m.cells 150) ≡ false
      → sense50.exec_of (code_in m.cells 150)
      ≡ Some (sense42.exec_of (code_in w.cells 20) (code_in w.cells 150))
  exec h =
      exec_kept (code_if m.cells 150) (code_in m.cells 39)
      (is_fill (code_in m.cells 39) (amount_in m.cells 151).units) h
      ∙ sym (λ i. Some (sense42.exec_of (unwrap_or (says (Tag 20) i >>= code_of) 0)
      (unwrap_or (says (Tag 150) i >>= code_of) 0)))

  terms : IsOrdinary m
      → terms42 (at w 40) (at w 59) ≡ terms50 (at m 40) (at m 59)
  terms h = (λ i. terms42 (says (Tag 40) i) (says (Tag 59) i))
      ∙ same_terms (at m 40) (at m 59) h.plain h.close

  report_means : IsOrdinary m → (m.letter == 56) ≡ true → lacks_type (code_if m.cells 150) ≡ false
      → sense42.execution_of w
      ≡ sense50.execution_of m (sense42.exec_of (code_in w.cells 20) (code_in w.cells 150))
  report_means h is lack =
      let exec_id = (λ i. if unwrap_or (says (Tag 20) i >>= code_of) 0 == 51 then None
      else Some (unwrap_or (says (Tag 17) i) [])) ∙ id_kept (code_if m.cells 150) (at m 17) lack in
      let status = (λ i. sense42.phase_of (unwrap_or (says (Tag 39) i >>= code_of) 0))
      ∙ phase_kept (code_if m.cells 150) (at m 39) in
      let rej = (λ i. says (Tag 103) i >>= number_in) ∙ reason_kept 8 0 (codes "0") other_0 (at m 103) in
      let restate =
      (λ i. says (Tag 378) i >>= number_in) ∙ reason_kept 5 4 (codes "4") other_4 (at m 378) in
      let mature = (λ i. meaning42.maturity_of (says (Tag 200) i) (says (Tag 205) i))
      ∙ same_maturity (at m 200) (at m 541) h.day in
      let term = terms h in
      let text = says (Tag 58) ∙ report_told (at m 58) (at m 103) (at m 378) (at m 102) (h.report is) in
      λ i. executed_by m.resend (λ place. says place i) (λ count. has_lines_of count i) (record {
        client_id = says (Tag 109) i;
        exec_broker = says (Tag 76) i;
        clearing_firm = says (Tag 439) i;
        exec_id = exec_id i;
        exec = sense42.exec_of (code_in w.cells 20) (code_in w.cells 150);
        ord_status = status i;
        rej_reason = rej i;
        restate_reason = restate i;
        maturity = mature i;
        ord_type = (term i).0;
        time_in_force = (term i).1;
        capacity = says (Tag 47) i >>= code_of;
        max_floor = says (Tag 111) i >>= amount_of;
        text = text i;
      })

  report_kept : IsOrdinary m → (m.letter == 56) ≡ true → lacks_type (code_if m.cells 150) ≡ false
      → Some (Executed (sense42.execution_of w))
      ≡ option_map (λ e. Executed (sense50.execution_of m e)) (sense50.exec_of (code_in m.cells 150))
  report_kept h is lack =
      ap (λ (x : ExecutionReport). Some (Executed x)) (report_means h is lack)
      ∙ ap (option_map (λ e. Executed (sense50.execution_of m e))) (sym (exec lack))

-- ---- a cancel reject

module _ (known : Said) (m : Message) where
  abbrev r : Message
  r = by_rules kinds (down_rules (Original known)) m

  tells : (place : Place)
      → said_at r.cells place ≡ said_by kinds m (rule_at kinds (At place) (down_rules (Original known)))
  tells place = looked.says kinds are_kinds (down_rules (Original known)) (reject_own known) m place

  reject_means : IsOrdinary m → (m.letter == 57) ≡ true → lacks_type (code_if m.cells 150) ≡ false
      → Some (NotCanceled (sense42.cancel_reject_of r))
      ≡ Some (filled known (NotCanceled (sense50.cancel_reject_of m)))
  reject_means h is lack =
      let status = (λ i. sense42.phase_of (unwrap_or (tells (Tag 39) i >>= code_of) 0))
      ∙ phase_kept (code_if m.cells 150) (at m 39) in
      let reason =
      (λ i. tells (Tag 102) i >>= number_in) ∙ reason_kept 3 2 (codes "2") other_2 (at m 102) in
      let none = h.reject is in
      let text = tells (Tag 58)
      ∙ reject_told (at m 58) (at m 103) (at m 378) (at m 102) none.0 none.1 in
      λ i. Some (NotCanceled (record {
        resend = m.resend;
        order_id = unwrap_or (tells (Tag 37) i) [];
        secondary_id = tells (Tag 198) i;
        cl_ord_id = unwrap_or (tells (Tag 11) i) [];
        orig_id = tells (Tag 41) i;
        ord_status = status i;
        account = tells (Tag 1) i;
        transact_time = tells (Tag 60) i;
        response_to = unwrap_or (tells (Tag 434) i >>= code_of) 0;
        cxl_reason = reason i;
        text = text i;
      }))

-- ---- any message

-- what lacks nothing goes down by the rules
pub not_lacking : (lack : Option ℕ) (m w : Message) → or_lack lack m ≡ Ok w → (lack ≡ None) × (m ≡ w)
not_lacking None m w h = let is : m ≡ w = cc in (refl, is)
not_lacking (Some tag) m w h = absurd cc

-- the lack of an execution report
pub has_codes : (original : Rule) (m : Message) → lack_by kinds (down_rules original) m ≡ None
    → lacks_type (code_if m.cells 150) ≡ false
has_codes original m h =
    no_lack (lacks_type (code_if m.cells 150)) 150
    (none_each (kinds.lack m) (down_rules original) h).1.1.1.1.1.1.1.1.1.0

-- an execution report names no order
pub fills_nothing : (known : Said) (m : Message) (exec : Option Exec)
    → option_map (λ e. Executed (sense50.execution_of m e)) exec
    ≡ option_map (filled known) (option_map (λ e. Executed (sense50.execution_of m e)) exec)
fills_nothing known m None = refl
fills_nothing known m (Some e) = refl

-- by the letter
by_letter : (known : Said) (m : Message) → IsOrdinary m → (report reject : Bool)
    → (m.letter == 56) ≡ report → (m.letter == 57) ≡ reject
    → lack_by kinds (if reject then down_rules (Original known) else down_rules (Same 41)) m ≡ None
    → (report ≡ true → reject ≡ false)
    → (if report then Some (Executed (sense42.execution_of (by_rules kinds
    (if reject then down_rules (Original known) else down_rules (Same 41)) m))) else
    (if reject then Some (NotCanceled (sense42.cancel_reject_of (by_rules kinds
    (if reject then down_rules (Original known) else down_rules (Same 41)) m))) else None))
    ≡ option_map (filled known) (if report
    then option_map (λ e. Executed (sense50.execution_of m e)) (sense50.exec_of (code_in m.cells 150))
    else (if reject then Some (NotCanceled (sense50.cancel_reject_of m)) else None))
by_letter known m h true true e f lack apart = absurd (let not = apart refl in cc)
by_letter known m h true false e f lack apart =
    report_kept m h e (has_codes (Same 41) m lack)
    ∙ fills_nothing known m (sense50.exec_of (code_in m.cells 150))
by_letter known m h false true e f lack apart =
    reject_means known m h f (has_codes (Original known) m lack)
by_letter known m h false false e f lack apart = refl

apart_letters : (letter : ℕ) → (letter == 56) ≡ true → (letter == 57) ≡ false
apart_letters letter e = let is : letter ≡ 56 = eqb-true letter 56 e in rw is refl

-- IT MEANS THE SAME.
pub keeps_sense : KeepsSense
keeps_sense known m w h down =
    let p = not_lacking (lack_by kinds (rules_for known m) m) (by_rules kinds (rules_for known m) m)
    w down in
    let P : Message → Type 0 =
    λ x. sense42.report42 x ≡ option_map (filled known) (sense50.report50 m) in
    subst P p.1 (by_letter known m h (m.letter == 56) (m.letter == 57) refl refl p.0
    (apart_letters m.letter))

-- IT CHANGES EACH BOOK ALIKE: a step is by the meaning, and the original id changes none.
fills_no_book : (book : Book) (known : Said) (report : Option Report)
    → step_if book (option_map (filled known) report) ≡ step_if book report
fills_no_book book known None = refl
fills_no_book book known (Some (Executed report)) = refl
fills_no_book book known (Some (NotCanceled reject)) = refl

-- of reports that mean the same, whatever is stepped by their meaning
pub books_by : (step : Book → Message → Book) (report : Message → Option Report)
    → ((book : Book) (w : Message) → step book w ≡ step_if book (report w))
    → (known : Said) (m w : Message)
    → report w ≡ option_map (filled known) (sense50.report50 m)
    → (book : Book) → step book w ≡ step50 book m
books_by step report meant known m w means book =
    meant book w
    ∙ ap (step_if book) means
    ∙ fills_no_book book known (sense50.report50 m)
    ∙ sym (steps50.steps_meant book m)

pub books_alike : (known : Said) (m w : Message)
    → sense42.report42 w ≡ option_map (filled known) (sense50.report50 m)
    → (book : Book) → step42 book w ≡ step50 book m
books_alike = books_by step42 sense42.report42 steps42.steps_meant

pub keeps_books : KeepsBooks
keeps_books known m w h down book = books_alike known m w (keeps_sense known m w h down) book
