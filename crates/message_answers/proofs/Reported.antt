-- What is answered to a report of the venue.
use Rattle.std.proofs.Common.{◌≡◌, ℕ, Bool, true, false, ◌&&◌, ◌==◌, ◌||◌, List, [], ◌∷◌, codes}
use Rattle.std.proofs.Common.{Option, Some, None, Result, Ok, Err, refl, sym, ap, subst, ◌∙◌}
use Rattle.std.proofs.Common.{length, option_map, unwrap_or, if◌then◌else◌}
use Rattle.std.specs.Prelude.{IfOk, is_none, is_some, not}
use Rattle.std.specs.Str.{bytes_eq}
use Rattle.std.proofs.lemmas.Result.{IfOk-weaker}
use Rattle.std.proofs.lemmas.Slice.Eq.{bytes_eq-Decides}
use Rattle.field_groups.specs.declared.fault.SplitFault.{SplitFault}
use Rattle.field_groups.specs.Field.{Field, AreFields, body_of}
use Rattle.message_tables.specs.Tables.{Message, Said, Table, Tag, is_one_of, or_else, said_at}
use Rattle.message_tables.specs.Tables.{◌>>=◌, code_of, text_in}
use Rattle.message_tables.specs.FirstFault.{first_fault, message_in as message_by_table}
use Rattle.value_kinds.specs.ValueKind.{Id}
use Rattle.row_values.specs.Kinds.{Kind, Value, judge, resend_of, said}
use Rattle.order_meaning.specs.declared.Side.{Side}
use Rattle.order_meaning.specs.declared.Side.TheVariants.{Venue}
use Rattle.order_meaning.specs.declared.fault.Fault.{Fault}
use Rattle.order_meaning.specs.declared.fault.Fault.TheVariants as faults
use Rattle.order_meaning.specs.declared.fault.Lack.{Lack}
use Rattle.order_meaning.specs.declared.fault.Lack.TheVariants as lacks
use Rattle.order_meaning.specs.Report.{Executed, NotCanceled, or_known}
use Rattle.order_chains.specs.Chains.{orig_of}
use Rattle.order_chains.specs.declared.item.ChainItem.{ChainItem}
use Rattle.first_faults.specs.Faults.{message_by}
use Rattle.first_faults.specs.Gives.{IsCleanIf, Tells}
use Rattle.first_faults.proofs.Given.{given}
use Rattle.refusal_parts.specs.Once.{refusal_by}
use Rattle.rows_fix50.specs.Header.{completed, completed_by}
use Rattle.reports_fix50.specs.Message.{message50, report_by, report_table, cancel_reject_table}
use Rattle.reports_fix50.specs.Message.{business_reject_table, report_table_of}
use Rattle.reports_fix50.specs.Message.{session_reject_table}
use Rattle.reports_fix50.specs.Sense.{cancel_reject_of, exec_of, execution_of}
use Rattle.rule_rows.specs.ByRules.{by_rules, lack_by, lack_if}
use Rattle.report_rules.specs.Down.{IsGoodBy, IsPut, IsReport50, LacksDown, PutsDown, Reports50}
use Rattle.report_rules.specs.Down.{Rejects50, Type8, Type9}
use Rattle.report_rules.specs.Rules.{kinds, lacks_type, rules_for, written}
use Rattle.report_rules.proofs.GoDown.{goes_meaning, rules_of}
use Rattle.report_rules.proofs.LacksDown.{lacking, means_nothing, no_type, reject_lack, report_lack}
use Rattle.report_rules.specs.Judged.{AreGood}
use Rattle.report_rules.proofs.Judged.{fault_by}
use Rattle.report_rules.proofs.PutDown.{good_eight, nine}
use Rattle.report_rules.proofs.ReadDown.{read_is_report}
use Rattle.report_rules.proofs.SenseDown.{not_lacking}
use Rattle.event_decisions.proofs.Bodies.{bodies_are_read}
use Rattle.message_answers.specs.declared.answer.Answer.{Answer as GivenAnswer}
use Rattle.message_answers.specs.declared.asking.Asked.{Asked as GivenAsked}
use Rattle.message_answers.specs.declared.asking.Known.{Known as GivenKnown}
use Rattle.message_answers.specs.Answer.{Gives, in_order, lack_of_report, original_of}
use Rattle.message_answers.specs.Chains.{joining}
use Rattle.message_answers.specs.Known.{Known as AnyKnown}
use Rattle.message_answers.specs.Message.{is_refusal, is_refusal_type, said_by}
use Rattle.message_answers.specs.Seen.{IsSplit, IsAnswer, Joins, IsForwarded, IsLacking, IsSpelled}
use Rattle.message_answers.specs.Seen.{Lacks, Goes, asked_in, known_in, message_in, words_in}
use Rattle.message_answers.proofs.Answered.{answers_message, gives_spelled}
use Rattle.message_answers.proofs.Joins.{joins_report}

-- ---- the message of a type that no refusal has

message_is : (msg_type : List ℕ) (fields : List Field) (fault : Option SplitFault)
    → is_refusal_type msg_type ≡ false
    → message50 msg_type fields fault
    ≡ completed_by (message_by (report_table_of msg_type) fields fault)
unfolding message50
message_is msg_type fields fault plain =
    by (bytes_eq msg_type (codes "8")) (bytes_eq msg_type (codes "9"))
    (bytes_eq msg_type (codes "3")) (bytes_eq msg_type (codes "j")) plain
  where
    by : (a b c d : Bool) → (c || d) ≡ false
        → (if a then report_by report_table fields fault else
        (if b then report_by cancel_reject_table fields fault else
        (if c then refusal_by session_reject_table fields fault else
        (if d then refusal_by business_reject_table fields fault else Err faults.NotSupported))))
        ≡ completed_by (message_by (if a then Some report_table else
        (if b then Some cancel_reject_table else None)) fields fault)
    by true b c d h = refl
    by false true c d h = refl
    by false false false false h = refl
    by false false c d h = absurd cc

tells_of : (fault : Fault) (x : Result Message Fault) → x ≡ Err fault → Tells fault x
tells_of faults.NoMemory x e = tt
tells_of fault x e = e

-- ---- the lack of a report

lack_is : (known : AnyKnown) (m : Message) → IsReport50 m
    → lack_of_report known m ≡ lack_by kinds (rules_for (original_of known m) m) m
lack_is known m (Reports50 c) =
    (λ i. if means_nothing m c i then Some 150 else (if (c.sound.letter i == 57)
    && (is_none (said_at m.cells (Tag 41)) && is_none (original_of known m))
    then Some 41 else None))
    ∙ by (lacks_type (said_at m.cells (Tag 150) >>= code_of)) ∙ sym (report_lack m)
    ∙ sym (ap (λ rs. lack_by kinds rs m) (rules_of (original_of known m) m 56 c.sound.letter))
  where
    by : (b : Bool) → (if b then Some 150 else None) ≡ or_else (lack_if b 150) None
    by true = refl
    by false = refl
lack_is known m (Rejects50 c) =
    ap (λ (l : ℕ). if is_none (if l == 56
    then option_map (λ exec. Executed (execution_of m exec))
    (exec_of (unwrap_or (said_at m.cells (Tag 150) >>= code_of) 0))
    else (if l == 57 then Some (NotCanceled (cancel_reject_of m)) else None)) then Some 150 else
    (if (l == 57) && (is_none (said_at m.cells (Tag 41)) && is_none (original_of known m))
    then Some 41 else None)) c.sound.letter
    ∙ by (said_at m.cells (Tag 41)) (original_of known m)
    ∙ ap (λ (b : Bool). or_else (lack_if (not (is_some
    (or_known (said_at m.cells (Tag 41)) (original_of known m)))) 41)
    (or_else (lack_if b 150) None)) (sym (no_type m c))
    ∙ sym (reject_lack (original_of known m) m)
    ∙ sym (ap (λ rs. lack_by kinds rs m) (rules_of (original_of known m) m 57 c.sound.letter))
  where
    by : (text other : Said) → (if is_none text && is_none other then Some 41 else None)
        ≡ or_else (lack_if (not (is_some (or_known text other))) 41)
        (or_else (lack_if false 150) None)
    by None None = refl
    by None (Some id) = refl
    by (Some text) other = refl

-- the original id that is known of an order
pub original_said : (chains : List ChainItem) (id said : List ℕ) (known : Said) → id ≡ said
    → known ≡ orig_of chains id → known ≡ orig_of chains said
original_said chains id said known same is = is ∙ ap (orig_of chains) same

-- ---- a report that was asked about

module _ (k : GivenKnown) (a : GivenAsked) (split : IsSplit a) (of_venue : a.side ≡ Venue)
    (plain : is_refusal_type a.msg_type.now ≡ false) where
  asked_is : message_in a ≡ message50 a.msg_type.now a.split.now.fields a.split.now.fault
  asked_is = ap (λ (side : Side).
      said_by side a.msg_type.now a.split.now.fields a.split.now.fault) of_venue

  -- its fault
  pub tells : (fault : Fault) → IsCleanIf (report_table_of a.msg_type.now) a.split.now.fields
      a.split.now.fault (Err fault) → Tells fault (message_in a)
  tells fault h = tells_of fault (message_in a)
      (asked_is ∙ message_is a.msg_type.now a.split.now.fields a.split.now.fault plain
      ∙ ap completed_by (fault_by a.split.now.fields a.split.now.fault
      (report_table_of a.msg_type.now) fault h))

  module _ (fields : List Field) (good : AreGood (report_table_of a.msg_type.now)
      a.split.now.fields a.split.now.fault fields) where
    pub is_good : IsGoodBy (report_table_of a.msg_type.now) fields
    is_good = subst (λ (fs : List Field). IsGoodBy (report_table_of a.msg_type.now) fs)
        (sym good.same) good.none

    are : AreFields None fields
    are =
        let P : List Field → Type 0 = λ fs. AreFields None fs in
        subst P (sym (good.same ∙ split.fields)) (bodies_are_read a.body.now).good

    -- THE REPORT that these fields are
    pub record IsReportOf (m : Message) : Type 0 where
      told : message50 a.msg_type.now fields None ≡ Ok m
      report : IsReport50 m
      typed : a.msg_type.now ≡ m.letter ∷ []
      resend : resend_of fields ≡ m.resend
      id : unwrap_or (said fields 11 (Value Id)) [] ≡ text_in m.cells 11
      other : is_refusal m ≡ false
      joins : is_one_of joining m.letter ≡ false

    by_table : (table : Table Kind) → first_fault judge table fields ≡ None
        → report_by table fields None ≡ Ok (completed (message_by_table judge table fields))
    by_table table none = ap completed_by (given table fields None refl none)

    report_8 : bytes_eq a.msg_type.now (codes "8") ≡ true
        → IsReportOf (completed (message_by_table judge report_table fields))
    unfolding message50
    report_8 test =
        let is : a.msg_type.now ≡ codes "8" =
        (bytes_eq-Decides a.msg_type.now (codes "8")).0 test in
        let told = ap (λ (t : List ℕ). message50 t fields None) is
        ∙ by_table report_table (good_eight a.msg_type.now fields is_good test) in
        record {
          told = told;
          report = read_is_report a.msg_type.now fields
              (completed (message_by_table judge report_table fields)) are told (Type8 is);
          typed = is;
          resend = refl;
          id = refl;
          other = refl;
          joins = refl;
        }

    report_9 : bytes_eq a.msg_type.now (codes "8") ≡ false
        → IsReportOf (completed (message_by_table judge cancel_reject_table fields))
    unfolding message50
    report_9 test =
        let of = nine a.msg_type.now fields is_good test in
        let told = ap (λ (t : List ℕ). message50 t fields None) (sym of.is)
        ∙ by_table cancel_reject_table of.none in
        record {
          told = told;
          report = read_is_report a.msg_type.now fields
              (completed (message_by_table judge cancel_reject_table fields)) are told
              (Type9 (sym of.is));
          typed = sym of.is;
          resend = refl;
          id = refl;
          other = refl;
          joins = refl;
        }

    pub read : (m : Message) × IsReportOf m
    read = by (bytes_eq a.msg_type.now (codes "8")) refl
      where
        by : (b : Bool) → bytes_eq a.msg_type.now (codes "8") ≡ b → (m : Message) × IsReportOf m
        by true e = (completed (message_by_table judge report_table fields), report_8 e)
        by false e = (completed (message_by_table judge cancel_reject_table fields), report_9 e)

    pub one_byte : length a.msg_type.now ≡ 1
    one_byte = ap length read.1.typed

    module _ (known : Said)
        (is : known ≡ orig_of k.chains.now (unwrap_or (said fields 11 (Value Id)) [])) where
      abbrev m : Message
      m = read.0

      abbrev original : Said
      original = original_of (known_in k) m

      abbrev Spelled : GivenAnswer → Type 0
      Spelled answer = IsSpelled a Venue original m (lack_of_report (known_in k) m) None answer

      original_is : known ≡ original
      original_is = is ∙ ap (orig_of k.chains.now) read.1.id

      -- it goes on
      goes : (content : List ℕ) (answer : GivenAnswer) → IsPut original m [] content
          → IsForwarded a a.msg_type.now (resend_of fields) content None answer → Spelled answer
      goes content answer put forwarded =
          let w = put.w in
          let none = not_lacking (lack_by kinds (rules_for original m) m)
          (by_rules kinds (rules_for original m) m) w put.down in
          let P : List ℕ → Type 0 =
          λ t. IsForwarded a t m.resend (body_of (written w)) None answer in
          let Q : Bool → Type 0 =
          λ r. IsForwarded a a.msg_type.now r (body_of (written w)) None answer in
          let R : List ℕ → Type 0 =
          λ c. IsForwarded a a.msg_type.now (resend_of fields) c None answer in
          Goes (written w) (lack_is (known_in k) m read.1.report ∙ none.0) (record {
            client = w;
            down = put.down;
            content = refl;
            means = goes_meaning original m w read.1.report put.down;
          }) (subst P read.1.typed (subst Q read.1.resend (subst R put.bytes forwarded)))

      -- or lacks a counterpart
      lacks_it : (lack : Lack) (answer : GivenAnswer)
          → LacksDown a.msg_type.now original fields lack → IsLacking a lack answer → Spelled answer
      lacks_it lacks.NoMemory answer h refused = absurd refused
      lacks_it (lacks.Tag tag) answer h refused =
          Lacks tag (lack_is (known_in k) m read.1.report
          ∙ lacking (lack_by kinds (rules_for original m) m)
          (by_rules kinds (rules_for original m) m) tag (h m read.1.told)) refused

      message_read : message_in a ≡ Ok m
      message_read = asked_is
          ∙ (λ i. message50 a.msg_type.now (sym good.same i) (good.whole i)) ∙ read.1.told

      module _ {E : Type 0} (result : Result GivenAnswer E) where
        abbrev Answers : Type 0
        Answers = IfOk result (IsAnswer k a) × IfOk result (Joins k a)

        -- THE ANSWER to a report at no fault, and what joins by it
        answers : IfOk result Spelled → Answers
        answers h = (
          IfOk-weaker result Spelled (IsAnswer k a) (λ answer spelled.
              answers_message k a split m answer message_read read.1.other
              (subst (λ (side : Side).
              Gives (asked_in a) (in_order side (known_in k) k.active (asked_in a) m)
              (words_in answer)) (sym of_venue)
              (gives_spelled a split.msg_type Venue original m (lack_of_report (known_in k) m) None
              answer of_venue spelled))) h,
          IfOk-weaker result Spelled (Joins k a) (λ answer. joins_report k a original m
              (lack_of_report (known_in k) m) answer read.1.joins) h,
        )

        pub sent : (before after : List ℕ) → before ≡ []
            → PutsDown a.msg_type.now known fields before after
            → IfOk result (IsForwarded a a.msg_type.now (resend_of fields) after None) → Answers
        sent before after none puts h =
            let P : Said → Type 0 = λ id. IsPut id m before after in
            let Q : List ℕ → Type 0 = λ old. IsPut original m old after in
            let put : IsPut original m [] after =
            subst Q none (subst P original_is (puts m read.1.told)) in
            answers (IfOk-weaker result
            (IsForwarded a a.msg_type.now (resend_of fields) after None) Spelled
            (λ answer. goes after answer put) h)

        pub refused : (lack : Lack) → LacksDown a.msg_type.now known fields lack
            → IfOk result (IsLacking a lack) → Answers
        refused lack h is =
            let P : Said → Type 0 = λ id. LacksDown a.msg_type.now id fields lack in
            answers (IfOk-weaker result (IsLacking a lack) Spelled
            (λ answer. lacks_it lack answer (subst P original_is h)) is)
