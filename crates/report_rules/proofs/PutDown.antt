-- What the code appends is the content of the message that goes down.
use Rattle.std.proofs.Common.{◌≡◌, ℕ, List, [], ◌∷◌, ◌++◌, Option, Some, None, refl, sym, ap}
use Rattle.std.proofs.Common.{true, false, if◌then◌else◌, subst, ◌∙◌, codes}
use Rattle.std.specs.Str.{bytes_eq}
use Rattle.std.proofs.lemmas.Slice.Eq.{bytes_eq-Decides}
use Rattle.std.specs.Prelude.{IfErr, OnOk, Result, Ok, Err}
use Rattle.std.specs.List.{flat_map}
use Rattle.field_groups.specs.Field.{Field, body_of}
use Rattle.message_tables.specs.FirstFault.{first_fault}
use Rattle.message_tables.specs.Tables.{Message, Said, Table, first_of}
use Rattle.first_faults.proofs.Given.{given}
use Rattle.row_values.specs.Groups.{AreParties}
use Rattle.row_values.specs.Kinds.{Kind, judge}
use Rattle.order_meaning.specs.declared.fault.Lack.{Lack}
use Rattle.order_meaning.specs.declared.fault.Lack.TheVariants as faults
use Rattle.rows_fix50.specs.Header.{completed_by}
use Rattle.reports_fix50.specs.Message.{cancel_reject_table, message50, report_table}
use Rattle.reports_fix50.specs.Message.{report_table_of}
use Rattle.reports_fix50.specs.Reports.{cancel_reject, execution_report}
use Rattle.rule_rows.specs.ByRules.{by_rules, content_by, lack_by, or_lack}
use Rattle.rule_rows.proofs.Made.{content_made}
use Rattle.rule_rows.specs.declared.rules.Rule.{Rule as CodeRule}
use Rattle.rule_rows.specs.CodeRules.{AreFor, IsLackOf, lacked, table_of}
use Rattle.rule_rows.specs.CodeRules.{writes as all_write}
use Rattle.rule_rows.proofs.Written.{all_lacked, all_written}
use Rattle.report_rules.specs.declared.rules.Own.{Own as CodeOwn}
use Rattle.report_rules.specs.CodeRules.{Source, code, known_of, lacks, reject_codes, report_codes}
use Rattle.report_rules.specs.CodeRules.{writes}
use Rattle.report_rules.specs.Down.{IsGoodBy, IsPut, LacksDown, PutsDown}
use Rattle.report_rules.specs.Rules.{written, Original, Rule, Same, down_message, down_rules, kinds}
use Rattle.report_rules.specs.Rules.{rules_for}
use Rattle.report_rules.proofs.CodeDown.{IsKnown, own_goes}
use Rattle.report_rules.proofs.KindsDown.{are_kinds, lacks_none, reject_own, report_own}
use Rattle.report_rules.proofs.SourceDown.{known_reject, known_report, read_by}
use Rattle.report_rules.proofs.SoundDown.{each_made, make}

-- what fields at no fault are read as
module _ (fields : List Field) where
  report_is : first_fault judge report_table fields ≡ None
      → message50 (56 ∷ []) fields None ≡ Ok (read_by report_table fields)
  unfolding message50
  report_is none = ap completed_by (given report_table fields None refl none)

  reject_is : first_fault judge cancel_reject_table fields ≡ None
      → message50 (57 ∷ []) fields None ≡ Ok (read_by cancel_reject_table fields)
  unfolding message50
  reject_is none = ap completed_by (given cancel_reject_table fields None refl none)

-- ---- a message, and the rules of the code for it

-- THESE RULES OF THE CODE ARE FOR A MESSAGE of this type, which is read of what the code has read
pub record AreRuled (msg_type : List ℕ) (s : Source) (rules : List (CodeRule CodeOwn)) : Type 0
  where
    t : Table Kind
    its : table_of s ≡ t
    m : Message
    read : message50 msg_type s.fields.now None ≡ Ok m
    is : IsKnown (known_of s) s m t
    all : List Rule
    ruled : rules_for (known_of s) m ≡ all
    for : AreFor (code (known_of s)) t all rules
    content : written (by_rules kinds all m) ≡ content_by kinds all m

module _ (msg_type : List ℕ) (s : Source) (rules : List (CodeRule CodeOwn))
    (r : AreRuled msg_type s rules) where
  abbrev known : Said
  known = known_of s

  same : (x : Message) → message50 msg_type s.fields.now None ≡ Ok x → r.m ≡ x
  same x is = let both = sym r.read ∙ is in cc

  here : IsKnown known s r.m (table_of s) × AreFor (code known) (table_of s) r.all rules
  here = let P : Table Kind → Type 0 =
      λ t. IsKnown known s r.m t × AreFor (code known) t r.all rules in
      subst P (sym r.its) (r.is, r.for)

  -- its message, and its lack
  abbrev w : Message
  w = by_rules kinds (rules_for known r.m) r.m

  content_is : flat_map (all_write writes s) rules ≡ written w
  content_is = all_written (code known) s r.m here.0.said (own_goes known s r.m here.0) are_kinds
      r.all rules here.1
      ∙ sym r.content ∙ ap (λ (rs : List Rule). written (by_rules kinds rs r.m)) (sym r.ruled)

  lack_is : lack_by kinds (rules_for known r.m) r.m ≡ first_of (lacked lacks s) rules
  lack_is = ap (λ (rs : List Rule). lack_by kinds rs r.m) r.ruled
      ∙ sym (all_lacked (code known) s r.m here.0.said (own_goes known s r.m here.0) are_kinds
      r.all rules here.1 (lacks_none r.m))

  down_is : (lack : Option ℕ) → first_of (lacked lacks s) rules ≡ lack
      → down_message known r.m ≡ or_lack lack w
  down_is lack is = ap (λ (o : Option ℕ). or_lack o w) (lack_is ∙ is)

  pub puts : {E : Type 0} (result : Result (Unit {0}) E) (before after : List ℕ)
      → OnOk result (first_of (lacked lacks s) rules ≡ None)
      → OnOk result (after ≡ before ++ body_of (flat_map (all_write writes s) rules))
      → OnOk result (PutsDown msg_type known s.fields.now before after)
  puts (Err e) before after none put = tt
  puts (Ok done) before after none put = λ x is.
      let P : Message → Type 0 = λ x. IsPut known x before after in
      subst P (same x is) (record {
        w = w;
        down = down_is None none;
        bytes = put ∙ ap (λ (fs : List Field). before ++ body_of fs) content_is;
      })

  pub lacking : (result : Result (Unit {0}) Lack)
      → IfErr result (IsLackOf (first_of (lacked lacks s) rules))
      → IfErr result (LacksDown msg_type known s.fields.now)
  lacking (Ok done) h = tt
  lacking (Err faults.NoMemory) h = tt
  lacking (Err (faults.Tag tag)) h = λ x is.
      let P : Message → Type 0 = λ x. down_message known x ≡ Err tag in
      subst P (same x is) (down_is (Some tag) h)

-- ---- by the type

module _ (msg_type : List ℕ) (fields : List Field) where
  pub is_eight : bytes_eq msg_type (codes "8") ≡ true → codes "8" ≡ msg_type
  is_eight test = sym ((bytes_eq-Decides msg_type (codes "8")).0 test)

  module _ (good : IsGoodBy (report_table_of msg_type) fields) where
    pub good_eight : bytes_eq msg_type (codes "8") ≡ true
        → first_fault judge report_table fields ≡ None
    good_eight test = rw test at good

    pub record IsNine : Type 0 where
      pub is : codes "9" ≡ msg_type
      pub none : first_fault judge cancel_reject_table fields ≡ None

    pub nine : bytes_eq msg_type (codes "8") ≡ false → IsNine
    nine test =
        elim (bytes_eq msg_type (codes "9")) as (λ b. bytes_eq msg_type (codes "9") ≡ b
        → IsGoodBy (if b then Some cancel_reject_table else None) fields → IsNine) [
          | true ↦ λ e h.
              record { is = sym ((bytes_eq-Decides msg_type (codes "9")).0 e); none = h }
          | false ↦ λ e h. absurd h
        ] refl (rw test at good)

-- ---- the two reports

module _ (msg_type : List ℕ) (s : Source) (rules : List (CodeRule CodeOwn))
    (good : IsGoodBy (report_table_of msg_type) s.fields.now) where
  pub report_ruled : bytes_eq msg_type (codes "8") ≡ true → table_of s ≡ report_table
      → AreParties s.fields.now s.besides.parties → s.besides.codes ≡ report_codes s.fields.now
      → ((known : Said) → AreFor (code known) report_table (down_rules (Same 41)) rules)
      → AreRuled msg_type s rules
  report_ruled test its are codes for =
      let x = read_by report_table s.fields.now in
      let all = down_rules (Same 41) in
      let none = good_eight msg_type s.fields.now good test in
      record {
        t = report_table;
        its = its;
        m = x;
        read = ap (λ (t : List ℕ). message50 t s.fields.now None)
            (sym (is_eight msg_type s.fields.now test)) ∙ report_is s.fields.now none;
        is = known_report s none are codes;
        all = all;
        ruled = refl;
        for = for (known_of s);
        content = sym (content_made kinds execution_report (make execution_report) x refl are_kinds
            all report_own (each_made execution_report));
      }

  pub reject_ruled : bytes_eq msg_type (codes "8") ≡ false → table_of s ≡ cancel_reject_table
      → s.besides.codes ≡ reject_codes s.fields.now
      → ((known : Said) → AreFor (code known) cancel_reject_table (down_rules (Original known))
      rules)
      → AreRuled msg_type s rules
  reject_ruled test its codes for =
      let x = read_by cancel_reject_table s.fields.now in
      let all = down_rules (Original (known_of s)) in
      let typed = nine msg_type s.fields.now good test in
      record {
        t = cancel_reject_table;
        its = its;
        m = x;
        read = ap (λ (t : List ℕ). message50 t s.fields.now None) (sym typed.is)
            ∙ reject_is s.fields.now typed.none;
        is = known_reject s typed.none codes;
        all = all;
        ruled = refl;
        for = for (known_of s);
        content = sym (content_made kinds cancel_reject (make cancel_reject) x refl are_kinds all
            (reject_own (known_of s)) (each_made cancel_reject));
      }
