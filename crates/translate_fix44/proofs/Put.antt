-- What the code appends of fields is the content of what their message becomes, and why it appends
-- nothing is the lack of the message, or the fault of the fields. And what the check of a refusal
-- answers.
use Rattle.std.proofs.Common.{◌≡◌, ◌∙◌, ◌++◌, ℕ, Bool, true, false, List, [], ◌∷◌, Option, Some}
use Rattle.std.proofs.Common.{None, Result, Ok, Err, refl, sym, ap, subst, codes}
use Rattle.std.specs.Prelude.{IfErr, OnOk}
use Rattle.std.specs.List.{flat_map}
use Rattle.std.specs.Str.{bytes_eq}
use Rattle.std.specs.Borrow.{Bor}
use Rattle.field_groups.specs.Field.{Field, body_of}
use Rattle.field_groups.specs.declared.fault.SplitFault.{SplitFault}
use Rattle.field_groups.specs.Fields.{SplitsInto}
use Rattle.message_tables.specs.FirstFault.{first_fault, message_in}
use Rattle.message_tables.specs.Tables.{Message, Said, Table, first_of, is_one_of, or_else}
use Rattle.order_meaning.specs.Request.{RequestKind, New}
use Rattle.order_meaning.specs.declared.fault.Lack.{Lack}
use Rattle.order_meaning.specs.declared.fault.Lack.TheVariants as lacking
use Rattle.order_meaning.specs.declared.fault.Fault.{Fault}
use Rattle.order_meaning.specs.declared.fault.Fault.TheVariants as faults
use Rattle.row_values.specs.Kinds.{Kind, judge}
use Rattle.first_faults.specs.Faults.{message_by}
use Rattle.first_faults.specs.Gives.{IsCleanIf}
use Rattle.first_faults.proofs.Given.{given}
use Rattle.rows_fix50.specs.Header.{completed_by}
use Rattle.refusal_parts.specs.Once.{once, once_by}
use Rattle.dict_fix44.specs.Message.{message44_by, request_message44, request_table_of, refusal44}
use Rattle.dict_fix44.specs.Message.{refusal_table_of}
use Rattle.dict_fix44.specs.Requests.{asked44}
use Rattle.reports_fix50.specs.Message.{cancel_reject_table, report_table}
use Rattle.reports_fix50.specs.Message.{report_table_of}
use Rattle.rule_rows.specs.ByRules.{by_rules, content_by, lack_by, lack_if, or_lack}
use Rattle.rule_rows.specs.declared.rules.Rule.{Rule as CodeRule}
use Rattle.rule_rows.specs.CodeRules.{AreFor, IsLackOf, lacked, table_of, writes as all_write}
use Rattle.rule_rows.proofs.Written.{all_lacked, all_written}
use Rattle.row_values.specs.Asked.{letter_of}
use Rattle.request_rules.proofs.ByType.{by_tables}
use Rattle.report_rules.specs.Judged.{AreGood}
use Rattle.report_rules.proofs.Judged.{clean_is, fault_by}
use Rattle.report_rules.proofs.PutDown.{good_eight, nine as is_nine}
use Rattle.report_rules.proofs.SourceDown.{read_by}
use Rattle.translation.specs.Bodies.{Direction}
use Rattle.translation.specs.Going.{Appends, AreGone, StayBack}
use Rattle.translation.specs.Header.{type_of}
use Rattle.translation.specs.Errors.{error_of_fault}
use Rattle.translation.specs.declared.error.TranslateError.{TranslateError}
use Rattle.translation.specs.declared.error.TranslateError.TheVariants as errors
use Rattle.translation.proofs.Going.{appends_of, stays_of}
use Rattle.report_translate.specs.Reading.{report_message}
use Rattle.report_translate.specs.Refusals.{IsFaultyRefusal, IsGoodRefusal}
use Rattle.report_translate.proofs.GoodFields.{fault_is, good_is, read_8, read_9}
use Rattle.translate_fix44.specs.declared.rules.Own.{Own as CodeOwn}
use Rattle.translate_fix44.specs.CodeRules.{Source, code, has_terms, known_of, lacks, lacks_role_in}
use Rattle.translate_fix44.specs.CodeRules.{writes}
use Rattle.translate_fix44.specs.Put.{IsRead, IsReport, Lacks, message, IsAsked, IsGoodBy}
use Rattle.translate_fix44.specs.Rules.{Rule, kinds, lacks_role, up_lack, up_rules}
use Rattle.translate_fix44.specs.Translation.{up, down_by}
use Rattle.translate_fix44.proofs.Known.{IsKnown, own_goes, IsKnownRequest, known_request}
use Rattle.translate_fix44.proofs.Known.{roles_lack}
use Rattle.translate_fix44.proofs.Tables.{are_kinds, lacks_none}

-- ---- fields that are read as a message, which has a lack or becomes another

module _ (fields : List Field) (d : Direction) (m : Message)
    (read : d.source (type_of fields) fields None ≡ Ok m) (lack : Option ℕ) (w : Message)
    (goes : d.goes m ≡ or_lack lack w) where
  becomes : (known : Option ℕ) → lack ≡ known → d.goes m ≡ or_lack known w
  becomes known is = goes ∙ ap (λ (o : Option ℕ). or_lack o w) is

  gone : lack ≡ None → AreGone d fields None
  gone none = record {
    m = m;
    w = w;
    read = record { whole = refl; read = read };
    goes = becomes None none;
  }

  lacks_at : (tag : ℕ) → lack ≡ Some tag → Lacks d fields (lacking.Tag tag)
  lacks_at tag some = (m, record { whole = refl; read = read }, becomes (Some tag) some)

  appends : (before after : List ℕ) → lack ≡ None → after ≡ before ++ body_of (d.content m w)
      → Appends d fields None before after
  unfolding gone
  appends before after none bytes = record { gone = gone none; bytes = bytes }

-- ---- rules of the code for a table

module _ (s : Source) (t : Table Kind) (its : table_of s ≡ t) (m : Message) (known : IsKnown s m t)
    (all : List Rule) (rules : List (CodeRule CodeOwn)) (for : AreFor (code (known_of s)) t all rules) where
  here : IsKnown s m (table_of s) × AreFor (code (known_of s)) (table_of s) all rules
  here = rw its (known, for)

  content_is : flat_map (all_write writes s) rules ≡ content_by kinds all m
  content_is = all_written (code (known_of s)) s m here.0.said (own_goes s m here.0) are_kinds all rules here.1

  pub lack_is : first_of (lacked lacks s) rules ≡ lack_by kinds all m
  lack_is = all_lacked (code (known_of s)) s m here.0.said (own_goes s m here.0) are_kinds all rules here.1
      (lacks_none m)

  -- in a direction in which the message becomes what all rules make of it, or has their lack
  module _ (d : Direction) (read : d.source (type_of s.fields.now) s.fields.now None ≡ Ok m)
      (content : d.content m (by_rules kinds all m) ≡ content_by kinds all m)
      (goes : d.goes m ≡ or_lack (lack_by kinds all m) (by_rules kinds all m)) where
    pub on_ok : {E : Type 0} (r : Result (Unit {0}) E) (before after : List ℕ)
        → OnOk r (first_of (lacked lacks s) rules ≡ None)
        → OnOk r (after ≡ before ++ body_of (flat_map (all_write writes s) rules))
        → OnOk r (Appends d s.fields.now None before after)
    on_ok (Err e) before after none put = tt
    on_ok (Ok done) before after none put =
        appends s.fields.now d m read (lack_by kinds all m) (by_rules kinds all m) goes before after
        (sym lack_is ∙ none)
        (put ∙ ap (λ (fs : List Field). before ++ body_of fs) (content_is ∙ sym content))

    pub on_err : (r : Result (Unit {0}) Lack)
        → IfErr r (IsLackOf (first_of (lacked lacks s) rules)) → IfErr r (Lacks d s.fields.now)
    on_err (Ok done) h = tt
    on_err (Err lacking.NoMemory) h = tt
    on_err (Err (lacking.Tag tag)) h = lacks_at s.fields.now d m read (lack_by kinds all m)
        (by_rules kinds all m) goes tag (sym lack_is ∙ h)

-- ---- a request

table_is : (kind : RequestKind) → request_table_of (letter_of kind ∷ []) ≡ Some (asked44 kind)
table_is New = refl
table_is kind = refl

module _ (s : Source) (has : IsRead s) where
  read : request_message44 (type_of s.fields.now) s.fields.now None ≡ Ok (message s)
  unfolding request_message44
  read = ap (λ (t : Option (Table Kind)). message44_by t s.fields.now None)
      (ap request_table_of has.asked.type ∙ table_is has.asked.kind
      ∙ ap (λ (t : Table Kind). Some t) (sym has.asked.its))
      ∙ ap completed_by (given (table_of s) s.fields.now None refl has.asked.none)

  -- its lack tells whether it goes
  pub up_gone : None ≡ up_lack (message s) → AreGone up s.fields.now None
  up_gone none = gone s.fields.now up (message s) read (up_lack (message s))
      (by_rules kinds up_rules (message s)) refl (sym none)

  pub up_lacks : (tag : ℕ) → Some tag ≡ up_lack (message s)
      → Lacks up s.fields.now (lacking.Tag tag)
  up_lacks tag some = lacks_at s.fields.now up (message s) read (up_lack (message s))
      (by_rules kinds up_rules (message s)) refl tag (sym some)

  is : IsKnownRequest s (table_of s)
  is = let P : Table Kind → Type 0 = λ t. first_fault judge t s.fields.now ≡ None
      → s.besides.has_terms ≡ is_one_of (codes "DG") t.letter → IsKnownRequest s t in
      subst P (sym has.asked.its) (known_request s has.are has.asked.kind) has.asked.none has.terms

  abbrev found : Bool
  found = lacks_role_in s.besides.has_terms s.besides.parties

  role_is : found ≡ lacks_role (message s)
  role_is = ap (λ (b : Bool). lacks_role_in b s.besides.parties) is.known.terms
      ∙ roles_lack (has_terms (table_of s)) (message s) is.roles s.fields.now s.besides.parties
      has.are is.lines

  module _ (rules : List (CodeRule CodeOwn))
      (for : (known : Said) (kind : RequestKind)
      → AreFor (code known) (asked44 kind) up_rules rules) where
    are_for : AreFor (code (known_of s)) (table_of s) up_rules rules
    are_for = rw has.asked.its (for (known_of s) has.asked.kind)

    -- the lack is that of the rules, or else that of the roles
    pub lack_told : (of_rules of_roles : Option ℕ) → of_rules ≡ first_of (lacked lacks s) rules
        → of_roles ≡ lack_if found 452 → or_else of_rules of_roles ≡ up_lack (message s)
    lack_told of_rules of_roles a b = λ i. or_else
        ((a ∙ lack_is s (table_of s) refl (message s) is.known up_rules rules are_for) i)
        ((b ∙ ap (λ (l : Bool). lack_if l 452) role_is) i)

    pub up_appends : (before after : List ℕ) → first_of (lacked lacks s) rules ≡ None
        → None ≡ lack_if found 452 → after ≡ before ++ body_of (flat_map (all_write writes s) rules)
        → Appends up s.fields.now None before after
    up_appends before after none roles put =
        appends s.fields.now up (message s) read (up_lack (message s))
        (by_rules kinds up_rules (message s)) refl before after
        (sym (lack_told None None (sym none) roles))
        (put ∙ ap (λ (fs : List Field). before ++ body_of fs)
        (content_is s (table_of s) refl (message s) is.known up_rules rules are_for))

    pub rules_lack : (e : Lack) → IsLackOf (first_of (lacked lacks s) rules) e
        → Lacks up s.fields.now e
    rules_lack lacking.NoMemory h = tt
    rules_lack (lacking.Tag tag) h =
        up_lacks tag (lack_told (Some tag) (lack_if found 452) (sym h) refl)

    pub role_lacks : (tag : ℕ) → first_of (lacked lacks s) rules ≡ None
        → Some tag ≡ lack_if found 452 → Lacks up s.fields.now (lacking.Tag tag)
    role_lacks tag none some = up_lacks tag (lack_told None (Some tag) (sym none) some)

-- ---- a report

-- what fields are read as, by the type
module _ (fields : List Field) (good : IsReport fields) (msg_type : List ℕ)
    (is : msg_type ≡ type_of fields) where
  own : (b : Bool) → bytes_eq msg_type (codes "8") ≡ b → bytes_eq (type_of fields) (codes "8") ≡ b
  own b test = ap (λ (t : List ℕ). bytes_eq t (codes "8")) (sym is) ∙ test

  pub eight : bytes_eq msg_type (codes "8") ≡ true
      → (report_message (type_of fields) fields None ≡ Ok (read_by report_table fields))
      × (first_fault judge report_table fields ≡ None)
  eight test = (
    read_8 (type_of fields) fields (own true test) good,
    good_eight (type_of fields) fields good (own true test),
  )

  pub nine : bytes_eq msg_type (codes "8") ≡ false
      → (report_message (type_of fields) fields None ≡ Ok (read_by cancel_reject_table fields))
      × (first_fault judge cancel_reject_table fields ≡ None)
  nine test = (
    read_9 (type_of fields) fields (own false test) good,
    (is_nine (type_of fields) fields good (own false test)).none,
  )

-- ---- fields that were judged, and those of the body

-- ---- a request

module _ (fields : List Field) (stopped : Option SplitFault) (msg_type : List ℕ)
    (same : msg_type ≡ type_of fields) where
  read_as : (t : Option (Table Kind)) → t ≡ request_table_of msg_type
      → request_message44 (type_of fields) fields stopped ≡ message44_by t fields stopped
  unfolding request_message44
  read_as t is = ap (λ (type : List ℕ). request_message44 type fields stopped) (sym same)
      ∙ ap (λ (t : Option (Table Kind)). message44_by t fields stopped) (sym is)

  pub not_supported : None ≡ request_table_of msg_type
      → StayBack up fields stopped (errors.Faulty faults.NotSupported)
  not_supported = read_as None

  module _ (t : Table Kind) (is : Some t ≡ request_table_of msg_type) where
    pub asked_fault : (fault : Fault) → message_by (Some t) fields stopped ≡ Err fault
        → StayBack up fields stopped (error_of_fault fault)
    asked_fault faults.NoMemory h = tt
    asked_fault fault h = read_as (Some t) is ∙ ap completed_by h

    pub asked_is : (good : List Field) → (good ≡ fields) × (stopped ≡ None)
        × (first_fault judge t fields ≡ None) → IsAsked t good
    asked_is good clean =
        by_tables asked44 asked44 (λ type its other. Some t ≡ its → type_of good ≡ type
        → IsAsked t good) (λ type e same. absurd cc) (λ kind e same. record {
          kind = kind;
          its = cc;
          type = same;
          none = ap (first_fault judge t) clean.0 ∙ clean.2;
        }) msg_type is (ap type_of clean.0 ∙ sym same)

pub ruleset of_request = (not_supported, asked_fault, asked_is)

-- what is said of the fields that the rules read is so of those of the body
module _ (fields : List Field) (stopped : Option SplitFault) (s : Source) (has : IsRead s)
    (same : (s.fields.now ≡ fields) × (stopped ≡ None)) where
  pub up_put : (before after : List ℕ) → Appends up s.fields.now None before after
      → Appends up fields stopped before after
  up_put = appends_of up fields s.fields.now stopped same.0 same.1 (Ok tt)

  pub up_stays : (error : TranslateError) → StayBack up s.fields.now None error
      → StayBack up fields stopped error
  up_stays error = stays_of up fields s.fields.now stopped same.0 same.1 (Err error)

  pub is_gone : None ≡ up_lack (message s) → AreGone up fields stopped
  is_gone none = (up_put [] _ (record { gone = up_gone s has none; bytes = refl })).gone

  pub is_lacking : (tag : ℕ) → Some tag ≡ up_lack (message s)
      → StayBack up fields stopped (errors.Lacking tag)
  is_lacking tag some = up_stays (errors.Lacking tag) (up_lacks s has tag some)

pub ruleset of_source = (up_put, up_stays, is_gone, is_lacking)

-- ---- a report

module _ (fields : List Field) (stopped : Option SplitFault) (msg_type : List ℕ)
    (same : msg_type ≡ type_of fields) (known : Said) where
  is_clean : (r : Result (Bor (List Field)) Fault)
      → IsCleanIf (report_table_of msg_type) fields stopped r
      → IsCleanIf (report_table_of (type_of fields)) fields stopped r
  is_clean r = subst (λ (t : List ℕ). IsCleanIf (report_table_of t) fields stopped r) same

  pub told_fault : (fault : Fault) → IsCleanIf (report_table_of msg_type) fields stopped (Err fault)
      → StayBack (down_by known) fields stopped (error_of_fault fault)
  told_fault faults.NoMemory h = tt
  told_fault fault h = fault_is fields stopped fault (is_clean (Err fault) h)

  module _ (good : Bor (List Field))
      (clean : IsCleanIf (report_table_of msg_type) fields stopped (Ok good)) where
    are : AreGood (report_table_of (type_of fields)) fields stopped good.now
    are = good_is fields stopped good (is_clean (Ok good) clean)

    pub told_is : IsReport good.now
    told_is = rw are.same are.none

    pub told_put : (before after : List ℕ) → Appends (down_by known) good.now None before after
        → Appends (down_by known) fields stopped before after
    told_put = appends_of (down_by known) fields good.now stopped are.same are.whole (Ok tt)

    pub told_stays : (error : TranslateError) → StayBack (down_by known) good.now None error
        → StayBack (down_by known) fields stopped error
    told_stays error =
        stays_of (down_by known) fields good.now stopped are.same are.whole (Err error)

pub ruleset of_report = (told_fault, told_is, told_put, told_stays)

-- ---- a refusal

module _ (body : List ℕ) (fields : List Field) (stopped : Option SplitFault)
    (split : SplitsInto body fields stopped) where
  abbrev table : Option (Table Kind)
  table = refusal_table_of (type_of fields)

  pub faulty : (fault : Fault) → IsCleanIf table fields stopped (Err fault)
      → IsFaultyRefusal refusal44 body (error_of_fault fault)
  unfolding refusal44
  faulty faults.NoMemory h = tt
  faulty fault h = record {
    fields = fields;
    stopped = stopped;
    split = split;
    read = ap once_by (fault_by fields stopped table fault h);
  }

  pub good : (good : Bor (List Field)) → IsCleanIf table fields stopped (Ok good)
      → IsGoodRefusal refusal44 body
  unfolding refusal44
  good g h =
      let are = clean_is fields stopped table g h in
      let whole = subst (λ (s : Option SplitFault). SplitsInto body fields s) are.whole split in
      by table refl whole are.none
    where
      by : (t : Option (Table Kind)) → table ≡ t → SplitsInto body fields None → IsGoodBy t fields
          → IsGoodRefusal refusal44 body
      by None e whole good = absurd good
      by (Some t) e whole good = record {
        fields = fields;
        message = once (message_in judge t fields);
        split = whole;
        read = ap (λ (t : Option (Table Kind)). once_by (message_by t fields None)) e
            ∙ ap once_by (given t fields None refl good);
      }

pub ruleset of_refusal = (good, faulty)
