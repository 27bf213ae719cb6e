-- What `put_up` appends is the content of what goes up, or its lack is told.
use Rattle.std.proofs.Common.{◌≡◌, ◌++◌, ℕ, List, map, true, Some, None, refl, sym}
use Rattle.std.proofs.Common.{ap, subst, ◌∙◌, Result, Ok, Err}
use Rattle.std.specs.Prelude.{IfErr, OnOk}
use Rattle.std.specs.List.{AllByRecursion, flat_map}
use Rattle.field_groups.specs.Field.{Field, body_of}
use Rattle.message_tables.specs.FirstFault.{first_fault, message_in}
use Rattle.message_tables.specs.Tables.{Message, Table, ◌>>=◌, first_of, value_at}
use Rattle.order_meaning.specs.declared.fault.Lack.{Lack}
use Rattle.order_meaning.specs.declared.fault.Lack.TheVariants as faults
use Rattle.order_meaning.specs.Request.{Request, RequestKind, New, Cancel, Replace, Status}
use Rattle.row_values.specs.Asked.{of_letter}
use Rattle.row_values.specs.Kinds.{Kind, judge}
use Rattle.rule_rows.proofs.FieldsSaid.{IsRead, each_read, said_is}
use Rattle.rule_rows.specs.ByRules.{content_by, outline, outline_of}
use Rattle.rule_rows.specs.Rows.{have_written_lines}
use Rattle.rule_rows.specs.Texts.{Has, Own}
use Rattle.rule_rows.specs.declared.rules.Rule.{Rule as CodeRule}
use Rattle.rule_rows.specs.CodeRules.{AreRead, IsLackOf, lacked, reading, rule_of, table_of}
use Rattle.rule_rows.specs.CodeRules.{writes as all_write}
use Rattle.rule_rows.proofs.Written.{AreSaid, rules_lacked, rules_written}
use Rattle.dict_fix42.specs.Requests.{asked42}
use Rattle.dict_fix42.specs.Sense.{request_of}
use Rattle.request_rules.specs.declared.rules.Own.{Own as CodeOwn}
use Rattle.request_rules.specs.CodeRules.{Source, code, is_apart, lacks, writes}
use Rattle.request_rules.specs.Lack.{lack42, lack_of}
use Rattle.request_rules.specs.Good.{IsTable42}
use Rattle.request_rules.specs.Put.{IsPut, Lacks}
use Rattle.request_rules.specs.Rules.{Rule, kinds, rule_lack, up_content, up_lack, up_rules}
use Rattle.request_rules.proofs.ByType.{by_type}
use Rattle.request_rules.proofs.LacksUp.{lack_is}
use Rattle.request_rules.proofs.FieldsUp.{lack_read, own_goes}

-- ---- the four tables

-- what is known of the table of a request, by what is asked for
pub record IsKnown (table : Table Kind) (kind : RequestKind) : Type 0 where
  pub its : asked42 kind ≡ table
  pub type : Has is_apart table (Own 40)
  pub time : Has is_apart table (Own 59)
  pub capacity : Has is_apart table (Own 47)
  pub written : have_written_lines table.items ≡ true
  pub there : (fields : List Field)
      → outline (message_in judge table fields) ≡ outline_of table.items
  pub request : (f : RequestKind → Request) → of_letter table.letter f ≡ Some (f kind)

each : (kind : RequestKind) → IsKnown (asked42 kind) kind
each New = search
each kind = search

pub asks : (table : Table Kind) → IsTable42 table → (kind : RequestKind) × IsKnown table kind
asks table (msg_type, is) =
    by_type (λ t of42 of50. of42 ≡ Some table → (kind : RequestKind) × IsKnown table kind)
    (λ t no. absurd cc) (λ kind e. let same : asked42 kind ≡ table = cc in
    let P : Table Kind → Type 0 = λ t. IsKnown t kind in (kind, subst P same (each kind)))
    msg_type is

pub known : (table : Table Kind) (is : IsTable42 table) → IsKnown table (asks table is).0
known table is = (asks table is).1

-- ---- what is put

module _ (s : Source) (is : IsTable42 (table_of s))
    (none : first_fault judge (table_of s) s.fields.now ≡ None) where
  abbrev m : Message
  m = message_in judge (table_of s) s.fields.now

  abbrev kind : RequestKind
  kind = (asks (table_of s) is).0

  abbrev k : IsKnown (table_of s) kind
  k = known (table_of s) is

  said : AreSaid is_apart (table_of s) s.fields.now m
  said = record {
    none = none;
    at_row = λ tag e. said_is s.fields.now m.groups tag (table_of s).items;
    groups = refl;
    there = k.there s.fields.now;
  }

  lack42_is : up_lack m ≡ lack42 m
  lack42_is = sym (lack_is kind m)
      ∙ sym (ap (λ r. r >>= lack_of) (k.request (λ kind. request_of kind m)))

  pub lack_told : first_of (rule_lack (λ tag. value_at tag s.fields.now)) up_rules ≡ lack42 m
  lack_told = lack_read s m said k.type k.time k.capacity ∙ lack42_is

  module _ (rules : List (CodeRule CodeOwn)) (are : map (rule_of code) rules ≡ up_rules)
      (news : AreRead code (asked42 New) rules) (cancels : AreRead code (asked42 Cancel) rules)
      (replaces : AreRead code (asked42 Replace) rules)
      (statuses : AreRead code (asked42 Status) rules) where
    read : (kind : RequestKind) → AreRead code (asked42 kind) rules
    read New = news
    read Cancel = cancels
    read Replace = replaces
    read Status = statuses

    has : AllByRecursion (IsRead is_apart (table_of s) (reading code (table_of s))) rules
    has = let P : Table Kind → Type 0 = λ t. AreRead code t rules in
        each_read is_apart (table_of s) (reading code (table_of s)) rules
        (subst P k.its (read kind))

    content_is : flat_map (all_write writes s) rules ≡ up_content m
    content_is = rules_written code s m said (own_goes s m said) rules has
        ∙ ap (λ (rs : List Rule). content_by kinds rs m) are

    lacks_are : first_of (lacked lacks s) rules ≡ lack42 m
    lacks_are = rules_lacked code s m said (own_goes s m said) rules has
        ∙ ap (λ (rs : List Rule). first_of (kinds.lack m) rs) are ∙ lack42_is

    pub put : {E : Type 0} (r : Result (Unit {0}) E) (before after : List ℕ)
        → OnOk r (first_of (lacked lacks s) rules ≡ None)
        → OnOk r (after ≡ before ++ body_of (flat_map (all_write writes s) rules))
        → OnOk r (IsPut m before after)
    put (Err e) before after none bytes = tt
    put (Ok done) before after none bytes = record {
      said = sym lacks_are ∙ none;
      bytes = bytes ∙ ap (λ (fs : List Field). before ++ body_of fs) content_is;
    }

    pub lacking : (r : Result (Unit {0}) Lack)
        → IfErr r (IsLackOf (first_of (lacked lacks s) rules)) → IfErr r (Lacks m)
    lacking (Ok done) h = tt
    lacking (Err faults.NoMemory) h = tt
    lacking (Err (faults.Tag tag)) h = sym lacks_are ∙ h
