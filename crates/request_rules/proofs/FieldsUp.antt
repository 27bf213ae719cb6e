-- What the code writes by a kind of rule of its own is what the rule writes of the message that was
-- read, and it lacks what that lacks.
use Rattle.std.proofs.Common.{◌≡◌, ℕ, None, refl, ap, codes}
use Rattle.message_tables.specs.Content.{cell_fields, group_fields}
use Rattle.message_tables.specs.Tables.{Message, Tag, ◌>>=◌, code_of, first_of}
use Rattle.message_tables.specs.Tables.{or_else, value_at}
use Rattle.value_kinds.specs.ValueKind.{MonthYear}
use Rattle.row_values.specs.Kinds.{DayOf, Kind, Value, said}
use Rattle.rule_rows.proofs.FieldsSaid.{IsRead, kind_said}
use Rattle.rule_rows.specs.ByRules.{lack_if, rule_fields}
use Rattle.rule_rows.specs.Texts.{Has, OfKind, Own as OwnText, is_any}
use Rattle.rule_rows.specs.declared.rules.Rule.TheVariants as carried
use Rattle.rule_rows.specs.CodeRules.{stands, table_of}
use Rattle.rule_rows.proofs.Written.{AreSaid, Goes, moved, text as text_of}
use Rattle.request_rules.specs.declared.rules.Own.{Own as CodeOwn}
use Rattle.request_rules.specs.declared.rules.Own.TheVariants as rules
use Rattle.request_rules.specs.CodeRules.{Source, code, is_apart, lacks, reading, rule_of, writes}
use Rattle.request_rules.specs.Rules.{at, date_up, is_late, is_unlisted, kinds, party_lines}
use Rattle.request_rules.specs.Rules.{rule_lack, time_up, type_up, up_lack, up_rules}

module _ (s : Source) (m : Message) (is : AreSaid is_apart (table_of s) s.fields.now m) where
  text : (tag : ℕ) → Has is_apart (table_of s) (OwnText tag) → stands s tag ≡ at m tag
  text = text_of code s m is

  by_kind : (kind : Kind) (tag : ℕ) → Has is_apart (table_of s) (OfKind is_any kind tag)
      → said s.fields.now tag kind ≡ at m tag
  by_kind = kind_said is_apart (table_of s) s.fields.now is.none (at m) is.at_row

  -- ONE CLAUSE FOR EACH KIND
  own_written : (rule : CodeOwn) → IsRead is_apart (table_of s) (reading (table_of s)) rule
      → writes s rule ≡ rule_fields kinds m (rule_of rule)
  own_written (rules.Listed from to listed) has = moved code s m to (text from has.0)
  own_written rules.Parties has = λ i. group_fields 453
      (party_lines (text 109 has.0 i) (text 76 has.1.0 i) (text 439 has.1.1.0 i))
  own_written (rules.PartyOf role) has = refl
  own_written rules.Month has = moved code s m 200 (by_kind (Value MonthYear) 200 has.0)
  own_written rules.Date has = λ i. cell_fields (
    Tag 541,
    date_up (by_kind (Value MonthYear) 200 has.0 i) (by_kind (DayOf 200) 205 has.1.0 i),
  )
  own_written rules.OrdType has = moved code s m 40 (ap type_up (text 40 has.0))
  own_written rules.Time has =
      λ i. cell_fields (Tag 59, time_up (text 40 has.0 i) (text 59 has.1.0 i))

  own_lacked : (rule : CodeOwn) → IsRead is_apart (table_of s) (reading (table_of s)) rule
      → lacks s rule ≡ kinds.lack m (rule_of rule)
  own_lacked (rules.Listed from to listed) has =
      λ i. lack_if (is_unlisted listed.now (text from has.0 i >>= code_of)) from
  own_lacked rules.Time has =
      λ i. lack_if (is_late (text 40 has.0 i >>= code_of) (text 59 has.1.0 i >>= code_of)) 59
  own_lacked rule has = refl

  pub own_goes : (rule : CodeOwn) → IsRead is_apart (table_of s) (reading (table_of s)) rule
      → Goes code s m (carried.By rule)
  own_goes rule has = record { written = own_written rule has; lacked = own_lacked rule has }

  -- the fields lack what the message lacks
  pub lack_read : Has is_apart (table_of s) (OwnText 40) → Has is_apart (table_of s) (OwnText 59)
      → Has is_apart (table_of s) (OwnText 47)
      → first_of (rule_lack (λ tag. value_at tag s.fields.now)) up_rules ≡ up_lack m
  unfolding first_of
  lack_read type time capacity = λ i. or_else
      (lack_if (is_late (text 40 type i >>= code_of) (text 59 time i >>= code_of)) 59) (or_else
      (lack_if (is_unlisted (codes "AIP") (text 47 capacity i >>= code_of)) 47) None)
