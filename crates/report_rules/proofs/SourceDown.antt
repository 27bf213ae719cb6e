-- What the code has read of the fields of a report at no fault.
use Rattle.std.proofs.Common.{◌≡◌, ◌<◌, ◌^◌, ℕ, List, [], ◌∷◌, Option, Some, None, refl, sym, ap}
use Rattle.std.proofs.Common.{◌∙◌, option_map, lit<, subst, map, true, false}
use Rattle.std.specs.Prelude.{unwrap_or, ◌==◌, Result, Ok, Err}
use Rattle.std.specs.List.{list_any}
use Rattle.std.specs.Result.{result_ok}
use Rattle.typed_fields.specs.declared.dec.Dec.{Dec}
use Rattle.typed_fields.specs.declared.fault.FieldFault.{FieldFault}
use Rattle.typed_fields.specs.Dec.{dec_text, read_dec}
use Rattle.typed_fields.proofs.DecLaws.{dec_is_stable}
use Rattle.field_groups.specs.Field.{Field}
use Rattle.message_tables.specs.FirstFault.{first_fault, message_in}
use Rattle.message_tables.specs.Tables.{Message, Said, Table, Tag, ◌>>=◌, code_of, group_says}
use Rattle.message_tables.specs.Tables.{is_place, party_in, value_at}
use Rattle.value_kinds.specs.ValueKind.{units_of_text}
use Rattle.row_values.specs.Amounts.{amount_of}
use Rattle.row_values.specs.Groups.{AreParties, parties as groups50}
use Rattle.row_values.specs.Kinds.{Kind, judge}
use Rattle.row_values.proofs.ByTable.{says_parties}
use Rattle.rows_fix50.specs.Header.{completed, month_by}
use Rattle.rows_fix50.specs.Meaning.{id_of}
use Rattle.rows_fix50.proofs.Roles.{of_role}
use Rattle.reports_fix50.specs.Message.{cancel_reject_table, report_table}
use Rattle.sound_laws.proofs.Completed.{month_said, other_said}
use Rattle.sound_laws.proofs.Each.{◌&◌, one_of}
use Rattle.rule_rows.specs.ByRules.{outline, outline_of}
use Rattle.rule_rows.specs.Texts.{Has, OfKind, OfKinds, Own, decimal_of, decimal_text, is_amount}
use Rattle.rule_rows.specs.Texts.{is_kept, kept}
use Rattle.sound_laws.proofs.RowsSaid.{row_of_tag}
use Rattle.rule_rows.proofs.FieldsSaid.{decimal_said, kept_said, row_says, said_is, text_said}
use Rattle.rule_rows.proofs.Written.{AreSaid}
use Rattle.report_rules.specs.declared.source.Codes.{Codes}
use Rattle.report_rules.specs.CodeRules.{Source, is_month, known_of, reject_codes, report_codes}
use Rattle.report_rules.specs.CodeRules.{times, types, zero}
use Rattle.report_rules.specs.Rules.{at, is_fill, no_amount, party}
use Rattle.report_rules.proofs.CodeDown.{AreCodes, IsKnown}

-- the units of a decimal number are those of its spelling
units_are : (value : Option (List ℕ)) → (unwrap_or (decimal_of value) zero).units
    ≡ (unwrap_or (decimal_text value >>= amount_of) no_amount).units
unfolding units_of_text
units_are None = refl
units_are (Some v) = by (read_dec v) refl
  where
    again : (r : Result Dec FieldFault) (d : Dec) → r ≡ Ok d
        → d.units ≡ (unwrap_or (option_map (λ units. record { units = units })
        (option_map (λ (x : Dec). x.units) (result_ok r))) no_amount).units
    again (Ok x) d e = let same : x ≡ d = cc in ap (λ (y : Dec). y.units) (sym same)
    again (Err fault) d e = absurd cc

    by : (r : Result Dec FieldFault) → read_dec v ≡ r
        → (unwrap_or (result_ok r) zero).units
        ≡ (unwrap_or (option_map dec_text (result_ok r) >>= amount_of) no_amount).units
    by (Ok d) e = again (read_dec (dec_text d)) d (dec_is_stable v d e)
    by (Err fault) e = refl

-- ---- what is read by a table

-- WHAT A MESSAGE SAYS at a tag is what fields say by the row of the tag, whatever stands in other
-- fields.
module _ (fields : List Field) (table : Table Kind) where
  abbrev read : Message
  read = message_in judge table fields

  says_row : (tag : ℕ) → at read tag ≡ row_says fields (row_of_tag tag table.items)
  says_row tag = said_is fields read.groups tag table.items

  -- at a tag but that of the month, what the row of the tag says
  pub at_other : (tag : ℕ) → (tag == 200) ≡ false
      → at (completed read) tag ≡ row_says fields (row_of_tag tag table.items)
  at_other tag e = other_said (at read 541) read.cells (Tag tag) e ∙ says_row tag

  -- and the month is that of the date, where there is one
  pub at_month : list_any (is_place (Tag 200)) (map (λ c. c.0) read.cells) ≡ true
      → at (completed read) 200
      ≡ month_by (row_says fields (row_of_tag 541 table.items))
      (row_says fields (row_of_tag 200 table.items))
  at_month place = month_said (at read 541) read.cells place
      ∙ (λ i. month_by (says_row 541 i) (says_row 200 i))

-- the message that fields are by a table
abbrev pub read_by : Table Kind → List Field → Message
read_by table fields = completed (message_in judge table fields)

module _ (t : Table Kind) (fields : List Field) (none : first_fault judge t fields ≡ None) where
  abbrev m : Message
  m = read_by t fields

  pub said : outline m ≡ outline_of t.items → AreSaid is_month t fields m
  said there =
      record { none = none; at_row = at_other fields t; groups = refl; there = there }

  text : (tag : ℕ) → Has is_month t (Own tag) → value_at tag fields ≡ at m tag
  text = text_said is_month t fields none (at m) (at_other fields t)

  code_said : (tag : ℕ) → Has is_month t (Own tag)
      → (value_at tag fields >>= code_of) ≡ (at m tag >>= code_of)
  code_said tag has = ap (λ (v : Said). v >>= code_of) (text tag has)

  kept_code : (kind : Kind) (tag : ℕ) → Has is_month t (OfKind is_kept kind tag)
      → (kept fields tag kind >>= code_of) ≡ (at m tag >>= code_of)
  kept_code kind tag has = ap (λ (v : Said). v >>= code_of)
      (kept_said is_month t fields none (at m) (at_other fields t) kind tag has)

  amount : (tag : ℕ) → Has is_month t (OfKinds is_amount tag)
      → (unwrap_or (decimal_of (value_at tag fields)) zero).units
      ≡ (unwrap_or (at m tag >>= amount_of) no_amount).units
  amount tag has = units_are (value_at tag fields)
      ∙ ap (λ (t : Said). (unwrap_or (t >>= amount_of) no_amount).units)
      (decimal_said is_month t fields none (at m) (at_other fields t) tag has)

-- ---- the two reports

module _ (s : Source) where
  abbrev report : Message
  report = read_by report_table s.fields.now

  abbrev reject : Message
  reject = read_by cancel_reject_table s.fields.now

  pub known_report : first_fault judge report_table s.fields.now ≡ None
      → AreParties s.fields.now s.besides.parties → s.besides.codes ≡ report_codes s.fields.now
      → IsKnown (known_of s) s report report_table
  known_report none are codes = record {
    said = said report_table s.fields.now none refl;
    its_codes = subst (λ (c : Codes). AreCodes c report) (sym codes) (record {
      exec_type = code_said report_table s.fields.now none 150 refl;
      ord_status = code_said report_table s.fields.now none 39 refl;
      filled = λ i. is_fill (unwrap_or (code_said report_table s.fields.now none 39 refl i) 0)
          (amount report_table s.fields.now none 151 refl i);
      ord_type = kept_code report_table s.fields.now none types 40 refl;
      time = kept_code report_table s.fields.now none times 59 refl;
    });
    is_known = refl;
    month = λ is. sym (at_month s.fields.now report_table refl);
    party = one_of (λ role. id_of role s.besides.parties ≡ party report role) (1 ∷ 3 ∷ 4 ∷ [])
        (id 1 (lit< tt) & id 3 (lit< tt) & id 4 (lit< tt) & tt);
  }
    where
      id : (role : ℕ) → role < 2 ^ 64 → id_of role s.besides.parties
          ≡ party_in role (group_says judge s.fields.now groups50).1
      id = of_role s.fields.now s.besides.parties are
          (says_parties report_table s.fields.now none 4 refl refl refl s.besides.parties are)

  pub known_reject : first_fault judge cancel_reject_table s.fields.now ≡ None
      → s.besides.codes ≡ reject_codes s.fields.now
      → IsKnown (known_of s) s reject cancel_reject_table
  known_reject none codes = record {
    said = said cancel_reject_table s.fields.now none refl;
    its_codes = subst (λ (c : Codes). AreCodes c reject) (sym codes) (record {
      exec_type = code_unsaid 150 refl refl;
      ord_status = code_said cancel_reject_table s.fields.now none 39 refl;
      filled = λ i. is_fill
          (unwrap_or (code_said cancel_reject_table s.fields.now none 39 refl i) 0)
          (unwrap_or (sym (unsaid 151 refl refl) i >>= amount_of) no_amount).units;
      ord_type = code_unsaid 40 refl refl;
      time = code_unsaid 59 refl refl;
    });
    is_known = refl;
    month = λ no. absurd cc;
    party = λ role no. absurd cc;
  }
    where
      -- what no row of its table says
      unsaid : (tag : ℕ) → (tag == 200) ≡ false
          → row_of_tag tag cancel_reject_table.items ≡ None → at reject tag ≡ None
      unsaid tag other absent = at_other s.fields.now cancel_reject_table tag other
          ∙ ap (row_says s.fields.now) absent

      code_unsaid : (tag : ℕ) → (tag == 200) ≡ false
          → row_of_tag tag cancel_reject_table.items ≡ None
          → None ≡ (at reject tag >>= code_of)
      code_unsaid tag other absent =
          ap (λ (v : Said). v >>= code_of) (sym (unsaid tag other absent))
