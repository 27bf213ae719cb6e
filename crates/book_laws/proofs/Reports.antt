-- A report that goes on is read as a report of FIX 4.2 that changes each book alike.
use Rattle.std.proofs.Common.{◌≡◌, ℕ, true, false, List, [], ◌∷◌, Option, Ok, IfSome, refl}
use Rattle.std.proofs.Common.{None, sym, ap, ◌∙◌}
use Rattle.field_groups.specs.Field.{Field}
use Rattle.message_tables.specs.Tables.{Message}
use Rattle.order_meaning.specs.declared.Side.TheVariants.{Client, Venue}
use Rattle.reports_fix42.specs.Message.{message42}
use Rattle.rule_rows.specs.ByRules.{by_rules, lack_by}
use Rattle.report_rules.specs.Down.{IsReport50, Rejects50, Reports50}
use Rattle.report_rules.specs.Rules.{written, kinds, rules_for}
use Rattle.report_rules.proofs.SenseDown.{not_lacking}
use Rattle.sound_laws.specs.Sound.{without_resend}
use Rattle.message_answers.specs.Message.{is_refusal, message_of}
use Rattle.message_answers.specs.Translated.{GoesDown}
use Rattle.message_answers.proofs.ReadShapes.{venue_report}
use Rattle.message_answers.proofs.SaidTexts.{IsShortId}
use Rattle.message_answers.proofs.SentFields.{report_given, stands}
use Rattle.book_laws.specs.Heard.{message_to, sort_of}
use Rattle.book_laws.specs.HeardLaws.{sort_from}
use Rattle.book_laws.proofs.On.{IsOn}

is_sort : (m : Message) → IsReport50 m → sort_of (m.letter ∷ []) true ≡ sort_from Venue
is_sort m (Reports50 c) = ap (λ (l : ℕ). sort_of (l ∷ []) true) c.sound.letter
is_sort m (Rejects50 c) = ap (λ (l : ℕ). sort_of (l ∷ []) true) c.sound.letter

-- what is read of a type of reports
report_to : (m : Message) → IsReport50 m → (out : Message) (fields : List Field) (x : Message)
    → out.letter ≡ m.letter → message42 (out.letter ∷ []) fields None ≡ Ok x
    → message_to Client (m.letter ∷ []) fields ≡ Ok x
report_to m report out fields x same read =
    by report (ap (λ (l : ℕ). message42 (l ∷ []) fields None) (sym same) ∙ read)
  where
    by : IsReport50 m → message42 (m.letter ∷ []) fields None ≡ Ok x
        → message_to Client (m.letter ∷ []) fields ≡ Ok x
    by (Reports50 c) h = (λ i. message_to Client (c.sound.letter i ∷ []) fields)
        ∙ sym (λ i. message42 (c.sound.letter i ∷ []) fields None) ∙ h
    by (Rejects50 c) h = (λ i. message_to Client (c.sound.letter i ∷ []) fields)
        ∙ sym (λ i. message42 (c.sound.letter i ∷ []) fields None) ∙ h

module _ (body : List ℕ) (m : Message) (reads : message_of Venue body ≡ Ok m)
    (none : is_refusal m ≡ false) where
  -- A REPORT GOES ON, where this is known of its order.
  pub report_on : (original : Option (List ℕ)) (text : List Field)
      → IfSome original IsShortId → (goes : GoesDown original m text)
      → IsOn Venue m goes.client text
  report_on original text known goes =
      let report = venue_report Venue body m reads refl none in
      let is = stands m report original known text goes in
      let made : by_rules kinds (rules_for original m) m ≡ goes.client =
      (not_lacking (lack_by kinds (rules_for original m) m)
      (by_rules kinds (rules_for original m) m) goes.client goes.down).1 in
      record {
        sort = is_sort m report;
        resend = ap (λ (x : Message). x.resend) made;
        id = tt;
        carries = λ book. sym (is.books book);
        given = report_given m report original known text goes;
        read = ap (message_to Client (m.letter ∷ [])) goes.content
            ∙ report_to m report goes.client (written goes.client)
            (without_resend goes.client) (sym (ap (λ (x : Message). x.letter) made)) is.again;
      }
