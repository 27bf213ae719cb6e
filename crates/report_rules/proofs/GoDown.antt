-- What goes down of a report stands for it: the two tables.
use Rattle.std.proofs.Common.{◌≡◌, ℕ, List, [], ◌∷◌, None, refl, sym, ap, subst, ◌∙◌}
use Rattle.std.proofs.Common.{option_map}
use Rattle.std.specs.Prelude.{IfSome, Ok, ◌==◌, if◌then◌else◌}
use Rattle.message_tables.specs.Tables.{Message, Said, Item, Table}
use Rattle.message_tables.specs.Content.{content}
use Rattle.order_meaning.specs.Report.{filled}
use Rattle.row_values.specs.Kinds.{judge, Kind}
use Rattle.reports_fix42.specs.Message as tables42
use Rattle.reports_fix42.specs.Message.{message42}
use Rattle.reports_fix42.specs.Sense.{report42}
use Rattle.reports_fix50.specs.Message as tables50
use Rattle.reports_fix50.specs.Reports as reports50
use Rattle.reports_fix50.specs.Sense.{report50}
use Rattle.sound_laws.specs.Complete.{IsComplete}
use Rattle.sound_laws.specs.Sound.{IsSound, without_resend}
use Rattle.sound_laws.proofs.ContentAgain.{read_again}
use Rattle.sound_laws.proofs.Each.{◌&◌}
use Rattle.rule_rows.specs.ByRules.{by_rules, content_by, lack_by}
use Rattle.rule_rows.proofs.Looked.{AreOwn}
use Rattle.rule_rows.proofs.Sound.{written}
use Rattle.report_rules.specs.Rules.{Rule, Same, Original, down_message, down_rules, kinds}
use Rattle.report_rules.specs.Rules.{rules_for, table_at}
use Rattle.report_rules.specs.Down.{GoDown, IsId, IsOrdinary, IsReport50, Reports42, Rejects42}
use Rattle.report_rules.specs.Down.{Reports50, Rejects50, StandsFor, IsReport42}
use Rattle.report_rules.proofs.KindsDown.{report_own, reject_own}
use Rattle.report_rules.proofs.SenseDown.{keeps_books, keeps_sense, has_codes, not_lacking}
use Rattle.report_rules.proofs.SoundDown.{ordinary_by, sound_down}
use Rattle.report_rules.proofs.SoundDown.{GoesDown, g, items_down}
use Rattle.rows_fix42.specs.Header.{table as table42}
use Rattle.rows_fix50.specs.Header.{table as table50}

pub report_goes : GoesDown (down_rules (Same 41)) reports50.execution_report
report_goes = search

pub reject_goes : (known : Said) → IfSome known IsId
    → GoesDown (down_rules (Original known)) reports50.cancel_reject
reject_goes known id = record {
  fits =
      refl & refl & refl & (refl, id)
      & (λ h. absurd cc) & (λ h. absurd cc) & (λ h. absurd cc) & tt
      & tt & tt & tt & tt & tt & (tt, refl) & (tt, refl)
      & refl & refl & refl & refl & refl & refl & refl & refl
      & tt & tt & refl & refl & refl & tt & refl & refl & refl & tt
      & refl & refl & refl & tt & tt
      & refl & refl & refl & refl & refl & refl
      & refl & (refl, refl) & refl & refl & (refl, tt, tt, refl) & tt;
  exec_type = tt;
  status = refl;
  date = tt;
  type = tt;
  time = tt;
  both = λ h. absurd cc;
  typed = λ h. absurd cc;
  timed = λ h. absurd cc;
  dates = refl;
  dated = λ h. absurd cc;
  types = refl;
  execs = refl;
  months = refl;
  days = refl;
}

-- ---- the two reports

report_ordinary : (m : Message) → IsComplete tables50.report_table m → IsOrdinary m
report_ordinary m c =
    ordinary_by (down_rules (Same 41)) report_own 56 reports50.execution_report report_goes m
    c.sound c.month (λ h. refl) (λ h. absurd cc)

reject_ordinary : (m : Message) → IsComplete tables50.cancel_reject_table m → IsOrdinary m
reject_ordinary m c =
    ordinary_by (down_rules (Original None)) (reject_own None) 57 reports50.cancel_reject
    (reject_goes None tt) m c.sound c.month (λ h. absurd cc) (λ h. (refl, refl))

ordinary : (m : Message) → IsReport50 m → IsOrdinary m
ordinary m (Reports50 c) = report_ordinary m c
ordinary m (Rejects50 c) = reject_ordinary m c

-- WHAT GOES DOWN MEANS THE SAME
pub goes_meaning : (known : Said) (m w : Message) → IsReport50 m → down_message known m ≡ Ok w
    → report42 w ≡ option_map (filled known) (report50 m)
goes_meaning known m w report down = keeps_sense known m w (ordinary m report) down

-- the rules of a letter
pub rules_of : (known : Said) (m : Message) (letter : ℕ) → m.letter ≡ letter
    → rules_for known m
    ≡ (if letter == 57 then down_rules (Original known) else down_rules (Same 41))
rules_of known m letter is =
    ap (λ (l : ℕ). if l == 57 then down_rules (Original known) else down_rules (Same 41)) is

-- what lacks nothing, by its rules
pub record Down (rules : List Rule) (m w : Message) : Type 0 where
  pub lack : lack_by kinds rules m ≡ None
  pub is : by_rules kinds rules m ≡ w

pub down_by : (known : Said) (m w : Message) (rules : List Rule) → rules_for known m ≡ rules
    → down_message known m ≡ Ok w → Down rules m w
down_by known m w rules is down =
    let p = not_lacking (lack_by kinds (rules_for known m) m) (by_rules kinds (rules_for known m) m)
    w down in
    let P : List Rule → Type 0 = λ rs. Down rs m w in
    subst P is (record { lack = p.0; is = p.1 })

-- ---- a report that goes down by these rules

module _ (original : Rule) (own : AreOwn kinds (down_rules original)) (letter : ℕ)
    (items : List (Item Kind)) (goes : GoesDown (down_rules original) items) (m w : Message)
    (c : IsComplete (table50 letter items) m) (d : Down (down_rules original) m w) where
  abbrev client : Table Kind
  client = table42 letter (items_down items (down_rules original))

  -- WHAT GOES DOWN IS SOUND
  sound : IsSound judge client w
  sound =
      let P : Message → Type 0 = λ x. IsSound judge client x in
      subst P d.is (sound_down (down_rules original) own letter items goes m c.sound c.month
      (has_codes original m d.lack) d.lack)

  -- what is written is what the rules write
  by_these : content client w ≡ content_by kinds (down_rules original) m
  by_these =
      let P : Message → Type 0 = λ x. content client x ≡ content_by kinds (down_rules original) m in
      subst P d.is (sym (written (g (down_rules original) own letter items goes m c.sound c.month)))

  abbrev IsAgain : ℕ → Type 0
  IsAgain l = message42 (l ∷ []) (content (table_at l) w) None ≡ Ok (without_resend w)

  -- WHAT GOES DOWN STANDS FOR IT
  stands : (known : Said) → IsOrdinary m → down_message known m ≡ Ok w
      → rules_for known m ≡ down_rules original → table_at letter ≡ client → IsReport42 w
      → IsAgain letter → StandsFor known m w
  stands known h down rules table report again = record {
    sound = report;
    means = keeps_sense known m w h down;
    books = keeps_books known m w h down;
    by_rules = ap (λ (l : ℕ). content (table_at l) w) sound.letter
        ∙ ap (λ (t : Table Kind). content t w) table ∙ by_these
        ∙ ap (λ rs. content_by kinds rs m) (sym rules);
    again = subst IsAgain (sym sound.letter) again;
  }

pub report_sound : (m w : Message) → IsComplete tables50.report_table m
    → Down (down_rules (Same 41)) m w → IsSound judge tables42.execution_report_table w
report_sound m w c d =
    sound (Same 41) report_own 56 reports50.execution_report report_goes m w c d

pub reject_sound : (known : Said) → IfSome known IsId → (m w : Message)
    → IsComplete tables50.cancel_reject_table m → Down (down_rules (Original known)) m w
    → IsSound judge tables42.cancel_reject_table w
reject_sound known id m w c d = sound (Original known) (reject_own known) 57
    reports50.cancel_reject (reject_goes known id) m w c d

-- WHAT GOES DOWN STANDS FOR IT, of both types.
pub goes_down : GoDown
unfolding message42
goes_down known id m w (Reports50 c) down =
    let rules = rules_of known m 56 c.sound.letter in
    let d = down_by known m w (down_rules (Same 41)) rules down in
    let sound = report_sound m w c d in
    stands (Same 41) report_own 56 reports50.execution_report report_goes m w c d known
    (report_ordinary m c) down rules refl (Reports42 sound)
    (read_again tables42.execution_report_table w refl refl sound)
goes_down known id m w (Rejects50 c) down =
    let rules = rules_of known m 57 c.sound.letter in
    let d = down_by known m w (down_rules (Original known)) rules down in
    let sound = reject_sound known id m w c d in
    stands (Original known) (reject_own known) 57 reports50.cancel_reject (reject_goes known id) m w
    c d known (reject_ordinary m c) down rules refl (Rejects42 sound)
    (read_again tables42.cancel_reject_table w refl refl sound)
