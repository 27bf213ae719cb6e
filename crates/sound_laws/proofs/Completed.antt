-- A message of FIX 5.0 SP2 is completed by the month of its date, and what it says elsewhere stays.
use Rattle.std.proofs.Common.{◌≡◌, List, [], ◌∷◌, map, Bool, true, false, refl, sym, ap, ◌∙◌}
use Rattle.std.specs.Prelude.{if◌then◌else◌}
use Rattle.std.specs.List.{AllByRecursion, list_any}
use Rattle.message_tables.specs.Tables.{Message, Cell, Said, Place, Tag, is_place, said_at}
use Rattle.rows_fix50.specs.Header.{completed, month_by}
use Rattle.sound_laws.specs.Complete.{HasMonthOfDate}
use Rattle.sound_laws.proofs.Lookups.{cells_said, other_place, place_is, places_apart}

abbrev month : Place
month = Tag 200

module _ (date : Said) where
  abbrev pub with_month : Cell → Cell
  with_month cell = if is_place cell.0 month then (month, month_by date cell.1) else cell

  month_fixed : (cells cs : List Cell) → AllByRecursion (λ c. said_at cells c.0 ≡ c.1) cs
      → said_at cells month ≡ month_by date (said_at cells month) → map with_month cs ≡ cs
  month_fixed cells [] said is_month = refl
  month_fixed cells (c ∷ cs) said is_month =
      λ i. by (is_place c.0 month) refl i ∷ month_fixed cells cs said.1 is_month i
    where
      by : (b : Bool) → is_place c.0 month ≡ b
          → ◌≡◌ {A = Cell} (if b then (month, month_by date c.1) else c) c
      by false e = refl
      by true e =
          let is = place_is c.0 month e in
          let there : said_at cells month ≡ c.1 = ap (said_at cells) (sym is) ∙ said.0 in
          let same : month_by date c.1 ≡ c.1 =
          ap (month_by date) (sym there) ∙ sym is_month ∙ there in
          λ i. (sym is i, same i)

  -- what stands at other places stays
  pub other_said : (cells : List Cell) (p : Place) → is_place p month ≡ false
      → said_at (map with_month cells) p ≡ said_at cells p
  other_said [] p other = refl
  other_said (c ∷ cells) p other =
      let rest = other_said cells p other in
      elim (is_place c.0 month) as (λ b. is_place c.0 month ≡ b
      → said_at ((if b then (month, month_by date c.1) else c) ∷ map with_month cells) p
      ≡ said_at (c ∷ cells) p) [
        | true ↦ λ e.
            let apart = other_place p month other in
            let also : is_place c.0 p ≡ false =
            ap (λ (q : Place). is_place q p) (place_is c.0 month e) ∙ apart in
            rw (apart, also) rest
        | false ↦ λ e. ap (λ (x : Said). if is_place c.0 p then c.1 else x) rest
      ] refl

  -- the month is that of the date
  pub month_said : (cells : List Cell) → list_any (is_place month) (map (λ c. c.0) cells) ≡ true
      → said_at (map with_month cells) month ≡ month_by date (said_at cells month)
  month_said [] there = absurd cc
  month_said (c ∷ cells) there =
      elim (is_place c.0 month) as (λ b. is_place c.0 month ≡ b
      → said_at ((if b then (month, month_by date c.1) else c) ∷ map with_month cells) month
      ≡ month_by date (if b then c.1 else said_at cells month)) [
        | true ↦ λ e. refl
        | false ↦ λ e. rw e (month_said cells (rw (other_place c.0 month e) at there))
      ] refl

  place_kept : (cell : Cell) → (with_month cell).0 ≡ cell.0
  place_kept cell =
      elim (is_place cell.0 month) as (λ b. is_place cell.0 month ≡ b
      → (λ (c : Cell). c.0) (if b then (month, month_by date cell.1) else cell) ≡ cell.0)
      [ true ↦ λ e. sym (place_is cell.0 month e) | false ↦ λ e. refl ] refl

  pub same_places : (cells : List Cell)
      → map (λ c. c.0) (map with_month cells) ≡ map (λ c. c.0) cells
  same_places [] = refl
  same_places (cell ∷ cells) = λ i. place_kept cell i ∷ same_places cells i

-- A MESSAGE THAT SAYS THE MONTH OF ITS DATE STAYS, whether it repeats what was sent before or not.
pub completed_again : (m : Message) → HasMonthOfDate m
    → places_apart (map (λ c. c.0) m.cells) ≡ true → (resend : Bool)
    → completed (record m { resend = resend }) ≡ record m { resend = resend }
completed_again m is_month places resend =
    let cells = month_fixed (said_at m.cells (Tag 541)) m.cells m.cells
    (cells_said m.cells places) is_month in
    λ i. record { letter = m.letter; resend = resend; cells = cells i; groups = m.groups }
