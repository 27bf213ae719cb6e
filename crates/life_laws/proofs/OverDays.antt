-- Days one after another, with more behind them.
use Rattle.std.proofs.Common.{◌≡◌, ℕ, Bool, List, [], ◌∷◌, ◌++◌, refl, sym, ◌∙◌, ap, append_assoc}
use Rattle.std.proofs.Common.{Some}
use Rattle.std.specs.declared.option.Option.{Option}
use Rattle.order_meaning.specs.declared.names.Names.{Names}
use Rattle.pair_entries.specs.declared.entry.Entry.{Entry}
use Rattle.event_decisions.specs.Days.{new_day}
use Rattle.event_decisions.specs.Decide.{Asked, Words, Sessions}
use Rattle.life_laws.specs.Happens.{World, Added}
use Rattle.life_laws.specs.Turn.{Reads, both}
use Rattle.life_laws.specs.Days.{DayEnded, written, all_added, nothing_read, fresh, EndsDay}
use Rattle.life_laws.specs.Days.{OverDays, began_after}

pub began-push : (began : Option ℕ) (days : List DayEnded) (day : DayEnded)
    → began_after began (days ++ day ∷ []) ≡ Some day.at
began-push began [] day = refl
began-push began (d ∷ days) day = began-push (Some d.at) days day

-- ---- what was done, and what was written

both-three : (p q r : Added) → both (both p q) r ≡ both p (both q r)
both-three p q r = λ i. record {
  client = append_assoc p.client q.client r.client i;
  venue = append_assoc p.venue q.venue r.venue i;
}

pub added-more : (days : List DayEnded) (a b : Added)
    → all_added days (both a b) ≡ both (all_added days a) b
added-more [] a b = refl
added-more (day ∷ days) a b =
    ap (both day.left.added) (added-more days a b)
    ∙ sym (both-three day.left.added (all_added days a) b)

pub added-push : (days : List DayEnded) (day : DayEnded) (present : Added)
    → all_added (days ++ day ∷ []) present ≡ both (all_added days day.left.added) present
added-push [] day present = refl
added-push (d ∷ days) day present =
    ap (both d.left.added) (added-push days day present)
    ∙ sym (both-three d.left.added (all_added days day.left.added) present)

pub written-more : (days : List DayEnded) (xs ys : List Entry)
    → written days (xs ++ ys) ≡ written days xs ++ ys
written-more [] xs ys = refl
written-more (day ∷ days) xs ys =
    ap (λ l. day.left.entries ++ new_day day.at ∷ l) (written-more days xs ys)
    ∙ sym (append_assoc day.left.entries (new_day day.at ∷ written days xs) ys)

pub written-push : (days : List DayEnded) (day : DayEnded) (present : List Entry)
    → written (days ++ day ∷ []) present
    ≡ written days (day.left.entries ++ new_day day.at ∷ present)
written-push [] day present = refl
written-push (d ∷ days) day present =
    ap (λ l. d.left.entries ++ new_day d.at ∷ l) (written-push days day present)

-- ---- more behind them

module _ (answers : List Entry → (active : Bool) → Option Asked → Option Words → Type 0)
    (names : Names) (window : ℕ) (minute : Option ℕ) (rested : Sessions)
    (Last Next : Option ℕ → Reads → World → List ℕ → Type 0) where
  abbrev over : (Option ℕ → Reads → World → List ℕ → Type 0) → Option ℕ → Reads → World → List ℕ
      → List DayEnded → Type 0
  over P began reads before moments days =
      OverDays answers names window minute P rested began reads before moments days

  -- the last day goes on
  pub over-more : (days : List DayEnded) (began : Option ℕ) (reads : Reads) (before : World)
      (moments more : List ℕ) → ((r : Reads) (w : World) (ms : List ℕ)
      → Last (began_after began days) r w ms → Next (began_after began days) r w (ms ++ more))
      → over Last began reads before moments days
      → over Next began reads before (moments ++ more) days
  over-more [] began reads before moments more to is = to reads before moments is
  over-more (day ∷ days) began reads before moments more to is = (
    is.0,
    is.1 ++ more,
    ap (λ l. l ++ more) is.2 ∙ append_assoc is.0 (day.at ∷ is.1) more,
    is.3,
    over-more days (Some day.at) nothing_read (fresh rested) (day.at ∷ is.1) more to is.4,
  )

  -- the last day, as something else
  pub over-map : (days : List DayEnded) (began : Option ℕ) (reads : Reads) (before : World)
      (moments : List ℕ) → ((r : Reads) (w : World) (ms : List ℕ)
      → Last (began_after began days) r w ms → Next (began_after began days) r w ms)
      → over Last began reads before moments days → over Next began reads before moments days
  over-map [] began reads before moments to is = to reads before moments is
  over-map (day ∷ days) began reads before moments to is = (
    is.0,
    is.1,
    is.2,
    is.3,
    over-map days (Some day.at) nothing_read (fresh rested) (day.at ∷ is.1) to is.4,
  )

  -- it ended, and the next one begins
  pub over-end : (days : List DayEnded) (day : DayEnded) (began : Option ℕ) (reads : Reads)
      (before : World) (moments : List ℕ) → ((r : Reads) (w : World) (ms : List ℕ)
      → Last (began_after began days) r w ms
      → EndsDay answers names window minute (began_after began days) r w ms day)
      → Next (Some day.at) nothing_read (fresh rested) (day.at ∷ [])
      → over Last began reads before moments days
      → over Next began reads before (moments ++ day.at ∷ []) (days ++ day ∷ [])
  over-end [] day began reads before moments to next is =
      (moments, [], refl, to reads before moments is, next)
  over-end (d ∷ days) day began reads before moments to next is = (
    is.0,
    is.1 ++ day.at ∷ [],
    ap (λ l. l ++ day.at ∷ []) is.2 ∙ append_assoc is.0 (d.at ∷ is.1) (day.at ∷ []),
    is.3,
    over-end days day (Some d.at) nothing_read (fresh rested) (d.at ∷ is.1) to next is.4,
  )
