-- What a decision adds to a journal whose numbers agree with the sessions.
use Rattle.std.proofs.Common.{◌≡◌, ℕ, ◌+◌, ◌≤◌, Bool, true, false, List, [], ◌∷◌, ◌++◌, length}
use Rattle.std.proofs.Common.{refl, sym, ◌∙◌, ap, subst, arith, append-nil, Some, None, inl, inr}
use Rattle.std.proofs.Common.{◌⊎◌}
use Rattle.std.specs.Prelude.{if◌then◌else◌, Result, Ok, Err}
use Rattle.std.specs.Option.{option_to_list}
use Rattle.std.specs.declared.option.Option.{Option}
use Rattle.order_meaning.specs.declared.Side.{Side}
use Rattle.order_meaning.specs.declared.Side.TheVariants.{Client, Venue}
use Rattle.order_meaning.specs.declared.names.Names.{Names}
use Rattle.pair_entries.specs.declared.entry.Took.{Took}
use Rattle.pair_entries.specs.declared.entry.Entry.{Entry}
use Rattle.kept_entries.specs.Numbers.{is_side, outs_to, Numbered, next_out, numbers_after}
use Rattle.kept_entries.specs.Numbers.{first_numbers, OutsGoOn}
use Rattle.pair_entries.specs.Payload.{Next}
use Rattle.event_decisions.specs.Event.{Event, Frame}
use Rattle.event_decisions.specs.Decide.{Words, Repeat, Sessions, AreSides, Decision, numbers_of}
use Rattle.event_decisions.specs.Decide.{decide}
use Rattle.life_laws.specs.Justified.{raw_of}
use Rattle.life_laws.specs.Forms.{all_placed}
use Rattle.event_decisions.specs.Laws.{IsTookOf}
use Rattle.event_decisions.proofs.Continues.{decisions_continue, by, entry_by, entry_is}

pub record Extends (before : List Entry) (event : Event) (now : ℕ) (d : Decision) : Type 0 where
  -- the outs of each side take its next numbers
  pub numbered : (side : Side) (entry : Entry) → d.entry ≡ Some entry
      → Numbered (length (all_placed side before) + 1) (outs_to side entry.outs)
  pub next : (side : Side) (entry : Entry) → d.entry ≡ Some entry
      → next_out side entry.next
      ≡ length (all_placed side before) + length (outs_to side entry.outs) + 1
  -- nothing is taken but the event's own frame
  pub took : (side : Side) (entry : Entry) → d.entry ≡ Some entry →
      (raw_of side entry.took ≡ None)
      ⊎ ((body : List ℕ) × (event ≡ Frame side body) × (raw_of side entry.took ≡ Some body))
  pub sides : AreSides d.sessions
  -- only what was given out before is sent again
  pub given : (r : Repeat) → d.repeat ≡ Some r
      → (1 ≤ r.from) × (r.to ≤ length (all_placed r.side before))
  pub at : (entry : Entry) → d.entry ≡ Some entry → entry.at ≡ now
  pub numbers : numbers_of d.sessions
      ≡ numbers_after first_numbers (before ++ option_to_list d.entry)

pub numbers-push : (next : Next) (entries : List Entry) (e : Entry)
    → numbers_after next (entries ++ e ∷ []) ≡ e.next
numbers-push next [] e = refl
numbers-push next (x ∷ entries) e = numbers-push x.next entries e

pub same-side : (s t : Side) → is_side s t ≡ true → s ≡ t
same-side Client Client e = refl
same-side Venue Venue e = refl
same-side Client Venue e = absurd (cc e)
same-side Venue Client e = absurd (cc e)

-- a side's message that was taken, or none
took_from : (side : Side) (event : Event) (o : Option Took) → IsTookOf event o
    → (raw_of side o ≡ None)
    ⊎ ((body : List ℕ) × (event ≡ Frame side body) × (raw_of side o ≡ Some body))
took_from side event None is = inl refl
took_from side event (Some took) is = by_side (is_side side took.side) refl
  where
    by_side : (b : Bool) → is_side side took.side ≡ b
        → (raw_of side (Some took) ≡ None)
        ⊎ ((body : List ℕ) × (event ≡ Frame side body) × (raw_of side (Some took) ≡ Some body))
    by_side true e = inr (
      took.raw,
      is ∙ ap (λ (s : Side). Frame s took.raw) (sym (same-side side took.side e)),
      ap (λ b. if b then Some took.raw else None) e,
    )
    by_side false e = inl (ap (λ b. if b then Some took.raw else None) e)

abbrev entry_in : Result Decision Side → Option Entry
entry_in (Ok d) = d.entry
entry_in (Err side) = None

module _ (names : Names) (window : ℕ) (before : List Entry) (s : Sessions) (event : Event)
    (now : ℕ) (words : Option Words) (d : Decision)
    (decides : decide names window s event now words ≡ Ok d) where
  at_moment : (entry : Entry) → d.entry ≡ Some entry → entry.at ≡ now
  at_moment entry is =
      let b = by names window s event now words d decides in
      let made : Entry = entry_by names window s event now b.step b.given in
      let same : made ≡ entry =
      entry_is (numbers_of s) made entry (ap entry_in b.is ∙ is) in
      sym (ap (λ (e : Entry). e.at) same)

  module _ (are : AreSides s) (agree : numbers_of s ≡ numbers_after first_numbers before)
      (counted : (side : Side) → next_out side (numbers_after first_numbers before)
      ≡ length (all_placed side before) + 1) where
    next_is : (side : Side) → next_out side (numbers_of s) ≡ length (all_placed side before) + 1
    next_is side = ap (next_out side) agree ∙ counted side

    goes : (side : Side) (entry : Entry) → d.entry ≡ Some entry → OutsGoOn side (numbers_of s) entry
    goes Client entry is =
        ((decisions_continue names window s event now words d are decides).goes_on entry
        is).client_out
    goes Venue entry is =
        ((decisions_continue names window s event now words d are decides).goes_on entry
        is).venue_out

    pub extends : Extends before event now d
    extends =
        let c = decisions_continue names window s event now words d are decides in
        record {
          numbered = λ side entry is. subst (λ n. Numbered n (outs_to side entry.outs))
              (next_is side) (goes side entry is).numbered;
          next = λ side entry is. omega (arith, (goes side entry is).next, next_is side);
          took = λ side entry is. took_from side event entry.took (c.took entry is);
          sides = c.sides;
          given = λ r is. (c.from r is, omega (arith, c.to r is, next_is r.side));
          at = at_moment;
          numbers = numbers-keep d.entry refl;
        }
      where
        numbers-keep : (o : Option Entry) → d.entry ≡ o
            → numbers_of d.sessions ≡ numbers_after first_numbers (before ++ option_to_list o)
        numbers-keep None is =
            (decisions_continue names window s event now words d are decides).same is ∙ agree
            ∙ ap (numbers_after first_numbers) (sym (append-nil before))
        numbers-keep (Some e) is =
            sym ((decisions_continue names window s event now words d are decides).next e is)
            ∙ sym (numbers-push first_numbers before e)
