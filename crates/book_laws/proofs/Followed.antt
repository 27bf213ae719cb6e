-- What a side learns follows what the other side said, entry by entry.
use Rattle.std.proofs.Common.{◌≡◌, ℕ, zero, suc, ◌+◌, ◌-◌, ◌≤◌, Bool, true, false, List, [], ◌∷◌}
use Rattle.std.proofs.Common.{◌++◌, refl, sym, ap, ◌∙◌, subst, arith, take, length}
use Rattle.std.specs.Prelude.{not, nat_lt, cond, fold, filter, map, if◌then◌else◌}
use Rattle.std.specs.List.{list_any}
use Rattle.std.proofs.lemmas.Bool.Decides.{nat_tests}
use Rattle.std.proofs.lemmas.List.Folds.{fold-map}
use Rattle.std.proofs.lemmas.List.Sums.{fold-append}
use Rattle.message_tables.specs.Tables.{◌>>=◌}
use Rattle.order_meaning.specs.declared.Side.{Side}
use Rattle.order_meaning.specs.declared.Side.TheVariants.{Client, Venue}
use Rattle.order_meaning.specs.declared.names.Names.{Names}
use Rattle.pair_entries.specs.declared.entry.Out.{Out}
use Rattle.pair_entries.specs.declared.entry.Entry.{Entry}
use Rattle.pair_entries.specs.Payload.{Next}
use Rattle.kept_entries.specs.Numbers.{first_numbers, is_side, outs_to, next_out, Numbered}
use Rattle.kept_entries.specs.Numbers.{GoesOn, OutsGoOn}
use Rattle.kept_entries.specs.Entries.{AreEntries}
use Rattle.event_decisions.specs.Decide.{LawfulAfter}
use Rattle.message_answers.specs.Answer.{Answers, other}
use Rattle.message_answers.specs.Laws.{AnswersAreGivenOut, AreNumbered}
use Rattle.life_laws.specs.Forms.{Placed, placed_at, all_placed}
use Rattle.life_laws.specs.Receiver.{message_of_out}
use Rattle.life_laws.specs.Standing.{NumberedFrom}
use Rattle.life_laws.specs.Taken as receiver
use Rattle.book_laws.specs.Learned.{Learned, with_taken, read_in, is_for, learned_of_taken}
use Rattle.book_laws.specs.Learned.{with_said, goes_below, said_by}
use Rattle.book_laws.specs.HeardLaws.{AnswersAreHeard, SidesLearn}
use Rattle.book_laws.proofs.Quiet.{after_one, after_out}
use Rattle.book_laws.proofs.EntryFollows.{after_said, entry_follows, number_of, numbered_more}

-- ---- the outs of a side are numbered from 1 on

placed_numbers : (n at : ℕ) (outs : List Out) (rest : List Placed) → Numbered n outs
    → NumberedFrom (n + length outs) rest → NumberedFrom n (map (placed_at at) outs ++ rest)
placed_numbers n at [] rest numbered more =
    subst (λ k. NumberedFrom k rest) (let same : n + 0 ≡ n = omega arith in same) more
placed_numbers n at (out ∷ outs) rest numbered more = (
  numbered.0,
  placed_numbers (n + 1) at outs rest numbered.1
      (subst (λ k. NumberedFrom k rest)
      (let same : n + suc (length outs) ≡ n + 1 + length outs = omega arith in same) more),
)

-- the numbers of a side
on_side : (side : Side) (next : Next) (e : Entry) → GoesOn next e → OutsGoOn side next e
on_side Client next e is = is.client_out
on_side Venue next e is = is.venue_out

all_numbered : (side : Side) (next : Next) (entries : List Entry) → AreEntries next entries
    → NumberedFrom (next_out side next) (all_placed side entries)
all_numbered side next [] sound = tt
all_numbered side next (e ∷ entries) sound =
    let outs = on_side side next e sound.1 in
    placed_numbers (next_out side next) e.at (outs_to side e.outs) (all_placed side entries)
    outs.numbered (subst (λ k. NumberedFrom k (all_placed side entries)) outs.next
    (all_numbered side e.next entries sound.2))

-- ---- a fold over what passes a test is one over all, of a step by cases

module _ {K A M : Type 0} (step : K → M → K) (read : A → M) (test : A → Bool) where
  abbrev after_each : K → A → K
  after_each k x = if test x then step k (read x) else k

  passing : (k : K) (xs : List A) → fold step k (map read (filter test xs)) ≡ fold after_each k xs
  passing k [] = refl
  passing k (x ∷ xs) = by (test x) (passing (step k (read x)) xs) (passing k xs)
    where
      by : (b : Bool)
          → fold step (step k (read x)) (map read (filter test xs))
          ≡ fold after_each (step k (read x)) xs
          → fold step k (map read (filter test xs)) ≡ fold after_each k xs
          → fold step k (map read (cond b (x ∷ filter test xs) (filter test xs)))
          ≡ fold after_each (if b then step k (read x) else k) xs
      by true with_it without = with_it
      by false with_it without = without

module _ (n : ℕ) where
  -- ---- numbers below n

  abbrev is_below : Placed → Bool
  is_below p = nat_lt p.out.number n

  none_below : (k : ℕ) (ps : List Placed) → NumberedFrom k ps → n ≤ k → filter is_below ps ≡ []
  none_below k [] numbered past = refl
  none_below k (p ∷ ps) numbered past =
      by (is_below p) refl (none_below (k + 1) ps numbered.1 (omega (arith, past)))
    where
      by : (b : Bool) → is_below p ≡ b → filter is_below ps ≡ []
          → cond b (p ∷ filter is_below ps) (filter is_below ps) ≡ []
      by true e rest = absurd
          (let number = numbered.0 in let wrong : ⊥ = grind (arith, nat_tests) in wrong)
      by false e rest = rest

  take_none : (ps : List Placed) → take 0 ps ≡ []
  take_none [] = refl
  take_none (p ∷ ps) = refl

  take_below : (k left : ℕ) (ps : List Placed) → NumberedFrom k ps → k + left ≡ n
      → take left ps ≡ filter is_below ps
  take_below k zero ps numbered is =
      take_none ps ∙ sym (none_below k ps numbered (omega (arith, is)))
  take_below k (suc left) [] numbered is = refl
  take_below k (suc left) (p ∷ ps) numbered is =
      ap (λ (qs : List Placed). p ∷ qs)
      (take_below (k + 1) left ps numbered.1 (omega (arith, is))) ∙ by (is_below p) refl
    where
      by : (b : Bool) → is_below p ≡ b
          → p ∷ filter is_below ps ≡ cond b (p ∷ filter is_below ps) (filter is_below ps)
      by true e = refl
      by false e = absurd (let number = numbered.0 in let wrong : ⊥ = grind (arith, nat_tests) in
          wrong)

  taken_below : (ps : List Placed) → NumberedFrom 1 ps → take (n - 1) ps ≡ filter is_below ps
  taken_below ps numbered = at n refl
    where
      at : (m : ℕ) → n ≡ m → take (n - 1) ps ≡ filter is_below ps
      at zero e = ap (λ k. take (k - 1) ps) e ∙ take_none ps
          ∙ sym (none_below 1 ps numbered (omega (arith, e)))
      at (suc m) e = take_below 1 (n - 1) ps numbered (omega (arith, e))

  -- ---- the messages to a side, out by out

  module _ (side : Side) where
    abbrev after_placed : Learned side → Placed → Learned side
    after_placed learned p = after_one side n learned p.out

    -- a message as it was taken
    abbrev after_message : Learned side → receiver.Message → Learned side
    after_message = after_each (with_taken side) (read_in side) (is_for side)

    -- that of an out, where it is of the application
    abbrev after_plain : Learned side → Placed → Learned side
    after_plain = after_each after_message (λ (p : Placed). message_of_out p.out)
        (λ p. not p.out.admin)

    messages_fold : (learned : Learned side) (ps : List Placed)
        → learned_of_taken side learned
        (map (λ p. message_of_out p.out) (filter (λ p. not p.out.admin) (filter is_below ps)))
        ≡ fold after_placed learned ps
    messages_fold learned ps =
        passing (with_taken side) (read_in side) (is_for side) learned
        (map (λ p. message_of_out p.out) (filter (λ p. not p.out.admin) (filter is_below ps)))
        ∙ passing after_message (λ p. message_of_out p.out) (λ p. not p.out.admin) learned
        (filter is_below ps)
        ∙ sym (fold-map after_plain (λ p. p) learned (filter is_below ps))
        ∙ passing after_plain (λ p. p) is_below learned ps

    outs_fold : (learned : Learned side) (at : ℕ) (outs : List Out)
        → fold after_placed learned (map (placed_at at) (outs_to side outs))
        ≡ fold (after_out side n) learned outs
    outs_fold learned at outs =
        passing after_placed (placed_at at) (λ (out : Out). is_side side out.side) learned outs

    -- ---- entry by entry

    module _ (heard : AnswersAreHeard) (given_out : AnswersAreGivenOut) (names : Names) where
      abbrev after_entry : Learned side → Entry → Learned side
      after_entry learned e = after_said side learned (list_any (goes_below side n) e.outs) e.took

      entries_follow : (next : Next) (before entries : List Entry) (learned : Learned side)
          → AreNumbered before → AreEntries next entries → LawfulAfter Answers names before entries
          → fold after_placed learned (all_placed side entries) ≡ fold after_entry learned entries
      entries_follow next before [] learned numbered sound lawful = refl
      entries_follow next before (e ∷ entries) learned numbered sound lawful =
          fold-append after_placed learned (map (placed_at e.at) (outs_to side e.outs))
          (all_placed side entries)
          ∙ ap (λ l. fold after_placed l (all_placed side entries))
          (outs_fold learned e.at e.outs
          ∙ entry_follows heard given_out names side n before numbered learned e sound.0 lawful.0)
          ∙ entries_follow e.next (before ++ e ∷ []) entries (after_entry learned e)
          (numbered_more before e numbered (number_of e.took sound.0.took)) sound.2 lawful.1

-- EACH SIDE LEARNS WHAT WAS SAID.
pub sides_learn : AnswersAreHeard → AnswersAreGivenOut → SidesLearn
sides_learn heard given_out names entries lawful sound side n learned =
    ap (λ (ps : List Placed). learned_of_taken side learned
    (map (λ p. message_of_out p.out) (filter (λ p. not p.out.admin) ps)))
    (taken_below n (all_placed side entries) (numbered_of side))
    ∙ messages_fold n side learned (all_placed side entries)
    ∙ entries_follow n side heard given_out names first_numbers [] entries learned tt sound lawful
    ∙ sym (passing (with_said side) (λ (e : Entry). e.took >>= said_by (other side))
    (λ (e : Entry). list_any (goes_below side n) e.outs) learned entries)
  where
    -- the first number of each side is 1
    numbered_of : (side : Side) → NumberedFrom 1 (all_placed side entries)
    numbered_of Client = all_numbered Client first_numbers entries sound
    numbered_of Venue = all_numbered Venue first_numbers entries sound
