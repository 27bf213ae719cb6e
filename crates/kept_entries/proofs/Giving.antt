-- Where the out of a side and number stands.
use Rattle.std.proofs.Common.{◌≡◌, ℕ, ◌+◌, ◌<◌, ◌≤◌, ◌==◌, Bool, true, false, List, [], ◌∷◌, length}
use Rattle.std.proofs.Common.{refl, ◌∙◌, arith, Some, None, leb}
use Rattle.std.proofs.lemmas.Bool.Decides.{nat_tests}
use Rattle.order_meaning.specs.declared.Side.{Side}
use Rattle.order_meaning.specs.declared.Side.TheVariants.{Client, Venue}
use Rattle.pair_entries.specs.declared.entry.Out.{Out}
use Rattle.pair_entries.specs.declared.entry.Entry.{Entry}
use Rattle.pair_entries.specs.Payload.{Next}
use Rattle.kept_entries.specs.Numbers.{next_out, outs_to, Numbered, OutsGoOn, GoesOn, first_numbers}
use Rattle.kept_entries.specs.Given.{Given, numbered, given_in, given}

-- ---- among outs that count up

other : (m n : ℕ) → (m ≡ n → ⊥) → (m == n) ≡ false
other m n differ = grind (arith, nat_tests)

pub passed : (n : ℕ) (o : Out) (outs : List Out)
    → (o.number ≡ n → ⊥) → numbered n (o ∷ outs) ≡ numbered n outs
passed n o outs differ = rw (other o.number n differ, numbered) refl

above_all : (n m : ℕ) (outs : List Out)
    → Numbered m outs → m + length outs ≤ n → numbered n outs ≡ None
above_all n m [] count high = refl
above_all n m (o ∷ outs) count high =
    passed n o outs (λ e. omega (arith, count.0, high))
    ∙ above_all n (m + 1) outs count.1 (omega (arith, high))

-- ---- in a list of entries

pub goes : (side : Side) (before : Next) (entry : Entry)
    → GoesOn before entry → OutsGoOn side before entry
goes Client before entry h = h.client_out
goes Venue before entry h = h.venue_out

pub rises : (side : Side) (before : Next) (entry : Entry)
    → GoesOn before entry → next_out side before ≤ next_out side entry.next
rises side before entry h = omega (arith, (goes side before entry h).next)

pub none_in : (side : Side) (n : ℕ) (entry : Entry)
    → numbered n (outs_to side entry.outs) ≡ None → given_in side n entry ≡ None
none_in side n entry e = rw (e, given_in) refl

pub behind : (side : Side) (n : ℕ) (entry : Entry) (entries : List Entry)
    → given_in side n entry ≡ None → given side n (entry ∷ entries) ≡ given side n entries
behind side n entry entries e = rw (e, given) refl

pub above_entry : (side : Side) (n : ℕ) (before : Next) (entry : Entry)
    → GoesOn before entry → next_out side entry.next ≤ n → given_in side n entry ≡ None
above_entry side n before entry h high =
    none_in side n entry (above_all n (next_out side before) (outs_to side entry.outs)
    (goes side before entry h).numbered (omega (arith, (goes side before entry h).next, high)))

pub here : (side : Side) (n : ℕ) (entry : Entry) (entries : List Entry) (one : Given)
    → given_in side n entry ≡ Some one → given side n (entry ∷ entries) ≡ Some one
here side n entry entries one e = rw (e, given) refl

-- ---- each number that was given out is found

pub apart : (a b : ℕ) → (a == b) ≡ false → a ≡ b → ⊥
apart a b e same = grind (arith, nat_tests)

pub not_past : (a b : ℕ) → leb a b ≡ false → b < a
not_past a b h = grind (arith, nat_tests)

pub among : (n m : ℕ) (outs : List Out)
    → Numbered m outs → m ≤ n → n < m + length outs → (o : Out) × (numbered n outs ≡ Some o)
among n m [] count low high = absurd (omega (arith, low, high))
among n m (o ∷ outs) count low high =
    cases (o.number == n) refl (λ more. among n (m + 1) outs count.1 more (omega (arith, high)))
  where
    cases : (b : Bool) → (o.number == n) ≡ b → (m + 1 ≤ n → (a : Out) × (numbered n outs ≡ Some a))
        → (a : Out) × (numbered n (o ∷ outs) ≡ Some a)
    cases true e more = (o, rw (e, numbered) refl)
    cases false e more =
        let differ : m ≡ n → ⊥ = λ same. apart o.number n e (count.0 ∙ same) in
        let found = more (omega (arith, low, differ)) in
        (found.0, passed n o outs (apart o.number n e) ∙ found.1)

pub first_is_1 : (side : Side) → next_out side first_numbers ≡ 1
first_is_1 Client = refl
first_is_1 Venue = refl
