-- Numbers rise: what an entry takes and gives has numbers above all earlier ones.
use Rattle.std.proofs.Common.{◌≡◌, ◌≤◌, ◌<◌, ◌+◌, ◌⊎◌, ℕ, List, [], ◌∷◌, ◌++◌, length, map, Option}
use Rattle.std.proofs.Common.{Some, None, refl, sym, ap, subst, ◌∙◌, arith, inl, inr}
use Rattle.std.specs.Option.{option_map}
use Rattle.order_meaning.specs.declared.Side.{Side}
use Rattle.order_meaning.specs.declared.Side.TheVariants.{Client, Venue}
use Rattle.pair_entries.specs.declared.entry.Took.{Took}
use Rattle.pair_entries.specs.declared.entry.Out.{Out}
use Rattle.pair_entries.specs.declared.entry.Entry.{Entry}
use Rattle.pair_entries.specs.Payload.{Next}
use Rattle.kept_entries.specs.Numbers.{Counts, GoesOn, Numbered, OutsGoOn, Taking, Takes}
use Rattle.kept_entries.specs.Numbers.{TookGoesOn, first_numbers, next_in, next_out, numbers_after}
use Rattle.kept_entries.specs.Numbers.{outs_to}
use Rattle.event_decisions.specs.Laws.{IsNumbered, taking_of}
use Rattle.life_laws.specs.Receiver.{message_of_out, read_body}
use Rattle.life_laws.specs.Taken.{Read, GapFill, Reset, Other}
use Rattle.book_laws.specs.Heard.{Heard}
use Rattle.book_laws.specs.HeardLaws.{BodiesAreReadAlike, HasNumber}
use Rattle.message_answers.specs.Answer.{other}
use Rattle.book_laws.specs.Pairs.{given, heard_at, heard_from, message_in, taken}
use Rattle.book_laws.specs.Keeps.{In}
use Rattle.book_laws.proofs.Shapes.{IsNew}
use Rattle.book_laws.proofs.Tooks.{took_far, took_near, took_none}

-- ---- an entry

-- its numbers go on, and what it took was expected
pub record Counted (next : Next) (e : Entry) : Type 0 where
  pub goes : GoesOn next e
  pub taking : TookGoesOn taking_of next e
  pub numbered : IsNumbered e.took
  pub rises : (side : Side) → next_in side next ≤ next_in side e.next

abbrev pub AllCounted : Next → List Entry → Type 0
AllCounted next [] = Unit {0}
AllCounted next (e ∷ entries) = Counted next e × AllCounted e.next entries

pub record Moves (next : Next) (e : Entry) : Type 0 where
  pub rises : (side : Side) → next_in side next ≤ next_in side e.next
  pub took : (side : Side) (m : Heard) → taken side e ≡ Some m
      → (m.number ≡ next_in side next) × (next_in side e.next ≡ m.number + 1)
  pub outs : (side : Side) → OutsGoOn side next e

pub out_goes : (side : Side) (next : Next) (e : Entry) → GoesOn next e → OutsGoOn side next e
out_goes Client next e goes = goes.client_out
out_goes Venue next e goes = goes.venue_out

pub own_or_far : (side at : Side) → (side ≡ at) ⊎ (side ≡ other at)
own_or_far Client Client = inl refl
own_or_far Client Venue = inr refl
own_or_far Venue Client = inr refl
own_or_far Venue Venue = inl refl

-- TookGoesOn, by what was taken
abbrev goes_as : Next → Entry → Option Took → Type 0
goes_as next e took = elim took [
  | None ↦ Unit {0}
  | Some x ↦ Takes (taking_of x.side x.raw) x.number (next_in x.side next) (next_in x.side e.next)
]

module _ (alike : BodiesAreReadAlike) (next : Next) (e : Entry) where
  pub goes_by : (took : Took) → e.took ≡ Some took → TookGoesOn taking_of next e
      → Takes (taking_of took.side took.raw) took.number (next_in took.side next)
      (next_in took.side e.next)
  goes_by took is goes = subst (goes_as next e) is goes

  pub numbered_by : (took : Took) → e.took ≡ Some took → IsNumbered e.took
      → HasNumber took.number (read_body took.raw)
  numbered_by took is numbered = (alike took.side took.raw).numbered took.number
      (subst IsNumbered is numbered)

  counted : (took : Took) → e.took ≡ Some took → TookGoesOn taking_of next e
      → IsNumbered e.took → (m : Heard) → taken took.side e ≡ Some m
      → (m.number ≡ next_in took.side next) × (next_in took.side e.next ≡ m.number + 1)
  counted took is goes numbered m takes =
      by (read_body took.raw) refl (numbered_by took is numbered) (sym (took_near e took is)
      ∙ takes)
    where
      by : (r : Read) → read_body took.raw ≡ r → HasNumber took.number r
          → option_map (heard_from took.side) (message_in r) ≡ Some m
          → (m.number ≡ next_in took.side next) × (next_in took.side e.next ≡ m.number + 1)
      by (GapFill number to) reads has is_m = absurd (cc is_m)
      by Reset reads has is_m = absurd (cc is_m)
      by (Other msg admin) reads has is_m =
          let same : heard_from took.side msg ≡ m = cc is_m in
          let number : m.number ≡ took.number = ap (λ (h : Heard). h.number) (sym same) ∙ has in
          let counts : taking_of took.side took.raw ≡ Counts =
          (alike took.side took.raw).message msg admin reads in
          let at : (took.number ≡ next_in took.side next)
          × (next_in took.side e.next ≡ took.number + 1) =
          subst (λ (t : Taking). Takes t took.number (next_in took.side next)
          (next_in took.side e.next)) counts (goes_by took is goes) in
          (number ∙ at.0, at.1 ∙ ap (λ n. n + 1) (sym number))

  pub moves : Counted next e → Moves next e
  moves c = record {
    rises = c.rises;
    took = λ side m takes. by e.took refl side m takes;
    outs = λ side. out_goes side next e c.goes;
  }
    where
      by : (t : Option Took) → e.took ≡ t → (side : Side) (m : Heard) → taken side e ≡ Some m
          → (m.number ≡ next_in side next) × (next_in side e.next ≡ m.number + 1)
      by None is side m takes = absurd (cc (took_none e side is, takes))
      by (Some took) is side m takes = elim (own_or_far side took.side) [
        | inl own ↦ subst (λ (s : Side).
            (m.number ≡ next_in s next) × (next_in s e.next ≡ m.number + 1)) (sym own)
            (counted took is c.taking c.numbered m
            (subst (λ (s : Side). taken s e ≡ Some m) own takes))
        | inr far ↦ absurd (cc (
          took_far e took is,
          subst (λ (s : Side). taken s e ≡ Some m) far takes,
        ))
      ]

-- ---- entries

abbrev pub AllMove : Next → List Entry → Type 0
AllMove next [] = Unit {0}
AllMove next (e ∷ entries) = Moves next e × AllMove e.next entries

pub move_more : (next : Next) (before : List Entry) (e : Entry) → AllMove next before
    → Moves (numbers_after next before) e → AllMove next (before ++ e ∷ [])
move_more next [] e all is = (is, tt)
move_more next (x ∷ before) e all is = (all.0, move_more x.next before e all.1 is)

numbered_at : (n : ℕ) (outs : List Out) (o : Out) → Numbered n outs → In o outs
    → (n ≤ o.number) × (o.number < n + length outs)
numbered_at n [] o numbered i = absurd i
numbered_at n (x ∷ outs) o numbered (inl same) =
    let number : o.number ≡ n = ap (λ (y : Out). y.number) same ∙ numbered.0 in
    (omega (arith, number), omega (arith, number))
numbered_at n (x ∷ outs) o numbered (inr i) =
    let rest = numbered_at (n + 1) outs o numbered.1 i in
    (omega (arith, rest.0), omega (arith, rest.1))

module _ (side : Side) where
  -- ---- outs

  one_at : (next : Next) (e : Entry) (o : Out) → Moves next e → In o (outs_to side e.outs)
      → (next_out side next ≤ o.number) × (o.number < next_out side e.next)
  one_at next e o is i =
      let at = numbered_at (next_out side next) (outs_to side e.outs) o (is.outs side).numbered i in
      (at.0, omega (arith, at.1, (is.outs side).next))

  out_rises : (next : Next) (entries : List Entry) → AllMove next entries
      → next_out side next ≤ next_out side (numbers_after next entries)
  out_rises next [] all = omega arith
  out_rises next (e ∷ entries) all =
      let rest = out_rises e.next entries all.1 in omega (arith, rest, (all.0.outs side).next)

  out_low : (next : Next) (entries : List Entry) → AllMove next entries → (e : Entry)
      → In e entries → (o : Out) → In o (outs_to side e.outs) → next_out side next ≤ o.number
  out_low next [] all e i o k = absurd i
  out_low next (x ∷ entries) all e (inl same) o k =
      (one_at next x o all.0 (subst (λ (y : Entry). In o (outs_to side y.outs)) same k)).0
  out_low next (x ∷ entries) all e (inr i) o k =
      let rest = out_low x.next entries all.1 e i o k in
      omega (arith, rest, (all.0.outs side).next)

  out_below : (next : Next) (entries : List Entry) → AllMove next entries → (e : Entry)
      → In e entries → (o : Out) → In o (outs_to side e.outs)
      → o.number < next_out side (numbers_after next entries)
  out_below next [] all e i o k = absurd i
  out_below next (x ∷ entries) all e (inl same) o k =
      let at = one_at next x o all.0 (subst (λ (y : Entry). In o (outs_to side y.outs)) same k) in
      let rest = out_rises x.next entries all.1 in omega (arith, at.1, rest)
  out_below next (x ∷ entries) all e (inr i) o k = out_below x.next entries all.1 e i o k

  -- a number is given out by one entry
  pub only_entry : (next : Next) (entries : List Entry) → AllMove next entries → (x e : Entry)
      → In x entries → In e entries → (o out : Out) → In o (outs_to side x.outs)
      → In out (outs_to side e.outs) → o.number ≡ out.number → x ≡ e
  only_entry next [] all x e i j o out k l same = absurd i
  only_entry next (z ∷ entries) all x e (inl a) (inl b) o out k l same = a ∙ sym b
  only_entry next (z ∷ entries) all x e (inl a) (inr j) o out k l same =
      let at = one_at next z o all.0 (subst (λ (y : Entry). In o (outs_to side y.outs)) a k) in
      let low = out_low z.next entries all.1 e j out l in absurd (omega (arith, at.1, low, same))
  only_entry next (z ∷ entries) all x e (inr i) (inl b) o out k l same =
      let at = one_at next z out all.0 (subst (λ (y : Entry). In out (outs_to side y.outs)) b l) in
      let low = out_low z.next entries all.1 x i o k in absurd (omega (arith, at.1, low, same))
  only_entry next (z ∷ entries) all x e (inr i) (inr j) o out k l same =
      only_entry z.next entries all.1 x e i j o out k l same

  -- ---- what was taken

  in_rises : (next : Next) (entries : List Entry) → AllMove next entries
      → next_in side next ≤ next_in side (numbers_after next entries)
  in_rises next [] all = omega arith
  in_rises next (e ∷ entries) all =
      let rest = in_rises e.next entries all.1 in omega (arith, rest, all.0.rises side)

  in_below : (next : Next) (entries : List Entry) → AllMove next entries → (e : Entry)
      → In e entries → (m : Heard) → taken side e ≡ Some m
      → m.number < next_in side (numbers_after next entries)
  in_below next [] all e i m takes = absurd i
  in_below next (x ∷ entries) all e (inl same) m takes =
      let at = all.0.took side m (ap (taken side) (sym same) ∙ takes) in
      let rest = in_rises x.next entries all.1 in omega (arith, at.1, rest)
  in_below next (x ∷ entries) all e (inr i) m takes = in_below x.next entries all.1 e i m takes

pub in_mapped : {X Y : Type 0} (f : X → Y) (y : Y) (xs : List X) → In y (map f xs)
    → (x : X) × In x xs × (y ≡ f x)
in_mapped f y [] i = absurd i
in_mapped f y (x ∷ xs) (inl same) = (x, inl refl, same)
in_mapped f y (x ∷ xs) (inr i) = let r = in_mapped f y xs i in (r.0, inr r.1, r.2)

given_out : (side : Side) (e : Entry) (m : Heard) → In m (given side e)
    → (o : Out) × In o (outs_to side e.outs) × (m.number ≡ o.number)
given_out side e m i =
    let r = in_mapped (λ (o : Out). heard_at side (message_of_out o)) m (outs_to side e.outs) i in
    (r.0, r.1, ap (λ (h : Heard). h.number) r.2)

-- THE NUMBERS OF AN ENTRY ARE NEW.
pub is_new : (before : List Entry) (e : Entry) → AllMove first_numbers before
    → Moves (numbers_after first_numbers before) e → IsNew before e
is_new before e all is = record {
  taken = λ side m takes x i a ta.
      let below = in_below side first_numbers before all x i a ta in
      let at = is.took side m takes in omega (arith, below, at.0);
  given = λ side m k x i a ka.
      let o = given_out side e m k in
      let p = given_out side x a ka in
      let below = out_below side first_numbers before all x i p.0 p.1 in
      let at = one_at side (numbers_after first_numbers before) e o.0 is o.1 in
      omega (arith, below, at.0, o.2, p.2);
}
