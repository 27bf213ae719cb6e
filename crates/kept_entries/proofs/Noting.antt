-- What the outs to a side translate is found by their numbers, which rise.
use Rattle.std.proofs.Common.{◌≡◌, ℕ, zero, suc, ◌+◌, ◌-◌, ◌<◌, ◌≤◌, ◌==◌, Bool, true, false, List}
use Rattle.std.proofs.Common.{[], ◌∷◌, ◌++◌, length, slice_index_or, refl, sym, ◌∙◌, ap, subst}
use Rattle.std.proofs.Common.{arith, append_assoc, Some, None, leb, leb-true, le-leb}
use Rattle.std.specs.List.{AllWithin}
use Rattle.std.specs.List.Sorted.{IsPartitionedBy}
use Rattle.std.specs.Option.{option_map, option_to_list}
use Rattle.std.proofs.lemmas.Bool.Decides.{nat_tests}
use Rattle.std.specs.declared.option.Option.{Option}
use Rattle.order_meaning.specs.declared.Side.{Side}
use Rattle.pair_entries.specs.declared.entry.Out.{Out}
use Rattle.pair_entries.specs.declared.entry.Entry.{Entry}
use Rattle.pair_entries.specs.Payload.{Next}
use Rattle.kept_entries.specs.Numbers.{next_out, outs_to, is_side, Numbered, GoesOn, first_numbers}
use Rattle.kept_entries.specs.Entries.{AreEntries}
use Rattle.kept_entries.specs.Given.{Given, numbered, given_in, source_in, source_of}
use Rattle.kept_entries.specs.Sources.{source_at, source_to, sources_in, sources_to}
use Rattle.kept_entries.specs.declared.sources.Source.{Source}
use Rattle.kept_entries.proofs.Giving.{goes, not_past, none_in, behind, here, passed, apart}

-- numbers that rise, the first at least this one
abbrev pub Rising : ℕ → List Source → Type 0
Rising low [] = Unit {0}
Rising low (s ∷ ss) = (low ≤ s.number) × Rising (s.number + 1) ss

rising_from : (low high : ℕ) (ss : List Source) → low ≤ high → Rising high ss → Rising low ss
rising_from low high [] order rise = tt
rising_from low high (s ∷ ss) order rise = (omega (arith, order, rise.0), rise.1)

-- what is told of the first of this number
abbrev look : ℕ → List Source → Option (ℕ × ℕ)
look n [] = None
look n (s ∷ ss) = elim (s.number == n) [ true ↦ Some (s.from, s.letter) | false ↦ look n ss ]

look_here : (n : ℕ) (s : Source) (ss : List Source)
    → (s.number == n) ≡ true → look n (s ∷ ss) ≡ Some (s.from, s.letter)
look_here n s ss e = rw (e, look) refl

look_past : (n : ℕ) (s : Source) (ss : List Source)
    → (s.number == n) ≡ false → look n (s ∷ ss) ≡ look n ss
look_past n s ss e = rw (e, look) refl

equal : (m n : ℕ) → (m == n) ≡ true → m ≡ n
equal m n e = grind (arith, nat_tests)

other : (m n : ℕ) → (m ≡ n → ⊥) → (m == n) ≡ false
other m n differ = grind (arith, nat_tests)

same : (m n : ℕ) → m ≡ n → (m == n) ≡ true
same m n e = grind (arith, nat_tests)

look_above : (n low : ℕ) (ss : List Source) → Rising low ss → n < low → look n ss ≡ None
look_above n low [] rise above = refl
look_above n low (s ∷ ss) rise above =
    look_past n s ss (other s.number n (λ e. omega (arith, e, rise.0, above)))
    ∙ look_above n (s.number + 1) ss rise.1 (omega (arith, rise.0, above))

-- ---- one out

-- an out to the other side says nothing
to_other : (side : Side) (entry : Entry) (out : Out) (outs : List Out)
    → is_side side out.side ≡ false
    → (sources_in side entry (out ∷ outs) ≡ sources_in side entry outs)
    × (outs_to side (out ∷ outs) ≡ outs_to side outs)
to_other side entry out outs e = (rw (e, sources_in, source_to) refl, rw (e, outs_to) refl)

to_this : (side : Side) (entry : Entry) (out : Out) (outs : List Out)
    → is_side side out.side ≡ true
    → (sources_in side entry (out ∷ outs) ≡ option_to_list (option_map (source_at out.number)
    (source_in (record { entry = entry; out = out }))) ++ sources_in side entry outs)
    × (outs_to side (out ∷ outs) ≡ out ∷ outs_to side outs)
to_this side entry out outs e = (rw (e, sources_in, source_to) refl, rw (e, outs_to) refl)

-- ---- the outs of one entry

abbrev Of : Side → Entry → List Out → List Source → List Source
Of side entry outs rest = sources_in side entry outs ++ rest

module _ (side : Side) (entry : Entry) (rest : List Source) where
  rising_one : (n m : ℕ) (told : Option (ℕ × ℕ)) (more : List Source) → n ≡ m
      → Rising (m + 1) (more ++ rest)
      → Rising m ((option_to_list (option_map (source_at n) told) ++ more) ++ rest)
  rising_one n m None more is rise = rising_from m (m + 1) (more ++ rest) (omega arith) rise
  rising_one n m (Some t) more is rise =
      (omega (arith, is), subst (λ (k : ℕ). Rising (k + 1) (more ++ rest)) (sym is) rise)

  pub rising_in : (outs : List Out) (m : ℕ) → Numbered m (outs_to side outs)
      → Rising (m + length (outs_to side outs)) rest → Rising m (Of side entry outs rest)
  rising_in [] m count rise = rising_from m (m + 0) rest (omega arith) rise
  rising_in (o ∷ outs) m count rise =
      cases (λ k c r. rising_in outs k c r) (is_side side o.side) refl
    where
      cases : ((k : ℕ) → Numbered k (outs_to side outs)
          → Rising (k + length (outs_to side outs)) rest → Rising k (Of side entry outs rest))
          → (b : Bool) → is_side side o.side ≡ b → Rising m (Of side entry (o ∷ outs) rest)
      cases more false e =
          let to = to_other side entry o outs e in
          subst (λ (l : List Source). Rising m (l ++ rest)) (sym to.0)
          (more m (subst (Numbered m) to.1 count)
          (subst (λ (l : List Out). Rising (m + length l) rest) to.1 rise))
      cases more true e =
          let to = to_this side entry o outs e in
          let counted = subst (Numbered m) to.1 count in
          let rise' = subst (λ (l : List Out). Rising (m + length l) rest) to.1 rise in
          let next : m + length (o ∷ outs_to side outs) ≡ m + 1 + length (outs_to side outs) =
          omega arith in
          subst (λ (l : List Source). Rising m (l ++ rest)) (sym to.0)
          (rising_one o.number m (source_in (record { entry = entry; out = o }))
          (sources_in side entry outs) counted.0 (more (m + 1) counted.1
          (subst (λ (k : ℕ). Rising k rest) next rise')))

  -- a number that none of them has
  look_one_past : (n m : ℕ) (told : Option (ℕ × ℕ)) (more : List Source) → (m ≡ n → ⊥)
      → look n ((option_to_list (option_map (source_at m) told) ++ more) ++ rest)
      ≡ look n (more ++ rest)
  look_one_past n m None more differ = refl
  look_one_past n m (Some t) more differ =
      look_past n (source_at m t) (more ++ rest) (other m n differ)

  -- the number of one of them, behind which all are greater
  look_one : (n m : ℕ) (told : Option (ℕ × ℕ)) (more : List Source) → m ≡ n
      → Rising (m + 1) (more ++ rest)
      → look n ((option_to_list (option_map (source_at m) told) ++ more) ++ rest) ≡ told
  look_one n m None more is rise = look_above n (m + 1) (more ++ rest) rise (omega (arith, is))
  look_one n m (Some t) more is rise =
      look_here n (source_at m t) (more ++ rest) (same m n is)

  pub look_none : (n : ℕ) (outs : List Out) → numbered n (outs_to side outs) ≡ None
      → look n (Of side entry outs rest) ≡ look n rest
  look_none n [] none = refl
  look_none n (o ∷ outs) none = cases (look_none n outs) (is_side side o.side) refl
    where
      test : (numbered n (outs_to side outs) ≡ None
          → look n (Of side entry outs rest) ≡ look n rest)
          → (b : Bool) → is_side side o.side ≡ true → (o.number == n) ≡ b
          → look n (Of side entry (o ∷ outs) rest) ≡ look n rest
      test more true e here =
          let to = to_this side entry o outs e in
          let no : Some o ≡ None = sym (rw (here, numbered) refl)
          ∙ ap (numbered n) (sym to.1) ∙ none in
          absurd (cc no)
      test more false e past =
          let to = to_this side entry o outs e in
          let on : numbered n (outs_to side outs) ≡ None =
          sym (passed n o (outs_to side outs) (apart o.number n past))
          ∙ ap (numbered n) (sym to.1) ∙ none in
          ap (λ (l : List Source). look n (l ++ rest)) to.0
          ∙ look_one_past n o.number (source_in (record { entry = entry; out = o }))
          (sources_in side entry outs) (apart o.number n past) ∙ more on

      cases : (numbered n (outs_to side outs) ≡ None
          → look n (Of side entry outs rest) ≡ look n rest)
          → (b : Bool) → is_side side o.side ≡ b
          → look n (Of side entry (o ∷ outs) rest) ≡ look n rest
      cases more false e =
          let to = to_other side entry o outs e in
          ap (λ (l : List Source). look n (l ++ rest)) to.0
          ∙ more (ap (numbered n) (sym to.1) ∙ none)
      cases more true e = test more (o.number == n) e refl

  -- what is told of the out of a number among outs that count up from m
  abbrev Tells : ℕ → ℕ → List Out → Out → Type 0
  Tells n m outs one = Numbered m (outs_to side outs)
      → Rising (m + length (outs_to side outs)) rest → numbered n (outs_to side outs) ≡ Some one
      → look n (Of side entry outs rest) ≡ source_in (record { entry = entry; out = one })

  tells_this : (n m : ℕ) (o : Out) (outs : List Out) (one : Out) → Tells n (m + 1) outs one
      → (b : Bool) → (o.number == n) ≡ b → Numbered m (o ∷ outs_to side outs)
      → Rising (m + 1 + length (outs_to side outs)) rest
      → numbered n (o ∷ outs_to side outs) ≡ Some one
      → look n ((option_to_list (option_map (source_at o.number)
      (source_in (record { entry = entry; out = o }))) ++ sources_in side entry outs) ++ rest)
      ≡ source_in (record { entry = entry; out = one })
  tells_this n m o outs one more true at counted later found =
      let it : Some o ≡ Some one = sym (rw (at, numbered) refl) ∙ found in
      let is : o ≡ one = cc it in
      look_one n o.number (source_in (record { entry = entry; out = o }))
      (sources_in side entry outs) (equal o.number n at) (subst (λ (k : ℕ).
      Rising (k + 1) (Of side entry outs rest)) (sym counted.0)
      (rising_in outs (m + 1) counted.1 later))
      ∙ ap (λ (x : Out). source_in (record { entry = entry; out = x })) is
  tells_this n m o outs one more false at counted later found =
      look_one_past n o.number (source_in (record { entry = entry; out = o }))
      (sources_in side entry outs) (apart o.number n at)
      ∙ more counted.1 later (sym (passed n o (outs_to side outs) (apart o.number n at)) ∙ found)

  tells_one : (n m : ℕ) (o : Out) (outs : List Out) (one : Out) → Tells n m outs one
      → Tells n (m + 1) outs one → (b : Bool) → is_side side o.side ≡ b → Tells n m (o ∷ outs) one
  tells_one n m o outs one same more false e count rise found =
      let to = to_other side entry o outs e in
      ap (λ (l : List Source). look n (l ++ rest)) to.0
      ∙ same (subst (Numbered m) to.1 count)
      (subst (λ (l : List Out). Rising (m + length l) rest) to.1 rise)
      (ap (numbered n) (sym to.1) ∙ found)
  tells_one n m o outs one same more true e count rise found =
      let to = to_this side entry o outs e in
      let counted = subst (Numbered m) to.1 count in
      let rise' = subst (λ (l : List Out). Rising (m + length l) rest) to.1 rise in
      let next : m + length (o ∷ outs_to side outs) ≡ m + 1 + length (outs_to side outs) =
      omega arith in
      ap (λ (l : List Source). look n (l ++ rest)) to.0
      ∙ tells_this n m o outs one more (o.number == n) refl counted
      (subst (λ (k : ℕ). Rising k rest) next rise') (ap (numbered n) (sym to.1) ∙ found)

  pub look_some : (n m : ℕ) (outs : List Out) (one : Out) → Tells n m outs one
  look_some n m [] one = λ count rise found. absurd (cc found)
  look_some n m (o ∷ outs) one = tells_one n m o outs one (look_some n m outs one)
      (look_some n (m + 1) outs one) (is_side side o.side) refl

-- ---- all entries

pub rising_all : (side : Side) (before : Next) (entries : List Entry)
    → AreEntries before entries → Rising (next_out side before) (sources_to side entries)
rising_all side before [] are = tt
rising_all side before (e ∷ es) are =
    let on = goes side before e are.1 in
    rising_in side e (sources_to side es) e.outs (next_out side before) on.numbered
    (subst (λ (k : ℕ). Rising k (sources_to side es)) on.next (rising_all side e.next es are.2))

-- an entry that did not give out the number, and one that did
look_behind : (side : Side) (n : ℕ) (e : Entry) (es : List Entry)
    → look n (sources_to side es) ≡ source_of side n es
    → numbered n (outs_to side e.outs) ≡ None
    → look n (sources_to side (e ∷ es)) ≡ source_of side n (e ∷ es)
look_behind side n e es more none =
    look_none side e (sources_to side es) n e.outs none ∙ more
    ∙ sym (ap (λ (g : Option Given). elim g [
      | None ↦ None
      | Some one ↦ source_in one
    ]) (behind side n e es (none_in side n e none)))

look_given : (side : Side) (n : ℕ) (before : Next) (e : Entry) (es : List Entry) (o : Out)
    → GoesOn before e → AreEntries e.next es → numbered n (outs_to side e.outs) ≡ Some o
    → look n (sources_to side (e ∷ es)) ≡ source_of side n (e ∷ es)
look_given side n before e es o on are some =
    let goes_on = goes side before e on in
    look_some side e (sources_to side es) n (next_out side before) e.outs o goes_on.numbered
    (subst (λ (k : ℕ). Rising k (sources_to side es)) goes_on.next
    (rising_all side e.next es are)) some
    ∙ sym (ap (λ (g : Option Given). elim g [
      | None ↦ None
      | Some one ↦ source_in one
    ]) (here side n e es (record { entry = e; out = o }) (rw (some, given_in) refl)))

look_is : (side : Side) (n : ℕ) (before : Next) (entries : List Entry)
    → AreEntries before entries → look n (sources_to side entries) ≡ source_of side n entries
look_is side n before [] are = refl
look_is side n before (e ∷ es) are =
    cases (look_is side n e.next es are.2) (numbered n (outs_to side e.outs)) refl
  where
    cases : look n (sources_to side es) ≡ source_of side n es → (o : Option Out)
        → numbered n (outs_to side e.outs) ≡ o
        → look n (sources_to side (e ∷ es)) ≡ source_of side n (e ∷ es)
    cases more None none = look_behind side n e es more none
    cases more (Some o) some = look_given side n before e es o are.1 are.2 some

-- one entry more
pub sources_push : (side : Side) (entries : List Entry) (entry : Entry)
    → sources_to side (entries ++ entry ∷ [])
    ≡ sources_to side entries ++ sources_in side entry entry.outs
sources_push side [] entry = append_none (sources_in side entry entry.outs)
  where
    append_none : (l : List Source) → l ++ [] ≡ l
    append_none [] = refl
    append_none (x ∷ l) = ap (λ (k : List Source). x ∷ k) (append_none l)
sources_push side (e ∷ es) entry =
    ap (λ (l : List Source). sources_in side e e.outs ++ l) (sources_push side es entry)
    ∙ sym (append_assoc (sources_in side e e.outs) (sources_to side es)
    (sources_in side entry entry.outs))

-- ---- the last whose number is not greater

at_most : (low : ℕ) (ss : List Source) (j : ℕ) (d : Source) → Rising low ss
    → j < length ss → low ≤ (slice_index_or ss j d).number
at_most low [] j d rise within = absurd (omega (arith, within))
at_most low (s ∷ ss) zero d rise within = rise.0
at_most low (s ∷ ss) (suc j) d rise within =
    omega (arith, rise.0, at_most (s.number + 1) ss j d rise.1 (omega (arith, within)))

rise_index : (low : ℕ) (ss : List Source) (i j : ℕ) (d : Source) → Rising low ss → i ≤ j
    → j < length ss → (slice_index_or ss i d).number ≤ (slice_index_or ss j d).number
rise_index low [] i j d rise order within = absurd (omega (arith, within))
rise_index low (s ∷ ss) zero zero d rise order within = omega arith
rise_index low (s ∷ ss) zero (suc j) d rise order within =
    omega (arith, at_most (s.number + 1) ss j d rise.1 (omega (arith, within)))
rise_index low (s ∷ ss) (suc i) zero d rise order within = absurd (omega (arith, order))
rise_index low (s ∷ ss) (suc i) (suc j) d rise order within =
    rise_index (s.number + 1) ss i j d rise.1 (omega (arith, order)) (omega (arith, within))

pub parted_sources : (low n : ℕ) (ss : List Source)
    → Rising low ss → IsPartitionedBy (λ (s : Source). leb s.number n) ss
parted_sources low n ss rise i j d order within test =
    le-leb (slice_index_or ss i d).number n (omega (
      arith,
      rise_index low ss i j d rise order within,
      leb-true (slice_index_or ss j d).number n test,
    ))

-- where the last one at most has the number it is the one, and else none is
look_first : (n low : ℕ) (ss : List Source) → Rising low ss
    → AllWithin (λ (s : Source). leb s.number n ≡ false) ss 0 (length ss) → look n ss ≡ None
look_first n low [] rise high = refl
look_first n low (s ∷ ss) rise high =
    let past = not_past s.number n (high 0 s (omega arith) (omega arith)) in
    look_above n s.number (s ∷ ss) (omega arith, rise.1) past

look_last : (n low : ℕ) (ss : List Source) (i : ℕ) (last d : Source) → Rising low ss
    → i < length ss → last ≡ slice_index_or ss i d
    → AllWithin (λ (s : Source). leb s.number n ≡ true) ss 0 (suc i)
    → AllWithin (λ (s : Source). leb s.number n ≡ false) ss (suc i) (length ss)
    → look n ss ≡ look n (last ∷ [])
look_last n low [] i last d rise within is at_most past = absurd (omega (arith, within))
look_last n low (s ∷ ss) zero last d rise within is at_most past =
    cases (s.number == n) refl
    ∙ ap (λ (x : Source). look n (x ∷ [])) (sym is)
  where
    none : look n ss ≡ None
    none = look_first n (s.number + 1) ss rise.1
        (λ k d from to. past (suc k) d (omega arith) (omega (arith, to)))

    cases : (b : Bool) → (s.number == n) ≡ b → look n (s ∷ ss) ≡ look n (s ∷ [])
    cases true e = look_here n s ss e ∙ sym (look_here n s [] e)
    cases false e = look_past n s ss e ∙ none ∙ sym (look_past n s [] e)
look_last n low (s ∷ ss) (suc i) last d rise within is at_most past =
    let second = leb-true (slice_index_or ss 0 s).number n
    (at_most (suc zero) s (omega arith) (omega arith)) in
    let less = first_less ss rise.1 (omega (arith, within)) in
    look_past n s ss (other s.number n (λ e. omega (arith, e, less, second)))
    ∙ look_last n (s.number + 1) ss i last d rise.1 (omega (arith, within)) is
    (λ k d from to. at_most (suc k) d (omega arith) (omega (arith, to)))
    (λ k d from to. past (suc k) d (omega (arith, from)) (omega (arith, to)))
  where
    first_less : (l : List Source) → Rising (s.number + 1) l → 0 < length l
        → s.number < (slice_index_or l 0 s).number
    first_less [] r some = absurd (omega (arith, some))
    first_less (x ∷ l) r some = omega (arith, r.0)

module _ (side : Side) (n : ℕ) (entries : List Entry) (are : AreEntries first_numbers entries)
    (list : List Source) (is : list ≡ sources_to side entries) where
  rise : Rising (next_out side first_numbers) list
  rise = subst (Rising (next_out side first_numbers)) (sym is)
      (rising_all side first_numbers entries are)

  told : look n list ≡ source_of side n entries
  told = ap (look n) is ∙ look_is side n first_numbers entries are

  pub parted : IsPartitionedBy (λ (s : Source). leb s.number n) list
  parted = parted_sources (next_out side first_numbers) n list rise

  pub no_source : (count : ℕ) → count ≡ 0
      → AllWithin (λ (s : Source). leb s.number n ≡ false) list count (length list)
      → None ≡ source_of side n entries
  no_source count zero_is past = sym (look_first n (next_out side first_numbers) list rise
      (subst (λ (k : ℕ). AllWithin (λ (s : Source). leb s.number n ≡ false) list k (length list))
      zero_is past)) ∙ told

  module _ (count : ℕ) (last d : Source) (some : 1 ≤ count) (most : count ≤ length list)
      (at : last ≡ slice_index_or list (count - 1) d)
      (low : AllWithin (λ (s : Source). leb s.number n ≡ true) list 0 count)
      (past : AllWithin (λ (s : Source). leb s.number n ≡ false) list count (length list)) where
    last_is : look n list ≡ look n (last ∷ [])
    last_is =
        let same_count : count ≡ suc (count - 1) = omega (arith, some) in
        look_last n (next_out side first_numbers) list (count - 1) last d rise
        (omega (arith, some, most)) at
        (subst (λ (k : ℕ). AllWithin (λ (s : Source). leb s.number n ≡ true) list 0 k)
        same_count low)
        (subst (λ (k : ℕ). AllWithin (λ (s : Source). leb s.number n ≡ false) list k
        (length list)) same_count past)

    pub other_source : (last.number ≡ n → ⊥) → None ≡ source_of side n entries
    other_source differ =
        sym (last_is ∙ look_past n last [] (other last.number n differ)) ∙ told

    pub this_source : last.number ≡ n → Some (last.from, last.letter) ≡ source_of side n entries
    this_source e = sym (last_is ∙ look_here n last [] (same last.number n e)) ∙ told
