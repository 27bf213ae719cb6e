-- What stays true of forms and bodies when a journal grows.
use Rattle.std.proofs.Common.{◌≡◌, ℕ, zero, suc, ◌+◌, ◌-◌, ◌<◌, ◌≤◌, Bool, true, false, List, []}
use Rattle.std.proofs.Common.{◌∷◌, ◌++◌, length, refl, sym, ◌∙◌, ap, subst, arith, append_assoc}
use Rattle.std.proofs.Common.{length-append, Some, None, inl, inr}
use Rattle.std.specs.Prelude.{◌==◌, if◌then◌else◌, slice_get, map, IsTrue, IsSomeAnd}
use Rattle.std.specs.List.{flat_map}
use Rattle.std.specs.declared.option.Option.{Option}
use Rattle.std.proofs.lemmas.Bool.{cases_eq}
use Rattle.std.proofs.lemmas.Bool.Decides.{nat_tests}
use Rattle.std.proofs.lemmas.Grind.{flat_map-append}
use Rattle.order_meaning.specs.declared.Side.{Side}
use Rattle.order_meaning.specs.declared.Side.TheVariants.{Client, Venue}
use Rattle.order_meaning.specs.declared.names.Names.{Names}
use Rattle.pair_entries.specs.declared.entry.Out.{Out}
use Rattle.pair_entries.specs.declared.entry.Entry.{Entry}
use Rattle.kept_entries.specs.Numbers.{is_side, Numbered}
use Rattle.wires.specs.Wire.{Connection}
use Rattle.life_laws.specs.Justified.{first_numbers_of, NotAmong, EachOnce, IsSublist, tooks_of}
use Rattle.life_laws.specs.Justified.{ShowsAll}
use Rattle.life_laws.specs.Forms.{Placed, all_placed, placed, Form, First, Again, Fill, IsForm}
use Rattle.life_laws.specs.Forms.{AreForms}
use Rattle.std.proofs.lemmas.List.Elements.{filter_map-append}
use Rattle.std.proofs.lemmas.Option.{slice_get_within}

pub if_yes : {A : Type 0} (c : Bool) (x y : A) → c ≡ true → (if c then x else y) ≡ x
if_yes c x y is = ap (λ b. if b then x else y) is

pub if_no : {A : Type 0} (c : Bool) (x y : A) → c ≡ false → (if c then x else y) ≡ y
if_no c x y is = ap (λ b. if b then x else y) is

pub some_and : {A : Type 0} (o : Option A) (P : A → Type 0) → IsSomeAnd o P
    → (a : A) × (o ≡ Some a) × P a
some_and None P is = absurd is
some_and (Some a) P is = (a, refl, is)

pub own_side : (side : Side) → is_side side side ≡ true
own_side Client = refl
own_side Venue = refl

slice_get-more : {A : Type 0} (xs ys : List A) (n : ℕ) (p : A) → slice_get xs n ≡ Some p
    → slice_get (xs ++ ys) n ≡ Some p
slice_get-more [] ys n p is = absurd (cc is)
slice_get-more (x ∷ xs) ys zero p is = is
slice_get-more (x ∷ xs) ys (suc n) p is = slice_get-more xs ys n p is

-- the element behind a front
slice_get-behind : {A : Type 0} (xs ys : List A) (n : ℕ)
    → slice_get (xs ++ ys) (length xs + n) ≡ slice_get ys n
slice_get-behind [] ys n = let e : 0 + n ≡ n = omega arith in ap (slice_get ys) e
slice_get-behind (x ∷ xs) ys n = let e : length (x ∷ xs) + n ≡ suc (length xs + n) = omega arith in
    ap (slice_get (x ∷ xs ++ ys)) e ∙ slice_get-behind xs ys n

abbrev pub by_number : List Placed → ℕ → Option Placed
by_number ps n = if n == 0 then None else slice_get ps (n - 1)

pub at_place : (ps : List Placed) (n : ℕ) (p : Placed) → by_number ps n ≡ Some p
    → (1 ≤ n) × (slice_get ps (n - 1) ≡ Some p)
at_place ps n p is = elim (cases_eq n 0) [
  | inl none ↦ let nothing : by_number ps n
      ≡ None = if_yes (n == 0) None (slice_get ps (n - 1)) (grind (arith, nat_tests)) in
      absurd (cc (nothing, is))
  | inr some ↦ (
    omega arith,
    sym (if_no (n == 0) None (slice_get ps (n - 1)) (grind
        (arith, nat_tests))) ∙ is,
  )
]

pub to_place : (ps : List Placed) (n : ℕ) (o : Option Placed) → 1 ≤ n → slice_get ps (n - 1) ≡ o
    → by_number ps n ≡ o
to_place ps n o some is = if_no (n == 0) None (slice_get ps (n - 1)) (grind (arith, nat_tests)) ∙ is

module _ (side : Side) where
  pub all_placed-append : (xs ys : List Entry) → all_placed side (xs ++ ys) ≡ all_placed side xs
      ++ all_placed side ys
  all_placed-append xs ys = flat_map-append _ xs ys

  -- a number that was given out
  pub placed_within : (entries : List Entry) (n : ℕ) (p : Placed) → placed side n entries ≡ Some p
      → (1 ≤ n) × (n ≤ length (all_placed side entries))
  placed_within entries n p is =
      let here = at_place (all_placed side entries) n p is in
      let within = slice_get_within (all_placed side entries) (n - 1) p here.1 in
      (here.0, omega (arith, here.0, within))

  pub placed_grows : (xs ys : List Entry) (n : ℕ) (p : Placed) → placed side n xs ≡ Some p
      → placed side n (xs ++ ys) ≡ Some p
  placed_grows xs ys n p is =
      let here = at_place (all_placed side xs) n p is in
      to_place (all_placed side (xs ++ ys)) n (Some p) here.0
      (ap (λ l. slice_get l (n - 1)) (all_placed-append xs ys)
      ∙ slice_get-more (all_placed side xs) (all_placed side ys) (n - 1) p here.1)

  pub some_grows : (P : Placed → Type 0) (xs ys : List Entry) (n : ℕ)
      → IsSomeAnd (placed side n xs) P → IsSomeAnd (placed side n (xs ++ ys)) P
  some_grows P xs ys n h =
      let p = some_and (placed side n xs) P h in
      subst (λ o. IsSomeAnd o P) (sym (placed_grows xs ys n p.0 p.1)) p.2

  pub form_grows : (xs ys : List Entry) (f : Form) → IsForm xs side f → IsForm (xs ++ ys) side f
  form_grows xs ys (First p) is = placed_grows xs ys p.out.number p is
  form_grows xs ys (Again p now) is = placed_grows xs ys p.out.number p is
  form_grows xs ys (Fill from to first now) is = (
    is.0,
    (λ n low high. some_grows (λ p. IsTrue p.out.admin) xs ys n
        (is.1 n low high)),
    some_grows (λ p. p.at ≡ first) xs ys from is.2,
  )

  pub forms_grow : (xs ys : List Entry) (fs : List Form) → AreForms xs side fs
      → AreForms (xs ++ ys) side fs
  forms_grow xs ys [] are = tt
  forms_grow xs ys (f ∷ fs) are = (form_grows xs ys f are.0, forms_grow xs ys fs are.1)

  pub shows_grow : (names : Names) (xs ys : List Entry) (links : List Connection) (forms : List
      (List Form)) → ShowsAll names xs side links forms → ShowsAll names (xs ++ ys) side links forms
  shows_grow names xs ys [] [] shows = tt
  shows_grow names xs ys [] (fs ∷ more) shows = absurd shows
  shows_grow names xs ys (link ∷ links) [] shows = absurd shows
  shows_grow names xs ys (link ∷ links) (fs ∷ more) shows =
      (forms_grow xs ys fs shows.0, shows.1, shows_grow names xs ys links more shows.2)

  pub tooks-append : (xs ys : List Entry) → tooks_of side (xs ++ ys) ≡ tooks_of side xs
      ++ tooks_of side ys
  tooks-append xs ys = filter_map-append _ xs ys

  pub forms_join : (entries : List Entry) (xs ys : List Form) → AreForms entries side xs
      → AreForms entries side ys → AreForms entries side (xs ++ ys)
  forms_join entries [] ys are more = more
  forms_join entries (x ∷ xs) ys are more = (are.0, forms_join entries xs ys are.1 more)

  -- outs that take the next numbers are found under them
  pub firsts_are : (outs : List Out) (at : ℕ) (earlier : List Placed)
      → Numbered (length earlier + 1) outs
      → (entries : List Entry) → all_placed side entries ≡ earlier
      ++ map (λ out. record { out = out; at = at }) outs
      → AreForms entries side (map (λ out. First (record { out = out; at = at })) outs)
  firsts_are [] at earlier numbered entries is = tt
  firsts_are (o ∷ outs) at earlier numbered entries is =
      let p : Placed = record { out = o; at = at } in
      let here : slice_get (all_placed side entries) (length earlier + 0)
      ≡ Some p = ap (λ l. slice_get l (length earlier + 0)) is
      ∙ slice_get-behind earlier (p ∷ map (λ
      (out : Out). record { out = out; at = at }) outs) 0 in
      let minus : o.number - 1 ≡ length earlier + 0 = omega (arith, numbered.0) in (
        to_place (all_placed side entries) o.number (Some p) (omega (arith, numbered.0)) (ap
            (slice_get (all_placed side entries)) minus ∙ here),
        firsts_are outs at (earlier
            ++ p ∷ []) (subst (λ n. Numbered n outs) (omega (
              arith,
              length-append earlier (p ∷ []),
            )) numbered.1) entries
            (is ∙ sym (append_assoc earlier (p ∷ []) (map (λ
            (out : Out). record { out = out; at = at }) outs))),
      )

-- ---- numbers that are given once

pub not-among-front : (n : ℕ) (a b : List ℕ) → NotAmong n (a ++ b) → NotAmong n a
not-among-front n [] b h = tt
not-among-front n (m ∷ a) b h = (h.0, not-among-front n a b h.1)

pub once-front : (a b : List ℕ) → EachOnce (a ++ b) → EachOnce a
once-front [] b h = tt
once-front (n ∷ a) b h = (not-among-front n a b h.0, once-front a b h.1)

pub AllAtMost : ℕ → List ℕ → Type 0
AllAtMost most [] = Unit {0}
AllAtMost most (n ∷ ns) = (n ≤ most) × AllAtMost most ns

at_most-append : (most : ℕ) (a b : List ℕ) → AllAtMost most a → AllAtMost most b
    → AllAtMost most (a ++ b)
unfolding AllAtMost
at_most-append most [] b h k = k
at_most-append most (n ∷ a) b h k = (h.0, at_most-append most a b h.1 k)

abbrev pub numbers_in : List Out → List ℕ
numbers_in outs = map (λ out. out.number) outs

-- outs numbered from above n on
above : (n m : ℕ) (outs : List Out) → n < m → Numbered m outs → NotAmong n (numbers_in outs)
above n m [] less numbered = tt
above n m (o ∷ outs) less numbered = (
  (λ same. absurd (omega
      (arith, numbered.0, less, same))),
  above n (m + 1) outs (omega (arith, less)) numbered.1,
)

once-numbered : (m : ℕ) (outs : List Out) → Numbered m outs → EachOnce (numbers_in outs)
once-numbered m [] numbered = tt
once-numbered m (o ∷ outs) numbered = (
  above o.number (m + 1) outs (omega
      (arith, numbered.0)) numbered.1,
  once-numbered (m + 1) outs numbered.1,
)

not-among-join : (n : ℕ) (a b : List ℕ) → NotAmong n a → NotAmong n b → NotAmong n (a ++ b)
not-among-join n [] b h k = k
not-among-join n (m ∷ a) b h k = (h.0, not-among-join n a b h.1 k)

pub once-more : (most : ℕ) (ns : List ℕ) (outs : List Out) → AllAtMost most ns → EachOnce ns
    → Numbered (most + 1) outs → EachOnce (ns ++ numbers_in outs)
unfolding AllAtMost
once-more most [] outs below once numbered = once-numbered (most + 1) outs numbered
once-more most (n ∷ ns) outs below once numbered = (
  not-among-join n ns (numbers_in outs) once.0 (above n (most + 1) outs (omega
      (arith, below.0)) numbered),
  once-more most ns outs below.1 once.1 numbered,
)

pub first_numbers-append : (xs ys : List Form) → first_numbers_of (xs ++ ys) ≡ first_numbers_of xs
    ++ first_numbers_of ys
first_numbers-append [] ys = refl
first_numbers-append (First p ∷ xs) ys = ap (λ (l : List ℕ). p.out.number ∷ l)
    (first_numbers-append xs ys)
first_numbers-append (Again p now ∷ xs) ys = first_numbers-append xs ys
first_numbers-append (Fill from to first now ∷ xs) ys = first_numbers-append xs ys

-- the numbers of what was shown were given out
shown-below : (side : Side) (entries : List Entry) (fs : List Form) → AreForms entries side fs
    → AllAtMost (length (all_placed side entries)) (first_numbers_of fs)
unfolding AllAtMost
shown-below side entries [] are = tt
shown-below side entries (First p ∷ fs) are =
    ((placed_within side entries p.out.number p are.0).1, shown-below side entries fs are.1)
shown-below side entries (Again p now ∷ fs) are = shown-below side entries fs are.1
shown-below side entries (Fill from to first now ∷ fs) are = shown-below side entries fs are.1

pub all-below : (names : Names) (side : Side) (entries : List Entry) (links : List Connection)
    (forms : List (List Form)) → ShowsAll names entries side links forms
    → AllAtMost (length (all_placed side entries)) (flat_map first_numbers_of forms)
unfolding AllAtMost
all-below names side entries [] [] shows = tt
all-below names side entries [] (fs ∷ forms) shows = absurd shows
all-below names side entries (link ∷ links) [] shows = absurd shows
all-below names side entries (link ∷ links) (fs ∷ forms) shows =
    at_most-append (length (all_placed side entries)) (first_numbers_of fs)
    (flat_map first_numbers_of forms) (shown-below side entries fs shows.0)
    (all-below names side entries links forms shows.2)

-- ---- lists with some left out

pub sublist-more : (xs ys zs : List (List ℕ)) → IsSublist xs ys → IsSublist xs (ys ++ zs)
sublist-more [] ys zs h = tt
sublist-more (x ∷ xs) [] zs h = absurd h
sublist-more (x ∷ xs) (y ∷ ys) zs (inl h) = inl (h.0, sublist-more xs ys zs h.1)
sublist-more (x ∷ xs) (y ∷ ys) zs (inr h) = inr (sublist-more (x ∷ xs) ys zs h)

last-among : (b : List ℕ) (ys : List (List ℕ)) → IsSublist (b ∷ []) (ys ++ b ∷ [])
last-among b [] = inl (refl, tt)
last-among b (y ∷ ys) = inr (last-among b ys)

pub sublist-push : (xs ys : List (List ℕ)) (b : List ℕ) → IsSublist xs ys
    → IsSublist (xs ++ b ∷ []) (ys ++ b ∷ [])
sublist-push [] ys b h = last-among b ys
sublist-push (x ∷ xs) [] b h = absurd h
sublist-push (x ∷ xs) (y ∷ ys) b (inl h) = inl (h.0, sublist-push xs ys b h.1)
sublist-push (x ∷ xs) (y ∷ ys) b (inr h) = inr (sublist-push (x ∷ xs) ys b h)
