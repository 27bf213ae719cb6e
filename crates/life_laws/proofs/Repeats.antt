-- A repeat shows the journal, and gives no number.
use Rattle.std.proofs.Common.{◌≡◌, ℕ, zero, suc, ◌+◌, ◌-◌, ◌<◌, ◌≤◌, Bool, true, false, List, []}
use Rattle.std.proofs.Common.{◌∷◌, ◌++◌, length, refl, sym, ◌∙◌, ap, subst, arith, append-nil, Some}
use Rattle.std.proofs.Common.{None, inl, inr, ◌⊎◌}
use Rattle.std.specs.Prelude.{if◌then◌else◌, slice_get, IsTrue, IsSomeAnd}
use Rattle.std.specs.declared.option.Option.{Option}
use Rattle.order_meaning.specs.declared.Side.{Side}
use Rattle.pair_entries.specs.declared.entry.Entry.{Entry}
use Rattle.kept_entries.specs.Numbers.{is_side}
use Rattle.event_decisions.specs.Decide.{Repeat}
use Rattle.life_laws.specs.Justified.{first_numbers_of}
use Rattle.life_laws.specs.Forms.{Placed, all_placed, placed, Again, AreForms}
use Rattle.life_laws.specs.Repeats.{Run, close_run, extend_run, repeat_one, run_after, repeats}
use Rattle.life_laws.specs.Repeats.{repeat_forms, repeated_to}
use Rattle.life_laws.specs.Standing.{NumberedFrom}
use Rattle.life_laws.proofs.Grown.{to_place, forms_join, first_numbers-append}

-- an element within
within : {A : Type 0} (xs : List A) (n : ℕ) → n < length xs → (x : A) × (slice_get xs n ≡ Some x)
within [] n less = absurd (omega (arith, less))
within (x ∷ xs) zero less = (x, refl)
within (x ∷ xs) (suc n) less = within xs n (omega (arith, less))

pub numbered_at : (m : ℕ) (ps : List Placed) (k : ℕ) (p : Placed) → NumberedFrom m ps
    → slice_get ps k ≡ Some p → p.out.number ≡ m + k
numbered_at m [] k p numbered is = absurd (cc is)
numbered_at m (q ∷ ps) zero p numbered is = let same : q ≡ p = cc is in
    ap (λ x. x.out.number) (sym same) ∙ numbered.0 ∙ omega arith
numbered_at m (q ∷ ps) (suc k) p numbered is = let e : p.out.number
    ≡ m + 1 + k = numbered_at (m + 1) ps k p numbered.1 is in omega (arith, e)

module _ (entries : List Entry) (side : Side) where
  abbrev IsAdmin : ℕ → Type 0
  IsAdmin n = IsSomeAnd (placed side n entries) (λ p. IsTrue p.out.admin)

  -- a run that is not closed yet
  abbrev IsRun : Option Run → ℕ → Type 0
  IsRun None n = Unit {0}
  IsRun (Some run) n = (run.from < n) × ((k : ℕ) → run.from ≤ k → k < n
      → IsAdmin k) × IsSomeAnd (placed side run.from entries) (λ p. p.at ≡ run.at)

  closed_are : (run : Option Run) (n now : ℕ) → IsRun run n
      → AreForms entries side (close_run run n now)
  closed_are None n now is = tt
  closed_are (Some run) n now is = ((is.0, is.1, is.2), tt)

  extends : (run : Option Run) (n : ℕ) (p : Placed) → IsRun run n → placed side n entries ≡ Some p
      → IsTrue p.out.admin → IsRun (extend_run run n p.at) (n + 1)
  extends None n p is place admin =
      let here : IsAdmin n =
      subst (λ o. IsSomeAnd o (λ q. IsTrue q.out.admin)) (sym place) admin in (
        omega arith,
        (λ k low high. let same : n ≡ k = omega (arith, low, high) in
            subst IsAdmin same here),
        subst (λ o. IsSomeAnd o (λ q. q.at ≡ p.at)) (sym place) refl,
      )
  extends (Some run) n p is place admin = (omega (arith, is.0), (λ k low high. go k low high), is.2)
    where
      go : (k : ℕ) → run.from ≤ k → k < n + 1 → IsAdmin k
      go k low high = elim (cases k n) [
        | inl less ↦ is.1 k low less
        | inr more ↦ let same : n ≡ k = omega (arith, more, high) in
            subst IsAdmin same (subst (λ o. IsSomeAnd o (λ q. IsTrue q.out.admin))
            (sym place) admin)
      ]
        where
          cases : (a b : ℕ) → (a < b) ⊎ (b ≤ a)
          cases a b = grind arith

  module _ (numbered : NumberedFrom 1 (all_placed side entries)) where
    pub found : (n : ℕ) → 1 ≤ n → n ≤ length (all_placed side entries)
        → (p : Placed) × (placed side n entries ≡ Some p) × (p.out.number ≡ n)
    found n low high =
        let at = within (all_placed side entries) (n - 1) (omega (arith, low, high)) in
        let number : at.0.out.number
        ≡ 1 + (n - 1) = numbered_at 1 (all_placed side entries) (n - 1) at.0 numbered at.1 in (
          at.0,
          to_place (all_placed side entries) n (Some at.0) low at.1,
          omega (arith, number, low),
        )

    pub repeats_are : (count : ℕ) (run : Option Run) (n now : ℕ) → IsRun run n → 1 ≤ n
        → n + count ≤ length (all_placed side entries) + 1
        → AreForms entries side (repeats entries side run n now count)
    repeats_are zero run n now is low high = closed_are run n now is
    repeats_are (suc count) run n now is low high =
        let at = found n low (omega (arith, high)) in
        subst (λ o. AreForms entries side (repeat_one run n now o
        ++ repeats entries side (run_after run n o) (n + 1) now count)) (sym at.1) (go
        (λ r is_run. repeats_are count r (n + 1) now is_run (omega arith) (omega
        (arith, high))) at.0 at.1 at.2 at.0.out.admin refl)
      where
        go : ((r : Option Run) → IsRun r (n + 1) → AreForms entries side (repeats entries side r
            (n + 1) now count)) → (p : Placed) → placed side n entries ≡ Some p → p.out.number ≡ n
            → (admin : Bool) → p.out.admin ≡ admin
            → AreForms entries side (repeat_one run n now (Some p)
            ++ repeats entries side (run_after run n (Some p)) (n + 1) now count)
        go more p place number true e =
            subst (λ b. AreForms entries side ((if b then [] else close_run run n now
            ++ Again p now ∷ []) ++ repeats entries side
            (if b then extend_run run n p.at else None) (n + 1) now count)) (sym e)
            (more (extend_run run n p.at) (extends run n p is place e))
        go more p place number false e =
            subst (λ b. AreForms entries side ((if b then [] else close_run run n now
            ++ Again p now ∷ []) ++ repeats entries side
            (if b then extend_run run n p.at else None) (n + 1) now count)) (sym e)
            (forms_join side entries (close_run run n now
            ++ Again p now ∷ []) (repeats entries side None (n + 1) now count)
            (forms_join side entries (close_run run n now) (Again p now ∷ [])
            (closed_are run n now is) (ap (λ k. placed side k entries) number ∙ place, tt))
            (more None tt))

    pub repeated_are : (now : ℕ) (o : Option Repeat) → ((r : Repeat) → o ≡ Some r
        → (1 ≤ r.from) × (r.to ≤ length (all_placed r.side entries))) → (r : Repeat) → o ≡ Some r
        → is_side side r.side ≡ true → side
        ≡ r.side → AreForms entries side (repeat_forms entries side r.from r.to now)
    repeated_are now o given r is mine same =
        let within = given r is in
        let to : r.to ≤ length (all_placed side entries) = subst (λ s. r.to ≤ length
        (all_placed s entries)) (sym same) within.1 in
        elim (ordered r.from (r.to + 1)) [
          | inl up ↦ repeats_are (r.to + 1 - r.from) None r.from now tt within.0 (omega
              (arith, to, up))
          | inr down ↦ let none : r.to + 1 - r.from ≡ 0 = omega (arith, down) in
              subst (λ c. AreForms entries side (repeats entries side None r.from now c))
              (sym none) tt
        ]
      where
        ordered : (a b : ℕ) → (a ≤ b) ⊎ (b < a)
        ordered a b = grind arith

  closed_none : (run : Option Run) (n now : ℕ) → first_numbers_of (close_run run n now) ≡ []
  closed_none None n now = refl
  closed_none (Some r) n now = refl

  one_none : (run : Option Run) (n now : ℕ) (o : Option Placed)
      → first_numbers_of (repeat_one run n now o) ≡ []
  one_none run n now None = refl
  one_none run n now (Some p) = go p.out.admin
    where
      go : (b : Bool) → first_numbers_of (if b then [] else close_run run n now
          ++ Again p now ∷ []) ≡ []
      go true = refl
      go false = first_numbers-append (close_run run n now) (Again p now ∷ [])
          ∙ append-nil (first_numbers_of (close_run run n now)) ∙ closed_none run n now

  repeats_none : (count : ℕ) (run : Option Run) (n now : ℕ)
      → first_numbers_of (repeats entries side run n now count) ≡ []
  repeats_none zero run n now = closed_none run n now
  repeats_none (suc count) run n now =
      let o = placed side n entries in
      let one = repeat_one run n now o in
      let more = repeats entries side (run_after run n o) (n + 1) now count in
      first_numbers-append one more ∙ ap (λ l. l ++ first_numbers_of more) (one_none run n now o)
      ∙ repeats_none count (run_after run n o) (n + 1) now

  pub repeated_none : (now : ℕ) (o : Option Repeat) → first_numbers_of
      (repeated_to side entries now o) ≡ []
  repeated_none now None = refl
  repeated_none now (Some r) = go (is_side side r.side)
    where
      go : (b : Bool) → first_numbers_of
          (if b then repeat_forms entries side r.from r.to now else []) ≡ []
      go true = repeats_none (r.to + 1 - r.from) None r.from now
      go false = refl
