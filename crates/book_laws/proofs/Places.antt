-- Where an entry stands in a journal, and where each other one stands beside it.
use Rattle.std.proofs.Common.{◌≡◌, List, [], ◌∷◌, ◌++◌, refl, sym, ◌∙◌, subst, inl, inr, ◌⊎◌}
use Rattle.pair_entries.specs.declared.entry.Entry.{Entry}
use Rattle.book_laws.specs.Keeps.{In, Each}

pub in-front : {X : Type 0} (z : X) (xs ys : List X) → In z xs → In z (xs ++ ys)
in-front z [] ys i = absurd i
in-front z (x ∷ xs) ys (inl same) = inl same
in-front z (x ∷ xs) ys (inr i) = inr (in-front z xs ys i)

in-last : {X : Type 0} (z : X) (xs : List X) → In z (xs ++ z ∷ [])
in-last z [] = inl refl
in-last z (x ∷ xs) = inr (in-last z xs)

pub in-one : {X : Type 0} (z e : X) (xs : List X) → In z (xs ++ e ∷ []) → In z xs ⊎ (z ≡ e)
in-one z e [] (inl same) = inr same
in-one z e [] (inr i) = absurd i
in-one z e (x ∷ xs) (inl same) = inl (inl same)
in-one z e (x ∷ xs) (inr i) = elim (in-one z e xs i) [
  | inl front ↦ inl (inr front)
  | inr same ↦
      inr same
]

module _ (P : List Entry → Entry → Type 0) where
  -- an entry with the list that stands before it
  pub record Later (before : List Entry) (z : Entry) : Type 0 where
    pub past : List Entry
    pub has : P past z
    pub over : (w : Entry) → In w before → In w past

  -- z stands before e, is e, or stands behind it
  pub data Beside (past : List Entry) (e z : Entry) : Type 0 where
    Earlier : In z past → Beside past e z
    Itself : z ≡ e → Beside past e z
    Behind : (after : List Entry) → In e after → P after z → Beside past e z

  pub record Place (before entries : List Entry) (e : Entry) : Type 0 where
    pub past : List Entry
    pub has : P past e
    pub over : (w : Entry) → In w before → In w past
    pub within : (z : Entry) → In z past → In z before ⊎ In z entries
    pub beside : (z : Entry) → In z entries → Beside past e z

  later : (before entries : List Entry) → Each P before entries → (z : Entry) → In z entries
      → Later before z
  later before [] each z i = absurd i
  later before (e ∷ entries) each z (inl same) = record {
    past = before;
    has = subst (P before) (sym same) each.0;
    over = λ w i. i;
  }
  later before (e ∷ entries) each z (inr i) =
      let l = later (before ++ e ∷ []) entries each.1 z i in
      record { past = l.past; has = l.has; over = λ w j. l.over w (in-front w before (e ∷ []) j) }

  pub place : (before entries : List Entry) → Each P before entries → (e : Entry) → In e entries
      → Place before entries e
  place before [] each e i = absurd i
  place before (x ∷ entries) each e (inl same) = record {
    past = before;
    has = subst (P before) (sym same) each.0;
    over = λ w i. i;
    within = λ z i. inl i;
    beside = λ z i. at z i;
  }
    where
      at : (z : Entry) → In z (x ∷ entries) → Beside before e z
      at z (inl is) = Itself (is ∙ sym same)
      at z (inr i) = let l = later (before
          ++ x ∷ []) entries each.1 z i in Behind l.past (l.over e (subst (λ y. In y (before
          ++ x ∷ [])) (sym same) (in-last x before))) l.has
  place before (x ∷ entries) each e (inr i) =
      let p = place (before ++ x ∷ []) entries each.1 e i in
      record {
        past = p.past;
        has = p.has;
        over = λ w j. p.over w (in-front w before (x ∷ []) j);
        within = λ z j. elim (p.within z j) [
          | inl front ↦ elim (in-one z x before front) [ inl b ↦ inl b | inr same ↦ inr (inl same) ]
          | inr rest ↦ inr (inr rest)
        ];
        beside = λ z j. elim j [
          | inl same ↦ Earlier (p.over z (subst (λ y. In y (before
              ++ x ∷ [])) (sym same) (in-last x before)))
          | inr rest ↦ p.beside z rest
        ];
      }
