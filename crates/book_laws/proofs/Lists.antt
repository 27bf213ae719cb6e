-- Lists of which some elements count, and two lists that correspond one to one.
use Rattle.std.proofs.Common.{◌⊎◌, ◌≡◌, Bool, true, false, List, [], ◌∷◌, ◌++◌, refl, sym, ◌∙◌, ap}
use Rattle.std.proofs.Common.{subst, Some, None, inl, inr}
use Rattle.std.specs.Prelude.{◌||◌, cond, filter, fold, flat_map, filter_map}
use Rattle.std.specs.List.{list_any, cons_option}
use Rattle.std.specs.Option.{option_to_list}
use Rattle.std.specs.declared.option.Option.{Option}
use Rattle.std.proofs.lemmas.List.Folds.{list_any-append}
use Rattle.std.proofs.lemmas.List.Elements.{filter-append}
use Rattle.book_laws.specs.Keeps.{In}

abbrev pub option_any : {X : Type 0} → (X → Bool) → Option X → Bool
option_any q None = false
option_any q (Some x) = q x

pub any-flat : {X Y : Type 0} (p : Y → Bool) (f : X → List Y) (xs : List X)
    → list_any p (flat_map f xs) ≡ list_any (λ x. list_any p (f x)) xs
any-flat p f [] = refl
any-flat p f (x ∷ xs) = list_any-append p (f x) (flat_map f xs)
    ∙ ap (λ b. list_any p (f x) || b) (any-flat p f xs)

any-more : {Y : Type 0} (q : Y → Bool) (o : Option Y) (l : List Y) (b : Bool) → list_any q l ≡ b
    → list_any q (cons_option o l) ≡ (option_any q o || b)
any-more q None l b is = is
any-more q (Some y) l b is = ap (λ c. q y || c) is

pub any-chosen : {X Y : Type 0} (q : Y → Bool) (f : X → Option Y) (xs : List X)
    → list_any q (filter_map f xs) ≡ list_any (λ x. option_any q (f x)) xs
any-chosen q f [] = refl
any-chosen q f (x ∷ xs) = any-more q (f x) (filter_map f xs) (list_any (λ y. option_any q (f y))
    xs) (any-chosen q f xs)

or-both : (a b c d : Bool) → a ≡ b → c ≡ d → (a || c) ≡ (b || d)
or-both a b c d e f = ap (λ x. x || c) e ∙ ap (λ x. b || x) f

pub any-same : {X : Type 0} (p q : X → Bool) (xs : List X) → ((x : X) → In x xs → p x ≡ q x)
    → list_any p xs ≡ list_any q xs
any-same p q [] same = refl
any-same p q (x ∷ xs) same = or-both (p x) (q x) (list_any p xs) (list_any q xs) (same x (inl
    refl)) (any-same p q xs (λ y i. same y (inr i)))

pub any-none : {X : Type 0} (p : X → Bool) (xs : List X) → ((x : X) → In x xs → p x ≡ false)
    → list_any p xs ≡ false
any-none p [] none = refl
any-none p (x ∷ xs) none = ap (λ b. b || list_any p xs) (none x (inl refl))
    ∙ any-none p xs (λ y i. none y (inr i))

or-true : (a : Bool) → (a || true) ≡ true
or-true true = refl
or-true false = refl

pub any-here : {X : Type 0} (p : X → Bool) (xs : List X) (x : X) → In x xs → p x ≡ true
    → list_any p xs ≡ true
any-here p [] x i is = absurd i
any-here p (y ∷ ys) x (inl same) is = ap (λ b. b || list_any p ys) (ap p (sym same) ∙ is)
any-here p (y ∷ ys) x (inr i) is = ap (λ b. p y || b) (any-here p ys x i is) ∙ or-true (p y)

pub filter-none : {X : Type 0} (q : X → Bool) (xs : List X) → ((x : X) → In x xs → q x ≡ false)
    → filter q xs ≡ []
filter-none q [] none = refl
filter-none q (x ∷ xs) none = ap (λ b. cond b (x ∷ filter q xs) (filter q xs)) (none x (inl
    refl)) ∙ filter-none q xs (λ y i. none y (inr i))

abbrev pub Twins : {X Y : Type 0} → (X → Y → Type 0) → List X → List Y → Type 0
Twins R [] [] = Unit {0}
Twins R [] (y ∷ ys) = ⊥
Twins R (x ∷ xs) [] = ⊥
Twins R (x ∷ xs) (y ∷ ys) = R x y × Twins R xs ys

module _ {X Y : Type 0} (R : X → Y → Type 0) where
  twins-append : (a : List X) (b : List Y) (c : List X) (d : List Y) → Twins R a b → Twins R c d
      → Twins R (a ++ c) (b ++ d)
  twins-append [] [] c d first second = second
  twins-append [] (y ∷ b) c d first second = absurd first
  twins-append (x ∷ a) [] c d first second = absurd first
  twins-append (x ∷ a) (y ∷ b) c d first second = (first.0, twins-append a b c d first.1 second)

  filter-cons : (p : X → Bool) (o : Option X) (l : List X)
      → filter p (cons_option o l) ≡ filter p (option_to_list o) ++ filter p l
  filter-cons p None l = refl
  filter-cons p (Some x) l = go (p x)
    where
      go : (b : Bool) → cond b (x ∷ filter p l) (filter p l) ≡ cond b (x ∷ []) [] ++ filter p l
      go true = refl
      go false = refl

  pub twins-each : {E : Type 0} (f : E → Option X) (g : E → List Y) (p : X → Bool) (q : Y
      → Bool) (es : List E)
      → ((e : E) → In e es → Twins R (filter p (option_to_list (f e))) (filter q (g e)))
      → Twins R (filter p (filter_map f es)) (filter q (flat_map g es))
  twins-each f g p q [] each = tt
  twins-each f g p q (e ∷ es) each =
      let rest = twins-each f g p q es (λ y i. each y (inr i)) in
      let both = twins-append (filter p (option_to_list (f e))) (filter q (g e)) (filter p
      (filter_map f es)) (filter q (flat_map g es)) (each e (inl refl)) rest in
      subst (λ l. Twins R l (filter q (g e
      ++ flat_map g es))) (sym (filter-cons p (f e) (filter_map f es)))
      (subst (λ l. Twins R (filter p (option_to_list (f e))
      ++ filter p (filter_map f es)) l) (sym (filter-append q (g e) (flat_map g es))) both)

  pub twins-one : (x : X) (y : Y) (a b : Bool) → a ≡ b → R x y
      → Twins R (cond a (x ∷ []) []) (cond b (y ∷ []) [])
  twins-one x y a true same r = subst (λ c. Twins R (cond c (x ∷ []) []) (y ∷ [])) (sym same) (
    r,
    tt,
  )
  twins-one x y a false same r = subst (λ c. Twins R (cond c (x ∷ []) []) []) (sym same) tt

  pub twins-map : {V : Type 0} (f : X → Option V) (g : Y → Option V) → ((x : X) (y : Y) → R x y
      → f x ≡ g y) → (xs : List X) (ys : List Y) → Twins R xs ys → filter_map f xs ≡ filter_map g ys
  twins-map f g same [] [] t = refl
  twins-map f g same [] (y ∷ ys) t = absurd t
  twins-map f g same (x ∷ xs) [] t = absurd t
  twins-map f g same (x ∷ xs) (y ∷ ys) t = ap (λ o. cons_option o (filter_map f xs)) (same x y
      t.0) ∙ ap (λ l. cons_option (g y) l) (twins-map f g same xs ys t.1)

  pub twins-fold : {B : Type 0} (f : B → X → B) (g : B → Y → B) → ((x : X) (y : Y) → R x y
      → (b : B) → f b x ≡ g b y) → (xs : List X) (ys : List Y) → Twins R xs ys → (b : B)
      → fold f b xs ≡ fold g b ys
  twins-fold f g same [] [] t b = refl
  twins-fold f g same [] (y ∷ ys) t b = absurd t
  twins-fold f g same (x ∷ xs) [] t b = absurd t
  twins-fold f g same (x ∷ xs) (y ∷ ys) t b = ap (λ c. fold f c xs) (same x y t.0 b)
      ∙ twins-fold f g same xs ys t.1 (g b y)

-- ---- elements

pub in-either : {X : Type 0} (xs ys : List X) (z : X) → In z (xs ++ ys) → In z xs ⊎ In z ys
in-either [] ys z i = inr i
in-either (x ∷ xs) ys z (inl same) = inl (inl same)
in-either (x ∷ xs) ys z (inr i) =
    elim (in-either xs ys z i) [ inl a ↦ inl (inr a) | inr b ↦ inr b ]

pub in-flat : {X Y : Type 0} (f : X → List Y) (xs : List X) (y : Y) → In y (flat_map f xs)
    → (x : X) × In x xs × In y (f x)
in-flat f [] y i = absurd i
in-flat f (x ∷ xs) y i = elim (in-either (f x) (flat_map f xs) y i) [
  | inl a ↦ (x, inl refl, a)
  | inr b ↦ let r = in-flat f xs y b in (r.0, inr r.1, r.2)
]

in-cons : {Y : Type 0} (o : Option Y) (l : List Y) (y : Y) → In y l → In y (cons_option o l)
in-cons None l y i = i
in-cons (Some a) l y i = inr i

pub in-chosen : {X Y : Type 0} (f : X → Option Y) (xs : List X) (x : X) → In x xs
    → (y : Y) → f x ≡ Some y → In y (filter_map f xs)
in-chosen f [] x i y is = absurd i
in-chosen f (z ∷ xs) x (inl same) y is =
    subst (λ o. In y (cons_option o (filter_map f xs))) (sym (ap f (sym same) ∙ is)) (inl refl)
in-chosen f (z ∷ xs) x (inr i) y is = in-cons (f z) (filter_map f xs) y (in-chosen f xs x i y is)
