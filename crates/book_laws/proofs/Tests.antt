-- Tests of what is set aside, at messages of each sort.
use Rattle.std.proofs.Common.{◌≡◌, ℕ, ◌<◌, Bool, true, false, List, [], ◌∷◌, refl, sym, ◌∙◌, ap}
use Rattle.std.proofs.Common.{subst, arith, Some, inl, inr}
use Rattle.std.specs.Prelude.{◌==◌, ◌&&◌, not, Option}
use Rattle.std.proofs.lemmas.Bool.{cases_eq}
use Rattle.std.proofs.lemmas.Bool.Decides.{nat_tests}
use Rattle.order_meaning.specs.declared.Side.{Side}
use Rattle.order_meaning.specs.declared.Side.TheVariants.{Client, Venue}
use Rattle.book_laws.specs.Heard.{Sort, Request, Report, Refusal, Plain, Heard, is_reject}
use Rattle.book_laws.specs.HeardLaws.{sort_from}
use Rattle.book_laws.specs.SetAside.{is_request, is_report, is_refusal, is_number, names, answers}
use Rattle.book_laws.specs.SetAside.{is_answered_off, refuses, counts}
use Rattle.book_laws.specs.Keeps.{In}

-- ---- tests

pub and-false : (a : Bool) → (a && false) ≡ false
and-false true = refl
and-false false = refl

pub letter-is-no-reject : (side : Side) → is_reject (sort_from side) ≡ false
letter-is-no-reject Client = refl
letter-is-no-reject Venue = refl

pub letter-is-no-refusal : (side : Side) → is_refusal (sort_from side) ≡ false
letter-is-no-refusal Client = refl
letter-is-no-refusal Venue = refl

pub not-equal : (a b : ℕ) → (a ≡ b → ⊥) → (a == b) ≡ false
not-equal a b differ = elim (cases_eq a b) [
  | inl same ↦ absurd (differ same)
  | inr other ↦ grind (arith, nat_tests)
]

pub equal : (a b : ℕ) → a ≡ b → (a == b) ≡ true
equal a b same = grind (arith, nat_tests)

pub is-equal : (a b : ℕ) → (a == b) ≡ true → a ≡ b
is-equal a b is = grind (arith, nat_tests)

pub not-below : (a b : ℕ) → a < b → a ≡ b → ⊥
not-below a b less same = omega (arith, less, same)

pub is-false : (b : Bool) → (b ≡ true → ⊥) → b ≡ false
is-false true never = absurd (never refl)
is-false false never = refl

pub not-both : {A : Type 0} (b : Bool) → b ≡ true → b ≡ false → A
not-both true is_so never = absurd (cc never)
not-both false is_so never = absurd (cc is_so)

pub no-element : {X A : Type 0} (x : X) (xs l : List X) → l ≡ [] → l ≡ x ∷ xs → A
no-element x xs l none some = absurd (cc (none, some))

pub in-head : {X : Type 0} (x : X) (xs l : List X) → l ≡ x ∷ xs → In x l
in-head x xs l is = subst (In x) (sym is) (inl refl)

pub same-head : {X : Type 0} (x y : X) (l : List X) → l ≡ x ∷ [] → l ≡ y ∷ [] → x ≡ y
same-head x y l a b = cc (a, b)

pub same-some : {X : Type 0} (x y : X) (o : Option X) → o ≡ Some x → o ≡ Some y → x ≡ y
same-some x y o a b = cc (a, b)

pub sort-answers : (n : ℕ) (m : Heard) → is_reject m.sort ≡ false → answers n m ≡ false
sort-answers n m never = ap (λ b. b && is_number m.number_named n) never

pub other-answers : (n k : ℕ) (m : Heard) → m.number_named ≡ Some k → (k ≡ n → ⊥)
    → answers n m ≡ false
other-answers n k m named differ = ap (λ b. is_reject m.sort && b) (ap (λ o. is_number o n) named
    ∙ not-equal k n differ) ∙ and-false (is_reject m.sort)

-- a Reject or j that names k
pub named-answers : (n k : ℕ) (m : Heard) → is_reject m.sort ≡ true → m.number_named ≡ Some k
    → answers n m ≡ (k == n)
named-answers n k m reject named = ap (λ b. b && is_number m.number_named n) reject
    ∙ ap (λ o. is_number o n) named

pub sort-refuses : (took : List Heard) (out r : Heard) → is_refusal r.sort ≡ false
    → refuses took out r ≡ false
sort-refuses took out r never = ap (λ b. (b && not (is_answered_off took r)) && names r out) never

pub off-refuses : (took : List Heard) (out r : Heard) → is_answered_off took r ≡ true
    → refuses took out r ≡ false
off-refuses took out r off = ap (λ b. (is_refusal r.sort && not b) && names r out) off
    ∙ ap (λ b. b && names r out) (and-false (is_refusal r.sort))

pub heard-refuses : (took : List Heard) (out r : Heard) → r.sort ≡ Refusal
    → is_answered_off took r ≡ false → refuses took out r ≡ names r out
heard-refuses took out r refusal off = ap (λ k. (is_refusal k && not (is_answered_off took r))
    && names r out) refusal ∙ ap (λ b. not b && names r out) off

-- only what is a refusal needs to name nothing
pub none-refuses : (took : List Heard) (out r : Heard) → (r.sort ≡ Refusal → names r out ≡ false)
    → refuses took out r ≡ false
none-refuses took out r none = go r.sort refl
  where
    go : (k : Sort) → r.sort ≡ k → refuses took out r ≡ false
    go Refusal is = ap (λ b. (is_refusal r.sort && not (is_answered_off took r)) && b) (none is)
        ∙ and-false (is_refusal r.sort && not (is_answered_off took r))
    go sort is = sort-refuses took out r (ap is_refusal is)

pub counts-none : (side : Side) (m : Heard) → is_request m.sort ≡ false
    → is_report m.sort ≡ false → counts side m ≡ false
counts-none Client m request report = ap (λ b. b && not m.resend) request
counts-none Venue m request report = report

pub counts-reject : (side : Side) (m : Heard) → is_reject m.sort ≡ true → counts side m ≡ false
counts-reject side m reject = go m.sort refl
  where
    go : (k : Sort) → m.sort ≡ k → counts side m ≡ false
    go Request is = not-both (is_reject m.sort) reject (ap is_reject is)
    go Report is = not-both (is_reject m.sort) reject (ap is_reject is)
    go sort is = counts-none side m (ap is_request is) (ap is_report is)

pub counts-plain : (side : Side) (m : Heard) → m.sort ≡ Plain → counts side m ≡ false
counts-plain side m is = counts-none side m (ap is_request is) (ap is_report is)

pub counts-same : (side : Side) (m out : Heard) → m.sort ≡ sort_from side
    → out.sort ≡ sort_from side → m.resend ≡ out.resend → counts side m ≡ counts side out
counts-same Client m out a b resend = ap (λ k. is_request k && not m.resend) (a ∙ sym b)
    ∙ ap (λ c. is_request out.sort && not c) resend
counts-same Venue m out a b resend = ap is_report (a ∙ sym b)

pub off-counts : (side : Side) (m : Heard) (b : Bool) → b ≡ true → (counts side m && not b) ≡ false
off-counts side m b is = ap (λ c. counts side m && not c) is ∙ and-false (counts side m)

pub no-counts : (side : Side) (m : Heard) (b : Bool) → counts side m ≡ false
    → (counts side m && not b) ≡ false
no-counts side m b is = ap (λ c. c && not b) is
