-- What the bytes of a line are.
use Rattle.std.proofs.Common.{◌≡◌, ◌≢◌, ◌==◌, ℕ, ◌+◌, ◌<◌, ◌≤◌, Bool, true, false, List, []}
use Rattle.std.proofs.Common.{◌∷◌, ◌++◌, map, length, get_or, take, drop, All, refl, sym, ◌∙◌}
use Rattle.std.proofs.Common.{ap, Some, subst, arith, inl, inr, if◌then◌else◌}
use Rattle.std.proofs.lemmas.Bool.{ne_eqb}
use Rattle.std.proofs.lemmas.List.Elements.{All-append, All-cons, All-get_or, All-head, All-nil}
use Rattle.std.proofs.lemmas.List.Elements.{All-tail}
use Rattle.std.proofs.lemmas.List.{map-append, take_more}
use Rattle.std.proofs.Math.Seq.{take-length}
use Rattle.capture_text.specs.Capture.{written, IsByte}
use Rattle.capture_text.specs.Line.{Writes}

abbrev IsPrinted : ℕ → Type 0
IsPrinted byte = (32 ≤ byte) × (byte ≤ 126)

is_printed : (byte : ℕ) → IsByte byte → IsPrinted (written byte)
is_printed byte (inl one) = subst (λ b. IsPrinted (written b)) (sym one) (omega arith, omega arith)
is_printed byte (inr (low, high, other)) = by_test (byte == 1)
  where
    by_test : (one : Bool) → IsPrinted (if one then 124 else byte)
    by_test true = (omega arith, omega arith)
    by_test false = (low, high)

are_printed : (bytes : List ℕ) → All IsByte bytes → All IsPrinted (map written bytes)
are_printed [] are = All-nil IsPrinted
are_printed (byte ∷ bytes) are =
    All-cons IsPrinted (written byte) (map written bytes)
    (is_printed byte (All-head IsByte byte bytes are))
    (are_printed bytes (All-tail IsByte byte bytes are))

-- a text with another byte is written of none
pub no_bytes : (text bytes : List ℕ) (i : ℕ) → i < length text
    → (32 ≤ get_or text i 0 → 126 < get_or text i 0) → All IsByte bytes
    → text ≢ map written bytes
no_bytes text bytes i within other are is =
    let printed : IsPrinted (get_or text i 0) = All-get_or IsPrinted text i 0 within
    (subst (All IsPrinted) (sym is) (are_printed bytes are)) in
    absurd (omega (arith, other printed.0, printed.1))

-- the bytes of the first of a text
pub record Taken (text : List ℕ) (i : ℕ) (bytes : List ℕ) : Type 0 where
  pub are : All IsByte bytes
  pub same : take i text ≡ map written bytes

pub taken_none : (text : List ℕ) → Taken text 0 []
taken_none text = record { are = All-nil IsByte; same = refl }

-- one byte more
pub taken_more : (text bytes : List ℕ) (i byte : ℕ) → i < length text
    → get_or text i 0 ≡ written byte → IsByte byte
    → Taken text i bytes → Taken text (i + 1) (bytes ++ byte ∷ [])
taken_more text bytes i byte within says is taken = record {
  are = All-append IsByte bytes (byte ∷ []) taken.are
      (All-cons IsByte byte [] is (All-nil IsByte));
  same = take_more text i 0 within
      ∙ ap (λ (l : List ℕ). l ++ get_or text i 0 ∷ []) taken.same
      ∙ ap (λ b. map written bytes ++ b ∷ []) says
      ∙ sym (map-append written bytes (byte ∷ []));
}

pub taken_all : (text bytes : List ℕ) → Taken text (length text) bytes
    → Writes text (Some bytes)
taken_all text bytes taken = (sym (take-length text) ∙ taken.same, taken.are)

as_it_is : (byte : ℕ) → 32 ≤ byte → written byte ≡ byte
as_it_is byte low = ap (λ (test : Bool). if test then 124 else byte)
    (ne_eqb byte 1 (λ is. absurd (omega (arith, is, low))))

bar_apart : (byte : ℕ) → byte ≢ 124 → written byte ≡ 124 → 32 ≤ byte → ⊥
bar_apart byte other is low = other (sym (as_it_is byte low) ∙ is)

-- two bytes that are written alike are one
one_byte : (x y : ℕ) → IsByte x → IsByte y → written x ≡ written y → x ≡ y
one_byte x y (inl is) (inl also) same = is ∙ sym also
one_byte x y (inl is) (inr (low, high, other)) same =
    absurd (bar_apart y other (sym (subst (λ b. written b ≡ written y) is same)) low)
one_byte x y (inr (low, high, other)) (inl is) same =
    absurd (bar_apart x other (subst (λ b. written x ≡ written b) is same) low)
one_byte x y (inr (low, high, other)) (inr (low_y, high_y, other_y)) same =
    sym (as_it_is x low) ∙ same ∙ as_it_is y low_y

pub written_once : (xs ys : List ℕ) → All IsByte xs → All IsByte ys
    → map written xs ≡ map written ys → xs ≡ ys
written_once [] [] are all same = refl
written_once [] (y ∷ ys) are all same = absurd (cc same)
written_once (x ∷ xs) [] are all same = absurd (cc same)
written_once (x ∷ xs) (y ∷ ys) are all same = λ i.
    one_byte x y (All-head IsByte x xs are) (All-head IsByte y ys all)
    (ap (λ (l : List ℕ). get_or l 0 0) same) i
    ∷ written_once xs ys (All-tail IsByte x xs are) (All-tail IsByte y ys all)
    (ap (λ (l : List ℕ). drop 1 l) same) i
