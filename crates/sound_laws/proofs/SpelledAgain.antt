-- A canonical spelling spells itself, and has no SOH where the bytes that it was read from had
-- none.
use Rattle.std.proofs.Common.{◌≡◌, ◌+◌, ℕ, zero, suc, List, [], ◌∷◌, ◌++◌, length, take, Some, Bool}
use Rattle.std.proofs.Common.{true, false, refl, sym, ap, subst, ◌∙◌, arith}
use Rattle.std.specs.Prelude.{Result, Ok, Err, not, nat_le, ◌==◌, ◌&&◌, if◌then◌else◌}
use Rattle.std.specs.Int.{is_negative}
use Rattle.std.specs.Char.{is_ascii_digit}
use Rattle.std.specs.List.{list_any, list_all}
use Rattle.std.proofs.lemmas.Bool.Decides.{nat_tests}
use Rattle.typed_fields.specs.declared.fault.FieldFault.{FieldFault}
use Rattle.typed_fields.specs.declared.fault.FieldFault.TheVariants.{Form, Range}
use Rattle.typed_fields.specs.declared.number.Number.{Number as NumberValue}
use Rattle.typed_fields.specs.declared.dec.Dec.{Dec}
use Rattle.value_kinds.specs.ValueKind.{ValueKind, Filled, Id, Text, OneByte, Code, Known, Codes}
use Rattle.value_kinds.specs.ValueKind.{Word, Currency, Flag, Number, Reason, Qty, Price, Stamp}
use Rattle.value_kinds.specs.ValueKind.{FineStamp, Day, MonthYear, DayOfMonth, Spelling, spelling}
use Rattle.value_kinds.specs.ValueKind.{spelt, if_in_range, listed_word, most_reason}
use Rattle.typed_fields.specs.Number.{IsNumber, read_number, number_text, is_number_form}
use Rattle.typed_fields.specs.Dec.{read_dec, dec_text, has_minus, whole_digits, fraction_digits}
use Rattle.typed_fields.specs.Dec.{whole_part, fraction_part, with_point, sign_text, is_dec_form}
use Rattle.typed_fields.specs.Dec.{is_dec_bounded}
use Rattle.typed_fields.specs.Digits.{without_leading_zeros, or_zero, are_digits, number_of}
use Rattle.typed_fields.specs.declared.stamp.Stamp.{Stamp as StampValue}
use Rattle.typed_fields.specs.Stamp.{cut, cut_text, read_fine, read_stamp}
use Rattle.typed_fields.proofs.StampLaws.{read_cut, read_finer, read_whole}
use Rattle.typed_fields.proofs.NumberLaws.{number_reads_back, number_in_bound, number_is_plain}
use Rattle.typed_fields.proofs.NumberLaws.{are_digits-or_zero}
use Rattle.typed_fields.proofs.DecLaws.{dec_is_stable, dec_is_plain}
use Rattle.field_groups.specs.Field.{is_soh}
use Rattle.typed_fields.proofs.DigitsLemmas.{are_digits-leading, are_digits-trailing}
use Rattle.typed_fields.proofs.SpellingLemmas.{judged_ok}
use Rattle.typed_fields.proofs.LawLemmas.{stable_in_bound}
use Rattle.typed_fields.specs.Laws.{IsStable}
use Rattle.sound_laws.specs.Sound.{IsClear}
use Rattle.sound_laws.proofs.Each.{both as both_true, either, neither}

-- kinds whose values are spelled by their own bytes
abbrev pub is_own : ValueKind → Bool
is_own Number = false
is_own Reason = false
is_own Qty = false
is_own Price = false
is_own DayOfMonth = false
is_own FineStamp = false
is_own kind = true

-- these bytes are the spelling, if any
abbrev pub Same : Spelling → List ℕ → Type 0
Same spelled bytes = (text : List ℕ) → spelled ≡ Ok (Some text) → text ≡ bytes

pub if_good : (good : Bool) (fault : FieldFault) (bytes text : List ℕ)
    → (if good then Ok (Some bytes) else Err fault) ≡ Ok (Some text)
    → (good ≡ true) × (text ≡ bytes)
if_good true fault bytes text h = let same : text ≡ bytes = cc in (refl, same)
if_good false fault bytes text h = absurd cc

if_listed : (listed : Bool) (bytes : List ℕ) → Same (Ok (listed_word listed bytes)) bytes
if_listed true bytes text h = cc
if_listed false bytes text h = absurd cc

if_spaced : (parted listed : Bool) (bytes : List ℕ)
    → Same (if parted then Ok (listed_word listed bytes) else Err Form) bytes
if_spaced true listed bytes text h = if_listed listed bytes text h
if_spaced false listed bytes text h = absurd cc

pub if_read : {A : Type 0} (r : Result A FieldFault) (bytes : List ℕ)
    → Same (spelt (λ _. bytes) r) bytes
if_read (Ok x) bytes text h = cc
if_read (Err fault) bytes text h = absurd cc

pub own_bytes : (kind : ValueKind) (bytes : List ℕ)
    → is_own kind ≡ true → Same (spelling kind bytes) bytes
unfolding spelling
own_bytes Filled (b ∷ bs) own text h = cc
own_bytes Id (b ∷ bs) own text h = (if_good _ _ (b ∷ bs) text h).1
own_bytes Text (b ∷ bs) own text h = (if_good _ _ (b ∷ bs) text h).1
own_bytes OneByte (b ∷ bs) own text h = (if_good _ _ (b ∷ bs) text h).1
own_bytes (Code listed) (b ∷ bs) own text h = if_listed _ (b ∷ bs) text h
own_bytes (Known listed) (b ∷ bs) own text h = (if_good _ _ (b ∷ bs) text h).1
own_bytes (Codes listed) (b ∷ bs) own text h = if_spaced _ _ (b ∷ bs) text h
own_bytes (Word listed) (b ∷ bs) own text h = if_listed _ (b ∷ bs) text h
own_bytes Currency (b ∷ bs) own text h = (if_good _ _ (b ∷ bs) text h).1
own_bytes Flag (b ∷ bs) own text h = if_read _ (b ∷ bs) text h
own_bytes Stamp (b ∷ bs) own text h = if_read _ (b ∷ bs) text h
own_bytes Day (b ∷ bs) own text h = if_read _ (b ∷ bs) text h
own_bytes MonthYear (b ∷ bs) own text h = if_read _ (b ∷ bs) text h
own_bytes kind bytes own text h = absurd cc

-- ---- texts without SOH

pub clear_joined : (xs ys : List ℕ) → IsClear xs → IsClear ys → IsClear (xs ++ ys)
clear_joined [] ys h k = k
clear_joined (x ∷ xs) ys h k =
    let p = either (x == 1) _ h in neither (x == 1) _ p.0 (clear_joined xs ys p.1 k)

pub clear_front : (n : ℕ) (bytes : List ℕ) → IsClear bytes → IsClear (take n bytes)
clear_front zero bytes h = refl
clear_front (suc n) [] h = refl
clear_front (suc n) (b ∷ bs) h =
    let p = either (b == 1) (list_any is_soh bs) h in
    neither (b == 1) (list_any is_soh (take n bs)) p.0 (clear_front n bs p.1)

digit_clear : (d : ℕ) → is_ascii_digit d ≡ true → (d == 1) ≡ false
digit_clear d h = grind (arith, nat_tests)

pub digits_clear : (ds : List ℕ) → are_digits ds ≡ true → IsClear ds
unfolding are_digits
digits_clear [] h = refl
digits_clear (d ∷ ds) h =
    let p = both_true (is_ascii_digit d) (list_all is_ascii_digit ds) h in
    neither (d == 1) (list_any is_soh ds) (digit_clear d p.0) (digits_clear ds p.1)

sign_clear : (minus : Bool) → IsClear (sign_text minus)
sign_clear true = refl
sign_clear false = refl

point_clear : (ds : List ℕ) → IsClear ds → IsClear (with_point ds)
point_clear [] h = refl
point_clear (d ∷ ds) h = h

number_clear : (bytes : List ℕ) (n : NumberValue) → read_number bytes ≡ Ok n
    → IsClear (number_text n)
number_clear bytes n e =
    let j = judged_ok bytes (is_number_form bytes)
    (nat_le (number_of bytes) 1_000_000_000) (record { value = number_of bytes }) n e in
    let digits = both_true (are_digits bytes) (nat_le (length bytes) 10) j.form in
    let kept = without_leading_zeros bytes in
    subst IsClear (sym (number_is_plain bytes n e))
    (digits_clear (or_zero kept) (are_digits-or_zero kept (are_digits-leading bytes digits.0)))

dec_clear : (bytes : List ℕ) (d : Dec) → read_dec bytes ≡ Ok d → IsClear (dec_text d)
dec_clear bytes d e =
    let j = judged_ok bytes (is_dec_form bytes) (is_dec_bounded bytes) _ d e in
    let form = both_true (nat_le (length bytes) 32) _ j.form in
    let whole = both_true (are_digits (whole_part bytes)) _ form.1 in
    let fraction = both_true (are_digits (fraction_part bytes)) _ whole.1 in
    let w = whole_digits bytes in
    let minus = has_minus bytes && not (length w + length (fraction_digits bytes) == 0) in
    subst IsClear (sym (dec_is_plain bytes d e))
    (clear_joined (sign_text minus ++ or_zero w) (with_point (fraction_digits bytes))
    (clear_joined (sign_text minus) (or_zero w) (sign_clear minus) (digits_clear
    (or_zero w) (are_digits-or_zero w (are_digits-leading (whole_part bytes) whole.0))))
    (point_clear (fraction_digits bytes) (digits_clear
    (fraction_digits bytes) (are_digits-trailing (fraction_part bytes) fraction.0))))

-- ---- moments: a fine one that is cut is one of FIX 4.2, and one of FIX 4.2 is a fine one

stamp_spells : (text : List ℕ) (s : StampValue) → read_stamp text ≡ Ok s
    → spelling Stamp text ≡ Ok (Some text)
unfolding spelling
stamp_spells [] s e = absurd cc
stamp_spells (b ∷ bs) s e = ap (spelt (λ _. b ∷ bs)) e

pub fine_down : (bytes text : List ℕ)
    → spelling FineStamp bytes ≡ Ok (Some text) → spelling Stamp text ≡ Ok (Some text)
unfolding spelling
fine_down [] text h = absurd cc
fine_down (b ∷ bs) text h = by (read_fine (b ∷ bs)) refl h
  where
    by : (r : Result StampValue FieldFault) → read_fine (b ∷ bs) ≡ r
        → spelt (λ _. cut_text (b ∷ bs)) r ≡ Ok (Some text) → spelling Stamp text ≡ Ok (Some text)
    by (Ok s) e h =
        let same : cut_text (b ∷ bs) ≡ text = cc in
        let P : List ℕ → Type 0 = λ t. spelling Stamp t ≡ Ok (Some t) in
        subst P same (stamp_spells (cut_text (b ∷ bs)) (cut s) (read_cut (b ∷ bs) s e))
    by (Err fault) e h = absurd cc

pub fine_up : (text : List ℕ)
    → spelling Stamp text ≡ Ok (Some text) → spelling FineStamp text ≡ Ok (Some text)
unfolding spelling
fine_up [] h = absurd cc
fine_up (b ∷ bs) h = by (read_stamp (b ∷ bs)) refl h
  where
    by : (r : Result StampValue FieldFault) → read_stamp (b ∷ bs) ≡ r
        → spelt (λ _. b ∷ bs) r ≡ Ok (Some (b ∷ bs))
        → spelt (λ _. cut_text (b ∷ bs)) (read_fine (b ∷ bs)) ≡ Ok (Some (b ∷ bs))
    by (Ok s) e h = ap (spelt (λ _. cut_text (b ∷ bs))) (read_finer (b ∷ bs) s e)
        ∙ ap (λ t. Ok (Some t)) (read_whole (b ∷ bs) s e)
    by (Err fault) e h = absurd cc

-- two digits
pub record IsTwo (bytes text : List ℕ) : Type 0 where
  pub ten : ℕ
  pub one : ℕ
  pub is : text ≡ ten ∷ one ∷ []
  pub ten_digit : is_ascii_digit ten ≡ true
  pub one_digit : is_ascii_digit one ≡ true

pub two_of : (bytes text : List ℕ) → spelling DayOfMonth bytes ≡ Ok (Some text) → IsTwo bytes text
unfolding spelling
two_of (b ∷ []) text h =
    let p = if_good (is_ascii_digit b) Form (48 ∷ b ∷ []) text h in
    record { ten = 48; one = b; is = p.1; ten_digit = refl; one_digit = p.0 }
two_of (b ∷ c ∷ []) text h =
    let p = if_good (is_ascii_digit b && is_ascii_digit c) Form (b ∷ c ∷ []) text h in
    let d = both_true (is_ascii_digit b) (is_ascii_digit c) p.0 in
    record { ten = b; one = c; is = p.1; ten_digit = d.0; one_digit = d.1 }
two_of other text h = absurd cc

two_again : (ten one : ℕ) → is_ascii_digit ten ≡ true
    → is_ascii_digit one ≡ true → spelling DayOfMonth (ten ∷ one ∷ []) ≡ Ok (Some (ten ∷ one ∷ []))
unfolding spelling
two_again ten one e f = rw (e, f) refl

-- ---- values that are spelled as they are written

-- what bytes are read as is read of its spelling, which has no SOH
record ReadsAgain {A : Type 0} (read : List ℕ → Result A FieldFault) (write : A → List ℕ) : Type 0
  where
    some : (x : A) → read [] ≡ Ok x → ⊥
    back : IsStable read write
    clear : (bytes : List ℕ) (x : A) → read bytes ≡ Ok x → IsClear (write x)

numbers : ReadsAgain read_number number_text
numbers = record {
  some = λ x e. absurd cc;
  back = stable_in_bound read_number IsNumber number_text number_reads_back number_in_bound;
  clear = number_clear;
}

decimals : ReadsAgain read_dec dec_text
decimals = record { some = λ x e. absurd cc; back = dec_is_stable; clear = dec_clear }

in_range : {A : Type 0} (good : A → Bool) (r : Result A FieldFault) (x : A)
    → if_in_range good r ≡ Ok x → (r ≡ Ok x) × (good x ≡ true)
in_range good (Err fault) x h = absurd cc
in_range good (Ok y) x h = let p = by (good y) refl h in (ap (λ z. Ok z) p.0, p.1)
  where
    by : (b : Bool) → good y ≡ b → (if b then Ok y else Err Range) ≡ Ok x
        → (y ≡ x) × (good x ≡ true)
    by true e h = let same : y ≡ x = cc in (same, ap good (sym same) ∙ e)
    by false e h = absurd cc

ranged : {A : Type 0} (good : A → Bool) (read : List ℕ → Result A FieldFault)
    (write : A → List ℕ) → ReadsAgain read write
    → ReadsAgain (λ bytes. if_in_range good (read bytes)) write
ranged good read write r = record {
  some = λ x e. r.some x (in_range good (read []) x e).0;
  back = λ bytes x e. let g = in_range good (read bytes) x e in rw (r.back bytes x g.0, g.1) refl;
  clear = λ bytes x e. r.clear bytes x (in_range good (read bytes) x e).0;
}

-- a canonical spelling spells itself, and has no SOH where the bytes have none
record Again (kind : ValueKind) (bytes text : List ℕ) : Type 0 where
  spelled : spelling kind text ≡ Ok (Some text)
  clear : IsClear bytes → IsClear text

module _ {A : Type 0} (read : List ℕ → Result A FieldFault) (write : A → List ℕ)
    (r : ReadsAgain read write) (kind : ValueKind)
    (is : (b : ℕ) (bs : List ℕ) → spelling kind (b ∷ bs) ≡ spelt write (read (b ∷ bs))) where
  spells : (text : List ℕ) (x : A) → read text ≡ Ok x → spelling kind text ≡ Ok (Some (write x))
  spells [] x e = absurd (r.some x e)
  spells (b ∷ bs) x e = is b bs ∙ ap (spelt write) e

  again_by : (bytes text : List ℕ) (v : Result A FieldFault) → read bytes ≡ v
      → spelt write v ≡ Ok (Some text) → Again kind bytes text
  again_by bytes text (Ok x) e h =
      let same : write x ≡ text = cc in
      subst (Again kind bytes) same (record {
        spelled = spells (write x) x (r.back bytes x e);
        clear = λ c. r.clear bytes x e;
      })
  again_by bytes text (Err fault) e h = absurd cc

again : (kind : ValueKind) (bytes text : List ℕ) → spelling kind bytes ≡ Ok (Some text)
    → Again kind bytes text
unfolding spelling
again kind [] text h = absurd cc
again Number (b ∷ bs) text h =
    again_by read_number number_text numbers Number (λ c cs. refl) (b ∷ bs) text _ refl h
again Reason (b ∷ bs) text h =
    let small = λ (n : NumberValue). nat_le n.value most_reason in
    again_by _ number_text (ranged small read_number number_text numbers) Reason (λ c cs. refl)
    (b ∷ bs) text _ refl h
again Qty (b ∷ bs) text h =
    let positive = λ (d : Dec). not (is_negative d.units) in
    again_by _ dec_text (ranged positive read_dec dec_text decimals) Qty (λ c cs. refl)
    (b ∷ bs) text _ refl h
again Price (b ∷ bs) text h =
    again_by read_dec dec_text decimals Price (λ c cs. refl) (b ∷ bs) text _ refl h
again FineStamp (b ∷ bs) text h = record {
  spelled = fine_up text (fine_down (b ∷ bs) text h);
  clear = λ c. subst IsClear (sym (if_read (read_fine (b ∷ bs)) (cut_text (b ∷ bs)) text h))
      (clear_front 21 (b ∷ bs) c);
}
again DayOfMonth (b ∷ bs) text h =
    let t = two_of (b ∷ bs) text h in
    subst (Again DayOfMonth (b ∷ bs)) (sym t.is) (record {
      spelled = two_again t.ten t.one t.ten_digit t.one_digit;
      clear = λ c. neither (t.ten == 1) _ (digit_clear t.ten t.ten_digit)
          (neither (t.one == 1) false (digit_clear t.one t.one_digit) refl);
    })
again kind (b ∷ bs) text h =
    let same = own_bytes kind (b ∷ bs) refl text h in
    record { spelled = ap (spelling kind) same ∙ h; clear = subst IsClear (sym same) }

-- A CANONICAL SPELLING SPELLS ITSELF,
pub spelled_again : (kind : ValueKind) (bytes text : List ℕ)
    → spelling kind bytes ≡ Ok (Some text) → spelling kind text ≡ Ok (Some text)
spelled_again kind bytes text h = (again kind bytes text h).spelled

-- AND HAS NO SOH, where the bytes have none.
pub spelled_clear : (kind : ValueKind) (bytes text : List ℕ)
    → IsClear bytes → spelling kind bytes ≡ Ok (Some text) → IsClear text
spelled_clear kind bytes text c h = (again kind bytes text h).clear c
