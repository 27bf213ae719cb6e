-- The number that a refusal names, by its bytes and by its row.
use Rattle.std.proofs.Common.{◌≡◌, ◌≤◌, ℕ, ◌==◌, ◌&&◌, Bool, true, false, List, [], ◌∷◌, length}
use Rattle.std.proofs.Common.{nat_le, Option, Some, None, Ok, Err, refl, sym, ap, ◌∙◌, arith}
use Rattle.std.proofs.Common.{if◌then◌else◌}
use Rattle.std.specs.Fmt.{decimal}
use Rattle.std.specs.Int.{is_in_range}
use Rattle.std.specs.Str.Parse.{digits_value}
use Rattle.std.proofs.lemmas.Bool.Decides.{nat_tests}
use Rattle.typed_fields.specs.declared.fault.FieldFault.TheVariants.{Empty, Form, Range}
use Rattle.typed_fields.specs.Digits.{are_digits, number_of}
use Rattle.typed_fields.specs.Number.{number_text}
use Rattle.field_groups.specs.Field.{Field}
use Rattle.field_groups.specs.HeadValues.{number_in}
use Rattle.message_tables.specs.Tables.{◌>>=◌, text_of, value_at}
use Rattle.value_kinds.specs.ValueKind.{Number, spelling, spelt}
use Rattle.row_values.specs.Kinds.{Value, judge, said, verdict_of}
use Rattle.sound_laws.proofs.GroupStage.{number_said as number_read}

-- the number that digits spell is said again by their canonical spelling
pub number_again : (n : ℕ) → n ≤ 1_000_000_000 → number_in (decimal n) ≡ Some n
number_again n few = number_read n few

at_most : (n most : ℕ) → nat_le n most ≡ true → n ≤ most
at_most n most test = grind (arith, nat_tests)

in_range : (n : ℕ) (short : Bool) → 1 ≤ n → nat_le n 10 ≡ short → is_in_range 1 10 n ≡ short
in_range n true some test = grind (arith, nat_tests)
in_range n false some test = grind (arith, nat_tests)

filled : (n : ℕ) → 1 ≤ n → (n == 0) ≡ false
filled n some = grind (arith, nat_tests)

by_tests : (value : ℕ) (digits short few : Bool) → nat_le value 1_000_000_000 ≡ few
    → (text_of (verdict_of (spelt number_text (if digits && short
    then (if few then Ok (record { value = value }) else Err Range) else Err Form))) >>= number_in)
    ≡ (if short && (digits && few) then Some value else None)
by_tests value true true true test =
    number_again value (at_most value 1_000_000_000 test)
by_tests value true true false test = refl
by_tests value false true few test = refl
by_tests value digits short few test = refl

-- a value says the same number by its bytes and as it is judged
number_said_by : (fields : List Field) (bytes : List ℕ)
    → (text_of (judge fields (Value Number) bytes) >>= number_in) ≡ number_in bytes
unfolding judge spelling number_in number_of are_digits
number_said_by fields [] = refl
number_said_by fields (b ∷ bs) =
    let v = b ∷ bs in
    let some : (length v == 0) ≡ false = filled (length v) (omega arith) in
    let range = in_range (length v) (nat_le (length v) 10) (omega arith) refl in
    ap (λ (empty : Bool). text_of (verdict_of (spelt number_text (if empty then Err Empty else
    (if are_digits v && nat_le (length v) 10
    then (if nat_le (digits_value 10 v) 1_000_000_000
    then Ok (record { value = digits_value 10 v }) else Err Range) else Err Form)))) >>= number_in)
    some
    ∙ by_tests (digits_value 10 v) (are_digits v) (nat_le (length v) 10)
    (nat_le (digits_value 10 v) 1_000_000_000) refl
    ∙ ap (λ (r : Bool). if r && (are_digits v && nat_le (digits_value 10 v) 1_000_000_000)
    then Some (digits_value 10 v) else None) (sym range)

-- THE NUMBER at a tag
pub number_said : (fields : List Field) (tag : ℕ)
    → (said fields tag (Value Number) >>= number_in) ≡ (value_at tag fields >>= number_in)
number_said fields tag = by (value_at tag fields)
  where
    by : (value : Option (List ℕ))
        → ((value >>= (λ bytes. text_of (judge fields (Value Number) bytes))) >>= number_in)
        ≡ (value >>= number_in)
    by None = refl
    by (Some bytes) = number_said_by fields bytes
