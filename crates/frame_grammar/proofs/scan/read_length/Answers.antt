use Rattle.std.proofs.Common.{◌≡◌, ℕ, zero, suc, ◌+◌, ◌-◌, ◌*◌, ◌^◌, ◌≤◌, [], ◌∷◌, length, take}
use Rattle.std.proofs.Common.{drop, get_or, sym, ◌∙◌, ap, arith, inl, inr, length-take, add-one}
use Rattle.std.proofs.Math.Nat.{pow-suc}
use Rattle.std.proofs.lemmas.List.{drop_more, take_more}
use Rattle.std.specs.Str.Parse.{digits_value}
use Rattle.frame_grammar.specs.Found.{found_length}
use Rattle.frame_grammar.proofs.Digits.{digit_low, digit_high, value_push}
use Rattle.frame_grammar.proofs.Scanned.{length_step, length_wrong}
use Rattle.frame_grammar.proofs.scan.read_length.Goals as goal
use Rattle.frame_grammar.proofs.scan.read_length.Goals.{
  then-not-is_ascii_digit-via-then-not-is_ascii_digit,
  then-not-is_ascii_digit-via-else-not-is_ascii_digit+then-digits-ge-MAX_LENGTH_DIGITS,
}

ten_small : (n : ℕ) → n ≤ 6 → 10 ^ n ≤ 1000000
ten_small zero h = omega arith
ten_small (suc zero) h = omega arith
ten_small (suc (suc zero)) h = omega arith
ten_small (suc (suc (suc zero))) h = omega arith
ten_small (suc (suc (suc (suc zero)))) h = omega arith
ten_small (suc (suc (suc (suc (suc zero))))) h = omega arith
ten_small (suc (suc (suc (suc (suc (suc zero)))))) h = omega arith
ten_small (suc (suc (suc (suc (suc (suc (suc n))))))) h = absurd (omega arith)

pub overflow_mul-said : goal.overflow_mul-said
overflow_mul-said c =
    let bound =
    ten_small c.loop-digits.digits (omega (arith, c.if-digits-ge-MAX_LENGTH_DIGITS.false)) in
    let small = c.loop-digits.invariant.small in
    omega (arith, bound, small)

pub overflow_add-said : goal.overflow_add-said
overflow_add-said c =
    let digit = sym c.is_ascii_digit.ensures.value ∙ c.if-not-is_ascii_digit.false in
    let bound =
    ten_small c.loop-digits.digits (omega (arith, c.if-digits-ge-MAX_LENGTH_DIGITS.false)) in
    let small = c.loop-digits.invariant.small in
    let b = get_or c.args.bytes.now c.loop-digits.digits 0 in
    omega (arith, digit_low b digit, digit_high b digit, bound, small)

pub returns-then-not-is_ascii_digit : goal.returns-then-not-is_ascii_digit
returns-then-not-is_ascii_digit c start =
    let bytes = c.args.bytes.now in
    let count = c.loop-digits.digits in
    let b = get_or bytes count 0 in
    let rest = drop (count + 1) bytes in
    let lt = c.loop-digits-test.true in
    let at : found_length start [] bytes ≡ found_length start (take count bytes) (b ∷ rest) =
    c.loop-digits.invariant.so_far start
    ∙ ap (found_length start (take count bytes)) (drop_more bytes count 0 lt) in
    let size : length (take count bytes) ≡ count = simp length-take (omega (arith, lt)) in (
      rest,
      at ∙ length_wrong start
          (take count bytes) b rest c.if-byte-eq-SOH.false (elim c.then-not-is_ascii_digit.branch [
            | then-not-is_ascii_digit-via-then-not-is_ascii_digit w ↦
                inl (sym c.is_ascii_digit.ensures.value ∙ w.if-not-is_ascii_digit.true)
            | then-not-is_ascii_digit-via-else-not-is_ascii_digit+then-digits-ge-MAX_LENGTH_DIGITS
                w ↦
                inr (omega (arith, size, w.if-digits-ge-MAX_LENGTH_DIGITS.true))
          ]),
    )

pub loop-digits-preserved : goal.loop-digits-preserved
loop-digits-preserved c =
    let bytes = c.args.bytes.now in
    let count = c.loop-digits.digits in
    let b = get_or bytes count 0 in
    let rest = drop (count + 1) bytes in
    let lt = c.loop-digits-test.true in
    let digit = sym c.is_ascii_digit.ensures.value ∙ c.if-not-is_ascii_digit.false in
    let low = digit_low b digit in
    let high = digit_high b digit in
    let size : length (take count bytes) ≡ count = simp length-take (omega (arith, lt)) in
    let front = take_more bytes count 0 lt in
    let power : 10 ^ (count + 1) ≡ 10 ^ count * 10 = rw add-one (pow-suc 10 count) in
    record {
      so_far = λ start.
          c.loop-digits.invariant.so_far start
          ∙ ap (found_length start (take count bytes)) (drop_more bytes count 0 lt)
          ∙ length_step start (take count bytes) b rest c.if-byte-eq-SOH.false
          digit (omega (arith, size, c.if-digits-ge-MAX_LENGTH_DIGITS.false))
          ∙ ap (λ s. found_length start s rest) (sym front);
      says = ap (λ n. 10 * n + (b - 48)) c.loop-digits.invariant.says
          ∙ sym (value_push (take count bytes) b digit) ∙ ap (digits_value 10) (sym front);
      small = omega (arith, power, low, high, c.loop-digits.invariant.small);
      few = omega (arith, c.if-digits-ge-MAX_LENGTH_DIGITS.false);
    }
