use Rattle.std.proofs.Common.{List, ℕ, ◌++◌, ◌∷◌, [], ap, sym, ◌∙◌, refl, arith, get_or, take}
use Rattle.std.proofs.lemmas.List.{append-nil, append_assoc, take_more}
use Rattle.typed_fields.specs.Digits.{are_digits}
use Rattle.typed_fields.proofs.DigitsLemmas.{FrontMore, front_more}
use Rattle.typed_fields.proofs.dec.push_front.Goals as goal

pub loop-len-init : goal.loop-len-init
unfolding are_digits
loop-len-init c = record {
  few = omega arith;
  within = omega arith;
  digits = refl;
  items = sym (append-nil c.args.out.now.items);
  long = omega arith;
  room = omega arith;
}

pub push_reserved-requires : goal.push_reserved-requires
push_reserved-requires c =
    omega (
      arith,
      c.requires,
      c.if-len-lt-MAX_DIGITS.true,
      c.loop-len.invariant.long,
      c.loop-len.invariant.room,
    )

pub loop-len-preserved : goal.loop-len-preserved
loop-len-preserved c =
    let bytes = c.args.bytes.now in
    let len = c.loop-len.len in
    let old = c.args.out.now.items in
    let byte = get_or bytes len 0 in
    let so_far = c.loop-len.invariant in
    let more : FrontMore bytes len = front_more bytes len c.loop-len-test.true
    c.if-len-lt-MAX_DIGITS.true so_far.digits
    (sym c.is_ascii_digit.ensures.value ∙ c.if-is_ascii_digit.true) in
    record {
      few = omega (arith, c.if-len-lt-MAX_DIGITS.true);
      within = omega (arith, c.loop-len-test.true);
      digits = more.digits;
      items = c.push_reserved.ensures.items
          ∙ ap (λ (l : List ℕ). l ++ byte ∷ []) so_far.items
          ∙ append_assoc old (take len bytes) (byte ∷ [])
          ∙ ap (λ (l : List ℕ). old ++ l) (sym (take_more bytes len 0 c.loop-len-test.true));
      long = omega (arith, c.push_reserved.ensures.len, so_far.long);
      room = omega (arith, c.push_reserved.ensures.capacity, so_far.room);
    }
