use Rattle.std.proofs.Common.{◌≡◌, ◌+◌, ◌∷◌, drop, get_or, sym, ◌∙◌, ap, arith, false}
use Rattle.std.specs.Prelude.{◌==◌}
use Rattle.std.specs.Char.{is_ascii_digit}
use Rattle.std.proofs.lemmas.List.{drop_more, drop_all}
use Rattle.std.proofs.lemmas.Bool.Decides.{nat_tests}
use Rattle.frame_grammar.specs.Found.{expect_sum}
use Rattle.frame_grammar.proofs.Scanned.{if_true, if_false}
use Rattle.frame_grammar.proofs.scan.expect_sum.Goals as goal

pub returns-then-place-bytes-clause-leads : goal.returns-then-place-bytes-clause-leads
returns-then-place-bytes-clause-leads c go =
    let place = c.loop-place.place in
    c.loop-place.invariant.so_far go
    ∙ ap (λ d. expect_sum d go (drop place c.args.bytes.now))
    (drop_more c.args.digits.now place 0 c.loop-place-test.true)
    ∙ ap (λ b. expect_sum (get_or c.args.digits.now place 0 ∷ drop (place + 1) c.args.digits.now)
    go b) (drop_all place c.args.bytes.now c.if-place-bytes.true)

pub returns-then-not-is_ascii_digit-clause-leads : goal.returns-then-not-is_ascii_digit-clause-leads
returns-then-not-is_ascii_digit-clause-leads c go =
    let place = c.loop-place.place in
    let b = get_or c.args.bytes.now place 0 in (
      drop (place + 1) c.args.bytes.now,
      c.loop-place.invariant.so_far go
          ∙ ap (λ d. expect_sum d go (drop place c.args.bytes.now))
          (drop_more c.args.digits.now place 0 c.loop-place-test.true)
          ∙ ap (λ l. expect_sum (get_or c.args.digits.now place 0 ∷ drop (place + 1)
          c.args.digits.now) go l) (drop_more c.args.bytes.now place 0 c.if-place-bytes.false)
          ∙ if_false (is_ascii_digit b)
          _ _ (sym c.is_ascii_digit.ensures.value ∙ c.if-not-is_ascii_digit.true),
    )

pub returns-then-bytes-place-clause-leads : goal.returns-then-bytes-place-clause-leads
returns-then-bytes-place-clause-leads c go =
    let place = c.loop-place.place in
    let b = get_or c.args.bytes.now place 0 in
    let want = get_or c.args.digits.now place 0 in
    let other = c.if-bytes-place.true in
    let differs : (b == want) ≡ false = grind (arith, nat_tests, other) in (
      drop (place + 1) c.args.bytes.now,
      c.loop-place.invariant.so_far go
          ∙ ap (λ d. expect_sum d go (drop place c.args.bytes.now))
          (drop_more c.args.digits.now place 0 c.loop-place-test.true)
          ∙ ap (λ l. expect_sum (get_or c.args.digits.now place 0 ∷ drop (place + 1)
          c.args.digits.now) go l) (drop_more c.args.bytes.now place 0 c.if-place-bytes.false)
          ∙ if_true (is_ascii_digit b)
          _ _ (sym c.is_ascii_digit.ensures.value ∙ c.if-not-is_ascii_digit.false)
          ∙ if_false (b == want) _ _ differs,
    )
