use Rattle.std.proofs.Common.{◌≡◌, ◌+◌, ◌-◌, ◌*◌, ◌%◌, ◌<◌, length, take, drop, get_or, set, ◌∙◌}
use Rattle.std.proofs.Common.{ap, sym, subst, arith, get_or-set_other, get_or-set_same, inl, inr}
use Rattle.std.specs.Prelude.{sum}
use Rattle.std.proofs.lemmas.Bool.{cases_eq}
use Rattle.frame_grammar.proofs.Sums.{sum_part, sum_more}
use Rattle.frame_grammar.proofs.buffer.add_sums.Goals as goal

pub loop-block-preserved : goal.loop-block-preserved
loop-block-preserved c =
    let bytes = c.args.bytes.now in
    let block = c.loop-block.block in
    let sums = c.loop-block.sums in
    let known : get_or sums block 0 ≡ sum (take (256 * block) bytes) % 256 =
    c.loop-block.invariant block (omega arith) in
    let here : block * 256 ≡ 256 * block = omega arith in
    let n : block * 256 + ((block + 1) * 256 - block * 256) ≡ 256 * (block + 1) = omega arith in
    let part = sum (take ((block + 1) * 256 - block * 256) (drop (block * 256) bytes)) in
    let whole : sum (take (256 * block) bytes) + part ≡ sum (take (256 * (block + 1)) bytes) =
    ap (λ k. sum (take k bytes) + part) (sym here)
    ∙ sym (sum_part bytes (block * 256) ((block + 1) * 256 - block * 256))
    ∙ ap (λ k. sum (take k bytes)) n in
    let next : (get_or sums block 0 + c.sum_of-sum.result) % 256
    ≡ sum (take (256 * (block + 1)) bytes) % 256 =
    ap (λ k. (k + c.sum_of-sum.result) % 256) known
    ∙ ap (λ k. (sum (take (256 * block) bytes) % 256 + k) % 256) c.sum_of-sum.ensures
    ∙ sum_more (sum (take (256 * block) bytes)) part ∙ ap (λ k. k % 256) whole in
    let room : block + 1 < length sums = omega arith in
    λ k h. elim (cases_eq k (block + 1)) [
      | inl same ↦ subst
          (λ j. get_or (set sums (block + 1) ((get_or sums block 0 + c.sum_of-sum.result) % 256))
          j 0 ≡ sum (take (256 * j) bytes) % 256) (sym same) (rw get_or-set_same next)
      | inr other ↦ rw get_or-set_other (c.loop-block.invariant k (omega (arith, h, other)))
    ]
