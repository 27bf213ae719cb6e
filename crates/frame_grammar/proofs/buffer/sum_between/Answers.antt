use Rattle.std.proofs.Common.{◌≡◌, ℕ, ◌+◌, ◌-◌, ◌*◌, ◌/◌, ◌%◌, take, drop, get_or, ◌∙◌, ap, sym}
use Rattle.std.proofs.Common.{arith}
use Rattle.std.specs.Prelude.{sum}
use Rattle.frame_grammar.proofs.Sums.{sum_part, sum_between}
use Rattle.frame_grammar.proofs.buffer.sum_between.Goals as goal

pub returns : goal.returns
returns c =
    let bytes = c.args.bytes.now in
    let sums = c.args.sums.now in
    let start = c.args.start in
    let count = c.args.count in
    let first = start / 256 + 1 in
    let last = (start + count) / 256 in
    let within = c.requires.within in
    let before = c.requires.right first (omega (arith, within, c.if-last-first.false)) in
    let after = c.requires.right last (omega (arith, within)) in
    let left = first * 256 - start in
    let right = start + count - last * 256 in
    let front = sum (take left (drop start bytes)) in
    let back = sum (take right (drop (last * 256) bytes)) in
    let part = sum (take count (drop start bytes)) in
    let first_is : start + left ≡ 256 * first = omega arith in
    let last_is : last * 256 + right ≡ start + count = omega arith in
    let times : last * 256 ≡ 256 * last = omega arith in
    let a : sum (take (256 * first) bytes) ≡ sum (take start bytes) + front =
    ap (λ k. sum (take k bytes)) (sym first_is) ∙ sum_part bytes start left in
    let b : sum (take (start + count) bytes) ≡ sum (take (256 * last) bytes) + back =
    ap (λ k. sum (take k bytes)) (sym last_is)
    ∙ sum_part bytes (last * 256) right ∙ ap (λ k. sum (take k bytes) + back) times in
    let p : sum (take (start + count) bytes) ≡ sum (take start bytes) + part =
    sum_part bytes start count in
    let combine : ℕ → ℕ → ℕ → ℕ → ℕ = λ f l g k. ((f + (l + (256 - g)) % 256) % 256 + k) % 256 in
    let gl = get_or sums last 0 in
    let gf = get_or sums first 0 in
    ap (λ (f : ℕ). combine f gl gf c.sum_of-back.result) c.sum_of-front.ensures
    ∙ ap (λ (l : ℕ). combine (front % 256) l gf c.sum_of-back.result) after
    ∙ ap (λ (g : ℕ).
    combine (front % 256) (sum (take (256 * last) bytes) % 256) g c.sum_of-back.result) before
    ∙ ap (λ (k : ℕ). combine (front % 256) (sum (take (256 * last) bytes) % 256)
    (sum (take (256 * first) bytes) % 256) k) c.sum_of-back.ensures
    ∙ sum_between front (sum (take (256 * first) bytes))
    (sum (take (256 * last) bytes)) back part (omega (arith, a, b, p))
