use Rattle.std.proofs.Common.{ℕ, List, ◌≡◌, ◌+◌, ◌^◌, ◌<◌, ◌≤◌, ◌-◌, ◌++◌, take, decimal, length, arith, rules}
use Rattle.std.proofs.lemmas.Fmt.{length-decimal-le}
use Rattle.std.proofs.lemmas.List.{length-append}
use Rattle.gateway_top.proofs.line.append_head.Goals as goal

short : (n : ℕ) → n < 2 ^ 64 → length (decimal n) ≤ 20
short n fits = length-decimal-le 20 n (omega arith) (omega (arith, fits)) fits

room : (what : List ℕ) (len place : ℕ) → length what ≤ 9 → len < 2 ^ 64
    → place + length (decimal len) ≡ 49 → length what + 20 ≤ place
room what len place most fits start = omega (arith, short len fits, start, most)

reaches : (a : ℕ) (xs ys : List ℕ) → a ≤ length xs → a ≤ length (take a xs ++ ys)
reaches a xs ys within =
    let whole : length (take a xs) ≡ a = search (rules, within) in
    omega (arith, length-append (take a xs) ys, whole)

pub write_digits-behind-requires : goal.write_digits-behind-requires
write_digits-behind-requires c = (omega (arith, short c.args.len c.ranges.len.fits), omega arith)

pub overflow_sub-start : goal.overflow_sub-start
overflow_sub-start c =
    let r = room c.args.what.now c.args.len c.write_digits-behind.result c.requires
    c.ranges.len.fits c.write_digits-behind.ensures.start in omega (arith, r)

pub copy_from_slice-requires : goal.copy_from_slice-requires
copy_from_slice-requires c =
    let r = room c.args.what.now c.args.len c.write_digits-behind.result c.requires
    c.ranges.len.fits c.write_digits-behind.ensures.start in
    let within : length c.args.what.now ≤ c.write_digits-behind.result = omega (arith, r) in
    search (rules, within)

pub write_digits-first-requires : goal.write_digits-first-requires
write_digits-first-requires c =
    let r = room c.args.what.now c.args.len c.write_digits-behind.result c.requires
    c.ranges.len.fits c.write_digits-behind.ensures.start in
    let within : length c.args.what.now ≤ c.write_digits-behind.result = omega (arith, r) in
    let far : c.write_digits-behind.result - length c.args.what.now
    ≤ length c.write_digits-behind.new.buf = search (rules, within) in
    (omega (arith, r, short c.args.at c.ranges.at.fits), reaches _ _ _ far)
