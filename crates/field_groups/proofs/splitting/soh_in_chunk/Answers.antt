use Rattle.std.proofs.Common.{◌≡◌, ◌+◌, ◌-◌, ℕ, subst, arith}
use Rattle.memchr.specs.Find.{Nowhere, Passes}
use Rattle.field_groups.specs.Field.{is_soh}
use Rattle.field_groups.proofs.Places.{found_in_part, none_in_part}
use Rattle.field_groups.proofs.splitting.soh_in_chunk.Goals as goal

pub returns-in-Some-clause-some : goal.returns-in-Some-clause-some
returns-in-Some-clause-some c =
    found_in_part is_soh c.args.bytes.now c.args.from (c.args.from + 16 - c.args.from) c.in-Some.end
    (omega (arith, c.requires.within)) c.requires.before c.in-Some.ensures

pub returns-in-None-clause-none : goal.returns-in-None-clause-none
returns-in-None-clause-none c =
    let from = c.args.from in
    let next : from + (from + 16 - from) ≡ from + 16 = omega arith in
    subst (λ (n : ℕ). Nowhere (Passes is_soh c.args.bytes.now) 0 n) next
    (none_in_part is_soh c.args.bytes.now from (from + 16 - from)
    (omega (arith, c.requires.within, next)) c.requires.before c.in-None.ensures)
