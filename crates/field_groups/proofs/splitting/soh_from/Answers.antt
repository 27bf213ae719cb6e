use Rattle.std.proofs.Common.{◌≡◌, ◌-◌, ◌+◌, ℕ, length, subst, arith}
use Rattle.memchr.specs.Find.{Nowhere, Passes}
use Rattle.field_groups.specs.Field.{is_soh}
use Rattle.field_groups.proofs.Places.{found_in_part, none_in_part}
use Rattle.field_groups.proofs.splitting.soh_from.Goals as goal

pub returns-in-None : goal.returns-in-None
returns-in-None c =
    let hay = c.args.bytes.now in
    let all : c.args.from + (length hay - c.args.from) ≡ length hay =
    omega (arith, c.requires.within) in
    subst (λ (n : ℕ). Nowhere (Passes is_soh hay) 0 n) all
    (none_in_part is_soh hay c.args.from (length hay - c.args.from) (omega (arith, all))
    c.requires.before c.in-None.ensures)

pub returns-in-Some : goal.returns-in-Some
returns-in-Some c =
    found_in_part is_soh c.args.bytes.now c.args.from (length c.args.bytes.now - c.args.from)
    c.in-Some.end c.requires.within c.requires.before c.in-Some.ensures
