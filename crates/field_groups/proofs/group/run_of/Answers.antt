use Rattle.field_groups.specs.Group.{tags_of}
use Rattle.field_groups.proofs.Lines.{run_is}
use Rattle.std.proofs.lemmas.List.{take_all}
use Rattle.std.proofs.Common.{◌≡◌, ◌+◌, ◌-◌, take, drop, length, arith, length-drop}
use Rattle.field_groups.proofs.group.run_of.Goals as goal

pub returns-clause-run : goal.returns-clause-run
returns-clause-run c =
    let xs = c.as_slice.result.now in
    let whole : take (length xs - (c.args.from + 1)) (drop (c.args.from + 1) xs)
    ≡ drop (c.args.from + 1) xs = take_all (length xs - (c.args.from + 1))
    (drop (c.args.from + 1) xs) (omega (arith, length-drop (c.args.from + 1) xs)) in
    rw whole
    (run_is (tags_of c.args.shape.now) c.args.from
    c.run_len.result (λ field. (field.0, field.1.now)) xs c.args.fields.now c.as_slice.ensures
    (rw whole at c.run_len.ensures.value))
