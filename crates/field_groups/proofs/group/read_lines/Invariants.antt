use Rattle.std.proofs.Common.{◌≡◌, ◌+◌, length, map}
use Rattle.field_groups.specs.Group.{tags_of, placed, members_of}
use Rattle.field_groups.proofs.Lines.{Read, members_from}
use Rattle.field_groups.proofs.group.read_lines.Given as goal

abbrev pub invariant-loop-i : goal.invariant-loop-i
invariant-loop-i l = record {
  read :
      Read (tags_of l.shape) (members_of
      (tags_of l.shape) (placed l.place (map (λ field. (field.0, field.1.now)) l.run)))
      (members_from (tags_of l.shape) l.place (λ field. (field.0, field.1.now)) l.i l.run)
      l.group.lines;
  end : l.group.end ≡ l.place + length l.run;
}
