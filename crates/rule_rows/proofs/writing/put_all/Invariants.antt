use Rattle.std.proofs.Common.{◌≡◌, ◌++◌, length}
use Rattle.std.specs.Io.{StartsWith}
use Rattle.std.specs.List.{flat_map}
use Rattle.field_groups.specs.Field.{body_of}
use Rattle.message_tables.specs.Tables.{first_of}
use Rattle.rule_rows.specs.CodeRules.{lacked, writes}
use Rattle.rule_rows.proofs.writing.put_all.Given as goal

abbrev pub invariant-loop-rest : goal.invariant-loop-rest
invariant-loop-rest g l = record {
  written : l.out.items ++ body_of (flat_map (writes g.O.OwnRule.writes l.source) l.rest)
      ≡ l.fn.out.items ++ body_of (flat_map (writes g.O.OwnRule.writes l.source) l.rules);
  said : first_of (lacked g.O.OwnRule.lacks l.source) l.rest
      ≡ first_of (lacked g.O.OwnRule.lacks l.source) l.rules;
  kept : StartsWith l.out.items l.fn.out.items;
}

abbrev pub decreases-loop-rest : goal.decreases-loop-rest
decreases-loop-rest g l = length l.rest
