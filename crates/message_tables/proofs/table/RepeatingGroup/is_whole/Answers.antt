use Rattle.std.proofs.Common.{arith}
use Rattle.message_tables.proofs.table.RepeatingGroup.is_whole.Goals as goal

pub is_whole_between-requires-clause-apart : goal.is_whole_between-requires-clause-apart
is_whole_between-requires-clause-apart g c = λ κs lives. record {
  ordered = omega arith;
  within = omega arith;
  before = λ place lt. absurd (omega (arith, lt));
  behind = λ place le lt. absurd (omega (arith, le, lt));
}
