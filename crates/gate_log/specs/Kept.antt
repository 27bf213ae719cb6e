-- Inside: what a log keeps in memory.
use Rattle.std.specs.Prelude.{◌≡◌, ◌+◌, ◌≤◌, ◌<◌, [], true, if◌then◌else◌}
use Rattle.std.specs.Vec.{vec_len, vec_capacity}
use Rattle.outside.specs.declared.disk.TheConstants.{MAX_DISK}
use Rattle.gate_log.specs.declared.TheConstants.{MAX_PAYLOAD}
use Rattle.gate_log.specs.declared.log.Log.TheInside.{Inside}
use Rattle.gate_log.specs.State.{LogState}

abbrev pub state_of : Inside → LogState
state_of log = record {
  end = log.end;
  count = log.count;
  broken = log.broken;
  spare = if log.spare then 1 else 0;
}

-- It holds no payload between its calls.
pub record IsWhole (log : Inside) : Type 0 where
  pub born : 1 ≤ log.count
  pub counted : log.count ≤ log.end
  pub within : log.end < MAX_DISK
  pub empty : log.staged.items ≡ []
  pub room : log.spare ≡ true → vec_len log.staged + (5 + MAX_PAYLOAD) ≤ vec_capacity log.staged
