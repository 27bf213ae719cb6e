-- Inside: how a buffer keeps an out, the type and then the content, beside a walk.
use Rattle.std.specs.Prelude.{◌≤◌, take, drop, length}
use Rattle.std.specs.Vec.{vec_capacity}
use Rattle.pair_journal.specs.declared.out_buf.TheConstants.{OUT_ROOM}
use Rattle.pair_journal.specs.declared.out_buf.OutTold.{OutTold}
use Rattle.pair_journal.specs.declared.out_buf.OutBuf.TheInside.{Inside}
use Rattle.pair_journal.specs.declared.walk.Walk.{Walk}
use Rattle.pair_journal.specs.OutBuf.{OutAt}

-- what contracts see of a buffer: the out that it tells, and where its walk has come to
pub record OutKept : Type 0 where
  pub told : OutAt
  pub walk : Walk

abbrev pub out_told : OutTold → OutAt
out_told told = record {
  at = told.at;
  admin = told.admin;
  resend = told.resend;
  msg_type = take told.type_len told.bytes.items;
  content = drop told.type_len told.bytes.items;
}

pub record IsRoomy (told : OutTold) : Type 0 where
  pub within : told.type_len ≤ length told.bytes.items
  pub room : OUT_ROOM ≤ vec_capacity told.bytes

abbrev pub out_kept : Inside → OutKept
out_kept buf = record { told = out_told buf.told; walk = buf.walk }

pub record TellsRoomy (buf : Inside) : Type 0 where
  pub told : IsRoomy buf.told
