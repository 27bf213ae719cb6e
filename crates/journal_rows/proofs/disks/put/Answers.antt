use Rattle.std.proofs.Common.{◌≡◌, ◌≤◌, ℕ, List, Result, Ok, Err, OnOk, OnErr, length, ap, arith}
use Rattle.outside.specs.Disk.{write}
use Rattle.outside.proofs.Torn.{length-write}
use Rattle.journal_rows.proofs.disks.put.Goals as goal

grows : {T E : Type 0} (r : Result T E) (at : ℕ) (piece old new : List ℕ) → at ≤ length old
    → OnOk r (new ≡ write at piece old) → OnErr r (new ≡ old) → length old ≤ length new
grows (Ok v) at piece old new within ok err =
    omega (arith, length-write at piece old within, ap length ok)
grows (Err e) at piece old new within ok err = omega (arith, ap length err)

pub returns : goal.returns
returns c = grows c.write_at.result c.args.at _ c.args.disk.now.bytes c.write_at.new.self.bytes
    (omega (arith, c.requires)) c.write_at.ensures.written c.write_at.ensures.failed
