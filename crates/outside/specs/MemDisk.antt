-- Own: what contracts see of the disk in memory.
use Rattle.std.specs.Prelude.{◌≡◌, ◌⊎◌, ℕ, zero, suc, ◌+◌, ◌≤◌, max, List, [], ◌∷◌, ◌++◌, map}
use Rattle.std.specs.Prelude.{length, Bool}
use Rattle.std.specs.Prelude.{if◌then◌else◌, Result, IsErr, IsTrue, OnOk}
use Rattle.std.specs.Prelude.{false, replicate, Some, None}
use Rattle.outside.specs.Disk.{Torn, write, replaced}
use Rattle.outside.specs.Causes.{faults_after}
use Rattle.outside.specs.Memory.{DiskState, Write, IsListed, called}
use Rattle.outside.specs.declared.stream.Failed.{Failed}
use Rattle.outside.specs.declared.mem_disk.DiskCall.{DiskCall}
use Rattle.outside.specs.declared.mem_disk.Pending.{Pending}
use Rattle.outside.specs.declared.mem_disk.Image.{Image}
use Rattle.outside.specs.declared.mem_disk.Image.TheVariants as images
use Rattle.outside.specs.declared.mem_disk.Fuse.{Fuse}
use Rattle.outside.specs.declared.mem_disk.MemDisk.TheInside.{Inside}
use Rattle.outside.specs.declared.mem_disk.Fuse.TheVariants.{Lit, Blown}

abbrev pub write_of : Pending → Write
write_of p = record { at = p.at; piece = p.piece.items }

-- bytes before a write, which kept what it wrote over; a failed one wrote nothing
abbrev pub undo : Pending → List ℕ → List ℕ
undo p bytes = elim p.under [
  | Some under ↦ replaced p.at (length p.piece.items) under.items bytes
  | None ↦ bytes
]

-- bytes before these writes
abbrev pub undone : List Pending → List ℕ → List ℕ
undone [] bytes = bytes
undone (p ∷ pending) bytes = undo p (undone pending bytes)

-- what contracts see of a disk
abbrev pub state_of : Inside → DiskState
state_of d = record {
  bytes = d.bytes.items;
  stable = undone d.pending.items d.bytes.items;
  pending = map write_of d.pending.items;
  made = d.made.items;
  calls = d.calls;
  reads = d.reads;
  fuse = d.fuse;
  refused = d.refused;
}

-- a disk of these bytes of which no call was made
abbrev pub fresh : List ℕ → List ℕ → Fuse → DiskState
fresh bytes fail fuse = record {
  bytes = bytes;
  stable = bytes;
  pending = [];
  made = [];
  calls = record { made = 0; fail = fail; faults = 0 };
  reads = 0;
  fuse = fuse;
  refused = false;
}

-- a disk with a write pending, which was done or failed
abbrev pub staged : Bool → ℕ → List ℕ → DiskState → DiskState
staged done at piece disk = record disk {
  bytes = if done then write at piece disk.bytes else disk.bytes;
  pending = disk.pending ++ (record { at = at; piece = piece }) ∷ [];
}

-- what a crash may leave of these bytes, each pending write done, or not, or torn
abbrev pub IsTorn : List ℕ → List Write → List ℕ → Type 0
IsTorn stable [] image = image ≡ stable
IsTorn stable (w ∷ pending) image =
    (mid : List ℕ) × Torn w.at (length w.piece) stable mid × IsTorn mid pending image

-- it is as the disk reads, or it is left of the stable bytes
abbrev pub IsImageOf : DiskState → List ℕ → Type 0
IsImageOf disk image = (image ≡ disk.bytes) ⊎ IsTorn disk.stable disk.pending image

-- what a pick puts in the place of a written piece
abbrev pub picked : Image → List ℕ → List ℕ
picked images.Torn piece = replicate (length piece) 255
picked other piece = piece

-- these bytes after each write
abbrev pub all_written : Image → List ℕ → List Write → List ℕ
all_written pick bytes [] = bytes
all_written pick bytes (w ∷ pending) =
    all_written pick (write w.at (picked pick w.piece) bytes) pending

-- the image of this pick: pending ranges as before, as written, or each byte 255 at the new length
abbrev pub picked_image : Image → DiskState → List ℕ
picked_image images.Old disk = disk.stable
picked_image pick disk = all_written pick disk.stable disk.pending

-- the length after each write
abbrev pub grown : ℕ → List Write → ℕ
grown n [] = n
grown n (w ∷ pending) = grown (max n (w.at + length w.piece)) pending

-- each write begins within the bytes that the earlier ones left
abbrev pub Begin : ℕ → List Write → Type 0
Begin n [] = Unit {0}
Begin n (w ∷ pending) = (w.at ≤ n) × Begin (max n (w.at + length w.piece)) pending

-- what always holds of a disk in memory
pub record IsDisk (disk : DiskState) : Type 0 where
  pub torn : IsTorn disk.stable disk.pending disk.bytes
  pub begin : Begin (length disk.stable) disk.pending
  pub shorter : length disk.bytes ≤ grown (length disk.stable) disk.pending

-- a fuse after one write or sync more
abbrev pub burnt : Fuse → Fuse
burnt (Lit zero) = Blown
burnt (Lit (suc passes)) = Lit passes
burnt other = other

-- the next call is listed, or the fuse is blown
abbrev pub Fails : DiskState → Type 0
Fails disk = IsListed disk.calls ⊎ (disk.fuse ≡ Blown)

-- What every call of a disk in memory answers and counts: it fails where it is listed or behind the
-- fuse, else only for want of memory, and counts one fault then; it stands in the list of calls. A
-- call that succeeds was refused no memory.
pub record Answers {T : Type 0}
    (call : DiskCall) (old new : DiskState) (result : Result T Failed) : Type 0 where
  pub fails : Fails old → IsErr result
  pub only : IsErr result → Fails old ⊎ IsTrue new.refused
  pub noted : (new.made ≡ old.made ++ call ∷ []) ⊎ IsTrue new.refused
  pub kept : IsTrue old.refused → IsTrue new.refused
  pub stays : OnOk result (new.refused ≡ old.refused)
  pub counted : new.calls ≡ called old.calls (faults_after result old.calls.faults)
  pub fuse : new.fuse ≡ old.fuse
