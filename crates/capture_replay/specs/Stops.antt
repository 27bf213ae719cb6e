-- Own: where a life stops, and what it leaves then; docs/DEFINITIONS.md, "A replay".
use Rattle.std.specs.Prelude.{ℕ, ◌-◌, Bool, true, false, is_some, Some, None}
use Rattle.std.specs.declared.option.Option.{Option}
use Rattle.outside.specs.declared.mem_disk.Fuse.{Fuse}
use Rattle.outside.specs.declared.mem_disk.Fuse.TheVariants.{Unlit, Lit}
use Rattle.outside.specs.declared.mem_disk.Image.{Image}
use Rattle.outside.specs.declared.mem_disk.Image.TheVariants.{New}
use Rattle.gateway_life.specs.declared.end.LifeEnd.{LifeEnd}
use Rattle.gateway_life.specs.declared.end.LifeEnd.TheVariants as ends

-- how many writes and syncs the disk of a life does: those before its stop, or all
abbrev pub fuse_of : Option (ℕ × Image) → Fuse
fuse_of (Some (call, image)) = Lit (call - 1)
fuse_of None = Unlit

-- the image that it leaves: that of its stop, or what its disk reads
abbrev pub image_of : Option (ℕ × Image) → Image
image_of (Some (call, image)) = image
image_of None = New

-- a life ends by a disk fault only where it has a stop, and never for want of memory
abbrev pub may_end : Option (ℕ × Image) → LifeEnd → Bool
may_end stop ends.DiskFault = is_some stop
may_end stop ends.NoMemory = false
may_end stop end = true
