use Rattle.std.proofs.Common.{◌≡◌, map, take}
use Rattle.outside.specs.MemDisk.{all_written, write_of}
use Rattle.outside.proofs.mem_disk.write_all.Given as goal

abbrev pub invariant-loop-write : goal.invariant-loop-write
invariant-loop-write l =
    l.image.items
    ≡ all_written l.pick l.fn.bytes.items (map write_of (take l.write-index l.pending))
