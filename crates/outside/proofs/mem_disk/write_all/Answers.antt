use Rattle.std.proofs.Common.{◌∙◌, ap}
use Rattle.outside.specs.Disk.{write}
use Rattle.outside.specs.MemDisk.{picked}
use Rattle.outside.proofs.Torn.{all_written-next}
use Rattle.outside.proofs.mem_disk.write_all.Goals as goal

pub loop-write-preserved : goal.loop-write-preserved
loop-write-preserved c =
    let p = c.write-item.result in
    all_written-next c.args.pick c.args.bytes.items
    _ c.args.pending.now c.loop-write.write-index p c.loop-write-test.true c.write-item.is
    (c.in_ok-image.ensures ∙ ap (write p.at (picked c.args.pick p.piece.items))
    (c.deref.ensures.value ∙ c.loop-write.invariant))
