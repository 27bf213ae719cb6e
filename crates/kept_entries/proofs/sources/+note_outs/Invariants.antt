use Rattle.std.proofs.Common.{length}
use Rattle.kept_entries.proofs.sources.+note_outs.Given as goal

abbrev pub decreases-note_outs : goal.decreases-note_outs
decreases-note_outs l = length l.outs.now
