use Rattle.std.proofs.Common.{◌≡◌, take}
use Rattle.session_core.proofs.acts.Acts.of.Given as goal

abbrev pub invariant-loop-act : goal.invariant-loop-act
invariant-loop-act l = l.acts ≡ take l.act-index l.items
