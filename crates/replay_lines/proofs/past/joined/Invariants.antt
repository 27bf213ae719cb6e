use Rattle.std.proofs.Common.{◌++◌, ◌∷◌, []}
use Rattle.replay_lines.specs.Past.{call_with}
use Rattle.replay_lines.proofs.past.joined.Given as goal

abbrev pub ghost-seen_as : goal.ghost-seen_as
ghost-seen_as a = a.what.now.0.now.calls ++ call_with a.what.now.1 a.what.now.2.now ∷ []
