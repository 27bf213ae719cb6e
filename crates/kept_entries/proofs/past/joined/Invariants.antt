use Rattle.std.proofs.Common.{◌++◌, ◌∷◌, []}
use Rattle.kept_entries.proofs.past.joined.Given as goal

abbrev pub ghost-seen_as : goal.ghost-seen_as
ghost-seen_as g a = a.what.now.entries ++ g.more ∷ []
