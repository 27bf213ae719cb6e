use Rattle.std.proofs.Common.{[]}
use Rattle.kept_entries.proofs.past.none.Given as goal

abbrev pub ghost-seen_as : goal.ghost-seen_as
ghost-seen_as a = []
