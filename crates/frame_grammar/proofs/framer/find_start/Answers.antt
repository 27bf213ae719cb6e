use Rattle.frame_grammar.proofs.Starts.{start_found}
use Rattle.frame_grammar.proofs.framer.find_start.Goals as goal

pub returns-clause-value : goal.returns-clause-value
returns-clause-value c = start_found c.args.bytes.now c.find.result c.find.ensures
