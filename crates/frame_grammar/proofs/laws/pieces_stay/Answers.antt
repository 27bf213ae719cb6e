use Rattle.std.proofs.Common.{length, arith}
use Rattle.frame_grammar.proofs.Every.{every_stream}
use Rattle.frame_grammar.proofs.Join.{join, one_cut, joined}
use Rattle.frame_grammar.proofs.laws.pieces_stay.Goals as goal

pub returns-clause-join : goal.returns-clause-join
returns-clause-join c = join

pub returns-clause-one : goal.returns-clause-one
returns-clause-one c = one_cut

pub returns-clause-joined : goal.returns-clause-joined
returns-clause-joined c = joined

pub returns-clause-some : goal.returns-clause-some
returns-clause-some c kind s = every_stream (length s) kind s (omega arith)
