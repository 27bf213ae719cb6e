use Rattle.frame_grammar.proofs.Begins.{found_frame, no_other}
use Rattle.frame_grammar.proofs.Only.{frame_found}
use Rattle.frame_grammar.proofs.laws.frames_are_found.Goals as goal

pub returns-clause-only : goal.returns-clause-only
returns-clause-only c = frame_found

pub returns-clause-each : goal.returns-clause-each
returns-clause-each c = found_frame

pub returns-clause-first : goal.returns-clause-first
returns-clause-first c = no_other
