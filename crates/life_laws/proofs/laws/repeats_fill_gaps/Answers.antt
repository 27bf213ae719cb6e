-- One out after another; a gap fill leads past its run.
use Rattle.life_laws.proofs.Filled.{repeats_fill, frames_fill}
use Rattle.life_laws.proofs.laws.repeats_fill_gaps.Goals as goal

pub returns-clause-forms : goal.returns-clause-forms
returns-clause-forms c = repeats_fill

pub returns-clause-frames : goal.returns-clause-frames
returns-clause-frames c = frames_fill
