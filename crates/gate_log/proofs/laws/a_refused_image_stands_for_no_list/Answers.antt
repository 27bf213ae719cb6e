use Rattle.gate_log.proofs.Refused.{refused_stands, refused_once}
use Rattle.gate_log.proofs.laws.a_refused_image_stands_for_no_list.Goals as goal

pub returns-clause-none : goal.returns-clause-none
returns-clause-none c = refused_stands

pub returns-clause-one_place : goal.returns-clause-one_place
returns-clause-one_place c = refused_once
