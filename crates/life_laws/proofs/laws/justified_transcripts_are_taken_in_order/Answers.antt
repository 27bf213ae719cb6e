-- A front of what was written is cut into the first of its forms.
use Rattle.life_laws.proofs.FirstHalf.{first_half}
use Rattle.life_laws.proofs.laws.justified_transcripts_are_taken_in_order.Goals as goal

pub returns : goal.returns
returns c = first_half
