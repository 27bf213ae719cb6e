-- Each round keeps what holds, and so do the two ends.
use Rattle.std.specs.Prelude.{[]}
use Rattle.order_meaning.specs.declared.Side.TheVariants.{Client, Venue}
use Rattle.life_laws.specs.Justified.{transcript_from}
use Rattle.life_laws.proofs.FirstHalf.{first_half}
use Rattle.life_laws.proofs.World.{leaves}
use Rattle.life_laws.proofs.Lives.{life-keeps}
use Rattle.life_laws.proofs.laws.lives_leave.Goals as goal

pub returns : goal.returns
returns g c = λ names window reads before after moments last added cl vl h rc rv life.
    let answers = g.A.Answering.answers in
    let held = life-keeps answers names window reads before after moments last added cl vl
    (record { holds = h; client = rc; venue = rv }) life in
    let client = transcript_from cl added.client in
    let venue = transcript_from vl added.venue in
    let left = leaves answers names after client venue [] [] held in (
      left,
      λ read message_of numbers client_known venue_known. (
        first_half read message_of names Client after.entries client client_known numbers
            left.client,
        first_half read message_of names Venue after.entries venue venue_known numbers left.venue,
      ),
    )
