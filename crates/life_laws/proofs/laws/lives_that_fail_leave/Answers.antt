-- Each round keeps what holds, and the event that failed leaves it.
use Rattle.order_meaning.specs.declared.Side.TheVariants.{Client, Venue}
use Rattle.life_laws.specs.Justified.{transcript_from}
use Rattle.life_laws.proofs.FirstHalf.{first_half}
use Rattle.life_laws.proofs.Failed.{life-fails}
use Rattle.life_laws.proofs.laws.lives_that_fail_leave.Goals as goal

pub returns : goal.returns
returns g c = λ names window reads before moments now first mid event part added entries cl vl h
    rc rv up fails all.
    let client = transcript_from cl added.client in
    let venue = transcript_from vl added.venue in
    let left = life-fails g.A.Answering.answers names window now mid event reads before moments
    first part added entries cl vl (record { holds = h; client = rc; venue = rv }) up fails all in (
      left,
      λ read message_of numbers client_known venue_known. (
        first_half read message_of names Client entries client client_known numbers left.client,
        first_half read message_of names Venue entries venue venue_known numbers left.venue,
      ),
    )
