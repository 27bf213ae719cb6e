-- A poll keeps what stands, and so does each event of what came.
use Rattle.life_laws.proofs.OneTurn.{client-keeps, venue-keeps}
use Rattle.life_laws.proofs.laws.turns_keep.Goals as goal

pub returns-clause-client : goal.returns-clause-client
returns-clause-client g c = λ names window before after now added read cl vl h turn may last.
    client-keeps g.A.Answering.answers names before cl vl h window now read after added turn may
    last

pub returns-clause-venue : goal.returns-clause-venue
returns-clause-venue g c = λ names window before after now added read cl vl h turn may last.
    venue-keeps g.A.Answering.answers names before cl vl h window now read after added turn may
    last
