use Rattle.std.proofs.Common.{take}
use Rattle.frame_grammar.proofs.Stands.{stands_fed}
use Rattle.frame_grammar.proofs.framer.Framer.feed.Goals as goal

pub returns-clause-stands : goal.returns-clause-stands
returns-clause-stands c stream answered s =
    stands_fed c.args.self.now c.append.new.self c.append.new.self.read
    (take c.min-count.result c.args.piece.now) c.append.ensures stream answered s
