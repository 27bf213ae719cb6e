use Rattle.std.proofs.Common.{◌∙◌, sym}
use Rattle.kept_entries.specs.Days.{last_day}
use Rattle.gateway_life.specs.State.{seen}
use Rattle.gateway_life.proofs.Passing.{rested}
use Rattle.gateway_life.proofs.engine.Engine.rests.Goals as goal

pub returns-then-stands : goal.returns-then-stands
returns-then-stands c =
    elim c.if-rests.branch [
      | goal.then-rests w ↦ λ venue told. rested (seen c.args.self.now) c.args.side c.args.now told
          (c.rests.ensures.rests w.if-rests.true (last_day c.args.self.now.journal.entries))
          (w.stands.ensures (sym w.value-is ∙ c.if-stands.true))
          (c.stands-then-stands.ensures venue)
      | goal.else-rests w ↦ absurd (cc (w.value-is, c.if-stands.true))
    ]
