use Rattle.std.proofs.Common.{◌≡◌, [], false, ℕ, List}
use Rattle.frame_grammar.specs.Cut.{Piece}
use Rattle.frame_grammar.specs.Framer.{StandsFor}
use Rattle.frame_grammar.specs.Held.{pending}
use Rattle.gateway_top.specs.Judge.{JudgesAll}
use Rattle.gateway_top.specs.Task.{has_ended}
use Rattle.gateway_top.proofs.Catching.{Catching}
use Rattle.gateway_top.proofs.pass.Pass.catch_up.Given as goal

abbrev pub invariant-loop-self : goal.invariant-loop-self
invariant-loop-self l = record {
  catching : (stream : List ℕ) (answered : List Piece) (before : List ℕ)
      → StandsFor l.fn.self.framer stream answered →
      has_ended l.fn.self.task l.fn.self.refused ≡ false
      → JudgesAll l.fn.self.task [] answered l.fn.self.refused before →
      Catching l.fn.self.task l.self.framer
      stream answered l.self.refused before l.fn.self.text.items l.self.text.items;
  task : l.self.task ≡ l.fn.self.task;
  kind : l.self.framer.kind ≡ l.fn.self.framer.kind;
}

abbrev pub decreases-loop-self : goal.decreases-loop-self
decreases-loop-self l = pending l.self.framer
