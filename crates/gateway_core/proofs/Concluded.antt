-- From the messages that are given out to the plan.
use Rattle.std.proofs.Common.{◌≡◌, ℕ, Option, Result, Ok, sym, ap, ◌∙◌}
use Rattle.order_meaning.specs.declared.Side.{Side}
use Rattle.session_core.specs.declared.session.Step.{Step}
use Rattle.pair_entries.specs.declared.entry.Took.{Took}
use Rattle.event_decisions.specs.Decide.{Sessions, Words, Heard, Decision}
use Rattle.event_decisions.specs.Decide.{with_session, give}
use Rattle.gateway_core.specs.declared.sessions.Given.{Given as CodeGiven}
use Rattle.gateway_core.specs.Planning.{gave, given_by}

abbrev so : Decision → Result Decision Side
so d = Ok d

module _ (s : Sessions) (side : Side) (h : Heard) (took : Option Took) (words : Option Words)
    (step : Step) (now : ℕ) (r : Result CodeGiven Side)
    (gives : gave r ≡ give now (with_session side step.next s) words) where
  given_is : (given : CodeGiven) → r ≡ Ok given
      → give now (with_session side step.next s) words ≡ Ok (given_by given)
  given_is given is = sym gives ∙ ap gave is
