-- A step that does nothing and changes no number decides nothing but its session.
use Rattle.std.proofs.Common.{◌≡◌, ℕ, Bool, true, List, [], Some, None, Result, Ok}
use Rattle.std.proofs.Common.{if◌then◌else◌, ap, sym, ◌∙◌, ◌∷◌, ◌<◌, length}
use Rattle.std.proofs.Common.{refl, arith, false, eq-eqb}
use Rattle.std.specs.Prelude.{◌&&◌}
use Rattle.order_meaning.specs.declared.Side.{Side}
use Rattle.order_meaning.specs.declared.Side.TheVariants.{Client, Venue}
use Rattle.pair_entries.specs.declared.entry.Entry.{Entry}
use Rattle.session_core.specs.declared.act.Act.{Act}
use Rattle.session_core.specs.declared.session.Step.{Step}
use Rattle.session_core.specs.Table as session
use Rattle.event_decisions.specs.Event.{Tick}
use Rattle.message_answers.specs.Answer.{Answers}
use Rattle.event_decisions.specs.Decide.{Sessions, Given, Decision, session_of, with_session}
use Rattle.event_decisions.specs.Decide.{numbers_of, same_numbers, says_of, Decides}
use Rattle.gateway_core.specs.Planning.{silent, entry_by, decision_by, resolved}
use Rattle.gateway_core.specs.State.{CoreState, sessions_in, no_change}
use Rattle.gateway_core.proofs.Planned.{quiet_plans}

pub none_below : (acts : List Act) → length acts < 1 → acts ≡ []
none_below [] short = refl
none_below (act ∷ acts) short = absurd (omega (arith, short))

module _ (s : Sessions) (side : Side) (step : Step) (now : ℕ) where
  abbrev given : Given
  given = record { outs = []; sessions = with_session side step.next s }

  abbrev at : List Act → Result Decision Side
  at acts = Ok (decision_by s side acts None
      (says_of side step.next.heart silent (session_of side s).numbers.next_out acts) given now)

  abbrev with : Bool → Result Decision Side
  with same = Ok (record {
    entry = if same then None else Some (entry_by None [] given now);
    sessions = with_session side step.next s;
    repeat = None;
    hang_up = None;
  })

  -- the sessions go on so
  abbrev pub going_on : Sessions → Result Decision Side
  going_on after = Ok (record { entry = None; sessions = after; repeat = None; hang_up = None })

  pub still_comes : (after : Sessions) → step.acts ≡ []
      → after ≡ with_session side step.next s
      → same_numbers (numbers_of s) (numbers_of after) ≡ true
      → resolved s side silent None None step now ≡ going_on after
  still_comes after nothing is same = ap at nothing
      ∙ ap with (ap (λ (x : Sessions). same_numbers (numbers_of s) (numbers_of x)) (sym is) ∙ same)
      ∙ ap going_on (sym is)

-- ---- a tick

same : (s : Sessions) → same_numbers (numbers_of s) (numbers_of s) ≡ true
same s = both _ _ (eq-eqb s.client.numbers.next_in _ refl) (both _ _
    (eq-eqb s.client.numbers.next_out _ refl) (both _ _ (eq-eqb s.venue.numbers.next_in _ refl)
    (eq-eqb s.venue.numbers.next_out _ refl)))
  where
    both : (a b : Bool) → a ≡ true → b ≡ true → (a && b) ≡ true
    both true b is and = and
    both false b is and = absurd (cc is)

unmoved : (s : Sessions) (side : Side) → s ≡ with_session side (session_of side s) s
unmoved s Client = refl
unmoved s Venue = refl

-- one that does nothing and changes nothing
pub rests_on : (core : CoreState) (entries : List Entry) (side : Side) (now : ℕ)
    → session.step (session_of side (sessions_in core)) session.Tick now
    ≡ Ok (session.does [] (session_of side (sessions_in core)))
    → Decides Answers core.config.names core.config.window entries (sessions_in core) (Tick side)
    now (Ok (no_change core))
rests_on core entries side now is =
    let s : Sessions = sessions_in core in
    let step : Step = session.does [] (session_of side s) in
    quiet_plans core entries (Tick side) now (Ok step) (Ok (record {
      entry = None;
      item = None;
      client = core.client;
      venue = core.venue;
      resend = None;
      hang_up = None;
      fresh = None;
    })) tt (sym is) (still_comes s side step now s refl (unmoved s side) (same s))
