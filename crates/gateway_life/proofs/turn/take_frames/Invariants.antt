use Rattle.std.proofs.Common.{◌≡◌, List, Ok, ℕ}
use Rattle.std.specs.Prelude.{map}
use Rattle.wires.specs.Told.{Keeps}
use Rattle.frame_grammar.specs.Cut.{Piece}
use Rattle.frame_grammar.specs.Framer.{StandsFor}
use Rattle.frame_grammar.specs.Held.{pending}
use Rattle.drop_taps.specs.Shown.{state_by}
use Rattle.event_decisions.specs.Event.{Frame}
use Rattle.gateway_life.specs.State.{seen}
use Rattle.gateway_life.specs.Dealt.{around, Dealt}
use Rattle.gateway_life.specs.Turned.{Answered}
use Rattle.gateway_life.proofs.turn.take_frames.Given as goal

abbrev pub decreases-frames : goal.decreases-frames
decreases-frames g l = pending l.framer

abbrev pub invariant-frames : goal.invariant-frames
invariant-frames g l = record {
  kind : l.framer.kind ≡ l.initial.framer.kind;
  stands : (stream : List ℕ) × (answered : List Piece) × StandsFor l.framer stream answered;
  dealt : (bodies : List (List ℕ)) × Answered l.initial.framer l.framer bodies
      × Dealt (state_by (λ tap. (goal.Tap-dyn g (tap.vtable, tap.value)).has_failed tap.value)
      (λ tap. (goal.Tap-dyn g (tap.vtable, tap.value)).entries tap.value)
      (λ tap. (goal.Tap-dyn g (tap.vtable, tap.value)).tally tap.value)
      (λ tap. (goal.Tap-dyn g (tap.vtable, tap.value)).counts_all tap.value)
      (λ tap. (goal.Tap-dyn g (tap.vtable, tap.value)).refused tap.value))
      l.initial.taps.items l.taps.items
      (around (seen l.initial.engine) (g.D.Disk.bytes l.initial.disk)
      (g.D.Disk.image l.initial.disk) (g.D.Disk.faults l.initial.disk)
      (g.C.Wire.recorded l.initial.client) (g.V.Wire.recorded l.initial.venue))
      (around (seen l.engine) (g.D.Disk.bytes l.disk) (g.D.Disk.image l.disk)
      (g.D.Disk.faults l.disk) (g.C.Wire.recorded l.client) (g.V.Wire.recorded l.venue))
      (map (Frame l.side) bodies) l.now (Ok (tt {0}));
  client_polls : g.C.Wire.polls l.client ≡ g.C.Wire.polls l.initial.client;
  venue_polls : g.V.Wire.polls l.venue ≡ g.V.Wire.polls l.initial.venue;
  client_plays : Keeps (g.C.Wire.plays l.initial.client) (g.C.Wire.plays l.client);
  venue_plays : Keeps (g.V.Wire.plays l.initial.venue) (g.V.Wire.plays l.venue);
}
