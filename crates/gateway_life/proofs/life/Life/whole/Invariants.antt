use Rattle.std.proofs.Common.{◌≡◌, List, ◌+◌, length, Ok, ℕ}
use Rattle.wires.specs.Told.{GrowsBy, Keeps}
use Rattle.drop_taps.specs.Shown.{state_by}
use Rattle.gateway_life.specs.Ready.{IfTold}
use Rattle.gateway_life.specs.Stepped.{records}
use Rattle.gateway_life.specs.Life.{counted_on}
use Rattle.gateway_life.specs.Rounds.{IsLive, RoundsDone}
use Rattle.gateway_life.specs.Dealt.{around, Kept}
use Rattle.gateway_life.proofs.life.Life.whole.Given as goal

abbrev pub decreases-rounds : goal.decreases-rounds
decreases-rounds g l = l.left

abbrev pub invariant-rounds : goal.invariant-rounds
invariant-rounds g l = record {
  kept : Kept (state_by (λ tap. (goal.Tap-dyn g (tap.vtable, tap.value)).has_failed tap.value)
      (λ tap. (goal.Tap-dyn g (tap.vtable, tap.value)).entries tap.value)
      (λ tap. (goal.Tap-dyn g (tap.vtable, tap.value)).tally tap.value)
      (λ tap. (goal.Tap-dyn g (tap.vtable, tap.value)).counts_all tap.value)
      (λ tap. (goal.Tap-dyn g (tap.vtable, tap.value)).refused tap.value))
      l.initial.taps.items l.taps.items
      (around l.initial.self.engine (g.D.Disk.bytes l.initial.disk) (g.D.Disk.image l.initial.disk)
      (g.D.Disk.faults l.initial.disk) (g.C.Wire.recorded l.initial.client)
      (g.V.Wire.recorded l.initial.venue))
      (around l.self.engine (g.D.Disk.bytes l.disk) (g.D.Disk.image l.disk)
      (g.D.Disk.faults l.disk) (g.C.Wire.recorded l.client) (g.V.Wire.recorded l.venue))
      (Ok (tt {0}));
  live : IsLive l.self (g.D.Disk.bytes l.disk) (g.C.Wire.recorded l.client)
      (g.V.Wire.recorded l.venue);
  done : (given : List ℕ) × (length given + l.left ≡ l.rounds)
      × GrowsBy (g.K.Clock.moments l.initial.clock) (g.K.Clock.moments l.clock) given
      × IfTold (g.D.Disk.bytes l.initial.disk)
      (RoundsDone l.initial.self.engine.core.config l.initial.self l.self given
      (records (g.C.Wire.recorded l.initial.client) (g.V.Wire.recorded l.initial.venue))
      (records (g.C.Wire.recorded l.client) (g.V.Wire.recorded l.venue)));
  client_polls : counted_on l.left (g.C.Wire.polls l.client)
      ≡ counted_on l.rounds (g.C.Wire.polls l.initial.client);
  venue_polls : counted_on l.left (g.V.Wire.polls l.venue)
      ≡ counted_on l.rounds (g.V.Wire.polls l.initial.venue);
  client_plays : Keeps (g.C.Wire.plays l.initial.client) (g.C.Wire.plays l.client);
  venue_plays : Keeps (g.V.Wire.plays l.initial.venue) (g.V.Wire.plays l.venue);
  follows : Keeps (g.K.Clock.follows l.initial.clock) (g.K.Clock.follows l.clock);
}
