use Rattle.std.proofs.Common.{◌≡◌}
use Rattle.drop_taps.specs.Shown.{state_by}
use Rattle.capture_replay.specs.Lived.{SoFar}
use Rattle.capture_replay.proofs.replaying.replay.Given as goal

abbrev pub invariant-loop-index : goal.invariant-loop-index
invariant-loop-index g l = record {
  so_far : SoFar (state_by (λ tap. (goal.Tap-dyn g (tap.vtable, tap.value)).has_failed tap.value)
      (λ tap. (goal.Tap-dyn g (tap.vtable, tap.value)).entries tap.value)
      (λ tap. (goal.Tap-dyn g (tap.vtable, tap.value)).tally tap.value)
      (λ tap. (goal.Tap-dyn g (tap.vtable, tap.value)).counts_all tap.value)
      (λ tap. (goal.Tap-dyn g (tap.vtable, tap.value)).refused tap.value))
      l.capture l.index l.moment l.fn.taps.items l.taps.items l.image.items
      (g.O.Sink.bytes l.fn.out) (g.O.Sink.bytes l.out);
  faults : g.O.Sink.faults l.out ≡ g.O.Sink.faults l.fn.out;
}
