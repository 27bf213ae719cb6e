use Rattle.std.proofs.Common.{[], ◌∷◌}
use Rattle.drop_taps.specs.Shown.{state_by}
use Rattle.drop_taps.proofs.Showing.{SeenUpTo}
use Rattle.drop_taps.proofs.taps.show_all.Given as goal

abbrev pub invariant-loop-tap : goal.invariant-loop-tap
invariant-loop-tap g l =
    SeenUpTo (state_by (λ tap. (goal.Tap-dyn g (tap.vtable, tap.value)).has_failed tap.value)
    (λ tap. (goal.Tap-dyn g (tap.vtable, tap.value)).entries tap.value)
    (λ tap. (goal.Tap-dyn g (tap.vtable, tap.value)).tally tap.value)
    (λ tap. (goal.Tap-dyn g (tap.vtable, tap.value)).counts_all tap.value)
    (λ tap. (goal.Tap-dyn g (tap.vtable, tap.value)).refused tap.value))
    l.tap-index l.initial.tap-items l.tap-items (l.entry ∷ [])
