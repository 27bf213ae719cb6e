use Rattle.std.proofs.Common.{◌≡◌, [], ◌∷◌, length, arith}
use Rattle.drop_taps.proofs.Showing.{up_to_step, shown_all}
use Rattle.drop_taps.proofs.taps.show_all.Goals as goal

pub loop-tap-preserved : goal.loop-tap-preserved
loop-tap-preserved g c =
    up_to_step _ c.loop-tap.tap-index c.deref_mut-tap-items.result.now c.loop-tap.tap-items
    (c.args.entry.now ∷ []) c.tap-item.result c.show_to.new.tap c.loop-tap.invariant
    (omega (arith, c.loop-tap-test.true, c.loop-tap.auto.tap-items)) c.show_to.ensures

pub returns : goal.returns
returns g c =
    let size : c.args.taps.now.len ≡ length c.loop-tap.tap-items =
    omega (
      arith,
      c.args.taps.now.ok.0,
      c.loop-tap.auto.tap-items,
      c.deref_mut-tap-items.ensures.len,
    ) in
    shown_all _ c.loop-tap.tap-index c.args.taps.now.len c.args.taps.now.items
    c.deref_mut-tap-items.result.now c.loop-tap.tap-items (c.args.entry.now ∷ [])
    c.deref_mut-tap-items.ensures.value size
    (omega (arith, c.loop-tap-test.false, c.loop-tap.auto.tap-items)) c.loop-tap.invariant
