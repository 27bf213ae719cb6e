use Rattle.std.proofs.Common.{◌≡◌, ◌≤◌, ◌+◌, ◌-◌, ◌∙◌, sym, subst, refl, arith, Some, inl}
use Rattle.std.proofs.Common.{inr}
use Rattle.std.specs.Option.{ForSome}
use Rattle.kept_entries.specs.Days.{last_day}
use Rattle.pair_journal.specs.Journal.{JournalOf, Born}
use Rattle.kept_entries.proofs.Dating.{last_is_sound}
use Rattle.life_laws.specs.Forms.{form_frame}
use Rattle.life_laws.specs.Repeats.{repeats, run_after, repeat_forms}
use Rattle.wire_sends.specs.Again.{Repeated, run_of, placed_by}
use Rattle.wire_sends.proofs.Placing.{told_is_placed}
use Rattle.wire_sends.proofs.Repeating.{begin_repeat, repeat_step, end_repeat}
use Rattle.wire_sends.proofs.Repeating.{begun_at, run_ends, only_none, only_more}
use Rattle.wire_sends.proofs.repeats.repeat_outs.Goals as goal

pub loop-number-init : goal.loop-number-init
loop-number-init g c = record {
  agrees = c.requires.agrees;
  begun = tt;
  within = inl refl;
  only_read = only_none _ _;
  faults = refl;
  polls = refl;
  plays = λ script plays. plays;
  walk = c.restart.ensures.walk (g.D.Disk.bytes c.args.disk.now) c.args.journal.now.entries
      c.args.again.side c.args.again.from c.requires.from;
  sent = λ b e. begin_repeat _ _ _ _;
}

pub out-requires-clause-above : goal.out-requires-clause-above
out-requires-clause-above g c = omega (arith, c.requires.from, c.loop-number.auto.number)

pub out-requires-clause-below : goal.out-requires-clause-below
out-requires-clause-below g c = omega
    (arith, c.requires.to, c.requires.from, c.loop-number-test.true, c.loop-number.auto.number)

pub out-requires-clause-stands : goal.out-requires-clause-stands
out-requires-clause-stands g c =
    subst (λ t. ForSome t (λ b. JournalOf b
    (Born c.args.journal.now.names c.args.journal.now.entries)))
    (sym c.loop-number.invariant.only_read.same) c.requires.stands

pub loop-number-preserved : goal.loop-number-preserved
loop-number-preserved g c =
    let inv = c.loop-number.invariant in
    let side = c.args.again.side in
    let entries = last_day c.args.journal.now.entries in
    let number = c.loop-number.number in
    let told = c.out.new.into.told in
    let end = c.args.again.to + 1 in
    let all = repeat_forms entries side c.args.again.from c.args.again.to c.args.again.now in
    let ran : run_of c.run_behind-run.result
    ≡ run_after (run_of c.loop-number.run) number (Some (placed_by side number told)) =
    c.run_behind-run.ensures.run side in
    record {
      agrees = c.send_again-still.ensures.agrees;
      begun = c.run_behind-run.ensures.begun;
      within = inr (omega (arith, c.loop-number-test.true));
      only_read = only_more _ _ _ _ _ _ inv.only_read c.out.ensures.only_read;
      faults = c.in_ok-out.ensures.cause ∙ inv.faults;
      polls = c.send_again-still.ensures.polls ∙ inv.polls;
      plays = λ script plays. c.send_again-still.ensures.plays script (inv.plays script plays);
      walk = c.out.ensures.walk (number + 1) (omega arith);
      sent = λ b e. subst (λ q. Repeated (g.W.Wire.recorded c.args.wire.now)
          (g.W.Wire.recorded c.send_again-still.new.wire) c.args.up
          (form_frame c.args.names.now side) c.send_again-still.result
          (repeats entries side q (number + 1) c.args.again.now (end - (number + 1))) all)
          (sym ran)
          (repeat_step _ _ _ _ _ _ (form_frame c.args.names.now side) entries side
          (run_of c.loop-number.run) number c.args.again.now end (placed_by side number told) all
          c.loop-number-test.true
          (told_is_placed side number entries told
          (last_is_sound c.args.journal.now.entries c.requires.sound)
          (c.in_ok-out.ensures.out b (inv.only_read.same ∙ e)))
          (inv.sent b e) c.send_again-still.ensures.sent);
    }

pub send_run-requires-clause-begun : goal.send_run-requires-clause-begun
send_run-requires-clause-begun g c =
    begun_at c.loop-number.run c.loop-number.number (c.args.again.to + 1)
    c.loop-number.invariant.begun c.loop-number.invariant.within
    (omega (arith, c.loop-number-test.false))

pub returns-clause-sent : goal.returns-clause-sent
returns-clause-sent g c = λ b e.
    let inv = c.loop-number.invariant in
    let side = c.args.again.side in
    let end = c.args.again.to + 1 in
    let past : end ≤ c.loop-number.number = omega (arith, c.loop-number-test.false) in
    end_repeat _ _ _ _ _ _ (form_frame c.args.names.now side)
    (last_day c.args.journal.now.entries) side
    (run_of c.loop-number.run) c.loop-number.number c.args.again.now end
    (repeat_forms (last_day c.args.journal.now.entries) side c.args.again.from c.args.again.to
    c.args.again.now) past
    (run_ends c.loop-number.run c.loop-number.number end inv.within past)
    (inv.sent b e) c.send_run.ensures.sent
