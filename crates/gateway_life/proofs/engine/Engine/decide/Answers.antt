use Rattle.std.proofs.Common.{◌∙◌, ◌++◌, ap, sym, refl, subst}
use Rattle.std.specs.Prelude.{IfSome}
use Rattle.std.specs.Option.{option_to_list}
use Rattle.pair_entries.specs.Payload.{IsEntry}
use Rattle.kept_entries.specs.Days.{last_day}
use Rattle.pair_journal.specs.State.{JournalState}
use Rattle.gateway_core.specs.State.{event_of}
use Rattle.wire_sends.specs.Again.{IsGiven}
use Rattle.wire_sends.specs.Sent.{AreSendable}
use Rattle.gateway_life.specs.Ended.{end_of}
use Rattle.gateway_life.specs.State.{seen}
use Rattle.gateway_life.proofs.Deciding.{planned, decided_by, ready_decided, alone_left}
use Rattle.gateway_life.proofs.Deciding.{refused_left, refused_why, want_why, plan_why, undone}
use Rattle.gateway_life.proofs.Deciding.{world_same}
use Rattle.gateway_life.proofs.Today.{GoesToday, sound_more}
use Rattle.gateway_life.proofs.engine.Engine.decide.Goals as goal

pub commit-requires-clause-goes_on : goal.commit-requires-clause-goes_on
commit-requires-clause-goes_on g c =
    let same = ap (λ (j : JournalState). j.entries) c.in_ok-reserve.ensures.ok in
    let made = planned c.decisions_continue.ensures (seen c.args.self.now) _
    (event_of c.args.event.now) c.args.now c.in_ok-plan.plan c.reserve.new.self same
    c.requires.ready c.in_ok-plan.ensures.plans c.in_ok-plan.ensures.grows in
    subst (λ l. GoesToday l c.in_ok-plan.plan.entry) (sym same) made.goes_on

pub returns-in_err-reserve-clause-images : goal.returns-in_err-reserve-clause-images
returns-in_err-reserve-clause-images g c =
    alone_left c.from_residual.result (g.D.Disk.bytes c.args.disk.now) _
    (seen c.args.self.now) (event_of c.args.event.now) c.args.now c.requires.ready

pub returns-in_err-plan-clause-images : goal.returns-in_err-plan-clause-images
returns-in_err-plan-clause-images g c =
    alone_left c.from_residual-in_err-plan.result (g.D.Disk.bytes c.args.disk.now) _
    (seen c.args.self.now) (event_of c.args.event.now) c.args.now c.requires.ready

pub returns-in_err-hold-clause-images : goal.returns-in_err-hold-clause-images
returns-in_err-hold-clause-images g c =
    alone_left c.from_residual-in_err-hold.result (g.D.Disk.bytes c.args.disk.now) _
    (seen c.args.self.now) (event_of c.args.event.now) c.args.now c.requires.ready

pub returns-in_err-reserve-clause-why : goal.returns-in_err-reserve-clause-why
returns-in_err-reserve-clause-why g c =
    want_why c.from_residual.result (end_of c.in_err-reserve.field-0.0) (seen c.args.self.now)
    (event_of c.args.event.now) c.args.now c.from_residual.ensures.1
    (ap end_of c.in_err-reserve.ensures.only)

pub returns-in_err-plan-clause-why : goal.returns-in_err-plan-clause-why
returns-in_err-plan-clause-why g c =
    plan_why c.from_residual-in_err-plan.result c.in_err-plan.field-0.0 (seen c.args.self.now) _
    (event_of c.args.event.now) c.args.now c.reserve.new.self
    c.from_residual-in_err-plan.ensures.1
    (ap (λ (j : JournalState). j.entries) c.in_ok-reserve.ensures.ok) c.requires.ready
    c.in_err-plan.ensures.plans

pub returns-in_err-hold-clause-why : goal.returns-in_err-hold-clause-why
returns-in_err-hold-clause-why g c =
    want_why c.from_residual-in_err-hold.result _ (seen c.args.self.now)
    (event_of c.args.event.now) c.args.now c.from_residual-in_err-hold.ensures.1 refl

pub returns-in-Ok-clause-decided : goal.returns-in-Ok-clause-decided
returns-in-Ok-clause-decided g c =
    let old = c.args.self.now in
    let all = old.journal.entries in
    let plan = c.in_ok-plan.plan in
    let same = ap (λ (j : JournalState). j.entries) c.in_ok-reserve.ensures.ok in
    let made = planned c.decisions_continue.ensures (seen old) _
    (event_of c.args.event.now) c.args.now plan c.reserve.new.self same
    c.requires.ready c.in_ok-plan.ensures.plans c.in_ok-plan.ensures.grows in
    let bounds = subst (λ e. IfSome e IsEntry) c.in-Ok.ensures.entry c.in-Ok.ensures.bounds in
    decided_by (seen old) (record {
      journal = c.commit.new.journal;
      core = c.apply.new.self;
      client_up = old.client_up;
      venue_up = old.venue_up;
    }) c.hold.new.self (event_of c.args.event.now) c.args.now plan c.in-Ok.entry made
    c.in-Ok.ensures.entry
    (c.in-Ok.ensures.entries ∙ ap (λ l. l ++ option_to_list plan.entry) same)
    c.requires.ready.sound
    (sound_more all plan.entry c.requires.ready.sound bounds made.goes_on)
    c.in_ok-hold.ensures.ok c.apply.ensures

pub returns-in-Ok-clause-ready : goal.returns-in-Ok-clause-ready
returns-in-Ok-clause-ready g c =
    let old = c.args.self.now in
    let plan = c.in_ok-plan.plan in
    let same = ap (λ (j : JournalState). j.entries) c.in_ok-reserve.ensures.ok in
    let names = ap (λ (j : JournalState). j.names) c.in_ok-reserve.ensures.ok in
    let made = planned c.decisions_continue.ensures (seen c.args.self.now) _
    (event_of c.args.event.now) c.args.now c.in_ok-plan.plan c.reserve.new.self same
    c.requires.ready c.in_ok-plan.ensures.plans c.in_ok-plan.ensures.grows in
    let bounds = subst (λ e. IfSome e IsEntry) c.in-Ok.ensures.entry c.in-Ok.ensures.bounds in
    ready_decided (seen old) (g.D.Disk.bytes c.args.disk.now) (g.D.Disk.bytes c.commit.new.disk)
    c.commit.new.journal c.hold.new.self c.apply.new.self (event_of c.args.event.now) c.args.now
    plan old.client_up old.venue_up c.requires.ready (c.commit.ensures.names ∙ names)
    c.in-Ok.ensures.whole
    (c.in-Ok.ensures.entries ∙ ap (λ l. l ++ option_to_list plan.entry) same) bounds made
    c.in_ok-hold.ensures.ok c.apply.ensures c.in-Ok.ensures.stands

pub returns-in-Ok-clause-sendable : goal.returns-in-Ok-clause-sendable
returns-in-Ok-clause-sendable g c =
    let same = ap (λ (j : JournalState). j.entries) c.in_ok-reserve.ensures.ok in
    let made = planned c.decisions_continue.ensures (seen c.args.self.now) _
    (event_of c.args.event.now) c.args.now c.in_ok-plan.plan c.reserve.new.self same
    c.requires.ready c.in_ok-plan.ensures.plans c.in_ok-plan.ensures.grows in
    let bounds = subst (λ e. IfSome e IsEntry) c.in-Ok.ensures.entry c.in-Ok.ensures.bounds in
    subst (λ e. IfSome e (λ x. AreSendable x.outs)) (sym c.in-Ok.ensures.entry)
    (made.sendable bounds)

pub returns-in-Ok-clause-given : goal.returns-in-Ok-clause-given
returns-in-Ok-clause-given g c =
    let plan = c.in_ok-plan.plan in
    let same = ap (λ (j : JournalState). j.entries) c.in_ok-reserve.ensures.ok in
    let made = planned c.decisions_continue.ensures (seen c.args.self.now) _
    (event_of c.args.event.now) c.args.now c.in_ok-plan.plan c.reserve.new.self same
    c.requires.ready c.in_ok-plan.ensures.plans c.in_ok-plan.ensures.grows in
    subst (λ l. IsGiven (last_day l) plan.resend)
    (sym (c.in-Ok.ensures.entries ∙ ap (λ l. l ++ option_to_list plan.entry) same)) made.given

pub returns-in-Err-clause-refused : goal.returns-in-Err-clause-refused
returns-in-Err-clause-refused g c =
    let old = c.args.self.now in
    let same = ap (λ (j : JournalState). j.entries) c.in_ok-reserve.ensures.ok in
    let back = undone old.core c.hold.new.self c.undo_if.new.core c.in_ok-plan.plan.item
    c.is_some-held.result c.is_some-held.ensures c.in_ok-hold.ensures.ok c.undo_if.ensures in (
      world_same (seen old) (record {
        journal = c.commit.new.journal;
        core = c.undo_if.new.core;
        client_up = old.client_up;
        venue_up = old.venue_up;
      }) (c.in-Err.ensures.refused ∙ same) back.0 refl refl,
      back.1,
      c.in-Err.ensures.refused ∙ same,
    )

pub returns-in-Err-clause-images : goal.returns-in-Err-clause-images
returns-in-Err-clause-images g c =
    let old = c.args.self.now in
    let ready = c.requires.ready in
    let same = ap (λ (j : JournalState). j.entries) c.in_ok-reserve.ensures.ok in
    let names = ap (λ (j : JournalState). j.names) c.in_ok-reserve.ensures.ok in
    let made = planned c.decisions_continue.ensures (seen c.args.self.now) _
    (event_of c.args.event.now) c.args.now c.in_ok-plan.plan c.reserve.new.self same
    c.requires.ready c.in_ok-plan.ensures.plans c.in_ok-plan.ensures.grows in
    refused_left (g.D.Disk.bytes c.args.disk.now) _ _ c.reserve.new.self.names
    old.core.config.names c.in-Err.error c.into.result (seen old) (event_of c.args.event.now)
    c.args.now c.in_ok-plan.plan c.reserve.new.self.entries c.into.ensures (names ∙ ready.names)
    ready.sound same made c.in-Err.ensures.images

pub returns-in-Err-clause-why : goal.returns-in-Err-clause-why
returns-in-Err-clause-why g c =
    let old = c.args.self.now in
    let ready = c.requires.ready in
    let same = ap (λ (j : JournalState). j.entries) c.in_ok-reserve.ensures.ok in
    let names = ap (λ (j : JournalState). j.names) c.in_ok-reserve.ensures.ok in
    let made = planned c.decisions_continue.ensures (seen c.args.self.now) _
    (event_of c.args.event.now) c.args.now c.in_ok-plan.plan c.reserve.new.self same
    c.requires.ready c.in_ok-plan.ensures.plans c.in_ok-plan.ensures.grows in
    refused_why c.in-Err.error c.into.result (seen old) (event_of c.args.event.now) c.args.now
    c.in_ok-plan.plan c.reserve.new.self c.into.ensures (names ∙ ready.names) ready.sound same made
    c.in-Err.ensures.why
