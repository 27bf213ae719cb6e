use Rattle.std.proofs.Common.{◌≡◌, ◌<◌, ◌∷◌, ◌++◌, ◌∙◌, [], length, refl, sym}
use Rattle.std.proofs.Common.{subst, ap, arith, length-append}
use Rattle.gate_log.specs.Log.{ReadsPayload}
use Rattle.pair_journal.specs.Loading.{Follows, Unread}
use Rattle.pair_journal.proofs.Walking.{walks_at, only_read_still, only_read_on}
use Rattle.pair_journal.proofs.Reading.{TellsFront, none_told, not_past, entry_unread}
use Rattle.pair_journal.proofs.Reading.{entry_misread}
use Rattle.pair_journal.proofs.Reading.{more_told, all_told, not_short, extent_is, err_misread}
use Rattle.pair_journal.proofs.loading.read_entries.Goals as goal

pub loop-index-init : goal.loop-index-init
loop-index-init g c =
    let none : [] ≡ g.K.Keeper.entries c.args.keeper = sym c.requires.none in
    record {
      front = subst (TellsFront (g.D.Disk.bytes c.args.disk.now) c.args.names.now)
          none (none_told _ c.args.names.now c.requires.born);
      count = omega (arith, ap length none);
      most = omega (arith, c.count-index-end.ensures.count, c.count-index-end.ensures.born);
      shown = λ s. subst (g.R.Reader.shown c.args.reader.now) none s;
      only_read = only_read_still _ _;
      still = refl;
      of = c.requires.of;
    }

pub returns-then-end-clause-err : goal.returns-then-end-clause-err
returns-then-end-clause-err g c =
    let i = c.loop-index.invariant in
    let walks = walks_at c.args.names.now _ _ _ _ c.requires.named c.end-end.ensures.sound i.count
    refl c.end-end.ensures.end in
    not_past (g.D.Disk.bytes c.args.disk.now) c.args.log.now c.requires.stands c.args.names.now
    c.requires.named _ _ _ _ _ walks i.front
    (omega (arith, c.loop-index-test.true, c.count-index-end.ensures.count))
    (omega (arith, c.if-end.true, c.end.ensures.place))

pub returns-in_err-read_record-clause-err : goal.returns-in_err-read_record-clause-err
returns-in_err-read_record-clause-err g c =
    let i = c.loop-index.invariant in
    let told = g.D.Disk.bytes c.args.disk.now in
    let walks = walks_at c.args.names.now _ _ _ _ c.requires.named c.end-end.ensures.sound i.count
    refl c.end-end.ensures.end in
    let error = c.in_err-read_record.field-0.0 in
    err_misread c.from_residual.result error told c.from_residual.ensures.1
    (entry_unread told c.args.log.now c.requires.stands c.args.names.now c.requires.named
    _ _ _ _ _ walks i.front (omega (arith, c.loop-index-test.true, c.count-index-end.ensures.count))
    error (subst (λ t. Unread t c.end-end.result.place error) i.only_read.same
    c.in_err-read_record.ensures.err))

pub returns-in_default-clause-err : goal.returns-in_default-clause-err
returns-in_default-clause-err g c =
    let i = c.loop-index.invariant in
    let walks = walks_at c.args.names.now _ _ _ _ c.requires.named c.end-end.ensures.sound i.count
    c.day.ensures.number c.end-end.ensures.end in
    let read = subst (λ t. ReadsPayload t c.end-end.result.place c.payload-payload.result.now)
    i.only_read.same (subst (ReadsPayload (g.D.Disk.bytes c.loop-index.disk) c.end-end.result.place)
    (sym c.payload-payload.ensures.payload) c.in_ok-read_record.ensures.payload) in
    entry_misread (g.D.Disk.bytes c.args.disk.now) c.args.log.now c.requires.stands
    c.args.names.now c.requires.named _ _ _ _ _ walks i.front
    (omega (arith, c.loop-index-test.true, c.count-index-end.ensures.count))
    c.payload-payload.result.now read c.in_default.ensures

pub loop-index-preserved : goal.loop-index-preserved
loop-index-preserved g c =
    let i = c.loop-index.invariant in
    let entries = g.K.Keeper.entries c.loop-index.kept in
    let entry = c.in-Some.entry in
    let walks = walks_at c.args.names.now entries _ _ _ c.requires.named c.end-end.ensures.sound
    i.count c.day.ensures.number c.end-end.ensures.end in
    let within : c.loop-index.index < c.args.log.now.count =
    omega (arith, c.loop-index-test.true, c.count-index-end.ensures.count) in
    let read = subst (λ t. ReadsPayload t c.end-end.result.place c.payload-payload.result.now)
    i.only_read.same (subst (ReadsPayload (g.D.Disk.bytes c.loop-index.disk) c.end-end.result.place)
    (sym c.payload-payload.ensures.payload) c.in_ok-read_record.ensures.payload) in
    let follows : Follows c.day.result c.end-end.result.next c.payload-payload.result.now entry =
    c.in-Some.ensures in
    let pushed : g.K.Keeper.entries c.keep.new.self ≡ entries ++ entry ∷ [] =
    c.in_ok-keep.ensures in
    record {
      front = more_told (g.D.Disk.bytes c.args.disk.now) c.args.log.now c.requires.stands
          c.args.names.now c.requires.named entries _ _ _ _ walks i.front within
          c.payload-payload.result.now read entry (g.K.Keeper.entries c.keep.new.self) follows
          pushed;
      count = omega (arith, i.count, ap length pushed, length-append entries (entry ∷ []));
      most = omega (arith, within);
      shown = λ s. subst (g.R.Reader.shown c.saw.new.self) (sym pushed)
          (c.in_ok-saw.ensures entries (i.shown s));
      only_read = only_read_on _ _ _ _ _ _ i.only_read c.in_ok-read_record.ensures.only_read;
      still = c.in_ok-read_record.ensures.cause ∙ i.still;
      of = c.read_record.ensures.of;
    }

pub returns-then-place-end-clause-err : goal.returns-then-place-end-clause-err
returns-then-place-end-clause-err g c =
    let i = c.loop-index.invariant in
    let walks = walks_at c.args.names.now _ _ _ _ c.requires.named c.end-place.ensures.sound i.count
    refl c.end-place.ensures.end in
    not_short (g.D.Disk.bytes c.args.disk.now) c.args.log.now c.requires.stands c.args.names.now
    c.requires.named _ _ _ _ _ walks i.front
    (omega (arith, c.loop-index-test.false, c.count-index-end.ensures.count))
    (λ e. omega (arith, c.if-place-end.true, c.end-2.ensures.place, e))

pub returns-clause-ok : goal.returns-clause-ok
returns-clause-ok g c =
    let i = c.loop-index.invariant in
    let walks = walks_at c.args.names.now _ _ _ _ c.requires.named c.end-place.ensures.sound i.count
    refl c.end-place.ensures.end in
    all_told (g.D.Disk.bytes c.args.disk.now) c.args.log.now c.requires.stands c.args.names.now
    c.requires.named _ _ _ _ _ walks i.front
    (omega (arith, c.loop-index-test.false, c.count-index-end.ensures.count))

pub returns-clause-extent : goal.returns-clause-extent
returns-clause-extent g c =
    let i = c.loop-index.invariant in
    let walks = walks_at c.args.names.now _ _ _ _ c.requires.named c.end-place.ensures.sound i.count
    refl c.end-place.ensures.end in
    extent_is (g.D.Disk.bytes c.args.disk.now) c.args.log.now c.requires.stands c.args.names.now
    c.requires.named _ _ _ _ _ walks i.front
    (omega (arith, c.loop-index-test.false, c.count-index-end.ensures.count)) i.most
    (omega (arith, c.if-place-end.false, c.end-2.ensures.place))
