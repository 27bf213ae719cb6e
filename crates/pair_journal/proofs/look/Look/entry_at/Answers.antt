use Rattle.std.proofs.Common.{◌+◌, ◌∙◌, length, sym, ap, subst, arith}
use Rattle.std.specs.Option.{ForSome}
use Rattle.pair_entries.specs.declared.entry.Entry.{Entry}
use Rattle.pair_entries.proofs.Same.{same_entry}
use Rattle.pair_journal.specs.Journal.{JournalOf, Born}
use Rattle.pair_journal.specs.Loading.{IsPayload}
use Rattle.kept_entries.specs.Spots.{IsSpot, StandsAt}
use Rattle.pair_journal.specs.State.{JournalState}
use Rattle.pair_journal.proofs.Standing.{next_spot, not_behind, not_missing, payload_is, read_is}
use Rattle.pair_journal.proofs.Standing.{rest_is, has_day, unread_refused}
use Rattle.pair_journal.proofs.look.Look.entry_at.Goals as goal

pub returns-then-spot-end-2-clause-refuses : goal.returns-then-spot-end-2-clause-refuses
returns-then-spot-end-2-clause-refuses g c = λ at is b e entry here.
    let told = g.D.Disk.bytes c.args.disk.now in
    let stands = subst (λ (s : JournalState). ForSome told
    (λ x. JournalOf x (Born s.names s.entries))) (sym c.self.view_is) c.requires.stands in
    let there = subst (λ (s : JournalState). StandsAt s.entries c.args.spot entry)
    (sym c.self.view_is) here in
    not_behind told c.self.inside.names c.self.invariant.named
    c.self.inside.reached c.end.ensures.sound stands c.args.spot c.self.inside.log
    c.self.invariant.extent (omega (arith, c.end-2.ensures.place, c.if-spot-end-2.true)) entry there

pub returns-in_err-read_record-clause-refuses : goal.returns-in_err-read_record-clause-refuses
returns-in_err-read_record-clause-refuses g c = λ at is b e entry here.
    let told = g.D.Disk.bytes c.args.disk.now in
    let stands = subst (λ (s : JournalState). ForSome told
    (λ x. JournalOf x (Born s.names s.entries))) (sym c.self.view_is) c.requires.stands in
    let there = subst (λ (s : JournalState). StandsAt s.entries c.args.spot entry)
    (sym c.self.view_is) here in
    not_missing told c.self.inside.names c.self.invariant.named c.self.inside.reached
    c.end.ensures.sound stands c.args.spot (unread_refused c.from_residual.result
    c.in_err-read_record.field-0.0 told c.args.spot.place c.from_residual.ensures.1
    c.in_err-read_record.ensures.err at is) b e entry there

pub returns-in_default-clause-refuses : goal.returns-in_default-clause-refuses
returns-in_default-clause-refuses g c = λ at is b e entry here.
    let told = g.D.Disk.bytes c.args.disk.now in
    let stands = subst (λ (s : JournalState). ForSome told
    (λ x. JournalOf x (Born s.names s.entries))) (sym c.self.view_is) c.requires.stands in
    let there = subst (λ (s : JournalState). StandsAt s.entries c.args.spot entry)
    (sym c.self.view_is) here in
    let read = payload_is told c.self.inside.names c.self.invariant.named c.self.inside.reached
    c.end.ensures.sound stands c.args.spot c.read_record.new.chunk.payload
    c.in_ok-read_record.ensures.payload b e entry there in
    has_day c.payload-record.result.now entry (subst (λ l. IsPayload l entry)
    (sym c.payload-record.ensures.payload) read.0) c.in_default.ensures

pub returns-in_default-entry_ref-clause-refuses : goal.returns-in_default-entry_ref-clause-refuses
returns-in_default-entry_ref-clause-refuses g c = λ at is b e entry here.
    let told = g.D.Disk.bytes c.args.disk.now in
    let stands = subst (λ (s : JournalState). ForSome told
    (λ x. JournalOf x (Born s.names s.entries))) (sym c.self.view_is) c.requires.stands in
    let there = subst (λ (s : JournalState). StandsAt s.entries c.args.spot entry)
    (sym c.self.view_is) here in
    let rest = rest_is told c.self.inside.names c.self.invariant.named c.self.inside.reached
    c.end.ensures.sound stands c.args.spot c.read_record.new.chunk.payload c.in-Some.bytes.now _
    c.in_ok-read_record.ensures.payload (sym c.payload-record.ensures.payload ∙ c.in-Some.ensures.0)
    b e entry there in
    c.in_default-entry_ref.ensures entry rest.1 rest.0

pub returns-clause-entry : goal.returns-clause-entry
returns-clause-entry g c = λ b e entry here.
    let told = g.D.Disk.bytes c.args.disk.now in
    let stands = subst (λ (s : JournalState). ForSome told
    (λ x. JournalOf x (Born s.names s.entries))) (sym c.self.view_is) c.requires.stands in
    let there = subst (λ (s : JournalState). StandsAt s.entries c.args.spot entry)
    (sym c.self.view_is) here in
    let read = read_is told c.self.inside.names c.self.invariant.named c.self.inside.reached
    c.end.ensures.sound stands c.args.spot c.read_record.new.chunk.payload
    c.in_ok-read_record.ensures.payload b e entry there in
    let rest = rest_is told c.self.inside.names c.self.invariant.named c.self.inside.reached
    c.end.ensures.sound stands c.args.spot c.read_record.new.chunk.payload c.in-Some.bytes.now _
    c.in_ok-read_record.ensures.payload (sym c.payload-record.ensures.payload ∙ c.in-Some.ensures.0)
    b e entry there in
    let x = c.in-Some-entry_ref.ensures in
    let same = same_entry c.in-Some-entry_ref.entry entry x.1 rest.1 (sym x.0 ∙ rest.0) in
    let spot = c.args.spot in (
      c.in_ok-to_entry.ensures ∙ same,
      subst (λ (s : JournalState). IsSpot s.entries c.behind-next.result) c.self.view_is
          (next_spot c.self.inside.reached spot c.behind-next.result entry _ there
          (ap length c.payload-record.ensures.payload ∙ ap length read.0)
          (c.behind-next.ensures ∙ ap (λ (x : Entry). record {
            index = spot.index + 1;
            place = spot.place + 5 + length c.payload-record.result.now;
            next = x.next;
          }) same)),
    )
