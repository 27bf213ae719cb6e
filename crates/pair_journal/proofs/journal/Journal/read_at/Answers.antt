use Rattle.std.proofs.Common.{◌+◌, ◌∙◌, length, refl, sym, ap, subst, arith}
use Rattle.std.specs.Option.{ForSome}
use Rattle.pair_journal.specs.Journal.{JournalOf, Born}
use Rattle.pair_journal.specs.Loading.{IsPayload}
use Rattle.kept_entries.specs.Spots.{IsSpot, StandsAt}
use Rattle.pair_journal.specs.State.{JournalState}
use Rattle.kept_entries.specs.declared.spot.Spot.{Spot}
use Rattle.pair_journal.proofs.Standing.{not_behind, not_missing, unread_refused, payload_is}
use Rattle.pair_journal.proofs.Standing.{rest_is}
use Rattle.pair_journal.proofs.Standing.{front_next, has_day}
use Rattle.pair_journal.proofs.journal.Journal.read_at.Goals as goal

pub returns-then-spot-end-2-clause-refuses : goal.returns-then-spot-end-2-clause-refuses
returns-then-spot-end-2-clause-refuses g c = λ at is b e entry here.
    let stands = subst (λ (s : JournalState). ForSome (g.D.Disk.bytes c.args.disk.now)
    (λ x. JournalOf x (Born s.names s.entries))) (sym c.self.view_is) c.requires.stands in
    let there = subst (λ (s : JournalState). StandsAt s.entries c.args.spot entry)
    (sym c.self.view_is) here in
    not_behind (g.D.Disk.bytes c.args.disk.now) c.self.inside.names c.self.invariant.named
    c.self.inside.kept.entries c.end.ensures.sound stands c.args.spot c.self.inside.log
    c.self.invariant.extent (omega (arith, c.end-2.ensures.place, c.if-spot-end-2.true)) entry there

pub returns-in_err-read_record-clause-refuses : goal.returns-in_err-read_record-clause-refuses
returns-in_err-read_record-clause-refuses g c = λ at is b e entry here.
    let told = g.D.Disk.bytes c.args.disk.now in
    let stands = subst (λ (s : JournalState). ForSome told
    (λ x. JournalOf x (Born s.names s.entries))) (sym c.self.view_is) c.requires.stands in
    let there = subst (λ (s : JournalState). StandsAt s.entries c.args.spot entry)
    (sym c.self.view_is) here in
    not_missing told c.self.inside.names c.self.invariant.named c.self.inside.kept.entries
    c.end.ensures.sound stands c.args.spot (unread_refused c.from_residual.result
    c.in_err-read_record.field-0.0 told c.args.spot.place c.from_residual.ensures.1
    c.in_err-read_record.ensures.err at is) b e entry there

pub returns-in_default-clause-refuses : goal.returns-in_default-clause-refuses
returns-in_default-clause-refuses g c = λ at is b e entry here.
    let told = g.D.Disk.bytes c.args.disk.now in
    let stands = subst (λ (s : JournalState). ForSome told
    (λ x. JournalOf x (Born s.names s.entries))) (sym c.self.view_is) c.requires.stands in
    let there = subst (λ (s : JournalState). StandsAt s.entries c.args.spot entry)
    (sym c.self.view_is) here in
    let read = payload_is told c.self.inside.names c.self.invariant.named
    c.self.inside.kept.entries c.end.ensures.sound stands c.args.spot
    c.read_record.new.chunk.payload c.in_ok-read_record.ensures.payload b e entry there in
    has_day c.payload-record.result.now entry (subst (λ l. IsPayload l entry)
    (sym c.payload-record.ensures.payload) read.0) c.in_default.ensures

pub returns-in_default-front_of-clause-refuses : goal.returns-in_default-front_of-clause-refuses
returns-in_default-front_of-clause-refuses g c = λ at is b e entry here.
    let told = g.D.Disk.bytes c.args.disk.now in
    let stands = subst (λ (s : JournalState). ForSome told
    (λ x. JournalOf x (Born s.names s.entries))) (sym c.self.view_is) c.requires.stands in
    let there = subst (λ (s : JournalState). StandsAt s.entries c.args.spot entry)
    (sym c.self.view_is) here in
    let read = rest_is told c.self.inside.names c.self.invariant.named c.self.inside.kept.entries
    c.end.ensures.sound stands c.args.spot c.read_record.new.chunk.payload c.in-Some.bytes.now _
    c.in_ok-read_record.ensures.payload (sym c.payload-record.ensures.payload ∙ c.in-Some.ensures.0)
    b e entry there in
    c.in_default-front_of.ensures entry read.1 read.0

pub returns-clause-reads : goal.returns-clause-reads
returns-clause-reads g c = λ b e entry here.
    let told = g.D.Disk.bytes c.args.disk.now in
    let stands = subst (λ (s : JournalState). ForSome told
    (λ x. JournalOf x (Born s.names s.entries))) (sym c.self.view_is) c.requires.stands in
    let there = subst (λ (s : JournalState). StandsAt s.entries c.args.spot entry)
    (sym c.self.view_is) here in
    let next : Spot = record {
      index = c.args.spot.index + 1;
      place = c.args.spot.place + 5 + length c.payload-record.result.now;
      next = c.in-Some-front_of.front.next;
    } in
    let read = front_next told c.self.inside.names c.self.invariant.named
    c.self.inside.kept.entries c.end.ensures.sound stands c.args.spot
    c.read_record.new.chunk.payload c.in-Some.bytes.now _ c.in-Some-front_of.front
    (length c.payload-record.result.now) next c.in_ok-read_record.ensures.payload
    (sym c.payload-record.ensures.payload ∙ c.in-Some.ensures.0) c.in-Some-front_of.ensures.0
    c.in-Some-front_of.ensures.1 (ap length c.payload-record.ensures.payload) refl b e entry there
    in
    (read.0, read.1, subst (λ (s : JournalState). IsSpot s.entries next) c.self.view_is read.2)
