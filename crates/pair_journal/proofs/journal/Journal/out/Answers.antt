use Rattle.std.proofs.Common.{◌≡◌, ◌⊎◌, ◌≤◌, ◌<◌, ◌+◌, ◌∙◌, Ok, Err, refl, sym, ap, subst, arith}
use Rattle.gate_log.specs.Chunk.{IsOf}
use Rattle.kept_entries.specs.Numbers.{next_out, first_numbers}
use Rattle.kept_entries.specs.Days.{last_day}
use Rattle.kept_entries.specs.Entries.{DaysGoOn}
use Rattle.pair_journal.specs.State.{JournalState}
use Rattle.kept_entries.specs.Given.{given}
use Rattle.pair_journal.specs.OutBuf.{IsGivenAs}
use Rattle.pair_journal.specs.Buffer.{OutKept}
use Rattle.kept_entries.specs.Spots.{day_start, IsSpot, HoldsOut}
use Rattle.kept_entries.specs.declared.spot.Spot.{Spot}
use Rattle.std.specs.declared.option.Option.{Option}
use Rattle.kept_entries.proofs.Dating.{last_numbers}
use Rattle.pair_journal.proofs.Standing.{walk_begins, walk_stands, given_today, untold}
use Rattle.pair_journal.proofs.Standing.{refused_untold}
use Rattle.pair_journal.proofs.Walking.{only_read_still, only_read_on}
use Rattle.pair_journal.proofs.journal.Journal.out.Goals as goal

pub records-init : goal.records-init
records-init g c =
    let holds = subst (λ (s : JournalState). HoldsOut s.entries c.args.side c.args.number
    c.holding-mark.result) c.self.view_is c.holding-mark.ensures.holds in
    let which = subst (λ (k : OutKept). (c.later-spot.result ≡ c.holding-mark.result)
    ⊎ (c.later-spot.result ≡ k.walk.spot)) c.into.view_is c.later-spot.ensures.which in
    record {
      from = c.later-spot.ensures.from;
      to = omega (arith, c.later-spot.ensures.to);
      told = λ b e. walk_begins c.args.self.now.entries c.args.side c.args.number
          c.holding-mark.result c.later-spot.result c.args.into.now.walk.spot holds
          (c.requires.walk.1 b e).0 (c.requires.walk.1 b e).1 which c.later-spot.ensures.from;
      of = c.requires.walk.0;
      held = refl;
      few = omega arith;
      only_read = only_read_still _ _;
      still = refl;
    }

pub returns-in_err-next-clause-walk : goal.returns-in_err-next-clause-walk
returns-in_err-next-clause-walk g c = λ later more. (
  c.out_at.ensures.of,
  λ b e.
      let i = c.records.invariant in
      let old = c.requires.walk.1 b
      (sym i.only_read.same ∙ sym c.out_at.ensures.only_read.same ∙ e) in
      subst (λ (s : Spot). IsSpot c.args.self.now.entries s
      × (day_start c.args.self.now.entries ≤ s.index → next_out c.args.side s.next ≤ later))
      (sym (c.out_at.ensures.held ∙ i.held))
      (old.0, λ in_day. omega (arith, old.1 in_day, more)),
)

pub returns-in_err-next-clause-only : goal.returns-in_err-next-clause-only
returns-in_err-next-clause-only g c =
    let i = c.records.invariant in
    let told = g.D.Disk.bytes c.args.disk.now in
    let entries = c.args.self.now.entries in
    let sound = subst (λ (s : JournalState). DaysGoOn first_numbers s.entries)
    c.self.view_is c.holding-mark.ensures.sound in
    let below = subst (λ n. c.args.number < next_out c.args.side n) (last_numbers entries sound)
    c.requires.below in
    refused_untold (Option Spot) c.from_residual.result c.in_err-next.field-0.0 told
    c.from_residual.ensures.1 c.in_err-next.ensures.only (λ at is. untold told (λ b e.
    let here = i.told b e in
    let stands = walk_stands entries c.args.side c.args.number below c.records.spot here.0 here.1 in
    c.in_err-next.ensures.refuses at (ap Err is) b (i.only_read.same ∙ e)
    stands.0 stands.1 here.1))

pub records-preserved : goal.records-preserved
records-preserved g c =
    let i = c.records.invariant in
    let entries = c.args.self.now.entries in
    let sound = subst (λ (s : JournalState). DaysGoOn first_numbers s.entries)
    c.self.view_is c.holding-mark.ensures.sound in
    let below = subst (λ n. c.args.number < next_out c.args.side n) (last_numbers entries sound)
    c.requires.below in
    let next : c.in-Some.next.index ≡ c.records.spot.index + 1 =
    c.in_ok-next.ensures.index c.in-Some.next (ap Ok c.in-Some.is) in
    record {
      from = omega (arith, i.from, next);
      to = omega (arith, c.records-test.true, i.from, next);
      told = λ b e.
          let here = i.told b e in
          let stands = walk_stands entries c.args.side c.args.number below
          c.records.spot here.0 here.1 in
          c.in_ok-next.ensures.goes_on c.in-Some.next (ap Ok c.in-Some.is) b
          (i.only_read.same ∙ e) stands.0 stands.1;
      of = c.out_at.ensures.of;
      held = c.out_at.ensures.held ∙ i.held;
      few = omega (arith, i.few, c.in_ok-next.ensures.few, i.from, next);
      only_read = only_read_on _ _ _ _ _ _ i.only_read c.in_ok-next.ensures.only_read;
      still = c.in_ok-next.ensures.cause ∙ i.still;
    }

pub returns-in-None-clause-out : goal.returns-in-None-clause-out
returns-in-None-clause-out g c = λ b e.
    let i = c.records.invariant in
    let entries = c.args.self.now.entries in
    let here = i.told b e in
    let sound = subst (λ (s : JournalState). DaysGoOn first_numbers s.entries)
    c.self.view_is c.holding-mark.ensures.sound in
    let holds = subst (λ (s : JournalState). HoldsOut s.entries c.args.side c.args.number
    c.holding-mark.result) c.self.view_is c.holding-mark.ensures.holds in
    let below = subst (λ n. c.args.number < next_out c.args.side n) (last_numbers entries sound)
    c.requires.below in
    let stands = walk_stands entries c.args.side c.args.number below c.records.spot here.0 here.1 in
    subst (λ (k : OutKept). IsGivenAs (given c.args.side c.args.number (last_day entries)) k.told)
    (sym c.into-in-records.view_is)
    (given_today c.args.side c.args.number entries c.records.spot.index stands.0
    c.out_at.new.into.told sound (omega (arith, holds.in_day, i.from)) stands.1.is
    (omega (arith, here.1, ap (λ (s : Spot). next_out c.args.side s.next) here.0))
    (c.in_ok-next.ensures.gives (ap Ok c.in-None.is) b (i.only_read.same ∙ e) stands.0 stands.1))

pub returns-in-None-clause-walk : goal.returns-in-None-clause-walk
returns-in-None-clause-walk g c = λ later more. (
  subst (λ (k : OutKept). IsOf (g.D.Disk.bytes c.out_at.new.disk) k.walk.chunk)
      (sym c.into-in-records.view_is) c.out_at.ensures.of,
  λ b e.
      let i = c.records.invariant in
      let here = i.told b (sym i.only_read.same ∙ sym c.out_at.ensures.only_read.same ∙ e) in
      (here.0, λ in_day. omega (arith, here.1, more)),
)
