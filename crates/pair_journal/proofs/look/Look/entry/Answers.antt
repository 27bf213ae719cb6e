use Rattle.std.proofs.Common.{◌≡◌, ◌∙◌, Err, Some, sym, ap, arith}
use Rattle.std.specs.List.{slice_get}
use Rattle.pair_entries.specs.declared.entry.Entry.{Entry}
use Rattle.kept_entries.specs.declared.spot.Spot.{Spot}
use Rattle.pair_journal.proofs.Standing.{get_some, untold, refused_untold}
use Rattle.pair_journal.proofs.Walking.{only_read_on}
use Rattle.pair_journal.proofs.look.Look.entry.Goals as goal

pub returns-in_err-next-clause-only : goal.returns-in_err-next-clause-only
returns-in_err-next-clause-only g c =
    let i = c.records.invariant in
    let told = g.D.Disk.bytes c.args.disk.now in
    refused_untold (Entry × Spot) c.from_residual.result c.in_err-next.field-0.0 told
    c.from_residual.ensures.1 c.in_err-next.ensures.only (λ at is. untold told (λ b e.
    let found = get_some c.args.self.now.entries c.records.spot.index
    (omega (arith, c.records-test.true, c.requires.index)) in
    c.in_err-next.ensures.refuses at (ap Err is) b (i.only_read.same ∙ e) found.0
    (record { at = (i.told b e).0; is = found.1 })))

pub records-preserved : goal.records-preserved
records-preserved g c =
    let i = c.records.invariant in
    record {
      of = c.entry_at.ensures.of;
      held = i.held;
      told = λ b e.
          let found = get_some c.args.self.now.entries c.records.spot.index
          (omega (arith, c.records-test.true, c.requires.index)) in
          let read = c.in_ok-next.ensures.entry b (i.only_read.same ∙ e) found.0
          (record { at = (i.told b e).0; is = found.1 }) in
          (read.1, omega (arith, c.records-test.true, c.in_ok-next.ensures.index));
      only_read = only_read_on _ _ _ _ _ _ i.only_read c.in_ok-next.ensures.only_read;
      still = c.in_ok-next.ensures.cause ∙ i.still;
    }

pub returns-in_err-entry-clause-only : goal.returns-in_err-entry-clause-only
returns-in_err-entry-clause-only g c =
    let i = c.records.invariant in
    let told = g.D.Disk.bytes c.args.disk.now in
    refused_untold (Entry × Spot) c.from_residual-in_err-entry.result
    c.in_err-entry.field-0.0 told
    c.from_residual-in_err-entry.ensures.1 c.in_err-entry.ensures.only (λ at is. untold told (λ b e.
    let here = i.told b e in
    let found = get_some c.args.self.now.entries c.records.spot.index
    (omega (arith, here.1, c.requires.index)) in
    c.in_err-entry.ensures.refuses at (ap Err is) b (i.only_read.same ∙ e) found.0
    (record { at = here.0; is = found.1 })))

pub returns-clause-entry : goal.returns-clause-entry
returns-clause-entry g c = λ b e.
    let i = c.records.invariant in
    let here = i.told b e in
    let found = get_some c.args.self.now.entries c.records.spot.index
    (omega (arith, here.1, c.requires.index)) in
    let read = c.in_ok-entry.ensures.entry b (i.only_read.same ∙ e) found.0
    (record { at = here.0; is = found.1 }) in
    let same : c.args.index ≡ c.records.spot.index = omega (arith, here.1, c.records-test.false) in
    ap (slice_get c.args.self.now.entries) same ∙ found.1 ∙ ap (λ (x : Entry). Some x) (sym read.0)

pub returns-clause-walk : goal.returns-clause-walk
returns-clause-walk g c = (
  c.entry_at-2.ensures.of,
  λ b e.
      let i = c.records.invariant in
      let before = sym c.entry_at-2.ensures.only_read.same ∙ e in
      let here = i.told b (sym i.only_read.same ∙ before) in
      let found = get_some c.args.self.now.entries c.records.spot.index
      (omega (arith, here.1, c.requires.index)) in
      let read = c.in_ok-entry.ensures.entry b before found.0
      (record { at = here.0; is = found.1 }) in
      (read.1, omega (arith, here.1, c.in_ok-entry.ensures.index)),
)
