use Rattle.std.proofs.Common.{◌∙◌, ◌++◌, ◌∷◌, [], List, sym, ap, subst}
use Rattle.std.specs.Option.{ForSome}
use Rattle.gate_log.specs.Log.{HasRoom}
use Rattle.pair_entries.specs.declared.entry.Entry.{Entry}
use Rattle.pair_entries.specs.Prepared.{OnDay}
use Rattle.kept_entries.specs.Numbers.{GoesOn, first_numbers, numbers_before, numbers_after}
use Rattle.kept_entries.specs.Days.{payload_behind}
use Rattle.pair_journal.specs.Journal.{JournalOf, Born}
use Rattle.pair_journal.specs.State.{JournalState}
use Rattle.pair_journal.specs.Keeping.{state_of}
use Rattle.pair_journal.specs.Calls.{payloads_of}
use Rattle.pair_journal.proofs.Carrying.{stands_log, extent_more, keeps_journal, stands_more}
use Rattle.pair_journal.proofs.Carrying.{goes_on_inside, has_room, dated_behind}
use Rattle.pair_journal.proofs.Adding.{committed, commit_refused}
use Rattle.pair_journal.proofs.journal.Journal.commit.Goals as goal

pub append-requires-clause-stands : goal.append-requires-clause-stands
append-requires-clause-stands g c = λ x e.
    stands_log x c.self.inside.log (state_of c.self.inside)
    _ c.self.view_is c.self.invariant.extent (c.requires.stands x e)

pub add-requires-clause-goes_on : goal.add-requires-clause-goes_on
add-requires-clause-goes_on g c =
    let entries = c.self.inside.kept.entries in
    let same = c.as_ref.ensures ∙ c.into_entry-entry.ensures
    ∙ ap (λ (d : OnDay). d.entry) c.dated-dated.ensures.dated in
    subst (λ (e : Entry). GoesOn (numbers_before (numbers_after first_numbers entries) e) e)
    (sym same) (goes_on_inside (state_of c.self.inside) _ c.args.prepared c.self.view_is
    c.day.ensures.sound c.requires.goes_on)

pub returns-in_err-append-clause-commits : goal.returns-in_err-append-clause-commits
returns-in_err-append-clause-commits g c =
    let said = dated_behind c.self.inside.kept.entries c.args.prepared c.entry.result.now
    c.day.result c.day_behind-day.result c.dated-dated.result c.payload-payload.result.now
    c.day.ensures.number c.entry.ensures.entry c.day_behind-day.ensures
    c.dated-dated.ensures.dated c.payload-payload.ensures.bytes in
    commit_refused c.self.inside.log c.append.new.self c.self.inside.names c.self.inside.kept
    c.args.self.now c.self.view_is c.args.prepared c.payload-payload.result.now
    c.self.invariant.extent said c.from_residual.result c.in_err-append.field-0.0
    c.from_residual.ensures.1 c.in_err-append.ensures.appends

pub returns-in_err-append-clause-images : goal.returns-in_err-append-clause-images
returns-in_err-append-clause-images g c =
    let said = dated_behind c.self.inside.kept.entries c.args.prepared c.entry.result.now
    c.day.result c.day_behind-day.result c.dated-dated.result c.payload-payload.result.now
    c.day.ensures.number c.entry.ensures.entry c.day_behind-day.ensures
    c.dated-dated.ensures.dated c.payload-payload.ensures.bytes in
    let on = goes_on_inside (state_of c.self.inside) _ c.args.prepared c.self.view_is
    c.day.ensures.sound c.requires.goes_on in
    keeps_journal c.args.prepared c.payload-payload.result.now c.dated-dated.ensures.sound
    (g.D.Disk.bytes c.args.disk.now) c.args.self.now
    (said ∙ ap (λ (s : JournalState). payload_behind s.entries c.args.prepared) c.self.view_is)
    (subst (λ (s : JournalState). GoesOn (numbers_before (numbers_after first_numbers s.entries)
    c.args.prepared) c.args.prepared) c.self.view_is on)
    c.requires.stands _ _ c.append.ensures.images

pub returns-clause-images : goal.returns-clause-images
returns-clause-images g c =
    let said = dated_behind c.self.inside.kept.entries c.args.prepared c.entry.result.now
    c.day.result c.day_behind-day.result c.dated-dated.result c.payload-payload.result.now
    c.day.ensures.number c.entry.ensures.entry c.day_behind-day.ensures
    c.dated-dated.ensures.dated c.payload-payload.ensures.bytes in
    let on = goes_on_inside (state_of c.self.inside) _ c.args.prepared c.self.view_is
    c.day.ensures.sound c.requires.goes_on in
    keeps_journal c.args.prepared c.payload-payload.result.now c.dated-dated.ensures.sound
    (g.D.Disk.bytes c.args.disk.now) c.args.self.now
    (said ∙ ap (λ (s : JournalState). payload_behind s.entries c.args.prepared) c.self.view_is)
    (subst (λ (s : JournalState). GoesOn (numbers_before (numbers_after first_numbers s.entries)
    c.args.prepared) c.args.prepared) c.self.view_is on)
    c.requires.stands _ _ c.append.ensures.images

pub invariant_of-self-2 : goal.invariant_of-self-2
invariant_of-self-2 g c =
    let log = c.in_ok-append.ensures.appends.2 in
    let kept = c.self.invariant in
    let said = dated_behind c.self.inside.kept.entries c.args.prepared c.entry.result.now
    c.day.result c.day_behind-day.result c.dated-dated.result c.payload-payload.result.now
    c.day.ensures.number c.entry.ensures.entry c.day_behind-day.ensures
    c.dated-dated.ensures.dated c.payload-payload.ensures.bytes in
    let same = c.as_ref.ensures ∙ c.into_entry-entry.ensures
    ∙ ap (λ (d : OnDay). d.entry) c.dated-dated.ensures.dated in
    record {
      named = kept.named;
      extent = extent_more c.args.prepared c.payload-payload.result.now
          c.dated-dated.ensures.sound c.self.inside.log c.append.new.self c.self.inside.names
          c.self.inside.kept.entries c.add.new.self.entries c.as_ref.result said
          kept.extent (ap (λ s. s.count) log) (ap (λ s. s.end) log)
          (ap (λ k. k.entries) c.add.ensures) same;
    }

pub returns-clause-stands : goal.returns-clause-stands
returns-clause-stands g c = λ x e.
    let said = dated_behind c.self.inside.kept.entries c.args.prepared c.entry.result.now
    c.day.result c.day_behind-day.result c.dated-dated.result c.payload-payload.result.now
    c.day.ensures.number c.entry.ensures.entry c.day_behind-day.ensures
    c.dated-dated.ensures.dated c.payload-payload.ensures.bytes in
    let on = goes_on_inside (state_of c.self.inside) _ c.args.prepared c.self.view_is
    c.day.ensures.sound c.requires.goes_on in
    let same = c.as_ref.ensures ∙ c.into_entry-entry.ensures
    ∙ ap (λ (d : OnDay). d.entry) c.dated-dated.ensures.dated in
    let stands = subst (λ (s : JournalState). ForSome (g.D.Disk.bytes c.args.disk.now)
    (λ b. JournalOf b (Born s.names s.entries))) (sym c.self.view_is) c.requires.stands in
    let more = stands_more c.args.prepared c.payload-payload.result.now
    c.dated-dated.ensures.sound (g.D.Disk.bytes c.args.disk.now) (state_of c.self.inside) said on
    stands _ c.append.ensures.told c.in_ok-append.ensures.appended x e in
    subst (λ (es : List Entry). JournalOf x (Born c.self.inside.names es))
    (sym (ap (λ k. k.entries) c.add.ensures
    ∙ ap (λ (y : Entry). c.self.inside.kept.entries ++ y ∷ []) same)) more

pub returns-clause-commits : goal.returns-clause-commits
returns-clause-commits g c =
    let log = c.in_ok-append.ensures.appends in
    let said = dated_behind c.self.inside.kept.entries c.args.prepared c.entry.result.now
    c.day.result c.day_behind-day.result c.dated-dated.result c.payload-payload.result.now
    c.day.ensures.number c.entry.ensures.entry c.day_behind-day.ensures
    c.dated-dated.ensures.dated c.payload-payload.ensures.bytes in
    let same = c.as_ref.ensures ∙ c.into_entry-entry.ensures
    ∙ ap (λ (d : OnDay). d.entry) c.dated-dated.ensures.dated in (
      c.into_entry-entry.ensures ∙ ap (λ (d : OnDay). d.entry) c.dated-dated.ensures.dated,
      subst (λ (s : JournalState). HasRoom (payloads_of s.names s.entries)
          (payload_behind s.entries c.args.prepared)) c.self.view_is
          (has_room c.self.inside.log c.self.inside.names c.self.inside.kept.entries
          c.args.prepared c.payload-payload.result.now c.self.invariant.extent said log.1),
      committed c.self.inside.log c.append.new.self c.self.inside.names c.self.inside.kept
          c.add.new.self c.args.self.now c.self.view_is c.args.prepared c.as_ref.result _ _
          log.2 c.add.ensures same,
    )
