use Rattle.std.proofs.Common.{◌∙◌, List, ℕ, sym, ap, subst}
use Rattle.gate_log.specs.Log.{BornOrNot}
use Rattle.pair_journal.specs.Loading.{HasExtent}
use Rattle.pair_journal.proofs.Loaded.{extent_first, stands_first, images_born}
use Rattle.pair_journal.proofs.journal.Journal.begin.Goals as goal

pub returns-in_err-log-clause-images : goal.returns-in_err-log-clause-images
returns-in_err-log-clause-images g c =
    let P : List ℕ → Type 0 = λ birth. BornOrNot (g.D.Disk.bytes c.args.disk.now)
    (g.D.Disk.image c.args.disk.now) (g.D.Disk.image c.begin.new.disk) birth in
    images_born c.args.names.now _ _ _ c.are_names.ensures
    (subst P (c.deref.ensures.value ∙ c.in_ok-birth.ensures) c.begin.ensures.images)

pub invariant_of-result : goal.invariant_of-result
invariant_of-result g c =
    let none = sym (ap (λ k. k.entries) c.new.ensures) in
    record {
      named = c.are_names.ensures;
      extent = subst (HasExtent c.in_ok-log.log c.args.names.now) none
          (extent_first c.in_ok-log.log c.args.names.now c.are_names.ensures
          (ap (λ l. l.count) c.in_ok-log.ensures.log) (ap (λ l. l.end) c.in_ok-log.ensures.log));
    }

pub returns-clause-stands : goal.returns-clause-stands
returns-clause-stands g c =
    stands_first _ c.args.names.now c.deref.result.now c.are_names.ensures
    (c.deref.ensures.value ∙ c.in_ok-birth.ensures) c.in_ok-log.ensures.stands

pub returns-clause-images : goal.returns-clause-images
returns-clause-images g c =
    let P : List ℕ → Type 0 = λ birth. BornOrNot (g.D.Disk.bytes c.args.disk.now)
    (g.D.Disk.image c.args.disk.now) (g.D.Disk.image c.begin.new.disk) birth in
    images_born c.args.names.now _ _ _ c.are_names.ensures
    (subst P (c.deref.ensures.value ∙ c.in_ok-birth.ensures) c.begin.ensures.images)
