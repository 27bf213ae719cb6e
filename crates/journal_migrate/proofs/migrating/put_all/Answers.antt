use Rattle.std.proofs.Common.{◌≡◌, inl, ◌+◌, ℕ, List, length, ◌∙◌, subst, arith, rules}
use Rattle.std.specs.Io.KnownBytes.{Appends}
use Rattle.std.proofs.KnownBytes.{Appends-nil}
use Rattle.outside.specs.Bytes.{AppendsFront}
use Rattle.gate_log.proofs.Told.{if_some}
use Rattle.journal_migrate.specs.declared.migrating.MigrateError.TheVariants as errors
use Rattle.journal_migrate.specs.Walk.{IsBirth, IsNext}
use Rattle.journal_migrate.proofs.Put.{handed, put_failed, nothing_put, first_put, first_begun}
use Rattle.journal_migrate.proofs.Put.{first_unread, next_put, next_begun, next_unread, closed}
use Rattle.journal_migrate.proofs.Made as made
use Rattle.journal_migrate.proofs.Made.{first_made, first_cut, next_made, next_cut, cut_off}
use Rattle.journal_migrate.proofs.migrating.put_all.Goals as goal

pub returns-in_err-walk-clause-walks : goal.returns-in_err-walk-clause-walks
returns-in_err-walk-clause-walks g c =
    let told = g.D.Disk.bytes c.args.disk.now in
    let old = g.O.Sink.bytes c.args.out.now in
    handed c.from_residual.result errors.NoMemory told old old c.from_residual.ensures.1
    (if_some told _ (λ b e. nothing_put b old))

pub returns-in_err-read_birth-clause-walks : goal.returns-in_err-read_birth-clause-walks
returns-in_err-read_birth-clause-walks g c =
    let told = g.D.Disk.bytes c.args.disk.now in
    let old = g.O.Sink.bytes c.args.out.now in
    let walk = c.read_birth.new.self in
    let error = c.in_err-read_birth.field-0.0 in
    handed c.from_residual-in_err-read_birth.result error told old old
    c.from_residual-in_err-read_birth.ensures.1
    (first_unread told c.args.log.now c.requires.stands
    (omega (arith, c.count-records.ensures.count, c.count-records.ensures.born)) error
    (λ p. IsBirth p walk.renewed.items × (walk.place ≡ 5 + length p)) old
    c.in_err-read_birth.ensures.read)

pub returns-in_err-put-clause-walks : goal.returns-in_err-put-clause-walks
returns-in_err-put-clause-walks g c =
    let told = g.D.Disk.bytes c.args.disk.now in
    let old = g.O.Sink.bytes c.args.out.now in
    let new = g.O.Sink.bytes c.put.new.out in
    let walk = c.read_birth.new.self in
    put_failed c.from_residual-in_err-put.result c.in_err-put.field-0.0 told old new
    c.from_residual-in_err-put.ensures.1 c.in_err-put.ensures.only
    (first_begun told c.args.log.now c.requires.stands
    (omega (arith, c.count-records.ensures.count, c.count-records.ensures.born))
    walk.renewed.items walk.place walk.day walk.next
    (c.read_birth.ensures.day ∙ c.in_ok-walk.ensures.day)
    (c.read_birth.ensures.next ∙ c.in_ok-walk.ensures.next) c.in_ok-read_birth.ensures.read old new
    (subst (λ (m : List ℕ). AppendsFront old new m) c.renewed.ensures c.in_err-put.ensures.bytes))

pub loop-index-init : goal.loop-index-init
loop-index-init g c =
    let told = g.D.Disk.bytes c.args.disk.now in
    let old = g.O.Sink.bytes c.args.out.now in
    let new = g.O.Sink.bytes c.put.new.out in
    let walk = c.read_birth.new.self in
    let day : walk.day ≡ 0 = c.read_birth.ensures.day ∙ c.in_ok-walk.ensures.day in
    record {
      put = first_put told c.args.log.now c.requires.stands
          (omega (arith, c.count-records.ensures.count, c.count-records.ensures.born))
          walk.renewed.items walk.place walk.day walk.next day
          (c.read_birth.ensures.next ∙ c.in_ok-walk.ensures.next) c.in_ok-read_birth.ensures.read
          old new
          (subst (λ (m : List ℕ). Appends old new m) c.renewed.ensures c.in_ok-put.ensures.bytes);
      made = let birth = c.in_ok-read_birth.ensures.made in
          first_made birth.0 walk.renewed.items birth.1 old new walk.day walk.next day
          (c.read_birth.ensures.next ∙ c.in_ok-walk.ensures.next)
          (subst (λ (m : List ℕ). Appends old new m) c.renewed.ensures c.in_ok-put.ensures.bytes);
      few = omega (arith, day, c.in_ok-read_birth.ensures.place);
      of = c.in_ok-read_birth.ensures.of;
      only_read = search rules;
      disk_still = search rules;
      output_still = search rules;
    }

pub returns-in_err-read_entry-clause-walks : goal.returns-in_err-read_entry-clause-walks
returns-in_err-read_entry-clause-walks g c =
    let told = g.D.Disk.bytes c.args.disk.now in
    let old = g.O.Sink.bytes c.args.out.now in
    let now = g.O.Sink.bytes c.loop-index.out in
    let i = c.loop-index.invariant in
    let walk = c.loop-index.walk in
    let next = c.read_entry.new.self in
    let error = c.in_err-read_entry.field-0.0 in
    handed c.from_residual-in_err-read_entry.result error told old now
    c.from_residual-in_err-read_entry.ensures.1
    (next_unread told c.args.log.now c.requires.stands c.loop-index.index walk.place walk.day
    walk.next old now i.put
    (omega (arith, c.loop-index-test.true, c.count-records.ensures.count))
    (g.D.Disk.bytes c.loop-index.disk) i.only_read.same error
    (λ p. IsNext walk.day walk.next p next.day next.next next.renewed.items
    × (next.place ≡ walk.place + 5 + length p)) c.in_err-read_entry.ensures.read)

pub returns-in_err-put-2-clause-walks : goal.returns-in_err-put-2-clause-walks
returns-in_err-put-2-clause-walks g c =
    let told = g.D.Disk.bytes c.args.disk.now in
    let old = g.O.Sink.bytes c.args.out.now in
    let now = g.O.Sink.bytes c.loop-index.out in
    let new = g.O.Sink.bytes c.put-in-loop-index.new.out in
    let i = c.loop-index.invariant in
    let walk = c.loop-index.walk in
    let next = c.read_entry.new.self in
    put_failed c.from_residual-in_err-put-2.result c.in_err-put-2.field-0.0 told old new
    c.from_residual-in_err-put-2.ensures.1 c.in_err-put-2.ensures.only
    (next_begun told c.args.log.now c.requires.stands c.loop-index.index walk.place walk.day
    walk.next old now i.put
    (omega (arith, c.loop-index-test.true, c.count-records.ensures.count))
    (g.D.Disk.bytes c.loop-index.disk) i.only_read.same next.renewed.items next.place next.day
    next.next c.in_ok-read_entry.ensures.read new
    (subst (λ (m : List ℕ). AppendsFront now new m) c.renewed-in-loop-index.ensures
    c.in_err-put-2.ensures.bytes))

pub loop-index-preserved : goal.loop-index-preserved
loop-index-preserved g c =
    let told = g.D.Disk.bytes c.args.disk.now in
    let old = g.O.Sink.bytes c.args.out.now in
    let now = g.O.Sink.bytes c.loop-index.out in
    let new = g.O.Sink.bytes c.put-in-loop-index.new.out in
    let i = c.loop-index.invariant in
    let walk = c.loop-index.walk in
    let next = c.read_entry.new.self in
    record {
      put = next_put told c.args.log.now c.requires.stands c.loop-index.index walk.place walk.day
          walk.next old now i.put
          (omega (arith, c.loop-index-test.true, c.count-records.ensures.count))
          (g.D.Disk.bytes c.loop-index.disk) i.only_read.same next.renewed.items next.place next.day
          next.next c.in_ok-read_entry.ensures.read new
          (subst (λ (m : List ℕ). Appends now new m) c.renewed-in-loop-index.ensures
          c.in_ok-put-2.ensures.bytes);
      made = let entry = c.in_ok-read_entry.ensures.made in
          next_made walk.day walk.next old now i.made entry.0 next.renewed.items next.day next.next
          entry.1 new
          (subst (λ (m : List ℕ). Appends now new m) c.renewed-in-loop-index.ensures
          c.in_ok-put-2.ensures.bytes);
      few = c.in_ok-read_entry.ensures.few;
      of = c.in_ok-read_entry.ensures.of;
      only_read = search rules;
      disk_still = search rules;
      output_still = search rules;
    }

pub returns-clause-walks : goal.returns-clause-walks
returns-clause-walks g c =
    let walk = c.loop-index.walk in
    closed (g.D.Disk.bytes c.args.disk.now) c.args.log.now c.requires.stands c.loop-index.index
    walk.place walk.day walk.next (g.O.Sink.bytes c.args.out.now)
    (g.O.Sink.bytes c.loop-index.out) c.loop-index.invariant.put
    (omega (arith, c.loop-index-test.false, c.count-records.ensures.count)) c.put-2.result
    (g.O.Sink.bytes c.put-2.new.out) c.put-2.ensures.bytes c.put-2.ensures.only

pub returns-in_err-walk-clause-puts : goal.returns-in_err-walk-clause-puts
returns-in_err-walk-clause-puts g c = inl (Appends-nil (g.O.Sink.bytes c.args.out.now))

pub returns-in_err-read_birth-clause-puts : goal.returns-in_err-read_birth-clause-puts
returns-in_err-read_birth-clause-puts g c = inl (Appends-nil (g.O.Sink.bytes c.args.out.now))

pub returns-in_err-put-clause-puts : goal.returns-in_err-put-clause-puts
returns-in_err-put-clause-puts g c =
    let old = g.O.Sink.bytes c.args.out.now in
    let new = g.O.Sink.bytes c.put.new.out in
    let birth = c.in_ok-read_birth.ensures.made in
    first_cut birth.0 c.read_birth.new.self.renewed.items birth.1 old new
    c.from_residual-in_err-put.result c.from_residual-in_err-put.ensures.0
    (subst (λ (m : List ℕ). AppendsFront old new m) c.renewed.ensures c.in_err-put.ensures.bytes)

pub returns-in_err-read_entry-clause-puts : goal.returns-in_err-read_entry-clause-puts
returns-in_err-read_entry-clause-puts g c =
    let walk = c.loop-index.walk in
    cut_off walk.day walk.next (g.O.Sink.bytes c.args.out.now) (g.O.Sink.bytes c.loop-index.out)
    c.loop-index.invariant.made c.from_residual-in_err-read_entry.result
    c.from_residual-in_err-read_entry.ensures.0

pub returns-in_err-put-2-clause-puts : goal.returns-in_err-put-2-clause-puts
returns-in_err-put-2-clause-puts g c =
    let walk = c.loop-index.walk in
    let next = c.read_entry.new.self in
    let entry = c.in_ok-read_entry.ensures.made in
    let now = g.O.Sink.bytes c.loop-index.out in
    let new = g.O.Sink.bytes c.put-in-loop-index.new.out in
    next_cut walk.day walk.next (g.O.Sink.bytes c.args.out.now) now c.loop-index.invariant.made
    entry.0 next.renewed.items next.day next.next entry.1 new c.from_residual-in_err-put-2.result
    c.from_residual-in_err-put-2.ensures.0
    (subst (λ (m : List ℕ). AppendsFront now new m) c.renewed-in-loop-index.ensures
    c.in_err-put-2.ensures.bytes)

pub returns-clause-puts : goal.returns-clause-puts
returns-clause-puts g c =
    let walk = c.loop-index.walk in
    made.closed walk.day walk.next (g.O.Sink.bytes c.args.out.now)
    (g.O.Sink.bytes c.loop-index.out) c.loop-index.invariant.made c.put-2.result
    (g.O.Sink.bytes c.put-2.new.out) c.put-2.ensures.bytes
