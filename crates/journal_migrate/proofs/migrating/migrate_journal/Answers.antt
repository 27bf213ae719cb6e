use Rattle.std.proofs.KnownBytes.{Appends-nil}
use Rattle.std.proofs.Common.{inl, ◌+◌, ◌-◌, ◌*◌, ◌≤◌, ◌<◌, ◌∙◌, refl, subst, IfSome, Ok, Err, None}
use Rattle.std.proofs.Common.{MatchBool}
use Rattle.std.specs.Prelude.{⊤}
use Rattle.outside.specs.declared.disk.TheConstants.{MAX_DISK}
use Rattle.gate_log.specs.Log.{Looks}
use Rattle.journal_migrate.specs.Walk.{Walks, migrate_error}
use Rattle.journal_migrate.proofs.Migrated.{answered, no_output, found_log, refused, unborn}
use Rattle.journal_migrate.proofs.Migrated.{not_read, full, put}
use Rattle.journal_migrate.proofs.migrating.migrate_journal.Goals as goal

pub returns-in_err-log-clause-migrates : goal.returns-in_err-log-clause-migrates
returns-in_err-log-clause-migrates g c =
    let told = g.D.Disk.bytes c.args.disk.now in
    let old = g.O.Sink.bytes c.args.out.now in
    let error = c.in_err-log.field-0.0 in
    answered c.from_residual.result (migrate_error error) told old old c.from_residual.ensures.1
    (refused told old error c.in_err-log.ensures.looks)

pub returns-in_default-clause-migrates : goal.returns-in_default-clause-migrates
returns-in_default-clause-migrates g c =
    let told = g.D.Disk.bytes c.args.disk.now in
    unborn _ told (g.O.Sink.bytes c.args.out.now)
    (subst (λ found. IfSome told (λ b. Looks b (Ok found))) c.in_default.is
    c.in_ok-log.ensures.looks)

pub put_all-requires : goal.put_all-requires
put_all-requires g c = record {
  stands = found_log (g.D.Disk.bytes c.args.disk.now) (g.D.Disk.bytes c.look.new.disk)
      c.in_ok-log.field-0 c.in-Some.log c.look.ensures.only_read.same c.in-Some.is
      c.in_ok-log.ensures.looks;
}

pub returns-in_err-put_all-clause-migrates : goal.returns-in_err-put_all-clause-migrates
returns-in_err-put_all-clause-migrates g c =
    let told = g.D.Disk.bytes c.args.disk.now in
    let old = g.O.Sink.bytes c.args.out.now in
    let error = c.in_err-put_all.field-0.0 in
    answered c.from_residual-in_err-put_all.result error told old old
    c.from_residual-in_err-put_all.ensures.1
    (not_read told old error (no_output error c.in_err-put_all.ensures.output_cause)
    (subst (λ t. IfSome t (λ b. Walks {T = ⊤} b (Err error) None None))
    c.look.ensures.only_read.same c.in_err-put_all.ensures.walks))

pub returns-then-is_too_long-clause-migrates : goal.returns-then-is_too_long-clause-migrates
returns-then-is_too_long-clause-migrates g c =
    let told = g.D.Disk.bytes c.args.disk.now in
    let old = g.O.Sink.bytes c.args.out.now in
    let log = c.in-Some.log in
    full told log (found_log told told c.in_ok-log.field-0 log refl c.in-Some.is
    c.in_ok-log.ensures.looks) c.in_ok-put_all.field-0
    (subst (λ t. IfSome t (λ b. Walks {T = ⊤} b (Ok c.in_ok-put_all.field-0) None None))
    c.look.ensures.only_read.same c.in_ok-put_all.ensures.walks) old
    (subst (λ r. MatchBool r (MAX_DISK ≤ log.end + 4 * (log.count - 1))
    (log.end + 4 * (log.count - 1) < MAX_DISK)) c.if-is_too_long.true c.is_too_long.ensures)

pub put_all-requires-2 : goal.put_all-requires-2
put_all-requires-2 g c = record {
  stands = found_log (g.D.Disk.bytes c.args.disk.now) (g.D.Disk.bytes c.put_all.new.disk)
      c.in_ok-log.field-0 c.in-Some.log
      (c.put_all.ensures.only_read.same ∙ c.look.ensures.only_read.same) c.in-Some.is
      c.in_ok-log.ensures.looks;
}

pub returns-clause-migrates : goal.returns-clause-migrates
returns-clause-migrates g c =
    let told = g.D.Disk.bytes c.args.disk.now in
    let old = g.O.Sink.bytes c.args.out.now in
    let new = g.O.Sink.bytes c.put_all-2.new.out in
    let log = c.in-Some.log in
    let result = c.put_all-2.result in
    put told log (found_log told told c.in_ok-log.field-0 log refl c.in-Some.is
    c.in_ok-log.ensures.looks) c.in_ok-put_all.field-0
    (subst (λ t. IfSome t (λ b. Walks {T = ⊤} b (Ok c.in_ok-put_all.field-0) None None))
    c.look.ensures.only_read.same c.in_ok-put_all.ensures.walks) old new result
    (subst (λ r. MatchBool r (MAX_DISK ≤ log.end + 4 * (log.count - 1))
    (log.end + 4 * (log.count - 1) < MAX_DISK)) c.if-is_too_long.false c.is_too_long.ensures)
    (subst (λ t. IfSome t (λ b. Walks b result old new))
    (c.put_all.ensures.only_read.same ∙ c.look.ensures.only_read.same) c.put_all-2.ensures.walks)

pub returns-in_err-log-clause-puts : goal.returns-in_err-log-clause-puts
returns-in_err-log-clause-puts g c = inl (Appends-nil (g.O.Sink.bytes c.args.out.now))

pub returns-in_default-clause-puts : goal.returns-in_default-clause-puts
returns-in_default-clause-puts g c = inl (Appends-nil (g.O.Sink.bytes c.args.out.now))

pub returns-in_err-put_all-clause-puts : goal.returns-in_err-put_all-clause-puts
returns-in_err-put_all-clause-puts g c = inl (Appends-nil (g.O.Sink.bytes c.args.out.now))

pub returns-then-is_too_long-clause-puts : goal.returns-then-is_too_long-clause-puts
returns-then-is_too_long-clause-puts g c = inl (Appends-nil (g.O.Sink.bytes c.args.out.now))
