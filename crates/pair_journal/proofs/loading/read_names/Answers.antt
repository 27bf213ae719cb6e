use Rattle.std.proofs.Common.{sym, subst, arith}
use Rattle.gate_log.specs.Log.{ReadsPayload}
use Rattle.pair_journal.proofs.Reading.{names_unread, names_read, names_misread, err_misread}
use Rattle.pair_journal.proofs.loading.read_names.Goals as goal

pub returns-in-Some-clause-ok : goal.returns-in-Some-clause-ok
returns-in-Some-clause-ok g c =
    names_read (g.D.Disk.bytes c.args.disk.now) c.args.log.now c.requires.stands (omega arith)
    c.payload.result.now c.in-Some.names
    (subst (ReadsPayload (g.D.Disk.bytes c.args.disk.now) 0) (sym c.payload.ensures.payload)
    c.in_ok-read_record.ensures.payload) c.in-Some.ensures.0 c.in-Some.ensures.1

pub returns-in-None-clause-err : goal.returns-in-None-clause-err
returns-in-None-clause-err g c =
    names_misread (g.D.Disk.bytes c.args.disk.now) c.args.log.now c.requires.stands (omega arith)
    c.payload.result.now (subst (ReadsPayload (g.D.Disk.bytes c.args.disk.now) 0)
    (sym c.payload.ensures.payload) c.in_ok-read_record.ensures.payload) c.in-None.ensures

pub returns-in_err-read_record-clause-err : goal.returns-in_err-read_record-clause-err
returns-in_err-read_record-clause-err g c =
    err_misread c.from_residual.result c.in_err-read_record.field-0.0 _ c.from_residual.ensures.1
    (names_unread (g.D.Disk.bytes c.args.disk.now) c.args.log.now c.requires.stands (omega arith)
    c.in_err-read_record.field-0.0 c.in_err-read_record.ensures.err)
