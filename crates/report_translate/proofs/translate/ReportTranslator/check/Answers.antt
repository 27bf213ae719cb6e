use Rattle.report_translate.proofs.Translated.{known, refused_by_check}
use Rattle.report_translate.proofs.translate.ReportTranslator.check.Goals as goal

pub returns-clause-ok : goal.returns-clause-ok
returns-clause-ok c =
    let split = c.split_into.new.split in
    known c.args.body.now split.fields split.fault c.in_ok-split_into.ensures c.check_fields.result
    c.check_fields.ensures.ok

pub returns-clause-refused : goal.returns-clause-refused
returns-clause-refused c =
    let split = c.split_into.new.split in
    refused_by_check c.args.body.now split.fields split.fault c.in_ok-split_into.ensures
    c.check_fields.result c.check_fields.ensures.refused
