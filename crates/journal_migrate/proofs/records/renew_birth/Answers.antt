use Rattle.std.proofs.Common.{drop, ap, ◌∙◌}
use Rattle.journal_migrate.specs.Format1.{birth1_bytes}
use Rattle.journal_migrate.proofs.Births.{birth_told}
use Rattle.journal_migrate.proofs.records.renew_birth.Goals as goal

pub returns-in_default : goal.returns-in_default
returns-in_default c =
    λ names are written. c.in_default.ensures (drop 11 (birth1_bytes names)) written

pub returns : goal.returns
returns c = birth_told c.args.payload.now c.in-Some.rest.now c.write_record.new.renewed.items
    c.payload_of.result.now c.in-Some.ensures c.in_ok-write_record.ensures
    (c.payload_of.ensures ∙ ap (drop 5) c.deref.ensures.value)
    c.is_some.result c.read_birth.result c.is_some.ensures c.read_birth.ensures
