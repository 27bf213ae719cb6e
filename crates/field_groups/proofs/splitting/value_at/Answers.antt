use Rattle.field_groups.specs.Field.{is_soh}
use Rattle.field_groups.proofs.Places.{none_before, none_passes}
use Rattle.field_groups.proofs.splitting.value_at.Goals as goal

pub returns-in-None-clause-none : goal.returns-in-None-clause-none
returns-in-None-clause-none c = none_passes is_soh c.args.bytes.now c.in-None.ensures

pub returns-in-Some-clause-no_soh : goal.returns-in-Some-clause-no_soh
returns-in-Some-clause-no_soh c =
    none_before is_soh c.args.bytes.now c.in-Some.end c.in-Some.ensures
