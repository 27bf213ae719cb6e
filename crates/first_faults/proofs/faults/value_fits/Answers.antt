use Rattle.std.proofs.Common.{ap, sym, ◌∙◌}
use Rattle.message_tables.specs.CodeTables.{need_of}
use Rattle.message_tables.specs.FirstFault.{allowed}
use Rattle.message_tables.specs.Plain.{is_good}
use Rattle.first_faults.proofs.OnePass.{good_is_allowed}
use Rattle.first_faults.proofs.faults.value_fits.Goals as goal

pub returns-in-Good : goal.returns-in-Good
returns-in-Good c =
    let need = need_of c.args.row.now.need in
    sym (ap (λ m. is_good (allowed need m)) (sym c.judge.ensures ∙ c.in-Good.is)
    ∙ good_is_allowed need)
