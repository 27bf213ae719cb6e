use Rattle.std.proofs.Common.{ap, ◌∙◌}
use Rattle.std.specs.Option.{option_map}
use Rattle.typed_fields.specs.MonthYear.{month_year_text}
use Rattle.row_values.proofs.Texts.{month_said}
use Rattle.row_values.proofs.values.month.Goals as goal

pub returns-clause-text : goal.returns-clause-text
returns-clause-text g c =
    ap (option_map month_year_text) c.read.ensures.value
    ∙ month_said (g.F.Lookup.fields c.args.fields.now) c.args.tag
