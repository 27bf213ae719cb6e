use Rattle.std.proofs.Common.{ap, ◌∙◌}
use Rattle.std.specs.Option.{option_map}
use Rattle.typed_fields.specs.Day.{day_text}
use Rattle.row_values.proofs.Texts.{day_said}
use Rattle.row_values.proofs.values.day.Goals as goal

pub returns-clause-text : goal.returns-clause-text
returns-clause-text g c =
    ap (option_map day_text) c.read.ensures.value
    ∙ day_said (g.F.Lookup.fields c.args.fields.now) c.args.tag
