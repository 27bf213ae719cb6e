use Rattle.std.proofs.Common.{ap, ◌∙◌}
use Rattle.std.specs.Option.{option_map}
use Rattle.typed_fields.specs.Number.{number_text}
use Rattle.row_values.proofs.Texts.{number_said}
use Rattle.row_values.proofs.values.number.Goals as goal

pub returns-clause-text : goal.returns-clause-text
returns-clause-text g c =
    ap (option_map number_text) c.read.ensures.value
    ∙ number_said (g.F.Lookup.fields c.args.fields.now) c.args.tag
