use Rattle.std.proofs.Common.{ap, ◌∙◌}
use Rattle.std.specs.Option.{option_map}
use Rattle.typed_fields.specs.Stamp.{stamp_text}
use Rattle.row_values.proofs.Texts.{stamp_said}
use Rattle.row_values.proofs.values.stamp.Goals as goal

pub returns-clause-text : goal.returns-clause-text
returns-clause-text g c =
    ap (option_map stamp_text) c.read.ensures.value
    ∙ stamp_said (g.F.Lookup.fields c.args.fields.now) c.args.tag
