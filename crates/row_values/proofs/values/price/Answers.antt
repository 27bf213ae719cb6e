use Rattle.std.proofs.Common.{ap, ◌∙◌}
use Rattle.std.specs.Option.{option_map}
use Rattle.typed_fields.specs.Dec.{dec_text}
use Rattle.row_values.proofs.Texts.{price_said}
use Rattle.row_values.proofs.values.price.Goals as goal

pub returns-clause-text : goal.returns-clause-text
returns-clause-text g c =
    ap (option_map dec_text) c.read.ensures.value
    ∙ price_said (g.F.Lookup.fields c.args.fields.now) c.args.tag
