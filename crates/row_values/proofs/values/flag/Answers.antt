use Rattle.std.proofs.Common.{ap, ◌∙◌}
use Rattle.std.specs.Option.{option_map}
use Rattle.typed_fields.specs.Flag.{flag_text}
use Rattle.row_values.proofs.Texts.{flag_said}
use Rattle.row_values.proofs.values.flag.Goals as goal

pub returns : goal.returns
returns g c =
    ap (option_map flag_text) c.read.ensures.value
    ∙ flag_said (g.F.Lookup.fields c.args.fields.now) c.args.tag
