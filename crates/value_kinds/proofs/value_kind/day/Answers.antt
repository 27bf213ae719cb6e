use Rattle.std.proofs.Common.{ap, ◌∙◌}
use Rattle.std.specs.Option.{option_map}
use Rattle.std.specs.Result.{result_ok}
use Rattle.typed_fields.specs.Day.{day_text}
use Rattle.value_kinds.proofs.Spelled.{as_day}
use Rattle.value_kinds.proofs.value_kind.day.Goals as goal

pub returns : goal.returns
returns c =
    ap (option_map day_text) (c.ok.ensures.value ∙ ap result_ok c.read.ensures.value)
    ∙ as_day c.args.value.now (λ x h. c.spellings_are_plain.ensures.day c.args.value.now x h)
