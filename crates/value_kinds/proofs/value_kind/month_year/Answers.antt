use Rattle.std.proofs.Common.{ap, ◌∙◌}
use Rattle.std.specs.Option.{option_map}
use Rattle.std.specs.Result.{result_ok}
use Rattle.typed_fields.specs.MonthYear.{month_year_text}
use Rattle.value_kinds.proofs.Spelled.{as_month_year}
use Rattle.value_kinds.proofs.value_kind.month_year.Goals as goal

pub returns-clause-text : goal.returns-clause-text
returns-clause-text c =
    ap (option_map month_year_text) (c.ok.ensures.value ∙ ap result_ok c.read.ensures.value)
    ∙ as_month_year
    c.args.value.now (λ x h. c.spellings_are_plain.ensures.month_year c.args.value.now x h)
