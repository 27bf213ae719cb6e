use Rattle.std.proofs.Common.{arith, sym}
use Rattle.std.proofs.lemmas.List.{length-take-le, take_all}
use Rattle.report_rules.proofs.writing.front.Goals as goal

pub slice_bounds-result-end : goal.slice_bounds-result-end
slice_bounds-result-end c = sym (length-take-le 2000 c.args.text.now (omega arith))

pub returns-else-text-gt-MOST_BEFORE_REASONS : goal.returns-else-text-gt-MOST_BEFORE_REASONS
returns-else-text-gt-MOST_BEFORE_REASONS c = sym (take_all 2000 c.args.text.now (omega arith))
