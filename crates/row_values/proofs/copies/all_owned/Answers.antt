use Rattle.std.proofs.Common.{rules}
use Rattle.std.specs.Option.{option_map}
use Rattle.std.proofs.lemmas.Result.{IfOk-weaker}
use Rattle.row_values.proofs.MadeByEach.{made_by_each}
use Rattle.row_values.proofs.copies.all_owned.Goals as goal

pub returns : goal.returns
returns c = IfOk-weaker c.try_map.result _ _ (λ ys h. made_by_each _ (option_map (λ text. text.now))
    (λ x y r. search rules) c.args.texts ys h.whole) c.try_map.ensures.ok
