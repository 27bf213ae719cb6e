use Rattle.std.proofs.Common.{option_map}
use Rattle.structs_fix44.proofs.Down.{is_down, known_says}
use Rattle.structs_fix44.proofs.Typed.{lacks}
use Rattle.structs_fix44.proofs.downward.content_down.Goals as goal

pub returns-in-Ok-clause-ok : goal.returns-in-Ok-clause-ok
returns-in-Ok-clause-ok c = λ m said.
    is_down (option_map (λ id. id.now) c.args.known) said c.in_ok-split.ensures c.new-content.ensures.items c.in-Ok.ensures.ok

pub returns-in-Err-Lacking-clause-lack : goal.returns-in-Err-Lacking-clause-lack
returns-in-Err-Lacking-clause-lack c = λ m said.
    lacks (known_says (option_map (λ id. id.now) c.args.known) said) c.in_ok-split.ensures
    c.in-Err-Lacking.tag
    (rw c.in-Err-Lacking.field-0-is at c.in-Err-Lacking.ensures.refused)
