use Rattle.std.proofs.Common.{◌≡◌, take, None}
use Rattle.message_tables.specs.Tables.{first_of}
use Rattle.message_tables.specs.FirstFault.{missing_of}
use Rattle.message_tables.specs.CodeTables.{item_of}
use Rattle.message_tables.proofs.stages.first_missing.Given as goal

abbrev pub invariant-loop-item : goal.invariant-loop-item
invariant-loop-item g l = first_of (λ item. missing_of l.fields (item_of (λ k. k) item))
    (take l.item-index l.item-items) ≡ None
