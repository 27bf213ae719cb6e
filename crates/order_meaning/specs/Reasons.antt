-- Standard: SessionRejectReason(373) of FIXT 1.1. Own: the words; docs/DECISIONS.md, "Refusals".
use Rattle.std.specs.Prelude.{ℕ, ◌==◌, List, codes, Some, None, if◌then◌else◌}
use Rattle.std.specs.declared.option.Option.{Option}

-- the words for a SessionRejectReason that came after FIX 4.2: 13 tag appears more than once, 15
-- repeating group fields out of order, 16 incorrect NumInGroup count for repeating group
unfoldable pub later_reason_words : ℕ → Option (List ℕ)
later_reason_words reason =
    if reason == 13 then Some (codes "tag appears more than once") else
    (if reason == 15 then Some (codes "group fields out of order") else
    (if reason == 16 then Some (codes "wrong group count") else None))
