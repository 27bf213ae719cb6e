-- Standard: SessionRejectReason(373) of FIX 4.2 and FIXT 1.1.
-- What is said in place of a reason that FIX 4.2 lacks is own: docs/DECISIONS.md, "Refusals".
use Rattle.std.specs.Prelude.{ℕ, nat_le, List, Some, None, if◌then◌else◌}
use Rattle.std.specs.declared.option.Option.{Option}
use Rattle.order_meaning.specs.declared.Side.{Side}
use Rattle.order_meaning.specs.declared.Side.TheVariants.{Client, Venue}
use Rattle.order_meaning.specs.declared.reasons.TheConstants.{MAX_REASON42}
use Rattle.order_meaning.specs.Reasons.{later_reason_words}

-- SessionRejectReason to a side: FIX 4.2 has the reasons up to 11
abbrev pub session_reason : Side → ℕ → Option ℕ
session_reason Client reason = if nat_le reason MAX_REASON42 then Some reason else None
session_reason Venue reason = Some reason

-- Text to a side: its words in place of a reason that FIX 4.2 lacks
abbrev pub session_text : Side → ℕ → Option (List ℕ)
session_text Client reason = if nat_le reason MAX_REASON42 then None else later_reason_words reason
session_text Venue reason = None
