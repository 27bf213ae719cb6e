-- Standard: BusinessRejectReason(380) of FIX 4.2.
-- What is said in place of a reason that FIX 4.2 lacks is own: docs/DECISIONS.md, "Refusals".
use Rattle.std.specs.Prelude.{ℕ, nat_le, List, [], ◌∷◌, ◌++◌, take, codes, Some, None}
use Rattle.std.specs.Prelude.{if◌then◌else◌}
use Rattle.std.specs.declared.option.Option.{Option}
use Rattle.std.specs.Fmt.{decimal}
use Rattle.order_meaning.specs.declared.Side.{Side}
use Rattle.order_meaning.specs.declared.Side.TheVariants.{Client, Venue}
use Rattle.reject_rules.specs.declared.reasons.TheConstants.{MAX_BUSINESS_REASON, MAX_TEXT, OTHER}
use Rattle.reject_rules.specs.declared.tag.TheConstants.{BUSINESS_REJECT_REASON}

-- a reason of FIX 4.2, where this is the highest that it has: one above it is written as another
abbrev pub reason_within : ℕ → ℕ → ℕ → ℕ
reason_within highest other reason = if nat_le reason highest then reason else other

-- what a text gets at its end, so that no reason is lost: ` [tag=reason]` for one above the highest
abbrev pub reason_suffix : ℕ → ℕ → ℕ → List ℕ
reason_suffix tag highest reason =
    if nat_le reason highest then []
    else codes " [" ++ decimal tag ++ codes "=" ++ decimal reason ++ codes "]"

-- a text with this at its end: it is first cut so that both have room, and where there is none, the
-- first space goes
abbrev pub with_suffix : Option (List ℕ) → List ℕ → Option (List ℕ)
with_suffix text [] = text
with_suffix None (space ∷ suffix) = Some suffix
with_suffix (Some text) (space ∷ suffix) = Some (take MAX_TEXT text ++ space ∷ suffix)

-- BusinessRejectReason to a side: one that FIX 4.2 lacks is "other"
abbrev pub business_reason : Side → ℕ → ℕ
business_reason Client reason = reason_within MAX_BUSINESS_REASON OTHER reason
business_reason Venue reason = reason

-- Text beside a BusinessRejectReason to a side
abbrev pub business_text : Side → Option ℕ → Option (List ℕ) → Option (List ℕ)
business_text Client (Some reason) text =
    with_suffix text (reason_suffix BUSINESS_REJECT_REASON MAX_BUSINESS_REASON reason)
business_text side reason text = text
