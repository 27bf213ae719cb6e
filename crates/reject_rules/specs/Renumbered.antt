-- Standard: FIX 4.2, Business Message Reject, of what the other side refused.
-- That it is said so, and the texts, are own: docs/DECISIONS.md, "Refusals".
use Rattle.std.specs.Prelude.{ℕ, Bool, true, false, List, [], ◌++◌, take, codes, Some, None}
use Rattle.std.specs.declared.option.Option.{Option}
use Rattle.std.specs.Option.{option_map}
use Rattle.std.specs.Fmt.{decimal}
use Rattle.order_meaning.specs.declared.Side.{Side}
use Rattle.order_meaning.specs.declared.Side.TheVariants.{Client, Venue}
use Rattle.order_meaning.specs.declared.refusal.Refusal.{Refusal}
use Rattle.session_core.specs.declared.said.Said.{Said}
use Rattle.session_core.specs.Said.{ref_msg_type}
use Rattle.reject_rules.specs.declared.reasons.TheConstants.{OTHER}
use Rattle.reject_rules.specs.declared.text.TheConstants.{MAX_QUOTE}
use Rattle.reject_rules.specs.Content.{business_reject}
use Rattle.reject_rules.specs.Reasons.{business_reason, business_text}

-- who refused what came from a side
abbrev pub refuser_of : Side → List ℕ
refuser_of Client = codes "venue"
refuser_of Venue = codes "client"

-- words and a number, where there is one
abbrev pub words_if : List ℕ → Option ℕ → List ℕ
words_if words None = []
words_if words (Some number) = words ++ decimal number

-- a text that is quoted: its first bytes, where there is one
abbrev pub quoted : Option (List ℕ) → Option (List ℕ)
quoted text = option_map (take MAX_QUOTE) text

-- a quoted text behind others
abbrev pub quote_if : Option (List ℕ) → List ℕ
quote_if None = []
quote_if (Some text) = codes ": " ++ take MAX_QUOTE text

-- what a Reject(3) by the other side says, as a text to this side: RefTagID, SessionRejectReason
-- and Text, where they stand
unfoldable pub rejected_text : Side → Refusal → List ℕ
rejected_text side r =
    codes "rejected by " ++ refuser_of side ++ words_if (codes " tag ") r.tag ++
    words_if (codes " reason ") r.reason ++ quote_if r.text

-- What is said to a side of its own message of this number and type, which the other side refused,
-- by a BusinessMessageReject(j) or by a Reject(3). Of a j the BusinessRejectRefID, the reason and
-- the text are passed on.
abbrev pub renumbered : Side → Bool → Refusal → ℕ → List ℕ → Said
renumbered side true r far far_type = business_reject (record {
  number = Some far;
  msg_type = Some (ref_msg_type far_type);
  id = r.id;
  tag = None;
  reason = option_map (business_reason side) r.reason;
  text = business_text side r.reason (quoted r.text);
})
renumbered side false r far far_type = business_reject (record {
  number = Some far;
  msg_type = Some (ref_msg_type far_type);
  id = None;
  tag = None;
  reason = Some OTHER;
  text = Some (rejected_text side r);
})
