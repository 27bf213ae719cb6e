-- Refusals that are worked through from the definitions alone, as bytes with `|` for SOH.
use Rattle.std.proofs.Common.{◌≡◌, ℕ, true, false, List, ◌++◌, map, replicate, codes, Option, Some}
use Rattle.std.proofs.Common.{None, refl, if◌then◌else◌}
use Rattle.std.specs.Prelude.{◌==◌}
use Rattle.std.specs.Fmt.{digits}
use Rattle.std.specs.Option.{option_map}
use Rattle.field_groups.specs.Field.{field_bytes}
use Rattle.order_meaning.specs.declared.Side.{Side}
use Rattle.order_meaning.specs.declared.Side.TheVariants.{Client, Venue}
use Rattle.order_meaning.specs.declared.fault.Fault.{Fault}
use Rattle.order_meaning.specs.declared.fault.Fault.TheVariants.{Session, NoCounterpart}
use Rattle.order_meaning.specs.declared.fault.Fault.TheVariants.{NotSupported, NoMemory}
use Rattle.order_meaning.specs.declared.refusal.Refusal.{Refusal}
use Rattle.session_core.specs.declared.said.Said.{Said}
use Rattle.reject_rules.specs.Content.{reject, business_reject}
use Rattle.order_meaning.specs.Reasons.{later_reason_words}
use Rattle.reject_rules.specs.Refusals.{refusal_of, used_refusal, away_refusal, no_counterpart}
use Rattle.reject_rules.specs.Renumbered.{renumbered, rejected_text}

-- a content with `|` for SOH
abbrev shown : Said → List ℕ
shown said = map (λ byte. if byte == 1 then 124 else byte) said.content

abbrev refused : Side → ℕ → List ℕ → Fault → Option (List ℕ)
refused side number msg_type fault = option_map shown (refusal_of side number msg_type fault)

-- a Parties group whose count is not that of its lines; the 31st of June; a tag that stands twice
pub session_faults :
    (refused Venue 2 (codes "8") (Session (Some 453) 16)
    ≡ Some (codes "45=2|371=453|372=8|373=16|"))
    × (refused Client 2 (codes "D") (Session (Some 205) 5)
    ≡ Some (codes "45=2|371=205|372=D|373=5|"))
    × (refused Client 2 (codes "D") (Session (Some 38) 13)
    ≡ Some (codes "45=2|371=38|372=D|58=tag appears more than once|"))
    × (refused Client 2 (codes "D") (Session (Some 60) 14) ≡ Some (codes "45=2|371=60|372=D|"))
    × (refused Client 2 (codes "ABCDEFGHI") (Session None 6)
    ≡ Some (codes "45=2|372=ABCDEFGH|373=6|"))
unfolding digits field_bytes reject later_reason_words
session_faults = (refl, refl, refl, refl, refl)

-- EncodedTextLen and ExecType without a counterpart, a type that is not supported, and no memory
pub other_faults :
    (refused Client 2 (codes "D") (NoCounterpart 354)
    ≡ Some (codes "45=2|372=D|380=0|58=tag 354 has no counterpart|"))
    × (refused Venue 7 (codes "8") (NoCounterpart 150)
    ≡ Some (codes "45=7|372=8|380=0|58=tag 150 has no counterpart|"))
    × (refused Venue 7 (codes "AE") NotSupported
    ≡ Some (codes "45=7|372=AE|380=3|58=tag 35 has no counterpart|"))
    × (refused Venue 7 (codes "8") NoMemory ≡ None)
unfolding digits field_bytes business_reject no_counterpart
other_faults = (refl, refl, refl, refl)

-- an order whose ClOrdID was used before, and one while the venue is away
pub requests :
    (shown (used_refusal 4 (codes "D")) ≡ codes "45=4|372=D|380=0|58=tag 11 is already used|")
    × (shown (away_refusal 5 (codes "D")) ≡ codes "45=5|372=D|380=4|58=venue is not connected|")
unfolding digits field_bytes business_reject
requests = (refl, refl)

-- what a refusal says, of a message of the other session
abbrev saying : Option (List ℕ) → Option ℕ → Option ℕ → Option (List ℕ) → Refusal
saying id tag reason text = record {
  number = Some 3;
  msg_type = Some (codes "D");
  id = id;
  tag = tag;
  reason = reason;
  text = text;
}

-- the venue rejects message 3, which was the client's message 2
pub a_reject_comes_back :
    (shown (renumbered Client false (saying None (Some 40) (Some 5) None) 2 (codes "D"))
    ≡ codes "45=2|372=D|380=0|58=rejected by venue tag 40 reason 5|")
    × (shown (renumbered Client false (saying None None None (Some (codes "bad"))) 2 (codes "D"))
    ≡ codes "45=2|372=D|380=0|58=rejected by venue: bad|")
    × (shown (renumbered Venue false (saying None None None None) 2 (codes "8"))
    ≡ codes "45=2|372=8|380=0|58=rejected by client|")
unfolding digits field_bytes business_reject rejected_text
a_reject_comes_back = (refl, refl, refl)

pub a_business_reject_comes_back :
    (shown (renumbered Client true (saying (Some (codes "A1")) None (Some 1) None) 2 (codes "D"))
    ≡ codes "45=2|372=D|379=A1|380=1|")
    × (shown (renumbered Client true (saying None None (Some 6) None) 2 (codes "D"))
    ≡ codes "45=2|372=D|380=0|58=[380=6]|")
    × (shown (renumbered Client true (saying None None (Some 6) (Some (codes "no"))) 2 (codes "D"))
    ≡ codes "45=2|372=D|380=0|58=no [380=6]|")
    × (shown (renumbered Venue true (saying None None (Some 6) (Some (codes "no"))) 2 (codes "8"))
    ≡ codes "45=2|372=8|380=6|58=no|")
unfolding digits field_bytes business_reject
a_business_reject_comes_back = (refl, refl, refl, refl)

-- of a text of 513 bytes 512 are passed on
pub a_text_is_cut :
    shown
    (renumbered Client true (saying None None (Some 5) (Some (replicate 513 120))) 2 (codes "D"))
    ≡ codes "45=2|372=D|380=5|58=" ++ replicate 512 120 ++ codes "|"
unfolding digits field_bytes business_reject
a_text_is_cut = refl
