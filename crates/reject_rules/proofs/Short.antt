-- A refusal is short, whatever it answers to.
use Rattle.std.proofs.Common.{◌≡◌, ℕ, ◌+◌, ◌≤◌, ◌<◌, ◌^◌, Bool, true, false, List, length, codes}
use Rattle.std.proofs.Common.{Option, Some, None, IfSome, refl, subst, arith, lit<, lit≤}
use Rattle.std.proofs.lemmas.List.{length-take}
use Rattle.std.specs.Option.{option_map}
use Rattle.order_meaning.specs.declared.Side.{Side}
use Rattle.order_meaning.specs.declared.fault.Fault.{Fault}
use Rattle.order_meaning.specs.declared.fault.Fault.TheVariants.{Session, NoCounterpart}
use Rattle.order_meaning.specs.declared.fault.Fault.TheVariants.{NotSupported, NoMemory}
use Rattle.order_meaning.specs.declared.refusal.Refusal.{Refusal}
use Rattle.session_core.specs.declared.said.Said.{Said}
use Rattle.session_core.specs.Said.{ref_msg_type}
use Rattle.reject_rules.specs.Content.{reject, business_reject}
use Rattle.session_core.specs.Reason.{session_reason, session_text}
use Rattle.reject_rules.specs.Reasons.{business_reason, business_text}
use Rattle.reject_rules.specs.Refusals.{refusal_of, session_refusal, business_refusal}
use Rattle.reject_rules.specs.Refusals.{no_counterpart, used_refusal, away_refusal}
use Rattle.reject_rules.specs.Renumbered.{renumbered, quoted, rejected_text}
use Rattle.reject_rules.specs.Laws.{IsShort, HasWords, IsBounded, IsWord}
use Rattle.reject_rules.proofs.Lengths.{reject_len, business_len, session_text_len}
use Rattle.reject_rules.proofs.Lengths.{session_reason_word, no_counterpart_len, rejected_text_len}
use Rattle.reject_rules.proofs.Lengths.{quoted_len, business_text_len, business_reason_word}

type_len : (msg_type : List ℕ) → length (ref_msg_type msg_type) ≤ 8
type_len msg_type = omega (arith, length-take 8 msg_type)

reject_short : (r : Refusal) → IsWord r.number → IsWord r.tag →
    IfSome r.msg_type (λ t. length t ≤ 8) → IsWord r.reason →
    IfSome r.text (λ t. length t ≤ 512) → IsShort (reject r)
unfolding reject
reject_short r number tag msg_type reason text = record {
  letter = refl;
  short = let bound = reject_len r 512 number tag msg_type reason text in omega (arith, bound);
}

business_short : (r : Refusal) → IsWord r.number → IfSome r.msg_type (λ t. length t ≤ 8) →
    IfSome r.id (λ id. length id ≤ 128) → IsWord r.reason → IfSome r.text (λ t. length t ≤ 580) →
    IsShort (business_reject r)
unfolding business_reject
business_short r number msg_type id reason text = record {
  letter = refl;
  short = let bound = business_len r 580 number msg_type id reason text in omega (arith, bound);
}

of_business : (number : ℕ) (msg_type : List ℕ) (reason : ℕ) (text : List ℕ) → number < 2 ^ 32 →
    reason < 2 ^ 32 →
    length text ≤ 512 → IsShort (business_refusal number msg_type reason text)
of_business number msg_type reason text word why short =
    business_short (record {
      number = Some number;
      msg_type = Some (ref_msg_type msg_type);
      id = None;
      tag = None;
      reason = Some reason;
      text = Some text;
    }) word (type_len msg_type) tt why (omega arith)

of_session : (side : Side) (number : ℕ) (msg_type : List ℕ) (tag : Option ℕ) (reason : ℕ) →
    number < 2 ^ 32 → IsWord tag →
    reason < 2 ^ 32 → IsShort (session_refusal side number msg_type tag reason)
of_session side number msg_type tag reason word which why =
    reject_short (record {
      number = Some number;
      msg_type = Some (ref_msg_type msg_type);
      id = None;
      tag = tag;
      reason = session_reason side reason;
      text = session_text side reason;
    }) word which (type_len msg_type) (session_reason_word side reason why)
    (session_text_len side reason)

pub fault_short : (side : Side) (number : ℕ) (msg_type : List ℕ) (fault : Fault) (said : Said) →
    number < 2 ^ 32 → HasWords fault →
    refusal_of side number msg_type fault ≡ Some said → IsShort said
fault_short side number msg_type (Session tag reason) said word words is =
    let same : session_refusal side number msg_type tag reason ≡ said = cc in
    subst IsShort same (of_session side number msg_type tag reason word words.0 words.1)
fault_short side number msg_type (NoCounterpart tag) said word words is =
    let same : business_refusal number msg_type 0 (no_counterpart tag) ≡ said = cc in
    subst IsShort same (of_business number msg_type 0 (no_counterpart tag) word (lit< tt)
    (no_counterpart_len tag words))
fault_short side number msg_type NotSupported said word words is =
    let same : business_refusal number msg_type 3 (no_counterpart 35) ≡ said = cc in
    subst IsShort same (of_business number msg_type 3 (no_counterpart 35) word (lit< tt)
    (no_counterpart_len 35 (lit< tt)))
fault_short side number msg_type NoMemory said word words is = cc

pub used_short : (number : ℕ) (msg_type : List ℕ) → number < 2 ^ 32 →
    IsShort (used_refusal number msg_type)
used_short number msg_type word =
    of_business number msg_type 0 (codes "tag 11 is already used") word (lit< tt) (lit≤ tt)

pub away_short : (number : ℕ) (msg_type : List ℕ) → number < 2 ^ 32 →
    IsShort (away_refusal number msg_type)
away_short number msg_type word =
    of_business number msg_type 4 (codes "venue is not connected") word (lit< tt) (lit≤ tt)

within_580 : (text : Option (List ℕ)) → IfSome text (λ t. length t ≤ 512 + 17) →
    IfSome text (λ t. length t ≤ 580)
within_580 None short = tt
within_580 (Some text) short = let few : length text ≤ 529 = short in omega arith

pub told_short : (side : Side) (business : Bool) (r : Refusal) (far : ℕ) (far_type : List ℕ) →
    far < 2 ^ 32 → IsBounded r →
    IsShort (renumbered side business r far far_type)
told_short side true r far far_type word bounded =
    business_short (record {
      number = Some far;
      msg_type = Some (ref_msg_type far_type);
      id = r.id;
      tag = None;
      reason = option_map (business_reason side) r.reason;
      text = business_text side r.reason (quoted r.text);
    }) word (type_len far_type) bounded.id (business_reason_word side r.reason bounded.reason)
    (within_580 (business_text side r.reason (quoted r.text)) (business_text_len side r.reason
    (quoted r.text) bounded.reason (quoted_len r.text)))
told_short side false r far far_type word bounded =
    business_short (record {
      number = Some far;
      msg_type = Some (ref_msg_type far_type);
      id = None;
      tag = None;
      reason = Some 0;
      text = Some (rejected_text side r);
    }) word (type_len far_type) tt (lit< tt) (rejected_text_len side r bounded.tag bounded.reason)
