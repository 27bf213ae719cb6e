-- Own: what the layers above need of a refusal, whatever it says.
use Rattle.std.specs.Prelude.{◌≡◌, ℕ, ◌≤◌, ◌<◌, ◌^◌, ◌==◌, true, false, List, [], ◌∷◌, length, All}
use Rattle.std.specs.Prelude.{IfSome}
use Rattle.std.specs.declared.option.Option.{Option}
use Rattle.std.specs.Fmt.{decimal}
use Rattle.std.specs.List.{list_any}
use Rattle.field_groups.specs.Field.{Field, body_of, is_soh}
use Rattle.order_meaning.specs.declared.fault.Fault.{Fault}
use Rattle.order_meaning.specs.declared.fault.Fault.TheVariants.{Session, NoCounterpart}
use Rattle.order_meaning.specs.declared.fault.Fault.TheVariants.{NotSupported, NoMemory}
use Rattle.order_meaning.specs.declared.refusal.Refusal.{Refusal}
use Rattle.session_core.specs.declared.said.Said.{Said}
use Rattle.session_core.specs.declared.tag.TheConstants.{REF_SEQ_NUM, REF_TAG_ID, REF_MSG_TYPE}
use Rattle.session_core.specs.declared.tag.TheConstants.{SESSION_REJECT_REASON, TEXT}
use Rattle.reject_rules.specs.declared.tag.TheConstants.{BUSINESS_REJECT_REF_ID}
use Rattle.reject_rules.specs.declared.tag.TheConstants.{BUSINESS_REJECT_REASON}

-- the most bytes of what a refusal says behind its header
abbrev pub most_content : ℕ
most_content = 1024

-- the most bytes of a ClOrdID
abbrev pub most_id : ℕ
most_id = 128

-- one letter, and not too much content
pub record IsShort (said : Said) : Type 0 where
  pub letter : length said.msg_type ≡ 1
  pub short : length said.content ≤ most_content

abbrev pub IsWord : Option ℕ → Type 0
IsWord number = IfSome number (λ n. n < 2 ^ 32)

-- a fault with numbers of 32 bits
abbrev pub HasWords : Fault → Type 0
HasWords (Session tag reason) = IsWord tag × (reason < 2 ^ 32)
HasWords (NoCounterpart tag) = tag < 2 ^ 32
HasWords NotSupported = Unit {0}
HasWords NoMemory = Unit {0}

-- a refusal with numbers of 32 bits, which names a ClOrdID within its bound
pub record IsBounded (r : Refusal) : Type 0 where
  pub tag : IsWord r.tag
  pub reason : IsWord r.reason
  pub id : IfSome r.id (λ id. length id ≤ most_id)

-- bytes with no SOH
abbrev pub HasNoSoh : List ℕ → Type 0
HasNoSoh bytes = list_any is_soh bytes ≡ false

-- a refusal whose id and text have no SOH, as those of a message that was read
pub record HasTexts (r : Refusal) : Type 0 where
  pub id : IfSome r.id HasNoSoh
  pub text : IfSome r.text HasNoSoh

-- the tags of a Reject(3) and of a BusinessMessageReject(j)
abbrev pub refusal_tags : List ℕ
refusal_tags =
    REF_SEQ_NUM ∷ TEXT ∷ REF_TAG_ID ∷ REF_MSG_TYPE ∷ SESSION_REJECT_REASON
    ∷ BUSINESS_REJECT_REF_ID ∷ BUSINESS_REJECT_REASON ∷ []

-- a field of one of these tags, whose value ends at its SOH
pub record IsRefusalField (f : Field) : Type 0 where
  pub listed : list_any (λ tag. tag == f.0) refusal_tags ≡ true
  pub no_soh : HasNoSoh f.1

-- what is said is at most five such fields as they are written, of which the first is RefSeqNum(45)
-- with this number
pub record IsOf (number : ℕ) (said : Said) : Type 0 where
  pub more : List Field
  pub few : length more ≤ 4
  pub written : said.content ≡ body_of ((REF_SEQ_NUM, decimal number) ∷ more)
  pub fields : All IsRefusalField ((REF_SEQ_NUM, decimal number) ∷ more)
