-- What holds of each text holds of the one that stands for a reason.
use Rattle.std.proofs.Common.{ℕ, Bool, true, false, List, [], Option, Some, None, IfSome}
use Rattle.std.proofs.Common.{if◌then◌else◌}
use Rattle.std.specs.Prelude.{nat_le}
use Rattle.order_meaning.specs.declared.Side.{Side}
use Rattle.order_meaning.specs.declared.Side.TheVariants.{Client, Venue}
use Rattle.order_meaning.specs.declared.reasons.TheConstants.{MAX_REASON42}
use Rattle.order_meaning.specs.Reasons.{later_reason_words}
use Rattle.session_core.specs.Reason.{session_text}

-- one of three texts, or none
pub by_three : (P : List ℕ → Type 0) (a b c : Bool) (x y z : List ℕ) → P x → P y → P z →
    IfSome (if a then Some x else (if b then Some y else (if c then Some z else None))) P
by_three P true b c x y z hx hy hz = hx
by_three P false true c x y z hx hy hz = hy
by_three P false false true x y z hx hy hz = hz
by_three P false false false x y z hx hy hz = tt

text_by : (P : List ℕ → Type 0) (low : Bool) (words : Option (List ℕ)) → IfSome words P →
    IfSome (if low then None else words) P
text_by P true words holds = tt
text_by P false words holds = holds

-- the words for a reason, as a side is told them
pub session_text_by : (P : List ℕ → Type 0) →
    ((reason : ℕ) → IfSome (later_reason_words reason) P) → (side : Side) (reason : ℕ) →
    IfSome (session_text side reason) P
session_text_by P words Client reason =
    text_by P (nat_le reason MAX_REASON42) (later_reason_words reason) (words reason)
session_text_by P words Venue reason = tt

-- what a text gets at its end, where it gets something
pub suffix_by : (P : List ℕ → Type 0) (low : Bool) (suffix : List ℕ) → P [] → P suffix →
    P (if low then [] else suffix)
suffix_by P true suffix none some = none
suffix_by P false suffix none some = some
