-- Own: what a session has to know of a message, and the bounds of its numbers.
use Rattle.std.specs.Prelude.{ℕ, Bool}
use Rattle.std.specs.declared.option.Option.{Option}
use Rattle.std.specs.Option.{ForSome}
use Rattle.session_core.specs.Numbers.{IsMsgSeqNum, IsNextNumber}
use Rattle.session_core.specs.declared.head.What.{What}
use Rattle.session_core.specs.declared.head.What.TheVariants as what

-- the fields of a head: MsgSeqNum(34), PossDupFlag(43), the wrong CompID, the fault of
-- SendingTime(52), the kind
pub record HeadFields : Type 0 where
  pub number : Option ℕ
  pub dup : Bool
  pub comp : Option ℕ
  pub time : Option ℕ
  pub what : What

-- the numbers inside a message: BeginSeqNo(7) is a message's, NewSeqNo(36) that of a message to
-- come
abbrev pub HasNumbers : What → Type 0
HasNumbers (what.ResendRequest from to) = IsMsgSeqNum from
HasNumbers (what.GapFill to) = IsNextNumber to
HasNumbers (what.Reset to) = IsNextNumber to
HasNumbers other = Unit {0}

pub record IsHead (head : HeadFields) : Type 0 where
  pub number : ForSome head.number IsMsgSeqNum
  pub what : HasNumbers head.what
