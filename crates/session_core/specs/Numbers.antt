-- Own: the numbers of messages end at nine digits; docs/DECISIONS.md, "The session".
use Rattle.std.specs.Prelude.{ℕ, ◌≤◌}
use Rattle.session_core.specs.declared.numbers.TheConstants.{MAX_MSG_SEQ_NUM, ALL_USED}

-- the MsgSeqNum(34) of a message
abbrev pub IsMsgSeqNum : ℕ → Type 0
IsMsgSeqNum n = (1 ≤ n) × (n ≤ MAX_MSG_SEQ_NUM)

-- the number of the message to come; `ALL_USED` says that all are used
abbrev pub IsNextNumber : ℕ → Type 0
IsNextNumber n = (1 ≤ n) × (n ≤ ALL_USED)

-- the next numbers of a session: the one that is expected, and the one that is given out
pub record NextNumbers : Type 0 where
  pub next_in : ℕ
  pub next_out : ℕ

pub record AreNextNumbers (numbers : NextNumbers) : Type 0 where
  pub next_in : IsNextNumber numbers.next_in
  pub next_out : IsNextNumber numbers.next_out
