-- Own: how much of the type of a message its refusal repeats; docs/DECISIONS.md, "Refusals".
use Rattle.std.specs.Prelude.{ℕ, List, take}
use Rattle.session_core.specs.declared.said.TheConstants.{MAX_REF_MSG_TYPE}

-- RefMsgType: the first bytes of a type
abbrev pub ref_msg_type : List ℕ → List ℕ
ref_msg_type msg_type = take MAX_REF_MSG_TYPE msg_type
