-- Standard: FIX 4.2 and FIXT 1.1, MsgType(35) is the first field of a body.
use Rattle.std.specs.Prelude.{ℕ, ◌==◌, List, take, drop, position, Some, None}
use Rattle.std.specs.declared.option.Option.{Option}
use Rattle.frame_grammar.specs.declared.frame.TheConstants.{SOH}

-- the MsgType of a body: what stands behind `35=`, up to the next SOH
abbrev pub up_to : Option ℕ → List ℕ → List ℕ
up_to None bytes = bytes
up_to (Some end) bytes = take end bytes

abbrev pub type_in : List ℕ → List ℕ
type_in body = up_to (position (λ byte. byte == SOH) (drop 3 body)) (drop 3 body)
