-- Own: what contracts see of a log: where its records end, and how many they are. It holds none.
use Rattle.std.specs.Prelude.{ℕ, Bool}

pub record LogState : Type 0 where
  -- the place of its closing gate
  pub end : ℕ
  -- how many records it has, of which the first is the birth record
  pub count : ℕ
  -- an append has answered a disk fault
  pub broken : Bool
  -- for so many records there is room
  pub spare : ℕ
