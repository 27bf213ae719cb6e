-- Own: the refusals that can be written: each number is one that can be read.
use Rattle.std.specs.Prelude.{ℕ, ◌≤◌, IfSome}
use Rattle.order_meaning.specs.declared.refusal.Refusal.{Refusal}

-- a number that can be read
abbrev pub IsWhole : ℕ → Type 0
IsWhole n = n ≤ 1_000_000_000

pub record IsReadableRefusal (m : Refusal) : Type 0 where
  pub number : IfSome m.number IsWhole
  pub tag : IfSome m.tag IsWhole
  pub reason : IfSome m.reason IsWhole
