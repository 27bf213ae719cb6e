-- Who may hold the client's place, by how a connection stands that waits.
use Rattle.std.proofs.Common.{◌≡◌, ℕ, Bool, true, false, refl}
use Rattle.std.specs.Prelude.{nat_le}
use Rattle.edge_waits.specs.declared.lobby.First.{First}
use Rattle.edge_waits.specs.declared.lobby.First.TheVariants as first
use Rattle.edge_waits.specs.declared.lobby.Standing.TheVariants as standing
use Rattle.edge_waits.specs.Lobby.{standing_of}

pub holds_by_logon : (what : First) (len : ℕ) (is_closed : Bool) (waited : ℕ)
    → standing_of what len is_closed waited ≡ standing.Holds → what ≡ first.Logon
holds_by_logon first.Logon len is_closed waited is = refl
holds_by_logon first.Other len is_closed waited is = absurd cc
holds_by_logon (first.Garbled cause) len is_closed waited is = absurd cc
holds_by_logon first.More len true waited is = absurd cc
holds_by_logon first.More len false waited is =
    by (nat_le 8_192 len) refl (nat_le 10_000 waited) refl
  where
    by : (long : Bool) → nat_le 8_192 len ≡ long → (late : Bool) → nat_le 10_000 waited ≡ late
        → first.More ≡ first.Logon
    by true is_long late is_late = absurd cc
    by false is_long true is_late = absurd cc
    by false is_long false is_late = absurd cc
