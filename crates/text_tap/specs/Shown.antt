-- Own: how a byte stands in a line; docs/DEFINITIONS.md, "Taps and lines".
use Rattle.std.specs.Prelude.{ℕ, ◌&&◌, ◌==◌, nat_le, if◌then◌else◌}

-- `|` stands for SOH, and `?` for what is not from a blank to `~`
abbrev pub shown : ℕ → ℕ
shown byte = if byte == 1 then 124 else if nat_le 32 byte && nat_le byte 126 then byte else 63
