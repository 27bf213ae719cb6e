-- Own: how the file of a journal may begin; docs/DECISIONS.md, "The edge".
use Rattle.std.specs.Prelude.{ℕ, Bool, ◌||◌, nat_le, nat_eq, List, ◌∷◌, drop, length, codes}
use Rattle.std.specs.Prelude.{slice_index}
use Rattle.std.specs.List.{starts_with}

-- what every journal has behind its first byte: the length of its birth record, and its name
abbrev pub birth_head : List ℕ
birth_head = 0 ∷ 0 ∷ 0 ∷ 155 ∷ codes "FIXGATEWAY2"

-- A file that begins so is a journal of format 1, which fixgate wrote up to 0.12.
abbrev pub is_of_format_1 : List ℕ → Bool
is_of_format_1 head =
    starts_with nat_eq head (1 ∷ 0 ∷ 0 ∷ 0 ∷ 155 ∷ codes "FIXGATEWAY1")

-- A file that begins so is a journal, or may be left of one that was being born: it has at most one
-- byte, or begins with the byte of a gate, or the birth record stands behind that byte.
abbrev pub may_be_journal : List ℕ → Bool
may_be_journal head =
    nat_le (length head) 1
    || (nat_le (slice_index head 0) 1 || starts_with nat_eq (drop 1 head) birth_head)
