-- Own: what a replay prints; docs/DEFINITIONS.md, "Lines of a replay".
use Rattle.std.specs.Prelude.{ℕ, ◌+◌, ◌==◌, List, [], ◌∷◌, ◌++◌, map, codes, decimal}
use Rattle.std.specs.Prelude.{if◌then◌else◌}
use Rattle.std.specs.List.{flat_map}

-- SOH is printed as `|`
abbrev pub printed : ℕ → ℕ
printed byte = if byte == 1 then 124 else byte

abbrev pub piece_line : List ℕ → List ℕ
piece_line piece = codes "> " ++ map printed piece ++ codes "\n"

-- a word and a number
abbrev pub numbered : List ℕ → ℕ → List ℕ
numbered word number = word ++ codes " " ++ decimal number ++ codes "\n"

-- a connection of a side, and the pieces that were written on it
abbrev pub connection_lines : List ℕ → ℕ → List (List ℕ) → List ℕ
connection_lines side number pieces = numbered side number ++ flat_map piece_line pieces

-- the connections of a side, numbered from this number on
abbrev pub side_lines : List ℕ → ℕ → List (List (List ℕ)) → List ℕ
side_lines side number [] = []
side_lines side number (pieces ∷ rest) =
    connection_lines side number pieces ++ side_lines side (number + 1) rest

-- the name of an end
abbrev pub end_line : List ℕ → List ℕ
end_line end = codes "end " ++ end ++ codes "\n"

-- the life of this number, by the pieces written on each connection of both sides, and the name of
-- its end
abbrev pub life_lines : ℕ → List (List (List ℕ)) → List (List (List ℕ)) → List ℕ → List ℕ
life_lines number client venue end = numbered (codes "life") number
    ++ side_lines (codes "client") 1 client ++ side_lines (codes "venue") 1 venue ++ end_line end

-- a word and four numbers
abbrev pub four_numbered : List ℕ → ℕ × ℕ × ℕ × ℕ → List ℕ
four_numbered word (a, b, c, d) =
    word ++ codes " " ++ decimal a ++ codes " " ++ decimal b
    ++ codes " " ++ decimal c ++ codes " " ++ decimal d ++ codes "\n"

-- the next numbers: client in, client out, venue in, venue out
abbrev pub next_line : ℕ × ℕ × ℕ × ℕ → List ℕ
next_line next = four_numbered (codes "next") next

-- how many entries the journal has, and its next numbers
abbrev pub last_lines : ℕ → ℕ × ℕ × ℕ × ℕ → List ℕ
last_lines entries next = numbered (codes "entries") entries ++ next_line next

-- ---- a drill

-- the two numbers of a drill
abbrev pub drill_line : ℕ → ℕ → List ℕ
drill_line first count =
    codes "drill " ++ decimal first ++ codes " " ++ decimal count ++ codes "\n"

-- a drill: its numbers, how many orders of each kind it has, how its life ended, and what the
-- journal has
abbrev pub drill_lines : ℕ → ℕ → ℕ × ℕ × ℕ × ℕ → List ℕ → ℕ → ℕ × ℕ × ℕ × ℕ → List ℕ
drill_lines first count kinds end entries next =
    drill_line first count ++ four_numbered (codes "kinds") kinds ++ end_line end
    ++ last_lines entries next
