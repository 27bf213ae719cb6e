-- Own: the folder that the journal's file lies in; docs/DECISIONS.md, "The edge".
use Rattle.std.specs.Prelude.{ℕ, ◌==◌, if◌then◌else◌, List, length, codes, Some, None}
use Rattle.std.specs.declared.option.Option.{Option}
use Rattle.std.specs.Path.{path_parent}

-- the parent of a path, or the present folder where there is none or it is empty
abbrev pub named : Option (List ℕ) → List ℕ
named None = codes "."
named (Some parent) = if length parent == 0 then codes "." else parent

abbrev pub folder_of : List ℕ → List ℕ
folder_of path = named (path_parent path)
