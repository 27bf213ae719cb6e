-- Inside: marks of tags, by their remainders; no clause of run rests on them.
use Rattle.std.specs.Prelude.{◌≡◌, ℕ, ◌%◌, Bool, true, false, IsTrue, List, [], ◌∷◌, ◌++◌}
use Rattle.std.specs.Prelude.{slice_index_or, slice_set}
use Rattle.std.specs.List.{list_any}
use Rattle.message_tables.specs.Tables.{Item, One, Party, Lines, Table, is_one_of, tags_of}
use Rattle.message_tables.specs.FirstFault.{group_tags_in, is_of_group, once_in}

-- marks, with those of these tags, by their remainders by 512
abbrev pub with_tags : List ℕ → List Bool → List Bool
with_tags [] marks = marks
with_tags (tag ∷ tags) marks = with_tags tags (slice_set marks (tag % 512) true)

-- whether the remainder of a tag is marked
abbrev pub is_marked : List Bool → ℕ → Bool
is_marked marks tag = slice_index_or marks (tag % 512) false

-- each tag that stands at most once in a message is marked
abbrev pub AreOnceMarked : {Kind : Type 0} → Table Kind → List Bool → Type 0
AreOnceMarked table marks =
    (tag : ℕ) → IsTrue (is_one_of (once_in table) tag) → is_marked marks tag ≡ true

-- the tags of an item's group: its count, and those inside it
abbrev pub grouped : {Kind : Type 0} → Item Kind → List ℕ
grouped (One row) = []
grouped (Party role) = []
grouped (Lines group) = group.count ∷ (tags_of group.rows ++ group.skipped)

-- each tag that is of a group is marked
abbrev pub AreGroupsMarked : {Kind : Type 0} → Table Kind → List Bool → Type 0
AreGroupsMarked table marks =
    (tag : ℕ) → IsTrue (list_any (is_of_group tag) (group_tags_in table))
    → is_marked marks tag ≡ true
