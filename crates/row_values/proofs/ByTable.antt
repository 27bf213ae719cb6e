-- What fields at no fault say, by any table: the rows that each message says, and the lines of its
-- groups.
use Rattle.std.proofs.Common.{◌≡◌, ℕ, List, Some, None, map, refl}
use Rattle.std.specs.Prelude.{IsSome}
use Rattle.std.specs.List.{slice_get}
use Rattle.field_groups.specs.Field.{Field}
use Rattle.message_tables.specs.Tables.{Required, One, Lines, Table, row_at, all_rows, lines_in}
use Rattle.message_tables.specs.Tables.{tags_in, group_says}
use Rattle.message_tables.specs.FirstFault.{first_fault}
use Rattle.message_tables.proofs.Members.{lines_say, row_says}
use Rattle.order_meaning.specs.declared.party.PartyLine.{PartyLine}
use Rattle.row_values.specs.declared.lines.AllocLine.{AllocLine}
use Rattle.row_values.specs.declared.lines.SessionLine.{SessionLine}
use Rattle.value_kinds.specs.ValueKind.{Id, Number}
use Rattle.row_values.specs.Kinds.{Kind, judge, row, said}
use Rattle.row_values.specs.Lines.{party_cells, alloc_cells, session_cells}
use Rattle.row_values.specs.Groups.{parties, allocs, sessions, AreParties, AreAllocs, AreSessions}
use Rattle.row_values.proofs.SaidRows.{parties_say, allocs_say, sessions_say}

module _ (table : Table Kind) (fields : List Field)
    (h : first_fault judge table fields ≡ None) where
  pub says : (i tag : ℕ) (kind : Kind)
      → slice_get table.items i ≡ Some (One (record { tag = tag; kind = kind; need = Required }))
      → row_at tag (all_rows table) ≡ Some (record { tag = tag; kind = kind; need = Required })
      → IsSome (said fields tag kind)
  says i tag kind at its =
      row_says judge table fields i (record { tag = tag; kind = kind; need = Required }) h at refl
      its

  pub says_parties : (i : ℕ) → slice_get table.items i ≡ Some (Lines parties)
      → row_at 448 (all_rows table) ≡ Some (row Required 448 Id)
      → row_at 452 (all_rows table) ≡ Some (row Required 452 Number)
      → (ps : List PartyLine) → AreParties fields ps
      → map party_cells ps ≡ (group_says judge fields parties).1
  unfolding judge
  says_parties i at its_id its_role ps w =
      parties_say (lines_in (tags_in parties) fields) ps w
      (lines_say judge table fields i 0 parties (row Required 448 Id) h at refl refl its_id)
      (lines_say judge table fields i 2 parties (row Required 452 Number) h at refl refl its_role)

  pub says_allocs : (i : ℕ) → slice_get table.items i ≡ Some (Lines allocs)
      → row_at 79 (all_rows table) ≡ Some (row Required 79 Id)
      → (ls : List AllocLine) → AreAllocs fields ls
      → map alloc_cells ls ≡ (group_says judge fields allocs).1
  unfolding judge
  says_allocs i at its ls w =
      allocs_say (lines_in (tags_in allocs) fields) ls w
      (lines_say judge table fields i 0 allocs (row Required 79 Id) h at refl refl its)

  pub says_sessions : (i : ℕ) → slice_get table.items i ≡ Some (Lines sessions)
      → row_at 336 (all_rows table) ≡ Some (row Required 336 Id)
      → (ls : List SessionLine) → AreSessions fields ls
      → map session_cells ls ≡ (group_says judge fields sessions).1
  unfolding judge
  says_sessions i at its ls w =
      sessions_say (lines_in (tags_in sessions) fields) ls w
      (lines_say judge table fields i 0 sessions (row Required 336 Id) h at refl refl its)
