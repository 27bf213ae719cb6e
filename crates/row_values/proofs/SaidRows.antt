-- What is said of fields at no fault, row by row, and in the lines of groups.
use Rattle.std.proofs.Common.{◌≡◌, ℕ, List, [], ◌∷◌, Some, None, map, refl, sym, ap}
use Rattle.std.proofs.Common.{unwrap_or}
use Rattle.std.specs.Prelude.{IsSome, IfSome}
use Rattle.std.specs.List.{AllByRecursion, AllZip}
use Rattle.field_groups.specs.Field.{Field}
use Rattle.message_tables.specs.Tables.{Place, Said, Cell, cell_of, lines_in, tags_in}
use Rattle.message_tables.proofs.Few.{IsPlain}
use Rattle.order_meaning.specs.declared.party.PartyLine.{PartyLine}
use Rattle.row_values.specs.declared.lines.AllocLine.{AllocLine}
use Rattle.row_values.specs.declared.lines.SessionLine.{SessionLine}
use Rattle.value_kinds.specs.ValueKind.{Id, Number}
use Rattle.row_values.specs.Kinds.{Kind, Value, judge, said}
use Rattle.row_values.specs.Lines.{IsParty, IsAlloc, IsSession, party_cells, alloc_cells}
use Rattle.row_values.specs.Lines.{session_cells, AreReadableParties, AreReadableAllocs}
use Rattle.row_values.specs.Groups.{parties, allocs, sessions, AreParties, AreAllocs}

-- ---- rows

pub cell : {place : Place} {a b : Said} {xs ys : List Cell} → a ≡ b → xs ≡ ys
    → (place, a) ∷ xs ≡ (place, b) ∷ ys
cell {place} e es = λ i. (place, e i) ∷ es i

pub full : (said : Said) (text : List ℕ) → IsSome said → IfSome said (λ t. t ≡ text)
    → Some text ≡ said
full None text s h = absurd cc
full (Some t) text s h = ap Some (sym h)

pub full_text : (said : Said) (text : List ℕ) → IsSome said → text ≡ unwrap_or said []
    → Some text ≡ said
full_text None text s h = absurd cc
full_text (Some t) text s h = ap Some h

pub not_none : (said : Said) → IsSome said → said ≡ None → ⊥
not_none None s h = absurd cc
not_none (Some t) s h = absurd cc

-- ---- the lines of groups

-- the rows of these lines are said
abbrev pub AllSay : ℕ → Kind → List (List Field) → Type 0
AllSay tag kind lines = AllByRecursion (λ line. IsSome (said line tag kind)) lines

pub parties_say : (lines : List (List Field)) (ps : List PartyLine) → AllZip IsParty lines ps
    → AllSay 448 (Value Id) lines → AllSay 452 (Value Number) lines
    → map party_cells ps ≡ map (λ line. map (cell_of judge line) parties.rows) lines
parties_say [] [] w i r = refl
parties_say [] (p ∷ ps) w i r = absurd w
parties_say (line ∷ lines) [] w i r = absurd w
parties_say (line ∷ lines) (p ∷ ps) w i r =
    let e : party_cells p ≡ map (cell_of judge line) parties.rows =
    cell (full_text _ _ i.0 w.0.id) (cell refl (cell (full _ _ r.0 w.0.role) refl)) in
    let es = parties_say lines ps w.1 i.1 r.1 in λ j. e j ∷ es j

pub allocs_say : (lines : List (List Field)) (ls : List AllocLine) → AllZip IsAlloc lines ls
    → AllSay 79 (Value Id) lines
    → map alloc_cells ls ≡ map (λ line. map (cell_of judge line) allocs.rows) lines
allocs_say [] [] w i = refl
allocs_say [] (l ∷ ls) w i = absurd w
allocs_say (line ∷ lines) [] w i = absurd w
allocs_say (line ∷ lines) (l ∷ ls) w i =
    let e : alloc_cells l ≡ map (cell_of judge line) allocs.rows =
    cell (full_text _ _ i.0 w.0.account) (cell w.0.qty refl) in
    let es = allocs_say lines ls w.1 i.1 in λ j. e j ∷ es j

pub sessions_say : (lines : List (List Field)) (ls : List SessionLine) → AllZip IsSession lines ls
    → AllSay 336 (Value Id) lines
    → map session_cells ls ≡ map (λ line. map (cell_of judge line) sessions.rows) lines
sessions_say [] [] w i = refl
sessions_say [] (l ∷ ls) w i = absurd w
sessions_say (line ∷ lines) [] w i = absurd w
sessions_say (line ∷ lines) (l ∷ ls) w i =
    let e : session_cells l ≡ map (cell_of judge line) sessions.rows =
    cell (full_text _ _ i.0 w.0.id) refl in
    let es = sessions_say lines ls w.1 i.1 in λ j. e j ∷ es j

-- ---- lines that are read can be written

by_parties : (lines : List (List Field)) (ps : List PartyLine) → AllZip IsParty lines ps
    → AreReadableParties ps
by_parties [] [] w = tt
by_parties [] (p ∷ ps) w = absurd w
by_parties (line ∷ lines) [] w = absurd w
by_parties (line ∷ lines) (p ∷ ps) w = (w.0.bound, by_parties lines ps w.1)

by_allocs : (lines : List (List Field)) (ls : List AllocLine) → AllZip IsAlloc lines ls
    → AreReadableAllocs ls
by_allocs [] [] w = tt
by_allocs [] (l ∷ ls) w = absurd w
by_allocs (line ∷ lines) [] w = absurd w
by_allocs (line ∷ lines) (l ∷ ls) w = (w.0.bound, by_allocs lines ls w.1)

pub parties_readable : (fields : List Field) (ps : List PartyLine) → AreParties fields ps
    → AreReadableParties ps
parties_readable fields ps w = by_parties (lines_in (tags_in parties) fields) ps w

pub allocs_readable : (fields : List Field) (ls : List AllocLine) → AreAllocs fields ls
    → AreReadableAllocs ls
allocs_readable fields ls w = by_allocs (lines_in (tags_in allocs) fields) ls w

pub ruleset of_lines = (parties_readable, allocs_readable)

-- ---- groups whose lines are begun by a row that each says

pub plain_parties : IsPlain (tags_in parties)
plain_parties = record {
  first_inside = refl;
  first_counts_not = refl;
  first_is_said = refl;
  count_outside = refl;
}

pub plain_allocs : IsPlain (tags_in allocs)
plain_allocs = record {
  first_inside = refl;
  first_counts_not = refl;
  first_is_said = refl;
  count_outside = refl;
}

pub plain_sessions : IsPlain (tags_in sessions)
plain_sessions = record {
  first_inside = refl;
  first_counts_not = refl;
  first_is_said = refl;
  count_outside = refl;
}
