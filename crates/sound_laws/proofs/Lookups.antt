-- What is found at places, tags and counts that stand once each.
use Rattle.std.proofs.Common.{◌≡◌, ℕ, List, [], ◌∷◌, map, Some, Bool, true, false, refl, ap}
use Rattle.std.specs.Prelude.{not, ◌&&◌, ◌==◌}
use Rattle.std.specs.List.{AllByRecursion, flat_map, list_any}
use Rattle.std.proofs.lemmas.Bool.{eqb-true}
use Rattle.field_groups.specs.Field.{Field}
use Rattle.message_tables.specs.Tables.{Place, Tag, Role, Cell, Row, Judge, Item, One, Party, Lines}
use Rattle.message_tables.specs.Tables.{is_place, said_at, lines_of, tags_of, row_at, cells_of}
use Rattle.message_tables.specs.Tables.{groups_of, group_says}
use Rattle.sound_laws.specs.Sound.{places_of}
use Rattle.sound_laws.proofs.Each.{apart_first, apart_same, are_apart, both, each_map, each_two}
use Rattle.sound_laws.proofs.Each.{none_is, none_pass, not_true, same_number}

-- places that stand once each
abbrev pub places_apart : List Place → Bool
places_apart [] = true
places_apart (p ∷ ps) = not (list_any (is_place p) ps) && places_apart ps

same_place : (p : Place) → is_place p p ≡ true
same_place (Tag tag) = same_number tag
same_place (Role role) = same_number role

pub place_is : (a b : Place) → is_place a b ≡ true → a ≡ b
place_is (Tag a) (Tag b) h = ap (λ (tag : ℕ). Tag tag) (eqb-true a b h)
place_is (Role a) (Role b) h = ap (λ (role : ℕ). Role role) (eqb-true a b h)
place_is other more h = absurd cc

pub other_place : (a b : Place) → is_place a b ≡ false → is_place b a ≡ false
other_place (Tag a) (Tag b) h = apart_same a b h
other_place (Role a) (Role b) h = apart_same a b h
other_place a b h = refl

-- each cell is found at its place
pub cells_said : (cs : List Cell)
    → places_apart (map (λ c. c.0) cs) ≡ true → AllByRecursion (λ c. said_at cs c.0 ≡ c.1) cs
cells_said [] apart = tt
cells_said (c ∷ cs) apart =
    let places = map (λ d. d.0) cs in
    let p = both (not (list_any (is_place c.0) places)) (places_apart places) apart in (
      rw (same_place c.0) refl,
      each_two (λ d. is_place c.0 d.0 ≡ false) _ (λ d. said_at (c ∷ cs) d.0 ≡ d.1)
          (λ d far at. rw far at) cs
          (each_map (λ q. is_place c.0 q ≡ false) (λ d. d.0) cs
          (none_pass (is_place c.0) places (not_true _ p.0))) (cells_said cs p.1),
    )

-- the lines of each group are found by its count
pub lines_said : {L : Type 0} (gs : List (ℕ × List L))
    → are_apart (map (λ g. g.0) gs) ≡ true → AllByRecursion (λ g. lines_of g.0 gs ≡ g.1) gs
lines_said [] apart = tt
lines_said {L = L} (g ∷ gs) apart =
    let counts = map (λ h. h.0) gs in
    let p = apart_first g.0 counts apart in (
      rw (same_number g.0) refl,
      each_two {A = ℕ × List L} (λ h. (h.0 == g.0) ≡ false) _ (λ h. lines_of h.0 (g ∷ gs) ≡ h.1)
          (λ h far at. rw (apart_same h.0 g.0 far) at) gs
          (each_map (λ n. (n == g.0) ≡ false) (λ h. h.0) gs (none_is g.0 counts p.0))
          (lines_said gs p.1),
    )

-- each row is found at its tag
pub rows_found : {Kind : Type 0} (rs : List (Row Kind))
    → are_apart (tags_of rs) ≡ true → AllByRecursion (λ r. row_at r.tag rs ≡ Some r) rs
rows_found [] apart = tt
rows_found (r ∷ rs) apart =
    let p = apart_first r.tag (tags_of rs) apart in (
      rw (same_number r.tag) refl,
      each_two (λ q. (q.tag == r.tag) ≡ false) _ (λ q. row_at q.tag (r ∷ rs) ≡ Some q)
          (λ q far at. rw (apart_same q.tag r.tag far) at) rs
          (each_map (λ n. (n == r.tag) ≡ false) (λ q. q.tag) rs (none_is r.tag (tags_of rs) p.0))
          (rows_found rs p.1),
    )

-- the places of the cells that fields say are those of the items
module _ {Kind : Type 0}
    (judge : Judge Kind) (fields : List Field) (groups : List (ℕ × List (List Cell))) where
  pub places_said : (items : List (Item Kind))
      → map (λ c. c.0) (flat_map (cells_of judge fields groups) items) ≡ flat_map places_of items
  places_said [] = refl
  places_said (One row ∷ items) = ap (◌∷◌ (Tag row.tag)) (places_said items)
  places_said (Party role ∷ items) = ap (◌∷◌ (Role role)) (places_said items)
  places_said (Lines group ∷ items) = places_said items

  pub counts_said : (items : List (Item Kind))
      → map (λ g. g.0) (map (group_says judge fields) (flat_map groups_of items))
      ≡ map (λ g. g.count) (flat_map groups_of items)
  counts_said [] = refl
  counts_said (Lines group ∷ items) = ap (◌∷◌ group.count) (counts_said items)
  counts_said (item ∷ items) = counts_said items
