-- What both versions have alike: values that are judged by themselves are read again as they are
-- written, and so are the lines of groups.
use Rattle.std.proofs.Common.{◌≡◌, ℕ, List, [], ◌∷◌, Option, Some, None, Bool, true, false, refl}
use Rattle.std.proofs.Common.{ap, subst, ◌∙◌, codes, map}
use Rattle.std.specs.Prelude.{Ok, not, ◌&&◌, ◌==◌}
use Rattle.std.specs.List.{AllByRecursion, flat_map, list_all}
use Rattle.std.specs.Str.{bytes_eq}
use Rattle.std.proofs.lemmas.Slice.Eq.{bytes_eq-Decides}
use Rattle.value_kinds.specs.ValueKind.{ValueKind, OneByte, Spelling, spelling}
use Rattle.message_tables.specs.declared.table_fault.TableFault.{TableFault}
use Rattle.field_groups.specs.Field.{Field}
use Rattle.field_groups.specs.Data.{is_data_tag}
use Rattle.message_tables.specs.Tables.{Spells, Need, Required, Optional, Fixed, When, Row}
use Rattle.message_tables.specs.Tables.{RepeatingGroup, Item, Lines, Table, Message, GroupTags}
use Rattle.message_tables.specs.Tables.{all_rows, groups_in, groups_of, is_inside, is_needed}
use Rattle.message_tables.specs.Tables.{is_one_of, tags_in, tags_of}
use Rattle.message_tables.specs.FirstFault.{first_fault, group_tags_of, message_in, message_of}
use Rattle.message_tables.specs.FirstFault.{unless}
use Rattle.message_tables.proofs.Few.{IsPlain}
use Rattle.row_values.specs.Kinds.{Kind, Value, judge, verdict_of}
use Rattle.first_faults.specs.Faults.{told}
use Rattle.sound_laws.specs.Sound.{IsClear, IsSound, places_of}
use Rattle.sound_laws.proofs.ContentValues.{GroupSaid}
use Rattle.sound_laws.proofs.Each.{all_true, are_apart, both, each_by, not_true}
use Rattle.sound_laws.proofs.Lookups.{places_apart}
use Rattle.sound_laws.proofs.SpelledAgain.{spelled_again, spelled_clear}
use Rattle.sound_laws.proofs.ReadSound.{IsClearField, IsPlainRow, IsPlainItem, IsStableRow}
use Rattle.sound_laws.proofs.ReadSound.{read_sound, row_passes, stable_items}

-- ---- values

pub spelled : (s : Spelling) (text : List ℕ) → verdict_of s ≡ Spells text → s ≡ Ok (Some text)
spelled (Ok (Some other)) text h = cc
spelled other text h = absurd cc

pub value_again : (kind : ValueKind) (bytes text : List ℕ)
    → verdict_of (spelling kind bytes) ≡ Spells text → verdict_of (spelling kind text) ≡ Spells text
value_again kind bytes text h =
    ap verdict_of (spelled_again kind bytes text (spelled (spelling kind bytes) text h))

pub value_clear : (kind : ValueKind) (bytes text : List ℕ)
    → IsClear bytes → verdict_of (spelling kind bytes) ≡ Spells text → IsClear text
value_clear kind bytes text c h =
    spelled_clear kind bytes text c (spelled (spelling kind bytes) text h)

-- ---- needs

-- a need of some that are not fixed
pub unfixed : (known : Need → Bool) → ((text : List ℕ) → known (Fixed text) ≡ false)
    → (need : Need) → known need ≡ true → (text : List ℕ) → need ≡ Fixed text → ⊥
unfixed known none need h text e =
    let same : known need ≡ false = ap known e ∙ none text in absurd cc

-- ---- members of groups

-- a need of a value; one that is fixed is PartyIDSource, D
abbrev plain_need : Need → Kind → Bool
plain_need Required kind = true
plain_need Optional kind = true
plain_need (Fixed text) (Value OneByte) = bytes_eq text (codes "D")
plain_need need kind = false

abbrev plain_kind : Kind → Bool
plain_kind (Value kind) = true
plain_kind kind = false

abbrev pub is_plain_row : Row Kind → Bool
is_plain_row row =
    not (is_data_tag row.tag) && (plain_need row.need row.kind && plain_kind row.kind)

steady : (need : Need) (kind : Kind) → plain_need need kind ≡ true → (l k : List Field)
    → is_needed need k ≡ true → is_needed need l ≡ true
steady (When condition) kind h l k n = absurd cc
steady need kind h l k n = n

fixed : (need : Need) (kind : ValueKind) → plain_need need (Value kind) ≡ true → (text : List ℕ)
    → need ≡ Fixed text → (verdict_of (spelling kind text) ≡ Spells text) × IsClear text
unfolding spelling
fixed (Fixed own) OneByte h text e =
    let is : own ≡ codes "D" = (bytes_eq-Decides own (codes "D")).0 h in
    let same : text ≡ codes "D" = cc in rw same (refl, refl)
fixed need kind h text e = absurd cc

-- a row of values that are judged by themselves
plain_by : (tag : ℕ) (kind : Kind) (need : Need) → is_data_tag tag ≡ false
    → plain_need need kind ≡ true → plain_kind kind ≡ true
    → IsPlainRow judge (record { tag = tag; kind = kind; need = need })
unfolding judge
plain_by tag (Value kind) need bare known is = record {
  same = λ l k bytes. refl;
  stable = λ before after. record {
    kept = steady need (Value kind) known before after;
    spelled = λ bytes text at. value_again kind bytes text;
    clear = value_clear kind;
    fixed = fixed need kind known;
    bare = bare;
  };
}
plain_by tag kind need bare known is = absurd cc

pub plain_row : (row : Row Kind) → is_plain_row row ≡ true → IsPlainRow judge row
plain_row row h =
    let a = both (not (is_data_tag row.tag)) _ h in
    let b = both (plain_need row.need row.kind) (plain_kind row.kind) a.1 in
    plain_by row.tag row.kind row.need (not_true _ a.0) b.0 b.1

-- ---- groups

abbrev pub apart_tests : GroupTags → List Bool
apart_tests g =
    is_inside g g.first ∷ not (g.first == g.count) ∷ not (is_one_of g.skipped g.first)
    ∷ not (is_inside g g.count) ∷ []

abbrev is_plain_group : RepeatingGroup Kind → Bool
is_plain_group group =
    list_all is_plain_row group.rows && list_all (λ b. b) (apart_tests (tags_in group))

pub apart : (g : GroupTags) → list_all (λ b. b) (apart_tests g) ≡ true → IsPlain g
apart g h = let t = all_true (λ b. b) (apart_tests g) h in record {
  first_inside = t.0;
  first_counts_not = not_true _ t.1.0;
  first_is_said = not_true _ t.1.1.0;
  count_outside = not_true _ t.1.1.1.0;
}

plain : (group : RepeatingGroup Kind) → is_plain_group group ≡ true
    → AllByRecursion (IsPlainRow judge) group.rows × IsPlain (tags_in group)
plain group h =
    let p = both (list_all is_plain_row group.rows) _ h in (
      each_by _ _ plain_row group.rows (all_true is_plain_row group.rows p.0),
      apart (tags_in group) p.1,
    )

module _ (table : Table Kind) (fields : List Field) where
  -- the groups of items, and their tags
  plain_items : (items : List (Item Kind))
      → list_all is_plain_group (flat_map groups_of items) ≡ true
      → AllByRecursion (IsPlainItem judge table fields) items
      × AllByRecursion IsPlain (flat_map group_tags_of items)
  plain_items [] h = (tt, tt)
  plain_items (Lines group ∷ items) h =
      let p = both (is_plain_group group) (list_all is_plain_group (flat_map groups_of items)) h in
      let here = plain group p.0 in
      let rest = plain_items items p.1 in ((here.0, rest.0), (here.1, rest.1))
  plain_items (item ∷ items) h = let rest = plain_items items h in ((tt, rest.0), rest.1)

-- ---- a table

-- the tests of a table: each tag, place and count stands once, its rows pass a test, and its groups
-- are plain
abbrev pub read_tests : (Row Kind → Bool) → Table Kind → List Bool
read_tests test table =
    are_apart (tags_of (all_rows table)) ∷ places_apart (flat_map places_of table.items)
    ∷ are_apart (map (λ group. group.count) (groups_in table))
    ∷ list_all (row_passes test) table.items ∷ list_all is_plain_group (groups_in table) ∷ []

-- WHAT IS READ by such a table IS SOUND, where rows that pass the test are stable.
pub tests_sound : (table : Table Kind) (fields : List Field) (test : Row Kind → Bool)
    → AllByRecursion (λ b. b ≡ true) (read_tests test table)
    → (AllByRecursion (GroupSaid judge (message_in judge table fields)) (groups_in table)
    → (row : Row Kind) → test row ≡ true → IsStableRow judge table fields row)
    → AllByRecursion (IsClearField judge) fields
    → first_fault judge table fields ≡ None → IsSound judge table (message_in judge table fields)
tests_sound table fields test passed stable clear none =
    let groups = plain_items table fields table.items passed.1.1.1.1.0 in
    read_sound judge table fields (record {
      rows = passed.0;
      places = passed.1.0;
      counts = passed.1.1.0;
      plain = groups.1;
    }) groups.0
    (λ groups. stable_items judge table fields test (stable groups) table.items passed.1.1.1.0)
    clear none

-- ---- a message of a table that was read

pub of_message : (table : Table Kind) (fields : List Field) (P : Message → Type 0)
    → (first_fault judge table fields ≡ None → P (message_in judge table fields)) →
    (x : Message) → told (message_of judge table fields) ≡ Ok x → P x
unfolding message_of
of_message table fields P h x e =
    by (first_fault judge table fields) (message_in judge table fields) h e
  where
    by : (fault : Option TableFault) (m : Message)
        → (fault ≡ None → P m) → told (unless fault m) ≡ Ok x → P x
    by None m k e = let same : m ≡ x = cc in subst P same (k refl)
    by (Some fault) m k e = absurd cc
