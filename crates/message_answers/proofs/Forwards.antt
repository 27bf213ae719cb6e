-- The request that an entry forwarded, as the code reads it.
use Rattle.std.proofs.Common.{◌≡◌, ℕ, Bool, true, false, List, [], ◌∷◌, Option, Some, None, Ok}
use Rattle.std.proofs.Common.{refl, sym, ap, ◌∙◌, if◌then◌else◌}
use Rattle.field_groups.specs.declared.fault.SplitFault.{SplitFault}
use Rattle.field_groups.specs.Field.{Field}
use Rattle.field_groups.specs.Fields.{SplitsInto}
use Rattle.field_groups.proofs.Determined.{determined}
use Rattle.message_tables.specs.Tables.{Message, ◌>>=◌, first_of, is_one_of, or_else}
use Rattle.order_meaning.specs.declared.Side.TheVariants.{Client}
use Rattle.order_chains.specs.declared.item.ChainItem.{ChainItem}
use Rattle.pair_entries.specs.declared.entry.Took.{Took}
use Rattle.pair_entries.specs.declared.entry.Out.{Out}
use Rattle.pair_entries.specs.declared.entry.Entry.{Entry}
use Rattle.kept_entries.specs.Given.{source_in}
use Rattle.translation.specs.Header.{type_of as type_in}
use Rattle.event_decisions.specs.Body.{fields_of, first_value, reading_of}
use Rattle.event_decisions.proofs.Bodies.{bodies_are_read}
use Rattle.message_answers.specs.Chains.{item_in, item_said, joining, joining_letter}
use Rattle.message_answers.specs.Message.{message_of}
use Rattle.message_answers.specs.Seen.{item_of}
use Rattle.message_answers.proofs.Letters.{joining_by, source_by}
use Rattle.message_answers.proofs.ReadShapes.{TableName, Cancel42, NewOrder42, Replace42, said}
use Rattle.message_answers.proofs.ReadShapes.{said_as}

-- ---- by the entry

-- an item by the letter
abbrev item_by : Took → Option ℕ → Option ChainItem
item_by took letter =
    letter >>= (λ l. Some (item_said took.number l (reading_of took.raw).fields))

item_is : (entry : Entry) (took : Option Took) (letter : Option ℕ) → entry.took ≡ took
    → first_of (joining_letter entry) entry.outs ≡ letter
    → item_in entry ≡ (took >>= (λ t. item_by t letter))
item_is entry took letter is front =
    ap (λ (t : Option Took).
    t >>= (λ x. item_by x (first_of (joining_letter entry) entry.outs))) is
    ∙ ap (λ (o : Option ℕ). took >>= (λ x. item_by x o)) front

pub no_took : (entry : Entry) → entry.took ≡ None → item_in entry ≡ None
no_took entry none = item_is entry None (first_of (joining_letter entry) entry.outs) none refl

pub no_letter : (entry : Entry) (took : Took) → entry.took ≡ Some took
    → first_of (joining_letter entry) entry.outs ≡ None → item_in entry ≡ None
no_letter entry took is none = item_is entry (Some took) None is none

-- the letter of the first out that has one joins, and is that of its source
pub joins_by : (source : Option (ℕ × ℕ)) (letter : ℕ) → joining_by source ≡ Some letter
    → (number : ℕ) × (is_one_of joining letter ≡ true) × (source ≡ Some (number, letter))
joins_by None letter h = absurd cc
joins_by (Some (number, l)) letter h = by (is_one_of joining l) refl h
  where
    by : (join : Bool) → is_one_of joining l ≡ join → (if join then Some l else None) ≡ Some letter
        → (n : ℕ) × (is_one_of joining letter ≡ true) × (source_by true number l ≡ Some (n, letter))
    by true holds h =
        let same : l ≡ letter = cc in (
          number,
          ap (is_one_of joining) (sym same) ∙ holds,
          ap (source_by true number) same,
        )
    by false fails h = absurd cc

pub first_joins : (entry : Entry) (outs : List Out) (letter : ℕ)
    → first_of (joining_letter entry) outs ≡ Some letter → is_one_of joining letter ≡ true
unfolding first_of
first_joins entry [] letter h = absurd cc
first_joins entry (out ∷ outs) letter h =
    by (joining_letter entry out) refl h (λ rest. first_joins entry outs letter rest)
  where
    by : (o : Option ℕ) → joining_letter entry out ≡ o
        → or_else o (first_of (joining_letter entry) outs) ≡ Some letter
        → (first_of (joining_letter entry) outs ≡ Some letter → is_one_of joining letter ≡ true)
        → is_one_of joining letter ≡ true
    by None e h rest = rest h
    by (Some l) e h rest =
        (joins_by (source_in (record { entry = entry; out = out })) letter (e ∙ h)).1

-- ---- by its body

pub same_type : (fields : List Field) → type_in fields ≡ first_value fields
same_type [] = refl
same_type (field ∷ fields) = refl

pub reading_is : (body : List ℕ) (fields : List Field) (fault : Option SplitFault)
    → SplitsInto body fields fault → reading_of body ≡ record { fields = fields; fault = fault }
reading_is body fields fault split =
    let same = determined body (reading_of body).fields fields (reading_of body).fault fault
    (bodies_are_read body) split in
    λ i. record { fields = same.0 i; fault = same.1 i }

-- THE REQUEST OF AN ENTRY, by its fields
pub item_read : (entry : Entry) (took : Took) (letter : ℕ) (raw : List ℕ) → entry.took ≡ Some took
    → first_of (joining_letter entry) entry.outs ≡ Some letter → raw ≡ took.raw
    → item_in entry ≡ Some (item_said took.number letter (fields_of raw))
item_read entry took letter raw is front same =
    item_is entry (Some took) (Some letter) is front
    ∙ ap (λ (r : List ℕ). Some (item_said took.number letter (fields_of r))) (sym same)

-- ---- by its fields

-- WHAT A REQUEST AT NO FAULT SAYS is what its fields say.
pub request_said : (raw : List ℕ) (m : Message) → message_of Client raw ≡ Ok m
    → is_one_of joining m.letter ≡ true → (number : ℕ)
    → item_of number m ≡ item_said number m.letter (fields_of raw)
request_said raw m reads joins number =
    let s = said Client raw m reads in
    ap (item_of number) s.is ∙ by s.name
    (ap (λ (x : Message). is_one_of joining x.letter) (sym s.is) ∙ joins)
    ∙ ap (λ (x : Message). item_said number x.letter (fields_of raw)) (sym s.is)
  where
    by : (name : TableName) → is_one_of joining (said_as name (fields_of raw)).letter ≡ true
        → item_of number (said_as name (fields_of raw))
        ≡ item_said number (said_as name (fields_of raw)).letter (fields_of raw)
    by NewOrder42 joins = refl
    by Cancel42 joins = refl
    by Replace42 joins = refl
    by name joins = absurd cc
