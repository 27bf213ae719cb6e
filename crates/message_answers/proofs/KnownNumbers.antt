-- The numbers, the letters and the original orders that are known of a journal.
use Rattle.std.proofs.Common.{◌≡◌, ◌≤◌, ◌⊎◌, ℕ, ◌==◌, ◌&&◌, not, Bool, true, false, List, []}
use Rattle.std.proofs.Common.{◌∷◌, ◌++◌, Option, Some, None, IfSome, refl, sym, subst}
use Rattle.std.proofs.Common.{inl, inr, option_map, option_and_then, if◌then◌else◌}
use Rattle.std.specs.Prelude.{find}
use Rattle.std.specs.List.{AllByRecursion, list_all, list_any}
use Rattle.std.specs.Option.{option_to_list}
use Rattle.field_groups.specs.Data.{is_data_tag}
use Rattle.field_groups.specs.Field.{Field, is_soh}
use Rattle.message_tables.specs.Tables.{Message, ◌>>=◌, first_of, text_in}
use Rattle.order_meaning.specs.declared.Side.{Side}
use Rattle.order_meaning.specs.declared.Side.TheVariants.{Client, Venue}
use Rattle.order_meaning.specs.declared.refusal.Refusal.{Refusal}
use Rattle.order_chains.specs.Chains.{has_id, item_with, number_of, orig_of}
use Rattle.order_chains.specs.declared.item.ChainItem.{ChainItem}
use Rattle.pair_entries.specs.declared.TheConstants.{MAX_NUMBER}
use Rattle.pair_entries.specs.declared.entry.Took.{Took}
use Rattle.pair_entries.specs.declared.entry.Out.{Out}
use Rattle.pair_entries.specs.declared.entry.Entry.{Entry}
use Rattle.kept_entries.specs.Given.{Given, given, has_letter, is_source, letter_of, letters_to}
use Rattle.kept_entries.specs.Given.{numbered, source_in, source_of}
use Rattle.kept_entries.specs.Numbers.{is_side, outs_to}
use Rattle.value_kinds.specs.ValueKind.{Id}
use Rattle.row_values.specs.Kinds.{Value, judge, said}
use Rattle.sound_laws.proofs.Each.{each_joined, not_true}
use Rattle.sound_laws.proofs.PlainFields.{clear_fields}
use Rattle.event_decisions.specs.Body.{reading_of}
use Rattle.event_decisions.proofs.Bodies.{bodies_are_read}
use Rattle.message_answers.specs.Answer.{original_of}
use Rattle.message_answers.specs.Chains.{chains_after, chains_of, if_new, item_in, item_said}
use Rattle.message_answers.specs.Chains.{joining, joining_letter, new_item, original_said}
use Rattle.message_answers.specs.Known.{known_of, named, named_by_id}
use Rattle.message_answers.specs.Laws.{AreNumbered, IsNumbered}
use Rattle.message_answers.proofs.Forwards.{first_joins}
use Rattle.message_answers.proofs.Letters.{among, letter_to}
use Rattle.message_answers.proofs.SaidTexts.{IsShortId, id_at}

-- a number that a message may have, and a letter that does not end a field
pub record IsGoodSource (at : ℕ × ℕ) : Type 0 where
  pub number : at.0 ≤ MAX_NUMBER
  pub letter : is_soh at.1 ≡ false

-- ---- the source of an out

mid_of : (a b c : Bool) → (a && b && c) ≡ true → b ≡ true
mid_of true true c h = refl
mid_of a b c h = absurd cc

letters_clear : (side : Side) (letter : ℕ) → list_any (λ b. letter == b) (letters_to side) ≡ true
    → is_soh letter ≡ false
letters_clear side letter is =
    not_true (is_soh letter) (letter_to side (λ l. not (is_soh l)) letter (all side) is)
  where
    all : (side : Side) → list_all (λ l. not (is_soh l)) (letters_to side) ≡ true
    all Client = refl
    all Venue = refl

out_good : (entry : Entry) (out : Out) → IsNumbered entry
    → IfSome (source_in (record { entry = entry; out = out })) IsGoodSource
out_good entry out are = by entry.took (letter_of out.msg_type) are
  where
    by_source : (took : Took) (letter : ℕ) (b : Bool) → is_source took out.side letter ≡ b
        → took.number ≤ MAX_NUMBER
        → IfSome (if b then Some (took.number, letter) else None) IsGoodSource
    by_source took letter true e few = record {
      number = few;
      letter = letters_clear out.side letter (mid_of (not (is_side out.side took.side))
          (list_any (λ b. letter == b) (letters_to out.side)) (has_letter letter took.raw) e);
    }
    by_source took letter false e few = tt

    by : (took : Option Took) (letter : Option ℕ) → IfSome took (λ t. t.number ≤ MAX_NUMBER)
        → IfSome (elim took [
          | None ↦ None
          | Some took ↦ elim letter [
            | None ↦ None
            | Some letter ↦
                if is_source took out.side letter then Some (took.number, letter) else None
          ]
        ]) IsGoodSource
    by None letter few = tt
    by (Some took) None few = tt
    by (Some took) (Some letter) few =
        by_source took letter (is_source took out.side letter) refl few

-- the out of an entry, where one was found; the first that was found; and what it translates
abbrev pub given_of : Entry → Option Out → Option Given
given_of entry o = elim o [
  | None ↦ None
  | Some out ↦ Some (record { entry = entry; out = out })
]

abbrev pub given_next : Option Given → Option Given → Option Given
given_next rest one = elim one [
  | None ↦ rest
  | Some x ↦ Some x
]

abbrev pub source_at : Option Given → Option (ℕ × ℕ)
source_at one = elim one [
  | None ↦ None
  | Some x ↦ source_in x
]

source_good : (side : Side) (number : ℕ) (entries : List Entry) → AreNumbered entries
    → IfSome (source_of side number entries) IsGoodSource
source_good side number [] are = tt
source_good side number (entry ∷ entries) are =
    by (numbered number (outs_to side entry.outs)) (source_good side number entries are.1)
  where
    by : (o : Option Out) → IfSome (source_of side number entries) IsGoodSource
        → IfSome (source_at (given_next (given side number entries) (given_of entry o)))
        IsGoodSource
    by None rest = rest
    by (Some out) rest = out_good entry out are.0

-- ---- the chains

pub record IsGoodItem (item : ChainItem) : Type 0 where
  pub source : IsGoodSource (item.number, item.letter)
  pub original : IfSome item.orig IsShortId

original_good : (letter : ℕ) (raw : List ℕ)
    → IfSome (original_said letter (reading_of raw).fields) IsShortId
unfolding is_data_tag
original_good letter raw = by (letter == 68)
  where
    fields : List Field
    fields = (reading_of raw).fields

    by : (order : Bool) → IfSome (if order then None else said fields 41 (Value Id)) IsShortId
    by true = tt
    by false = id_at fields (clear_fields judge None fields (bodies_are_read raw).good) 41 refl

item_good : (entry : Entry) → IsNumbered entry → IfSome (item_in entry) IsGoodItem
item_good entry are = by entry.took are
  where
    by_letter : (took : Took) → took.number ≤ MAX_NUMBER
        → (letter : Option ℕ) → first_of (joining_letter entry) entry.outs ≡ letter
        → IfSome (letter >>= (λ letter.
        Some (item_said took.number letter (reading_of took.raw).fields))) IsGoodItem
    by_letter took few None front = tt
    by_letter took few (Some letter) front = record {
      source = record {
        number = few;
        letter = not_true (is_soh letter) (among (λ l. not (is_soh l)) joining letter refl
            (first_joins entry entry.outs letter front));
      };
      original = original_good letter took.raw;
    }

    by : (took : Option Took) → IfSome took (λ t. t.number ≤ MAX_NUMBER)
        → IfSome (took >>= (λ took. first_of (joining_letter entry) entry.outs >>= (λ letter.
        Some (item_said took.number letter (reading_of took.raw).fields)))) IsGoodItem
    by None few = tt
    by (Some took) few = by_letter took few (first_of (joining_letter entry) entry.outs) refl

new_good : (items : List ChainItem) (item : Option ChainItem) → IfSome item IsGoodItem
    → AllByRecursion IsGoodItem (option_to_list (if_new items item))
new_good items None good = tt
new_good items (Some item) good = by (has_id items item.id)
  where
    by : (b : Bool) → AllByRecursion IsGoodItem (option_to_list (if b then None else Some item))
    by true = tt
    by false = (good, tt)

chains_good : (items : List ChainItem) (entries : List Entry) → AreNumbered entries
    → AllByRecursion IsGoodItem items → AllByRecursion IsGoodItem (chains_after items entries)
chains_good items [] are good = good
chains_good items (entry ∷ entries) are good =
    chains_good (items ++ option_to_list (new_item items entry)) entries are.1
    (each_joined IsGoodItem items (option_to_list (new_item items entry)) good
    (new_good items (item_in entry) (item_good entry are.0)))

find_good : (test : ChainItem → Bool) (items : List ChainItem) → AllByRecursion IsGoodItem items
    → IfSome (find test items) IsGoodItem
find_good test [] good = tt
find_good test (item ∷ items) good = by (test item) refl (find_good test items good.1)
  where
    by : (b : Bool) → test item ≡ b → IfSome (find test items) IsGoodItem
        → IfSome (find test (item ∷ items)) IsGoodItem
    by true e rest = rw e good.0
    by false e rest = rw e rest

module _ (before : List Entry) (are : AreNumbered before) where
  kept_good : (id : List ℕ) → IfSome (item_with (chains_of before) id) IsGoodItem
  kept_good id = find_good _ (chains_of before) (chains_good [] before are tt)

  number_good : (id : List ℕ) → IfSome (number_of (chains_of before) id) IsGoodSource
  number_good id = by (item_with (chains_of before) id) (kept_good id)
    where
      by : (o : Option ChainItem) → IfSome o IsGoodItem
          → IfSome (option_map (λ item. (item.number, item.letter)) o) IsGoodSource
      by None good = tt
      by (Some item) good = good.source

  abbrev IsShort : Option (List ℕ) → Type 0
  IsShort id = IfSome id IsShortId

  -- the original order that the chains know
  orig_good : (id : List ℕ) → IfSome (orig_of (chains_of before) id) IsShortId
  orig_good id = by (item_with (chains_of before) id) (kept_good id)
    where
      by : (o : Option ChainItem) → IfSome o IsGoodItem
          → IfSome (option_and_then (λ item. item.orig) o) IsShortId
      by None good = tt
      by (Some item) good = good.original

  -- what is known of the original order that a message speaks of
  pub known_short : (m : Message) (original : Option (List ℕ))
      → (original ≡ None) ⊎ (original ≡ original_of (known_of before) m) → IfSome original IsShortId
  known_short m original (inl none) = subst IsShort (sym none) tt
  known_short m original (inr is) = subst IsShort (sym is) (orig_good (text_in m.cells 11))

  -- WHAT A REFUSAL NAMES
  pub named_good : (side : Side) (r : Refusal)
      → IfSome (named (known_of before) side r) IsGoodSource
  named_good side r = by r.number
    where
      by_id : (side : Side) (id : Option (List ℕ))
          → IfSome (named_by_id (known_of before) side id) IsGoodSource
      by_id Client id = tt
      by_id Venue None = tt
      by_id Venue (Some id) = number_good id

      by : (number : Option ℕ) → IfSome (elim number [
        | Some number ↦ source_of side number before
        | None ↦ named_by_id (known_of before) side r.id
      ]) IsGoodSource
      by None = by_id side r.id
      by (Some number) = source_good side number before are
