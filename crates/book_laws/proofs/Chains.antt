-- What a refusal names by an id: the request that the chains have, which went on.
use Rattle.std.proofs.Common.{◌≡◌, ℕ, ◌==◌, not, Bool, true, false, List, [], ◌∷◌, ◌++◌, Option}
use Rattle.std.proofs.Common.{Some, None, Ok, unwrap_or, refl, sym, ap, ◌∙◌, inl, inr, option_map}
use Rattle.std.proofs.Common.{if◌then◌else◌}
use Rattle.std.specs.Prelude.{is_some}
use Rattle.std.specs.List.{list_any}
use Rattle.std.specs.Option.{option_to_list}
use Rattle.std.specs.Str.{bytes_eq}
use Rattle.std.proofs.lemmas.Slice.Eq.{bytes_eq-Decides}
use Rattle.message_tables.specs.Tables.{Message, ◌>>=◌, first_of, is_one_of, or_else, text_in}
use Rattle.order_meaning.specs.declared.Side.{Side}
use Rattle.order_meaning.specs.declared.Side.TheVariants.{Client, Venue}
use Rattle.order_meaning.specs.declared.names.Names.{Names}
use Rattle.order_chains.specs.Chains.{has_id, item_with, number_of}
use Rattle.order_chains.specs.declared.item.ChainItem.{ChainItem}
use Rattle.frame_grammar.specs.Frame.{IsBody}
use Rattle.sound_laws.proofs.Each.{not_true}
use Rattle.event_decisions.specs.Body.{fields_of}
use Rattle.pair_entries.specs.declared.entry.Took.{Took}
use Rattle.pair_entries.specs.declared.entry.Out.{Out}
use Rattle.pair_entries.specs.declared.entry.Entry.{Entry}
use Rattle.kept_entries.specs.Given.{letters_to, source_in}
use Rattle.message_answers.specs.Answer.{other}
use Rattle.message_answers.specs.Chains.{chains_after, chains_of, if_new, item_in, item_said}
use Rattle.message_answers.specs.Chains.{joining, joining_letter, new_item}
use Rattle.message_answers.specs.Message.{message_of}
use Rattle.message_answers.specs.Seen.{item_of}
use Rattle.message_answers.proofs.Forwards.{joins_by, request_said}
use Rattle.message_answers.proofs.Letters.{joining_by, letter_to}
use Rattle.book_laws.specs.Keeps.{In}
use Rattle.book_laws.proofs.Lists.{in-either}
use Rattle.book_laws.proofs.Made.{Going}
use Rattle.book_laws.proofs.Sources.{AreKnown, listed, made_source, own_out, same_took, source_is}
use Rattle.book_laws.proofs.Sources.{sourced}

-- the request of an item
pub record IsItemOf (e : Entry) (item : ChainItem) : Type 0 where
  pub took : Took
  pub is : e.took ≡ Some took
  pub out : Out
  pub among : In out e.outs
  pub letter : ℕ
  pub joins : is_one_of joining letter ≡ true
  pub source : source_in (record { entry = e; out = out }) ≡ Some (took.number, letter)
  pub item_is : item_said took.number letter (fields_of took.raw) ≡ item

first_in : (e : Entry) (outs : List Out) (letter : ℕ)
    → first_of (joining_letter e) outs ≡ Some letter
    → (out : Out) × In out outs × (joining_letter e out ≡ Some letter)
unfolding first_of
first_in e [] letter is = absurd (cc is)
first_in e (out ∷ outs) letter is = by (joining_letter e out) refl is
    (λ later. first_in e outs letter later)
  where
    by : (o : Option ℕ) → joining_letter e out ≡ o
        → or_else o (first_of (joining_letter e) outs) ≡ Some letter
        → (first_of (joining_letter e) outs ≡ Some letter
        → (x : Out) × In x outs × (joining_letter e x ≡ Some letter))
        → (x : Out) × In x (out ∷ outs) × (joining_letter e x ≡ Some letter)
    by None none is later = let l = later is in (l.0, inr l.1, l.2)
    by (Some l) found is later = (out, inl refl, found ∙ is)

pub item_of_entry : (e : Entry) (item : ChainItem) → item_in e ≡ Some item → IsItemOf e item
item_of_entry e item is = by e.took refl is
  where
    by_letter : (took : Took) (letter : Option ℕ) → e.took ≡ Some took
        → first_of (joining_letter e) e.outs ≡ letter
        → (letter >>= (λ l. Some (item_said took.number l (fields_of took.raw)))) ≡ Some item
        → IsItemOf e item
    by_letter took None at first is = absurd (cc is)
    by_letter took (Some letter) at first is =
        let one = first_in e e.outs letter first in
        let s = joins_by (source_in (record { entry = e; out = one.0 })) letter one.2 in
        let t = source_is e one.0 (s.0, letter) s.2 in
        let same = same_took e.took t.took took t.is at in
        record {
          took = took;
          is = at;
          out = one.0;
          among = one.1;
          letter = letter;
          joins = s.1;
          source = s.2 ∙ ap (λ (n : ℕ). Some (n, letter))
              (sym t.number ∙ ap (λ (x : Took). x.number) same);
          item_is = ap (λ (o : Option ChainItem). unwrap_or o item) is;
        }

    by : (took : Option Took) → e.took ≡ took
        → (took >>= (λ t. first_of (joining_letter e) e.outs >>= (λ letter.
        Some (item_said t.number letter (fields_of t.raw))))) ≡ Some item → IsItemOf e item
    by None at is = absurd (cc is)
    by (Some took) at is = by_letter took (first_of (joining_letter e) e.outs) at refl is

-- ---- the chains

-- an item of the chains is one of those before, or of an entry
data IsFrom (items : List ChainItem) (entries : List Entry) (item : ChainItem) : Type 0 where
  Before : In item items → IsFrom items entries item
  Of : (e : Entry) → In e entries → item_in e ≡ Some item → IsFrom items entries item

new_from : (items : List ChainItem) (o : Option ChainItem) (item : ChainItem)
    → In item (option_to_list (if_new items o)) → o ≡ Some item
new_from items None item i = absurd i
new_from items (Some x) item i = by (has_id items x.id) i
  where
    by : (b : Bool) → In item (option_to_list (if b then None else Some x)) → Some x ≡ Some item
    by true i = absurd i
    by false (inl same) = ap Some (sym same)
    by false (inr none) = absurd none

chain_from : (items : List ChainItem) (entries : List Entry) (item : ChainItem)
    → In item (chains_after items entries) → IsFrom items entries item
chain_from items [] item i = Before i
chain_from items (e ∷ entries) item i =
    by (chain_from (items ++ option_to_list (new_item items e)) entries item i)
  where
    by : IsFrom (items ++ option_to_list (new_item items e)) entries item
        → IsFrom items (e ∷ entries) item
    by (Before j) = elim (in-either items (option_to_list (new_item items e)) item j) [
      | inl before ↦ Before before
      | inr new ↦ Of e (inl refl) (new_from items (item_in e) item new)
    ]
    by (Of x j is) = Of x (inr j) is

-- the item that an id names
pub record IsFound (items : List ChainItem) (id : List ℕ) (at : ℕ × ℕ) : Type 0 where
  pub item : ChainItem
  pub among : In item items
  pub named : id ≡ item.id
  pub is : (item.number, item.letter) ≡ at

found_item : (items : List ChainItem) (id : List ℕ) (at : ℕ × ℕ)
    → number_of items id ≡ Some at → IsFound items id at
found_item [] id at is = absurd (cc is)
found_item (x ∷ items) id at is = by (bytes_eq id x.id) refl is
    (λ later. found_item items id at later)
  where
    by : (b : Bool) → bytes_eq id x.id ≡ b
        → option_map (λ (i : ChainItem). (i.number, i.letter)) (if b then Some x
        else item_with items id) ≡ Some at
        → (number_of items id ≡ Some at → IsFound items id at) → IsFound (x ∷ items) id at
    by true test is later = record {
      item = x;
      among = inl refl;
      named = (bytes_eq-Decides id x.id).0 test;
      is = cc is;
    }
    by false test is later =
        let f = later is in
        record { item = f.item; among = inr f.among; named = f.named; is = f.is }

-- a letter that joins is the client's
pub joins_client : (side : Side) (l : ℕ) → is_one_of joining l ≡ true
    → list_any (λ b. l == b) (letters_to (other side)) ≡ true → side ≡ Client
joins_client Client l joins listed = refl
joins_client Venue l joins listed = absurd (cc (
  joins,
  not_true _ (letter_to Client (λ x. not (is_one_of joining x)) l refl listed),
))

-- the request of a client went on that has an id
pub record WentById (names : Names) (id : List ℕ) (at : ℕ × ℕ) (entries : List Entry) : Type 0 where
  pub e : Entry
  pub among : In e entries
  pub past : List Entry
  pub took : Took
  pub out : Out
  pub m : Message
  pub going : Going past e took out m
  pub client : took.side ≡ Client
  pub joins : is_one_of joining m.letter ≡ true
  pub id_is : text_in m.cells 11 ≡ id
  pub number : took.number ≡ at.0

module _ (names : Names) (entries : List Entry) (known : AreKnown names entries) where
  -- AN ID OF THE CHAINS names a request that went on.
  pub id_went : (id : List ℕ) (at : ℕ × ℕ) → number_of (chains_of entries) id ≡ Some at
      → WentById names id at entries
  id_went id at is =
      let f = found_item (chains_of entries) id at is in
      by f (chain_from [] entries f.item f.among)
    where
      by : (f : IsFound (chains_of entries) id at) → IsFrom [] entries f.item
          → WentById names id at entries
      by f (Before i) = absurd i
      by f (Of e i of) =
          let x = item_of_entry e f.item of in
          let k = known e i in
          let src = source_is e x.out (x.took.number, x.letter) x.source in
          let w = made_source names k.past e x.out (x.took.number, x.letter) x.among
          (k.sent x.out.side x.out (own_out e.outs x.out x.among)) src k.made in
          let took : w.took ≡ x.took = same_took e.took w.took x.took w.going.taken.is x.is in
          let letter : w.m.letter ∷ [] ≡ x.letter ∷ [] = sym w.going.typed ∙ w.letter in
          let one : w.m.letter ≡ x.letter = cc letter in
          let joins : is_one_of joining w.m.letter ≡ true = ap (is_one_of joining) one ∙ x.joins in
          let client = joins_client w.took.side w.m.letter joins
          (listed w.past e w.took x.out w.m w.going) in
          let reads : message_of Client x.took.raw ≡ Ok w.m =
          ap (λ (t : Took). message_of Client t.raw) (sym took)
          ∙ ap (λ (s : Side). message_of s w.took.raw) (sym client) ∙ w.going.read.reads in
          record {
            e = e;
            among = i;
            past = w.past;
            took = w.took;
            out = x.out;
            m = w.m;
            going = w.going;
            client = client;
            joins = joins;
            id_is = ap (λ (y : ChainItem). y.id)
                (request_said x.took.raw w.m reads joins x.took.number)
                ∙ ap (λ (y : ChainItem). y.id) x.item_is ∙ sym f.named;
            number = ap (λ (t : Took). t.number) took
                ∙ ap (λ (y : ChainItem). y.number) x.item_is
                ∙ ap (λ (y : ℕ × ℕ). y.0) f.is;
          }

-- ---- and the other way round

has_front : (xs ys : List ChainItem) (id : List ℕ) → has_id xs id ≡ true
    → has_id (xs ++ ys) id ≡ true
has_front [] ys id is = absurd (cc is)
has_front (x ∷ xs) ys id is = by (bytes_eq id x.id) is (λ later. has_front xs ys id later)
  where
    by : (b : Bool) → is_some (if b then Some x else item_with xs id) ≡ true
        → (has_id xs id ≡ true → has_id (xs ++ ys) id ≡ true)
        → is_some (if b then Some x else item_with (xs ++ ys) id) ≡ true
    by true is later = refl
    by false is later = later is

has_last : (xs : List ChainItem) (item : ChainItem) → has_id (xs ++ item ∷ []) item.id ≡ true
has_last [] item =
    ap (λ (b : Bool). is_some (if b then Some item else None))
    ((bytes_eq-Decides item.id item.id).1 refl)
has_last (x ∷ xs) item = by (bytes_eq item.id x.id) (has_last xs item)
  where
    by : (b : Bool) → has_id (xs ++ item ∷ []) item.id ≡ true
        → is_some (if b then Some x else item_with (xs ++ item ∷ []) item.id) ≡ true
    by true rest = refl
    by false rest = rest

has_kept : (items : List ChainItem) (entries : List Entry) (id : List ℕ)
    → has_id items id ≡ true → has_id (chains_after items entries) id ≡ true
has_kept items [] id is = is
has_kept items (e ∷ entries) id is =
    has_kept (items ++ option_to_list (new_item items e)) entries id
    (has_front items (option_to_list (new_item items e)) id is)

has_new : (items : List ChainItem) (item : ChainItem)
    → has_id (items ++ option_to_list (if_new items (Some item))) item.id ≡ true
has_new items item = by (has_id items item.id) refl
  where
    by : (b : Bool) → has_id items item.id ≡ b
        → has_id (items ++ option_to_list (if b then None else Some item)) item.id ≡ true
    by true is = has_front items [] item.id is
    by false is = has_last items item

has_item : (items : List ChainItem) (entries : List Entry) (e : Entry) → In e entries
    → (item : ChainItem) → item_in e ≡ Some item
    → has_id (chains_after items entries) item.id ≡ true
has_item items [] e i item is = absurd i
has_item items (x ∷ entries) e (inl same) item is =
    has_kept (items ++ option_to_list (new_item items x)) entries item.id
    (ap (λ (o : Option ChainItem). has_id (items ++ option_to_list (if_new items o)) item.id)
    (ap item_in (sym same) ∙ is) ∙ has_new items item)
has_item items (x ∷ entries) e (inr i) item is =
    has_item (items ++ option_to_list (new_item items x)) entries e i item is

module _ (past : List Entry) (e : Entry) (took : Took) (out : Out) (m : Message)
    (going : Going past e took out m) (body : IsBody took.raw) (client : took.side ≡ Client)
    (joins : is_one_of joining m.letter ≡ true) where
  front : first_of (joining_letter e) e.outs ≡ Some m.letter
  unfolding first_of
  front = ap (first_of (joining_letter e)) going.gives.outs
      ∙ ap (λ (s : Option (ℕ × ℕ)). or_else (joining_by s) None)
      (sourced past e took out m going body)
      ∙ ap (λ (b : Bool). or_else (if b then Some m.letter else None) None) joins

  item_is : item_in e ≡ Some (item_of took.number m)
  item_is =
      let reads : message_of Client took.raw ≡ Ok m =
      ap (λ (s : Side). message_of s took.raw) (sym client) ∙ going.read.reads in
      ap (λ (t : Option Took). t >>= (λ took.
      first_of (joining_letter e) e.outs >>= (λ letter.
      Some (item_said took.number letter (fields_of took.raw))))) going.taken.is
      ∙ ap (λ (o : Option ℕ). o >>= (λ letter.
      Some (item_said took.number letter (fields_of took.raw)))) front
      ∙ ap (λ (item : ChainItem). Some item) (sym (request_said took.raw m reads joins took.number))

  -- THE ID OF A REQUEST THAT WENT ON is in the chains.
  pub id_kept : (entries : List Entry) → In e entries
      → has_id (chains_of entries) (text_in m.cells 11) ≡ true
  id_kept entries i = has_item [] entries e i (item_of took.number m) item_is
