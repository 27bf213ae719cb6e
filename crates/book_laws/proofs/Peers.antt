-- The books of a peer's own conversation are those of the journal's.
use Rattle.std.proofs.Common.{◌≡◌, ◌≤◌, ◌<◌, ℕ, zero, suc, ◌+◌, ◌-◌, Bool, true, false, List, []}
use Rattle.std.proofs.Common.{◌∷◌, ◌++◌, length, take, refl, sym, ◌∙◌, ap, subst, arith, Option}
use Rattle.std.proofs.Common.{Some, None, append_assoc, append-nil}
use Rattle.std.specs.Prelude.{◌&&◌, ◌||◌, not, cond, filter, fold, filter_map, slice_get}
use Rattle.std.specs.List.{cons_option, flat_map, list_any}
use Rattle.std.specs.Option.{option_to_list}
use Rattle.std.proofs.lemmas.List.{take_all}
use Rattle.std.proofs.lemmas.List.Elements.{filter-append}
use Rattle.order_meaning.specs.declared.Side.{Side}
use Rattle.order_meaning.specs.declared.Side.TheVariants.{Client, Venue}
use Rattle.pair_entries.specs.declared.entry.Entry.{Entry}
use Rattle.book_laws.specs.Heard.{Sort, Plain, Heard, is_reject}
use Rattle.book_laws.specs.SetAside.{Conversation, is_refusal, is_number, names, answers}
use Rattle.book_laws.specs.SetAside.{is_answered_off, refuses, is_refused, counts, sent_by, took_of}
use Rattle.book_laws.specs.Books.{asked42, asked50, told42, told50, book42, book50}
use Rattle.book_laws.specs.Pairs.{given, pair, taken}
use Rattle.book_laws.proofs.Tests.{counts-plain}

-- what books may depend on
abbrev pub is_heard : Sort → Bool
is_heard Plain = false
is_heard other = true

abbrev pub heard : List Heard → List Heard
heard l = filter (λ m. is_heard m.sort) l

-- the messages from place i to before place j are plain
abbrev pub ArePlain : List Heard → ℕ → ℕ → Type 0
ArePlain sent i j =
    (k : ℕ) → i ≤ k → k < j → (m : Heard) × (slice_get sent k ≡ Some m) × (m.sort ≡ Plain)

-- What an entry does to the count of a peer's messages that are dealt with: nothing, the next
-- message taken, or plain messages passed over.
pub data Passes (sent : List Heard) (before after : ℕ) (took : Option Heard) : Type 0 where
  Stands : after ≡ before → took ≡ None → Passes sent before after took
  Takes : (m : Heard) → slice_get sent before ≡ Some m → after ≡ before + 1 → took ≡ Some m
      → Passes sent before after took
  Fills : before ≤ after → ArePlain sent before after → took ≡ None → Passes sent before after took

-- the entries deal with the peer's messages from one count to another
abbrev pub PassesAll : Side → List Heard → ℕ → List Entry → ℕ → Type 0
PassesAll side sent before [] after = after ≡ before
PassesAll side sent before (e ∷ entries) after =
    (mid : ℕ) × Passes sent before mid (taken side e) × PassesAll side sent mid entries after

-- all messages of the peer were dealt with, and it took all that counts
pub record IsWhole (side : Side) (c : Conversation) (entries : List Entry) : Type 0 where
  pub sent : PassesAll side c.sent 0 entries (length c.sent)
  pub took : heard c.took ≡ heard (flat_map (given side) entries)

-- ---- what is not heard is in no list

module _ {X : Type 0} (h : X → Bool) where
  any-kept : (q : X → Bool) → ((x : X) → h x ≡ false → q x ≡ false) → (l : List X)
      → list_any q l ≡ list_any q (filter h l)
  any-kept q none [] = refl
  any-kept q none (x ∷ l) = go (h x) refl (any-kept q none l)
    where
      go : (b : Bool) → h x ≡ b → list_any q l ≡ list_any q (filter h l)
          → list_any q (x ∷ l) ≡ list_any q (cond b (x ∷ filter h l) (filter h l))
      go true is rest = ap (λ c. q x || c) rest
      go false is rest = ap (λ c. c || list_any q l) (none x is) ∙ rest

  filter-kept : (q : X → Bool) → ((x : X) → h x ≡ false → q x ≡ false) → (l : List X)
      → filter q l ≡ filter q (filter h l)
  filter-kept q none [] = refl
  filter-kept q none (x ∷ l) = go (h x) refl (filter-kept q none l)
    where
      go : (b : Bool) → h x ≡ b → filter q l ≡ filter q (filter h l)
          → filter q (x ∷ l) ≡ filter q (cond b (x ∷ filter h l) (filter h l))
      go true is rest = ap (λ c. cond (q x) (x ∷ c) c) rest
      go false is rest = ap (λ b. cond b (x ∷ filter q l) (filter q l)) (none x is) ∙ rest

not-heard : (k : Sort) → is_heard k ≡ false → k ≡ Plain
not-heard Plain is = refl
not-heard other is = absurd (cc is)

abbrev hears : Heard → Bool
hears m = is_heard m.sort

abbrev heard_of : Conversation → Conversation
heard_of c = record { sent = heard c.sent; took = heard c.took }

off-heard : (took : List Heard) (m : Heard)
    → is_answered_off took m ≡ is_answered_off (heard took) m
off-heard took m = any-kept hears (answers m.number) (λ x is. ap (λ b. b
    && is_number x.number_named m.number) (ap is_reject (not-heard x.sort is))) took

refuses-heard : (took : List Heard) (m r : Heard) → refuses took m r ≡ refuses (heard took) m r
refuses-heard took m r = ap (λ b. (is_refusal r.sort && not b) && names r m) (off-heard took r)

refused-heard : (c : Conversation) (m : Heard) → is_refused c m ≡ is_refused (heard_of c) m
refused-heard c m =
    any-kept hears (refuses c.took m) (λ x is. ap (λ b. (b && not (is_answered_off c.took x))
    && names x m) (ap is_refusal (not-heard x.sort is))) c.sent
    ∙ (λ i. list_any (λ r. refuses-heard c.took m r i) (heard c.sent))

sent-heard : (side : Side) (c : Conversation) → sent_by side c ≡ sent_by side (heard_of c)
sent-heard side c =
    let p = λ (m : Heard). counts side m && not (is_answered_off c.took m) in
    filter-kept hears p (λ x is. ap (λ b. b
    && not (is_answered_off c.took x)) (counts-plain side x (not-heard x.sort is))) c.sent
    ∙ (λ i. filter (λ x. counts side x && not (off-heard c.took x i)) (heard c.sent))

took-heard : (side : Side) (c : Conversation) → took_of side c ≡ took_of side (heard_of c)
took-heard side c =
    let p = λ (m : Heard). counts side m && not (is_refused c m) in
    filter-kept hears p (λ x is. ap (λ b. b
    && not (is_refused c x)) (counts-plain side x (not-heard x.sort is))) c.took
    ∙ (λ i. filter (λ x. counts side x && not (refused-heard c x i)) (heard c.took))

book42-heard : (c : Conversation) → book42 c ≡ book42 (heard_of c)
book42-heard c =
    ap (λ l. record { requests = filter_map asked42 l; book = fold told42 [] (took_of Venue c) })
    (sent-heard Client c)
    ∙ ap (λ l. record {
      requests = filter_map asked42 (sent_by Client (heard_of c));
      book = fold told42 [] l;
    }) (took-heard Venue c)

book50-heard : (c : Conversation) → book50 c ≡ book50 (heard_of c)
book50-heard c =
    ap (λ l. record { requests = filter_map asked50 l; book = fold told50 [] (sent_by Venue c) })
    (took-heard Client c)
    ∙ ap (λ l. record {
      requests = filter_map asked50 (took_of Client (heard_of c));
      book = fold told50 [] l;
    }) (sent-heard Venue c)

-- ---- what was sent

take-next : (l : List Heard) (k : ℕ) (m : Heard) → slice_get l k ≡ Some m
    → take (suc k) l ≡ take k l ++ m ∷ []
take-next [] k m is = absurd (cc is)
take-next (x ∷ l) zero m is = let same : x ≡ m = cc is in ap (λ y. y ∷ []) same
take-next (x ∷ l) (suc k) m is = ap (λ r. x ∷ r) (take-next l k m is)

heard-next : (l : List Heard) (k : ℕ) (m : Heard) → slice_get l k ≡ Some m
    → heard (take (suc k) l) ≡ heard (take k l) ++ heard (m ∷ [])
heard-next l k m is = ap heard (take-next l k m is) ∙ filter-append hears (take k l) (m ∷ [])

heard-plain : (m : Heard) → m.sort ≡ Plain → heard (m ∷ []) ≡ []
heard-plain m is = ap (λ k. cond (is_heard k) (m ∷ []) []) is

heard-fill : (l : List Heard) (count from : ℕ) → ArePlain l from (from + count)
    → heard (take (from + count) l) ≡ heard (take from l)
heard-fill l zero from plain = ap (λ n. heard (take n l)) (omega arith)
heard-fill l (suc count) from plain =
    let at = plain (from + count) (omega arith) (omega arith) in
    let next : from + suc count ≡ suc (from + count) = omega arith in
    ap (λ n. heard (take n l)) next ∙ heard-next l (from + count) at.0 at.1
    ∙ ap (λ r. heard (take (from + count) l) ++ r) (heard-plain at.0 at.2)
    ∙ append-nil (heard (take (from + count) l))
    ∙ heard-fill l count from (λ k low high. plain k low (omega (arith, high)))

heard-option : (o : Option Heard) (l : List Heard)
    → heard (cons_option o l) ≡ heard (option_to_list o) ++ heard l
heard-option None l = refl
heard-option (Some x) l = filter-append hears (x ∷ []) l

passes : (l : List Heard) (before after : ℕ) (o : Option Heard) → Passes l before after o
    → heard (take after l) ≡ heard (take before l) ++ heard (option_to_list o)
passes l before after o (Stands same none) = ap (λ n. heard (take n l)) same
    ∙ sym (append-nil (heard (take before l)))
    ∙ ap (λ p. heard (take before l) ++ heard (option_to_list p)) (sym none)
passes l before after o (Takes m is next some) =
    let n : after ≡ suc before = next ∙ omega arith in
    ap (λ n. heard (take n l)) n ∙ heard-next l before m is
    ∙ ap (λ p. heard (take before l) ++ heard (option_to_list p)) (sym some)
passes l before after o (Fills low plain none) =
    let n : after ≡ before + (after - before) = omega (arith, low) in
    ap (λ n. heard (take n l)) n ∙ heard-fill l (after - before) before (subst (ArePlain l before)
    n plain)
    ∙ sym (append-nil (heard (take before l)))
    ∙ ap (λ p. heard (take before l) ++ heard (option_to_list p)) (sym none)

module _ (side : Side) where
  passes-all : (l : List Heard) (before after : ℕ) (entries : List Entry)
      → PassesAll side l before entries after
      → heard (take after l) ≡ heard (take before l) ++ heard (filter_map (taken side) entries)
  passes-all l before after [] same = ap (λ n. heard (take n l)) same
      ∙ sym (append-nil (heard (take before l)))
  passes-all l before after (e ∷ entries) all =
      let first = heard (option_to_list (taken side e)) in
      let rest = heard (filter_map (taken side) entries) in
      passes-all l all.0 after entries all.2
      ∙ ap (λ r. r ++ rest) (passes l before all.0 (taken side e) all.1)
      ∙ append_assoc (heard (take before l)) first rest
      ∙ ap (λ r. heard (take before l) ++ r) (sym (heard-option (taken side e) (filter_map (taken
      side) entries)))

  pub sent-all : (l : List Heard) (entries : List Entry) → PassesAll side l 0 entries (length l)
      → heard l ≡ heard (filter_map (taken side) entries)
  sent-all l entries all = ap heard (sym (take_all (length l) l (omega arith)))
      ∙ passes-all l 0 (length l) entries all

  same-heard : (c : Conversation) (entries : List Entry) → IsWhole side c entries
      → heard_of c ≡ heard_of (pair side entries)
  same-heard c entries w =
      ap (λ l. record { sent = l; took = heard c.took }) (sent-all c.sent entries w.sent)
      ∙ ap (λ l. record { sent = heard (filter_map (taken side) entries); took = l }) w.took

  pub whole42 : (c : Conversation) (entries : List Entry) → IsWhole side c entries
      → book42 c ≡ book42 (pair side entries)
  whole42 c entries w = book42-heard c ∙ ap book42 (same-heard c entries w)
      ∙ sym (book42-heard (pair side entries))

  pub whole50 : (c : Conversation) (entries : List Entry) → IsWhole side c entries
      → book50 c ≡ book50 (pair side entries)
  whole50 c entries w = book50-heard c ∙ ap book50 (same-heard c entries w)
      ∙ sym (book50-heard (pair side entries))
