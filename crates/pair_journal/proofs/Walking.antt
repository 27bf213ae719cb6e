-- What the payloads of a log, read one by one, say of a journal.
use Rattle.std.proofs.Common.{◌≡◌, inl, inr, ℕ, ◌+◌, ◌<◌, ◌≤◌, List, [], ◌∷◌, ◌++◌, length, drop}
use Rattle.std.proofs.Common.{refl, sym, ◌∙◌, ap, subst, arith, append_assoc, length-append}
use Rattle.order_meaning.specs.declared.names.Names.{Names}
use Rattle.std.specs.declared.option.Option.{Option}
use Rattle.gate_log.specs.Records.{blocks}
use Rattle.gate_log.specs.Log.{IsAt, OnlyRead}
use Rattle.pair_entries.specs.declared.entry.Entry.{Entry}
use Rattle.pair_entries.specs.Payload.{Next, entry_bytes, payload_on}
use Rattle.pair_entries.specs.Birth.{birth_bytes, AreNames}
use Rattle.kept_entries.specs.Numbers.{GoesOn, first_numbers, numbers_before, numbers_after}
use Rattle.kept_entries.specs.Days.{dated, day_after, day_number}
use Rattle.kept_entries.specs.Entries.{DaysGoOn}
use Rattle.pair_journal.specs.Journal.{Misspells}
use Rattle.pair_journal.specs.Calls.{payloads_of}
use Rattle.pair_journal.specs.Loading.{IsBorn, Follows}
use Rattle.pair_entries.proofs.Same.{same_entry}
use Rattle.pair_journal.proofs.Carrying.{payloads-push}
use Rattle.kept_entries.proofs.Dating.{length-dated}
use Rattle.pair_journal.proofs.Carrying.{place_is}
use Rattle.kept_entries.specs.Spots.{behind}
use Rattle.kept_entries.specs.declared.spot.Spot.{Spot}

-- ---- the first payload

pub first_at : (payloads : List (List ℕ)) → 0 < length payloads → (p : List ℕ) × IsAt payloads 0 p
first_at [] some = absurd (omega (arith, some))
first_at (p ∷ after) some = (p, record { before = []; after = after; split = refl; place = refl })

pub born : (payloads : List (List ℕ)) (bytes : List ℕ) (names : Names)
    → 0 < length payloads → ((p : List ℕ) → IsAt payloads 0 p → bytes ≡ p)
    → bytes ≡ birth_bytes names → AreNames names → IsBorn payloads names
born [] bytes names some read is are = absurd (omega (arith, some))
born (p ∷ after) bytes names some read is are = record {
  named = are;
  after = after;
  split = ap (λ (q : List ℕ). q ∷ after)
      (sym (read p (record { before = []; after = after; split = refl; place = refl })) ∙ is);
}

pub not_born : (payloads : List (List ℕ)) (bytes : List ℕ)
    → 0 < length payloads → ((p : List ℕ) → IsAt payloads 0 p → bytes ≡ p)
    → ((names : Names) → AreNames names → bytes ≡ birth_bytes names → ⊥) → Misspells payloads 0
not_born [] bytes some read none = absurd (omega (arith, some))
not_born (p ∷ after) bytes some read none =
    let same : bytes ≡ p =
    read p (record { before = []; after = after; split = refl; place = refl }) in
    record {
      before = [];
      payload = p;
      after = after;
      split = refl;
      place = refl;
      sound = inl refl;
      none = λ names are is. none names are (same ∙ is);
    }

no_payloads : (payloads : List (List ℕ)) → length payloads ≡ 0 → payloads ≡ []
no_payloads [] none = refl
no_payloads (p ∷ after) none = absurd (omega (arith, none))

-- ---- the payloads behind it

-- these entries were read, and the next stands at this place
pub record Walks (names : Names) (entries : List Entry) (index place day : ℕ) (numbers : Next)
    : Type 0 where
  pub stands : place ≡ length (blocks (payloads_of names entries))
  pub sound : DaysGoOn first_numbers entries
  pub on_day : day ≡ day_number entries
  pub reached : numbers ≡ numbers_after first_numbers entries
  pub count : index ≡ length entries + 1

-- payloads begin with those of a journal
pub record Begins (payloads : List (List ℕ)) (names : Names) (entries : List Entry) : Type 0 where
  pub after : List (List ℕ)
  pub split : payloads ≡ payloads_of names entries ++ after

-- what is kept of them says where the next stands
pub walks_at : (names : Names) (entries : List Entry) (index day : ℕ) (end : Spot)
    → AreNames names → DaysGoOn first_numbers entries → index ≡ length entries + 1
    → day ≡ day_number entries → end ≡ behind entries
    → Walks names entries index end.place day end.next
walks_at names entries index day end named sound count on_day is = record {
  stands = ap (λ (s : Spot). s.place) is ∙ sym (place_is names entries named);
  sound = sound;
  on_day = on_day;
  reached = ap (λ (s : Spot). s.next) is;
  count = count;
}

pub head_of : (x y : List ℕ) (xs ys : List (List ℕ)) → x ∷ xs ≡ y ∷ ys → (x ≡ y) × (xs ≡ ys)
head_of x y xs ys e = (let h : x ≡ y = cc e in h, ap (drop 1) e)

list_join : (e f : Entry) (es fs : List Entry) → e ≡ f → es ≡ fs → e ∷ es ≡ f ∷ fs
list_join e f es fs h hs = cc

pub same_entries : (before other : Next) (d c : ℕ) (es fs : List Entry)
    → DaysGoOn before es → DaysGoOn other fs → dated d es ≡ dated c fs → es ≡ fs
same_entries before other d c [] [] he hf is = refl
same_entries before other d c [] (f ∷ fs) he hf is = absurd (cc is)
same_entries before other d c (e ∷ es) [] he hf is = absurd (cc is)
same_entries before other d c (e ∷ es) (f ∷ fs) he hf is =
    let parts = head_of (payload_on (day_after d e) e) (payload_on (day_after c f) f)
    (dated (day_after d e) es) (dated (day_after c f) fs) is in
    let bytes : entry_bytes e ≡ entry_bytes f = ap (drop 4) parts.0 in
    list_join e f es fs (same_entry e f he.0 hf.0 bytes)
    (same_entries e.next f.next (day_after d e) (day_after c f) es fs he.2 hf.2 parts.1)

module _ (names : Names) (entries : List Entry) (index place day : ℕ)
    (numbers : Next) (walks : Walks names entries index place day numbers)
    (payloads : List (List ℕ)) (begins : Begins payloads names entries) where
  next_of : index < length payloads
      → (p : List ℕ) × (left : List (List ℕ)) × (begins.after ≡ p ∷ left)
  next_of within = by begins.after refl
    where
      by : (l : List (List ℕ))
          → begins.after ≡ l → (p : List ℕ) × (left : List (List ℕ)) × (begins.after ≡ p ∷ left)
      by [] none = absurd (omega (
        arith,
        ap length begins.split,
        ap (λ (l : List (List ℕ)). length (payloads_of names entries ++ l)) none,
        length-append (payloads_of names entries) [],
        length-dated 0 entries,
        walks.count,
        within,
      ))
      by (p ∷ left) e = (p, left, e)

  pub next_at : index < length payloads → (p : List ℕ) × IsAt payloads place p
  next_at within =
      let n = next_of within in (
        n.0,
        record {
          before = payloads_of names entries;
          after = n.1;
          split = begins.split
              ∙ ap (λ (l : List (List ℕ)). payloads_of names entries ++ l) n.2;
          place = walks.stands;
        },
      )

  -- all were read
  pub all_read : length payloads ≤ index → payloads ≡ payloads_of names entries
  all_read done = begins.split ∙ ap (λ (l : List (List ℕ)). payloads_of names entries ++ l)
      (no_payloads begins.after (omega (
        arith,
        ap length begins.split,
        length-append (payloads_of names entries) begins.after,
        length-dated 0 entries,
        walks.count,
        done,
      ))) ∙ append_none (payloads_of names entries)
    where
      append_none : (l : List (List ℕ)) → l ++ [] ≡ l
      append_none [] = refl
      append_none (x ∷ l) = ap (λ (k : List (List ℕ)). x ∷ k) (append_none l)

  module _ (bytes : List ℕ) (within : index < length payloads)
      (read : (p : List ℕ) → IsAt payloads place p → bytes ≡ p) where
    split_here : (left : List (List ℕ)) × (payloads ≡ payloads_of names entries ++ bytes ∷ left)
    unfolding next_of next_at
    split_here =
        let n = next_of within in
        let at = next_at within in
        let same : bytes ≡ n.0 = read n.0 at.1 in
        (n.1, at.1.split ∙ ap (λ (p : List ℕ). payloads_of names entries ++ p ∷ n.1) (sym same))

    -- the payload there is of no entry that goes on
    pub misread : AreNames names
        → ((entry : Entry) → Follows day numbers bytes entry → ⊥) → Misspells payloads place
    misread named none = record {
      before = payloads_of names entries;
      payload = bytes;
      after = split_here.0;
      split = split_here.1;
      place = walks.stands;
      sound = inr (names, entries, record { written = refl; named = named; sound = walks.sound });
      none = λ other others entry whole sound is on written.
          let parts = head_of (birth_bytes names)
          (birth_bytes other) (dated 0 entries) (dated 0 others) whole in
          let same : entries ≡ others =
          same_entries first_numbers first_numbers 0 0 entries others walks.sound sound parts.1 in
          let at : numbers_after first_numbers others ≡ numbers =
          ap (numbers_after first_numbers) (sym same) ∙ sym walks.reached in
          let today : day_number others ≡ day = ap day_number (sym same) ∙ sym walks.on_day in
          none entry (record {
            written = written ∙ ap (λ n. payload_on (day_after n entry) entry) today;
            sound = is;
            goes_on = subst (λ (n : Next). GoesOn (numbers_before n entry) entry) at on;
          });
    }

    pub more_begins : (entry : Entry) (more : List Entry) → Follows day numbers bytes entry
        → more ≡ entries ++ entry ∷ [] → Begins payloads names more
    more_begins entry more follows pushed =
        let written : payloads_of names entries
        ++ bytes ∷ [] ≡ payloads_of names (entries ++ entry ∷ []) =
        ap (λ (p : List ℕ). payloads_of names entries ++ p ∷ []) (follows.written
        ∙ ap (λ n. payload_on (day_after n entry) entry) walks.on_day)
        ∙ payloads-push names entries entry in record {
          after = split_here.0;
          split = split_here.1
              ∙ sym (append_assoc (payloads_of names entries) (bytes ∷ []) split_here.0)
              ∙ ap (λ (l : List (List ℕ)). l ++ split_here.0) written
              ∙ ap (λ (es : List Entry). payloads_of names es ++ split_here.0) (sym pushed);
        }

-- ---- the disk, while it is read

pub only_read_still : (told : Option (List ℕ)) (images : List ℕ → Type 0)
    → OnlyRead told told images images
only_read_still told images = record { same = refl; images = λ i here. here; kept = λ i here. here }

pub only_read_on : (a b c : Option (List ℕ)) (i j k : List ℕ → Type 0)
    → OnlyRead a b i j → OnlyRead b c j k → OnlyRead a c i k
only_read_on a b c i j k one two = record {
  same = two.same ∙ one.same;
  images =
      λ x here. one.images x (two.images x here);
  kept = λ x here. two.kept x (one.kept x here);
}
