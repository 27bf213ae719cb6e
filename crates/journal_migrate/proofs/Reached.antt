-- The records of a journal of format 1, one more at a time.
use Rattle.std.proofs.Common.{◌≡◌, inr, ℕ, ◌+◌, ◌<◌, ◌≤◌, List, [], ◌∷◌, ◌++◌, length, take, map}
use Rattle.std.proofs.Common.{refl, sym, ◌∙◌, ap, subst, arith, append_assoc, append-nil}
use Rattle.std.proofs.Common.{length-append}
use Rattle.std.proofs.lemmas.List.{length-map, map-append, take_at}
use Rattle.std.specs.declared.option.Option.{Option}
use Rattle.outside.specs.Bytes.{AppendsFront}
use Rattle.outside.proofs.Fronts.{front_on}
use Rattle.order_meaning.specs.declared.names.Names.{Names}
use Rattle.gate_log.specs.Records.{blocks, Stands}
use Rattle.gate_log.specs.Log.{IsAt, StandsOver}
use Rattle.gate_log.specs.State.{LogState}
use Rattle.gate_log.proofs.Blocks.{Stands-unique, blocks-append, length-blocks-push}
use Rattle.pair_entries.specs.declared.entry.Entry.{Entry}
use Rattle.pair_entries.specs.Payload.{Next, entry_bytes}
use Rattle.pair_entries.specs.Birth.{birth_bytes}
use Rattle.kept_entries.specs.Numbers.{first_numbers, numbers_after}
use Rattle.kept_entries.specs.Days.{dated, day_number}
use Rattle.kept_entries.specs.Entries.{DaysGoOn}
use Rattle.pair_journal.specs.Journal.{Born, Refused}
use Rattle.pair_journal.specs.Calls.{payloads_of}
use Rattle.kept_entries.proofs.Dating.{dated-split}
use Rattle.pair_journal.proofs.Walking.{head_of}
use Rattle.journal_migrate.specs.Format1.{JournalOf1, birth1_bytes, payloads1_of}
use Rattle.journal_migrate.specs.Migrating.{image_of}
use Rattle.journal_migrate.specs.Walk.{IsBirth, IsNext, IsNoNext, Follows1, IsReached, IsBegun}
use Rattle.journal_migrate.proofs.Spelt.{same_birth1, goes_further, last_of}
use Rattle.journal_migrate.proofs.Made.{one_more}

pub first_reached : (bytes p made : List ℕ) (after : List (List ℕ)) (place day : ℕ) (numbers : Next)
    → Stands bytes (p ∷ after) → IsBirth p made → place ≡ 5 + length p → day ≡ 0
    → numbers ≡ first_numbers → (at : IsReached bytes 1 place day numbers)
    × (made ≡ blocks (payloads_of at.names at.entries))
first_reached bytes p made after place day numbers stands birth there on reached = (
  record {
    names = birth.names;
    entries = [];
    after = after;
    stands = subst (λ (q : List ℕ). Stands bytes (q ∷ after)) birth.written stands;
    named = birth.named;
    sound = tt;
    count = refl;
    place_is = omega (
      arith,
      there,
      ap length birth.written,
      length-append (birth1_bytes birth.names) [],
    );
    on_day = on;
    reached = reached;
  },
  birth.record_is,
)

module _ (bytes : List ℕ) (index place day : ℕ) (numbers : Next)
    (at : IsReached bytes index place day numbers) where
  before : List (List ℕ)
  before = payloads1_of at.names at.entries

  pub payloads : List (List ℕ)
  unfolding before
  payloads = before ++ at.after

  pub stands_here : Stands bytes payloads
  unfolding before payloads
  stands_here = at.stands

  size : length before ≡ length at.entries + 1
  unfolding before
  size = omega (arith, length-map at.entries entry_bytes)

  counted : (log : LogState) → StandsOver log bytes → log.count ≡ index + length at.after
  unfolding before payloads
  counted log over =
      let same : over.0 ≡ payloads =
      Stands-unique bytes over.0 payloads over.1.stands at.stands in
      omega (
        arith,
        over.1.number,
        ap length same,
        length-append before at.after,
        size,
        at.count,
      )

  -- the one that stands at the place
  pub next_there : (log : LogState) → StandsOver log bytes → index < log.count
      → (p : List ℕ) × (left : List (List ℕ)) × (at.after ≡ p ∷ left)
  next_there log over more = by at.after refl
    where
      by : (l : List (List ℕ)) → at.after ≡ l
          → (p : List ℕ) × (left : List (List ℕ)) × (at.after ≡ p ∷ left)
      by [] none = absurd (omega (arith, more, counted log over, ap length none))
      by (p ∷ left) is = (p, left, is)

  module _ (p : List ℕ) (left : List (List ℕ)) (is : at.after ≡ p ∷ left) where
    pub is_next : IsAt payloads place p
    unfolding before payloads
    is_next = record {
      before = before;
      after = left;
      split = ap (λ (l : List (List ℕ)). before ++ l) is;
      place = at.place_is;
    }

    with_it : payloads ≡ (before ++ p ∷ []) ++ left
    unfolding before payloads
    with_it = ap (λ (l : List (List ℕ)). before ++ l) is ∙ sym (append_assoc before (p ∷ []) left)

    -- it is that of no entry that goes on
    pub next_refused : IsNoNext numbers p → JournalOf1 bytes (Refused place)
    unfolding before payloads
    next_refused none = inr (
      payloads,
      at.stands,
      record {
        number = length at.entries + 1;
        within = omega (arith, size, length-append before at.after, ap length is);
        place = at.place_is ∙ ap (λ (l : List (List ℕ)). length (blocks l)) (sym taken);
        sound = inr
            (at.names, at.entries, record { written = taken; named = at.named; sound = at.sound });
        none = λ spelt.
            let parts = head_of (birth1_bytes at.names) (birth1_bytes spelt.0)
            (map entry_bytes at.entries ++ p ∷ []) (map entry_bytes spelt.1)
            (sym one_more ∙ spelt.2.written) in
            let last = last_of first_numbers at.entries spelt.1 p at.sound spelt.2.sound
            (sym parts.1) in
            none last.0 (subst (λ (n : Next). Follows1 n p last.0) (sym at.reached) last.1);
      },
    )
      where
        taken : take (length at.entries + 1) payloads ≡ before
        taken = take_at before at.after (length at.entries + 1) size

        one_more : take (length at.entries + 1 + 1) payloads ≡ before ++ p ∷ []
        one_more = ap (take (length at.entries + 1 + 1)) with_it
            ∙ take_at (before ++ p ∷ []) left (length at.entries + 1 + 1)
            (omega (arith, size, length-append before (p ∷ [])))

    module _ (made : List ℕ) (place_now day_now : ℕ) (numbers_now : Next)
        (next : IsNext day numbers p day_now numbers_now made)
        (there : place_now ≡ place + 5 + length p) where
      longer : List Entry
      longer = at.entries ++ next.entry ∷ []

      pushed : before ++ p ∷ [] ≡ payloads1_of at.names longer
      unfolding before longer
      pushed = ap (λ (q : List ℕ). before ++ q ∷ []) next.follows.written
          ∙ ap (λ (l : List (List ℕ)). birth1_bytes at.names ∷ l)
          (sym (map-append entry_bytes at.entries (next.entry ∷ [])))

      goes_on : DaysGoOn first_numbers longer × (day_now ≡ day_number longer)
          × (numbers_now ≡ numbers_after first_numbers longer)
          × (blocks (payloads_of at.names longer) ≡ blocks (payloads_of at.names at.entries) ++ made)
      unfolding longer
      goes_on = one_more at.names at.entries day numbers at.sound at.on_day at.reached p made day_now
          numbers_now next

      pub next_reached : (now : IsReached bytes (index + 1) place_now day_now numbers_now)
          × (blocks (payloads_of now.names now.entries)
          ≡ blocks (payloads_of at.names at.entries) ++ made)
      unfolding before payloads longer
      next_reached = (
        record {
          names = at.names;
          entries = longer;
          after = left;
          stands = subst (Stands bytes)
              (with_it ∙ ap (λ (l : List (List ℕ)). l ++ left) pushed) at.stands;
          named = at.named;
          sound = goes_on.0;
          count = omega (arith, at.count, length-append at.entries (next.entry ∷ []));
          place_is = omega (
            arith,
            there,
            at.place_is,
            length-blocks-push before p,
            ap (λ (l : List (List ℕ)). length (blocks l)) pushed,
          );
          on_day = goes_on.1;
          reached = goes_on.2;
        },
        goes_on.3,
      )

  -- a front of what was put of them is a front of all
  pub begun : (old new : Option (List ℕ))
      → AppendsFront old new (blocks (payloads_of at.names at.entries)) → IsBegun bytes old new
  unfolding before payloads
  begun old new front names entries born =
      let same : payloads1_of names entries ≡ payloads =
      sym born.2.written ∙ Stands-unique bytes born.0 payloads born.1 at.stands in
      let parts = head_of (birth1_bytes names) (birth1_bytes at.names) (map entry_bytes entries)
      (map entry_bytes at.entries ++ at.after) same in
      let on = goes_further first_numbers at.entries entries at.after at.sound born.2.sound
      parts.1 in
      let rest : List (List ℕ) = dated (day_number at.entries) on.0 in
      let whole : image_of names entries
      ≡ blocks (payloads_of at.names at.entries) ++ (blocks rest ++ 0 ∷ []) =
      ap (λ (n : Names). image_of n entries) (same_birth1 names at.names parts.0)
      ∙ ap (λ (es : List Entry). image_of at.names es) on.1
      ∙ ap (λ (l : List (List ℕ)). blocks (birth_bytes at.names ∷ l) ++ 0 ∷ [])
      (dated-split at.entries on.0)
      ∙ ap (λ (l : List ℕ). l ++ 0 ∷ []) (blocks-append (payloads_of at.names at.entries) rest)
      ∙ append_assoc (blocks (payloads_of at.names at.entries)) (blocks rest) (0 ∷ []) in
      front_on old new (blocks (payloads_of at.names at.entries)) (blocks rest ++ 0 ∷ [])
      (image_of names entries) whole front

  -- they are all
  pub all_reached : (log : LogState) → StandsOver log bytes → log.count ≤ index
      → JournalOf1 bytes (Born at.names at.entries)
  unfolding before payloads
  all_reached log over done = (
    payloads,
    at.stands,
    record {
      written = ap (λ (l : List (List ℕ)). before ++ l)
          (nothing at.after (omega (arith, done, counted log over)))
          ∙ append-nil before;
      named = at.named;
      sound = at.sound;
    },
  )
    where
      nothing : (l : List (List ℕ)) → length l ≤ 0 → l ≡ []
      nothing [] short = refl
      nothing (x ∷ l) short = absurd (omega (arith, short))
