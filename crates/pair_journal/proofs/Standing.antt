-- What a record that is read at a spot says, where the disk tells its bytes.
use Rattle.std.proofs.Common.{◌≡◌, ◌⊎◌, inl, inr, ℕ, zero, suc, ◌+◌, ◌-◌, ◌<◌, ◌≤◌, Bool, true}
use Rattle.std.proofs.Common.{false, List, [], ◌∷◌, ◌++◌, length, take, drop, refl, sym, ◌∙◌, ap}
use Rattle.std.proofs.Common.{subst, arith, Some, None, leb, leb-true, Ok, Err}
use Rattle.std.specs.List.{slice_get}
use Rattle.std.specs.Prelude.{Result, IsErrAnd}
use Rattle.std.specs.Option.{ForSome}
use Rattle.std.specs.declared.option.Option.{Option}
use Rattle.std.proofs.lemmas.List.{take_all}
use Rattle.order_meaning.specs.declared.Side.{Side}
use Rattle.order_meaning.specs.declared.Side.TheVariants.{Client, Venue}
use Rattle.order_meaning.specs.declared.names.Names.{Names}
use Rattle.gate_log.specs.Records.{Stands}
use Rattle.gate_log.specs.Log.{IsAt, ReadsPayload, HasNoPayload}
use Rattle.gate_log.specs.State.{LogState}
use Rattle.gate_log.proofs.Told.{at_some}
use Rattle.pair_entries.specs.declared.entry.Entry.{Entry}
use Rattle.pair_entries.specs.declared.reading.Front.{Front}
use Rattle.pair_entries.specs.Payload.{Next, IsEntry, entry_bytes}
use Rattle.std.specs.Int.{w32, to_be_bytes}
use Rattle.pair_entries.specs.Parts.{front_bytes, IsFront}
use Rattle.pair_entries.proofs.Same.{front_is}
use Rattle.pair_entries.specs.Birth.{birth_bytes, AreNames}
use Rattle.kept_entries.specs.Numbers.{GoesOn, next_out, numbers_before, numbers_after}
use Rattle.kept_entries.specs.Numbers.{first_numbers, outs_to}
use Rattle.kept_entries.specs.Days.{last_day, past_of, day_after, day_number, dated, payload_behind}
use Rattle.kept_entries.specs.Entries.{AreEntries, DaysGoOn}
use Rattle.pair_journal.specs.Journal.{JournalOf, Born}
use Rattle.kept_entries.specs.Given.{Given, numbered, given_in, given}
use Rattle.pair_journal.specs.Calls.{payloads_of, OnlyReading, RefusedUntold}
use Rattle.pair_journal.specs.Loading.{HasExtent, Unread, IsPayload}
use Rattle.pair_journal.specs.declared.error.JournalError.{JournalError}
use Rattle.pair_journal.specs.declared.error.JournalError.TheVariants as errors
use Rattle.pair_journal.specs.OutBuf.{OutAt, IsGivenAs}
use Rattle.kept_entries.specs.Spots.{behind, day_start, IsSpot, StandsAt, HoldsOut}
use Rattle.kept_entries.specs.declared.spot.Spot.{Spot}
use Rattle.kept_entries.proofs.Dating.{entry_at, dated-split, before_more, last_is_sound, entry_in}
use Rattle.kept_entries.proofs.Dating.{numbers_at}
use Rattle.kept_entries.proofs.Giving.{not_past, above_entry, among, goes, first_is_1}
use Rattle.kept_entries.proofs.Giving.{behind as behind_is, here as here_is}
use Rattle.pair_journal.proofs.Carrying.{place_is}
use Rattle.kept_entries.proofs.Marking.{behind_push, rise_take}
use Rattle.pair_journal.proofs.Reading.{at_within}

-- ---- the entry of an index, among them

pub get_some : (entries : List Entry) (i : ℕ) → i < length entries
    → (entry : Entry) × (slice_get entries i ≡ Some entry)
get_some [] i within = absurd (omega (arith, within))
get_some (a ∷ es) zero within = (a, refl)
get_some (a ∷ es) (suc i) within = get_some es i (omega (arith, within))

split_at : (entries : List Entry) (i : ℕ) (entry : Entry) → slice_get entries i ≡ Some entry
    → entries ≡ take i entries ++ entry ∷ drop (suc i) entries
split_at [] i entry e = absurd (cc e)
split_at (a ∷ es) zero entry e = let is : a ≡ entry = cc e in ap (λ (x : Entry). x ∷ es) is
split_at (a ∷ es) (suc i) entry e = ap (λ (l : List Entry). a ∷ l) (split_at es i entry e)

take_step : (entries : List Entry) (i : ℕ) (entry : Entry)
    → slice_get entries i ≡ Some entry → take (suc i) entries ≡ take i entries ++ entry ∷ []
take_step [] i entry e = absurd (cc e)
take_step (a ∷ es) zero entry e = let is : a ≡ entry = cc e in ap (λ (x : Entry). x ∷ []) is
take_step (a ∷ es) (suc i) entry e = ap (λ (l : List Entry). a ∷ l) (take_step es i entry e)

-- ---- its record

-- the payload of an entry that stands at a spot
abbrev pub payload_at : List Entry → Spot → Entry → List ℕ
payload_at entries spot entry = payload_behind (take spot.index entries) entry

pub at_place : (names : Names) (entries : List Entry) (spot : Spot) (entry : Entry)
    → AreNames names → StandsAt entries spot entry
    → IsAt (payloads_of names entries) spot.place (payload_at entries spot entry)
at_place names entries spot entry named at = record {
  before = payloads_of names (take spot.index entries);
  after = dated (day_after (day_number (take spot.index entries)) entry)
      (drop (suc spot.index) entries);
  split = ap (payloads_of names) (split_at entries spot.index entry at.is)
      ∙ ap (λ (l : List (List ℕ)). birth_bytes names ∷ l)
      (dated-split (take spot.index entries) (entry ∷ drop (suc spot.index) entries));
  place = ap (λ (s : Spot). s.place) at.at
      ∙ sym (place_is names (take spot.index entries) named);
}

-- the spot behind it
pub next_spot : (entries : List Entry) (spot next : Spot) (entry : Entry) (len : ℕ)
    → StandsAt entries spot entry → len ≡ length (payload_at entries spot entry)
    → next ≡ record { index = spot.index + 1; place = spot.place + 5 + len; next = entry.next }
    → IsSpot entries next
next_spot entries spot next entry len at size is =
    let step : suc spot.index ≡ next.index =
    omega (arith, ap (λ (s : Spot). s.index) is) in
    is ∙ behind_push (take spot.index entries) entry spot len at.at size
    ∙ ap behind (sym (take_step entries spot.index entry at.is))
    ∙ ap (λ (n : ℕ). behind (take n entries)) step

module _ (told : Option (List ℕ)) (names : Names) (named : AreNames names) (entries : List Entry)
    (sound : DaysGoOn first_numbers entries)
    (stands : ForSome told (λ b. JournalOf b (Born names entries)))
    (spot : Spot) where
  -- what is read there is its payload
  pub read_is : (bytes : List ℕ) → ReadsPayload told spot.place bytes → (b : List ℕ)
      → told ≡ Some b → (entry : Entry) → StandsAt entries spot entry
      → (bytes ≡ payload_at entries spot entry) × IsEntry entry
  read_is bytes read b e entry at =
      let journal = stands b e in
      let there = subst (λ (ps : List (List ℕ)). IsAt ps spot.place (payload_at entries spot entry))
      (sym journal.2.written) (at_place names entries spot entry named at) in (
        at_some told (λ x. (ps : List (List ℕ)) (q : List ℕ) → Stands x ps
            → IsAt ps spot.place q → bytes ≡ q) b e read journal.0 (payload_at entries spot entry)
            journal.1 there,
        entry_at first_numbers entries spot.index entry sound at.is,
      )

  -- which is one on some day
  pub payload_is : (bytes : List ℕ) → ReadsPayload told spot.place bytes → (b : List ℕ)
      → told ≡ Some b → (entry : Entry) → StandsAt entries spot entry
      → IsPayload bytes entry × IsEntry entry
  payload_is bytes read b e entry at =
      let here = read_is bytes read b e entry at in (
        (day_after (day_number (take spot.index entries)) entry, here.0),
        here.1,
      )

  pub not_missing : HasNoPayload told spot.place → (b : List ℕ) → told ≡ Some b
      → (entry : Entry) → StandsAt entries spot entry → ⊥
  not_missing none b e entry at =
      let journal = stands b e in
      let there = subst (λ (ps : List (List ℕ)). IsAt ps spot.place (payload_at entries spot entry))
      (sym journal.2.written) (at_place names entries spot entry named at) in
      at_some told (λ x. (ps : List (List ℕ)) (q : List ℕ) → Stands x ps
      → IsAt ps spot.place q → ⊥) b e none journal.0 (payload_at entries spot entry)
      journal.1 there

  -- it stands before the end
  pub not_behind : (log : LogState) → HasExtent log names entries → log.end ≤ spot.place
      → (entry : Entry) → StandsAt entries spot entry → ⊥
  not_behind log extent past entry at =
      absurd (omega (
        arith,
        past,
        extent.end,
        at_within (payloads_of names entries) spot.place
            (payload_at entries spot entry) (at_place names entries spot entry named at),
      ))

  -- and the front of it has the next numbers
  pub front_next : (bytes rest : List ℕ) (day : ℕ) (front : Front) (len : ℕ) (next : Spot)
      → ReadsPayload told spot.place bytes → bytes ≡ to_be_bytes w32 day ++ rest
      → rest ≡ front_bytes front → IsFront front → len ≡ length bytes
      → next ≡ record { index = spot.index + 1; place = spot.place + 5 + len; next = front.next }
      → (b : List ℕ) → told ≡ Some b → (entry : Entry) → StandsAt entries spot entry
      → IsPayload bytes entry × IsEntry entry × IsSpot entries next
  front_next bytes rest day front len next read dated spelt sound_front size is b e entry at =
      let here = read_is bytes read b e entry at in
      let same : rest ≡ entry_bytes entry = ap (drop 4) (sym dated ∙ here.0) in
      let says = front_is front entry sound_front here.1 (sym spelt ∙ same) in (
        (day_after (day_number (take spot.index entries)) entry, here.0),
        here.1,
        next_spot entries spot next entry len at (size ∙ ap length here.0)
            (is ∙ ap (λ n. record {
              index = spot.index + 1;
              place = spot.place + 5 + len;
              next = n;
            }) says.next),
      )

  -- what stands behind the day is the entry
  pub rest_is : (bytes rest : List ℕ) (day : ℕ) → ReadsPayload told spot.place bytes
      → bytes ≡ to_be_bytes w32 day ++ rest → (b : List ℕ) → told ≡ Some b → (entry : Entry)
      → StandsAt entries spot entry → (rest ≡ entry_bytes entry) × IsEntry entry
  rest_is bytes rest day read dated b e entry at =
      let here = read_is bytes read b e entry at in (ap (drop 4) (sym dated ∙ here.0), here.1)

-- a payload has a day in front
pub has_day : (bytes : List ℕ) (entry : Entry) → IsPayload bytes entry → length bytes < 4 → ⊥
has_day bytes entry (day, is) short = absurd (omega (arith, ap length is, short))

pub behind_day : (bytes rest : List ℕ) (day : ℕ) (entry : Entry) → IsPayload bytes entry
    → bytes ≡ to_be_bytes w32 day ++ rest → rest ≡ entry_bytes entry
behind_day bytes rest day entry (other, is) dated = ap (drop 4) (sym dated ∙ is)

-- ---- the out of a number

-- an entry that takes the next out past a number has the out of that number
in_one : (side : Side) (number : ℕ) (before : Next) (entry : Entry) → GoesOn before entry
    → next_out side before ≤ number → number < next_out side entry.next
    → numbered number (outs_to side entry.outs) ≡ None → ⊥
in_one side number before entry on low high none =
    let has = goes side before entry on in
    let found = among number (next_out side before) (outs_to side entry.outs) has.numbered low
    (omega (arith, has.next, high)) in
    absurd (cc (none, found.1))

-- each next number is at least 1
at_least_1 : (side : Side) (entry : Entry) → IsEntry entry → 1 ≤ next_out side entry.next
at_least_1 Client entry is = is.next.1.0
at_least_1 Venue entry is = is.next.3.0

-- an entry between two next numbers has the out
pub has_out : (side : Side) (number : ℕ) (entries : List Entry) (spot next : Spot) (entry : Entry)
    → DaysGoOn first_numbers entries → StandsAt entries spot entry
    → IsSpot entries next → next.index ≡ spot.index + 1 → next_out side spot.next ≤ number
    → number < next_out side next.next → numbered number (outs_to side entry.outs) ≡ None → ⊥
has_out side number entries spot next entry sound at after index low high none =
    go first_numbers entries spot.index (omega (arith, first_is_1 side)) sound at.is
    (omega (arith, ap (λ (s : Spot). next_out side s.next) at.at, low))
    (omega (arith, ap (λ (s : Spot). next_out side s.next) (after ∙ step), high))
  where
    step : behind (take next.index entries) ≡ behind (take (suc spot.index) entries)
    step = let e : next.index ≡ suc spot.index = omega (arith, index) in
        ap (λ (n : ℕ). behind (take n entries)) e

    -- with a new day no number is given out
    at_entry : (b : Bool) (before : Next) (e : Entry) → 1 ≤ next_out side before → e.reset ≡ b
        → IsEntry e → GoesOn (numbers_before before e) e → next_out side before ≤ number
        → number < next_out side e.next → numbered number (outs_to side e.outs) ≡ None → ⊥
    at_entry true before e one is sound on low high none = absurd (omega (
      arith,
      one,
      low,
      high,
      ap (next_out side) (sound.reset is).next,
      first_is_1 side,
    ))
    at_entry false before e one is sound on low high none = in_one side number before e
        (subst (λ (n : Next). GoesOn n e) (before_more before e is) on) low high none

    go : (before : Next) (es : List Entry) (i : ℕ) → 1 ≤ next_out side before
        → DaysGoOn before es → slice_get es i ≡ Some entry
        → next_out side (numbers_after before (take i es)) ≤ number
        → number < next_out side (numbers_after before (take (suc i) es)) → ⊥
    go before [] i one are e low high = absurd (cc e)
    go before (a ∷ es) zero one are e low high =
        let is : a ≡ entry = cc e in
        at_entry a.reset before a one refl are.0 are.1 low high
        (ap (λ (x : Entry). numbered number (outs_to side x.outs)) is ∙ none)
    go before (a ∷ es) (suc i) one are e low high =
        go a.next es i (at_least_1 side a are.0) are.2 e low high

-- an entry of the journal that has it is the one that gave it out
pub given_is : (side : Side) (number : ℕ) (entries : List Entry) (i : ℕ) (entry : Entry)
    (what : OutAt) → AreEntries first_numbers entries → slice_get entries i ≡ Some entry
    → next_out side (numbers_after first_numbers (take i entries)) ≤ number
    → IsGivenAs (given_in side number entry) what
    → IsGivenAs (given side number entries) what
given_is side number entries i entry what sound here low tells =
    go first_numbers entries i sound here low
  where
    go : (before : Next) (es : List Entry) (j : ℕ) → AreEntries before es
        → slice_get es j ≡ Some entry → next_out side (numbers_after before (take j es)) ≤ number
        → IsGivenAs (given side number es) what
    go before [] j are e low = absurd (cc e)
    go before (a ∷ es) zero are e low =
        let is : a ≡ entry = cc e in
        first (given_in side number a) refl
        (subst (λ (x : Entry). IsGivenAs (given_in side number x) what) (sym is) tells)
      where
        first : (g : Option Given) → given_in side number a ≡ g → IsGivenAs g what
            → IsGivenAs (given side number (a ∷ es)) what
        first None e tells = absurd tells
        first (Some one) e tells =
            subst (λ g. IsGivenAs g what) (sym (here_is side number a es one e)) tells
    go before (a ∷ es) (suc j) are e low =
        let past : next_out side a.next ≤ number = omega (
          arith,
          low,
          rise_take side a.next es 0 j are.2 (omega arith),
        ) in
        subst (λ g. IsGivenAs g what) (sym (behind_is side number a es
        (above_entry side number before a are.1 past))) (go a.next es j are.2 e low)

-- the same on the last day
pub given_today : (side : Side) (number : ℕ) (entries : List Entry) (i : ℕ) (entry : Entry)
    (what : OutAt) → DaysGoOn first_numbers entries → length (past_of entries) ≤ i
    → slice_get entries i ≡ Some entry
    → next_out side (numbers_after first_numbers (take i entries)) ≤ number
    → IsGivenAs (given_in side number entry) what
    → IsGivenAs (given side number (last_day entries)) what
given_today side number entries i entry what sound in_day here low tells =
    given_is side number (last_day entries) (i - length (past_of entries)) entry what
    (last_is_sound entries sound) (sym (entry_in entries sound i in_day) ∙ here)
    (omega (arith, low, ap (next_out side) (numbers_at entries sound i in_day))) tells

-- ---- a walk to it

module _ (entries : List Entry) (side : Side) (number : ℕ)
    (below : number < next_out side (numbers_after first_numbers entries)) where
  -- while the number is not passed, an entry stands there
  pub walk_stands : (spot : Spot) → IsSpot entries spot → next_out side spot.next ≤ number
      → (entry : Entry) × StandsAt entries spot entry
  walk_stands spot at low = by (leb (length entries) spot.index) refl
    where
      by : (b : Bool) → leb (length entries) spot.index ≡ b
          → (entry : Entry) × StandsAt entries spot entry
      by true past =
          let all = take_all spot.index entries (leb-true (length entries) spot.index past) in
          absurd (omega (
            arith,
            ap (λ (s : Spot). next_out side s.next) at,
            ap (λ (es : List Entry). next_out side (numbers_after first_numbers es)) all,
            low,
            below,
          ))
      by false within =
          let here = get_some entries spot.index (not_past (length entries) spot.index within) in
          (here.0, record { at = at; is = here.1 })

-- where a walk to it begins
pub walk_begins : (entries : List Entry) (side : Side) (number : ℕ) (mark spot there : Spot)
    → HoldsOut entries side number mark → IsSpot entries there
    → (day_start entries ≤ there.index → next_out side there.next ≤ number)
    → (spot ≡ mark) ⊎ (spot ≡ there) → mark.index ≤ spot.index
    → IsSpot entries spot × (next_out side spot.next ≤ number)
walk_begins entries side number mark spot there holds is passed (inl at) from =
    subst (λ (s : Spot). IsSpot entries s × (next_out side s.next ≤ number)) (sym at)
    (holds.at, holds.from)
walk_begins entries side number mark spot there holds is passed (inr at) from =
    let index : spot.index ≡ there.index = ap (λ (s : Spot). s.index) at in
    subst (λ (s : Spot). IsSpot entries s × (next_out side s.next ≤ number)) (sym at)
    (is, passed (omega (arith, holds.in_day, from, index)))

-- a read that another call handed on was refused, so no payload stands there
pub unread_refused : {T : Type 0} (r : Result T JournalError) (error : JournalError)
    (told : Option (List ℕ)) (place : ℕ) → IsErrAnd r (λ e. e ≡ error) → Unread told place error
    → (at : ℕ) → r ≡ Err (errors.Refused at) → HasNoPayload told place
unread_refused (Ok value) error told place is unread at e = absurd (cc e)
unread_refused (Err x) error told place is unread at e =
    let same : x ≡ errors.Refused at = cc e in
    subst (Unread told place) (sym is ∙ same) unread

-- a disk of which nothing follows tells nothing
pub untold : (told : Option (List ℕ)) → ForSome told (λ b. ⊥) → told ≡ None
untold None empty = refl
untold (Some b) empty = absurd (empty b refl)

-- an error that another call handed on is a refusal only over a disk that tells nothing
pub refused_untold : {T : Type 0} (U : Type 0) (r : Result T JournalError) (error : JournalError)
    (told : Option (List ℕ)) → IsErrAnd r (λ e. e ≡ error) → OnlyReading {T = U} (Err error)
    → ((at : ℕ) → error ≡ errors.Refused at → told ≡ None) → RefusedUntold told r
refused_untold U (Ok value) error told is only none = absurd is
refused_untold {T} U (Err x) error told is only none =
    subst (λ (e : JournalError). RefusedUntold {T = T} told (Err e)) (sym is) (by error only none)
  where
    by : (e : JournalError) → OnlyReading {T = U} (Err e)
        → ((at : ℕ) → e ≡ errors.Refused at → told ≡ None) → RefusedUntold {T = T} told (Err e)
    by (errors.Refused at) only none = none at refl
    by (errors.NamesDiffer kept other) only none = absurd only
    by errors.Full only none = absurd only
    by errors.DiskFault only none = tt
    by errors.NoMemory only none = tt
