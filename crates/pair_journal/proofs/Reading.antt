-- What a walk over the records of a log, on a disk that may tell its bytes, says of a journal.
use Rattle.std.proofs.Common.{◌≡◌, inr, ℕ, ◌<◌, ◌≤◌, List, ◌∷◌, ◌++◌, length, [], sym, ◌∙◌, ap}
use Rattle.std.proofs.Common.{subst, arith, length-append, IfSome, IfErr, Some, Ok, Err}
use Rattle.std.specs.Prelude.{Result, IsErrAnd}
use Rattle.std.specs.Option.{ForSome}
use Rattle.std.specs.declared.option.Option.{Option}
use Rattle.order_meaning.specs.declared.names.Names.{Names}
use Rattle.gate_log.specs.Records.{blocks, Stands}
use Rattle.gate_log.specs.Log.{IsAt, StandsOver, ReadsPayload}
use Rattle.gate_log.specs.State.{LogState}
use Rattle.gate_log.proofs.Blocks.{Stands-unique, blocks-append}
use Rattle.gate_log.proofs.Told.{if_some, at_some}
use Rattle.pair_entries.specs.declared.entry.Entry.{Entry}
use Rattle.pair_entries.specs.Payload.{Next}
use Rattle.pair_journal.specs.declared.error.JournalError.{JournalError}
use Rattle.pair_journal.specs.declared.error.JournalError.TheVariants as errors
use Rattle.pair_entries.specs.Birth.{AreNames, birth_bytes}
use Rattle.pair_journal.specs.Calls.{payloads_of}
use Rattle.pair_journal.specs.Loading.{IsBorn, Follows, Unread, IsMisread, TellsNames, Tells}
use Rattle.pair_journal.specs.Loading.{HasExtent}
use Rattle.pair_journal.proofs.Walking.{Walks, Begins, next_at, all_read, misread, more_begins}
use Rattle.pair_journal.proofs.Walking.{first_at, born, not_born}

-- an error that a call handed on
pub err_misread : {T : Type 0} (r : Result T JournalError) (error : JournalError)
    (told : Option (List ℕ)) → IsErrAnd r (λ e. e ≡ error) → IsMisread told error
    → IfErr r (IsMisread told)
err_misread (Ok value) error told is misread = tt
err_misread (Err e) error told is misread = subst (IsMisread told) (sym is) misread

-- a record ends behind its place
pub at_within : (payloads : List (List ℕ)) (place : ℕ) (p : List ℕ)
    → IsAt payloads place p → place < length (blocks payloads)
at_within payloads place p there = omega (
  arith,
  there.place,
  ap (λ (l : List (List ℕ)). length (blocks l)) there.split,
  ap length (blocks-append there.before (p ∷ there.after)),
  length-append (blocks there.before) (blocks (p ∷ there.after)),
)

-- the list that a disk tells begins with the records of this journal
abbrev pub TellsFront : Option (List ℕ) → Names → List Entry → Type 0
TellsFront told names entries = IfSome told (λ bytes. (payloads : List (List ℕ))
    → Stands bytes payloads → Begins payloads names entries)

pub none_told : (told : Option (List ℕ)) (names : Names)
    → TellsNames told names → TellsFront told names []
none_told told names tells = if_some told _ (λ b e payloads stands.
    let is = at_some told (λ x. (ps : List (List ℕ)) → Stands x ps → IsBorn ps names) b e tells
    payloads stands in
    record { after = is.after; split = is.split })

module _ (told : Option (List ℕ)) (log : LogState) (stands : ForSome told (StandsOver log)) where
  -- where a payload stands at a place, a read there gives up for other causes alone
  pub unread : (place : ℕ) (e : JournalError) → Unread told place e
      → ((payloads : List (List ℕ)) → log.count ≡ length payloads
      → (b : List ℕ) → told ≡ Some b → Stands b payloads
      → (p : List ℕ) × IsAt payloads place p) → IsMisread told e
  unread place (errors.Refused at) none there = if_some told _ (λ b e.
      let over = stands b e in
      let p = there over.0 over.1.number b e over.1.stands in
      absurd (at_some told (λ x. (ps : List (List ℕ)) (q : List ℕ) → Stands x ps
      → IsAt ps place q → ⊥) b e none over.0 p.0 over.1.stands p.1))
  unread place (errors.NamesDiffer kept given) none there = absurd none
  unread place errors.Full none there = absurd none
  unread place errors.DiskFault none there = if_some told _ (λ b e. tt)
  unread place errors.NoMemory none there = if_some told _ (λ b e. tt)

  -- ---- the birth record

  module _ (some : 1 ≤ log.count) where
    first_there : (payloads : List (List ℕ)) → log.count ≡ length payloads
        → (b : List ℕ) → told ≡ Some b → Stands b payloads → (p : List ℕ) × IsAt payloads 0 p
    first_there payloads number b e there = first_at payloads (omega (arith, some, number))

    pub names_unread : (e : JournalError) → Unread told 0 e → IsMisread told e
    names_unread e none = unread 0 e none first_there

    pub names_read : (bytes : List ℕ) (names : Names) → ReadsPayload told 0 bytes
        → bytes ≡ birth_bytes names → AreNames names → TellsNames told names
    names_read bytes names read is named = if_some told _ (λ b e payloads there.
        let over = stands b e in
        let same : over.0 ≡ payloads = Stands-unique b over.0 payloads over.1.stands there in
        born payloads bytes names (omega (arith, some, over.1.number, ap length same))
        (λ p at. at_some told (λ x. (ps : List (List ℕ)) (q : List ℕ) → Stands x ps
        → IsAt ps 0 q → bytes ≡ q) b e read payloads p there at) is named)

    pub names_misread : (bytes : List ℕ) → ReadsPayload told 0 bytes
        → ((names : Names) → AreNames names → bytes ≡ birth_bytes names → ⊥)
        → IsMisread told (errors.Refused 0)
    names_misread bytes read none = if_some told _ (λ b e.
        let over = stands b e in
        inr (
          over.0,
          over.1.stands,
          not_born over.0 bytes (omega (arith, some, over.1.number))
              (λ p at. at_some told (λ x. (ps : List (List ℕ)) (q : List ℕ) → Stands x ps
              → IsAt ps 0 q → bytes ≡ q) b e read over.0 p over.1.stands at) none,
        ))

  -- ---- the entries

  module _ (names : Names) (named : AreNames names) (entries : List Entry) (index place day : ℕ)
      (numbers : Next) (walks : Walks names entries index place day numbers)
      (front : TellsFront told names entries) where
    begins : (b : List ℕ) → told ≡ Some b
        → (payloads : List (List ℕ)) → Stands b payloads → Begins payloads names entries
    begins b e = at_some told (λ x. (ps : List (List ℕ)) → Stands x ps → Begins ps names entries)
        b e front

    module _ (within : index < log.count) where
      there : (payloads : List (List ℕ)) → log.count ≡ length payloads → (b : List ℕ)
          → told ≡ Some b → Stands b payloads → (p : List ℕ) × IsAt payloads place p
      there payloads number b e is = next_at names entries index place day numbers walks payloads
          (begins b e payloads is) (omega (arith, within, number))

      -- a record stands before the end
      pub not_past : log.end ≤ place → IsMisread told (errors.Refused place)
      not_past past = if_some told _ (λ b e.
          let over = stands b e in
          let p = there over.0 over.1.number b e over.1.stands in
          absurd (omega (arith, past, over.1.end, at_within over.0 place p.0 p.1)))

      pub entry_unread : (e : JournalError) → Unread told place e → IsMisread told e
      entry_unread e none = unread place e none there

      module _ (bytes : List ℕ) (read : ReadsPayload told place bytes) where
        reads : (b : List ℕ) → told ≡ Some b → (payloads : List (List ℕ)) → Stands b payloads
            → (p : List ℕ) → IsAt payloads place p → bytes ≡ p
        reads b e payloads is p at = at_some told (λ x. (ps : List (List ℕ)) (q : List ℕ)
            → Stands x ps → IsAt ps place q → bytes ≡ q) b e read payloads p is at

        pub entry_misread : ((entry : Entry) → Follows day numbers bytes entry → ⊥)
            → IsMisread told (errors.Refused place)
        entry_misread none = if_some told _ (λ b e.
            let over = stands b e in
            let is = begins b e over.0 over.1.stands in
            inr (
              over.0,
              over.1.stands,
              misread names entries index place day numbers walks over.0 is
                  bytes (omega (arith, within, over.1.number)) (reads b e over.0 over.1.stands)
                  named none,
            ))

        pub more_told : (entry : Entry) (more : List Entry) → Follows day numbers bytes entry
            → more ≡ entries ++ entry ∷ [] → TellsFront told names more
        more_told entry more follows pushed = if_some told _ (λ b e payloads is.
            let over = stands b e in
            let same : over.0 ≡ payloads = Stands-unique b over.0 payloads over.1.stands is in
            more_begins names entries index place day numbers walks payloads
            (begins b e payloads is) bytes (omega (arith, within, over.1.number, ap length same))
            (reads b e payloads is) entry more follows pushed)

    module _ (done : log.count ≤ index) where
      whole : (b : List ℕ) → (e : told ≡ Some b) → (stands b e).0 ≡ payloads_of names entries
      whole b e =
          let over = stands b e in
          all_read names entries index place day numbers walks over.0
          (begins b e over.0 over.1.stands) (omega (arith, done, over.1.number))

      pub all_told : Tells told names entries
      all_told = if_some told _ (λ b e.
          let over = stands b e in (
            over.0,
            over.1.stands,
            record { written = whole b e; named = named; sound = walks.sound },
          ))

      -- the walk came to the end
      pub not_short : (place ≡ log.end → ⊥) → IsMisread told (errors.Refused place)
      not_short other = if_some told _ (λ b e.
          let over = stands b e in
          absurd (other (walks.stands ∙ ap (λ (l : List (List ℕ)). length (blocks l))
          (sym (whole b e)) ∙ sym over.1.end)))

      pub extent_is : index ≤ log.count → place ≡ log.end → HasExtent log names entries
      extent_is most end = record {
        number = omega (arith, most, done, walks.count);
        end = sym end ∙ walks.stands;
      }
