-- A journal with one entry more, on the disk and in memory.
use Rattle.std.proofs.Common.{◌≡◌, inl, inr, ℕ, ◌+◌, ◌<◌, ◌≤◌, List, [], ◌∷◌, ◌++◌, length}
use Rattle.std.proofs.Common.{refl, sym, ◌∙◌, ap, subst, arith, length-append, Some, None, is_some}
use Rattle.std.proofs.Common.{IfSome}
use Rattle.std.specs.Option.{ForSome}
use Rattle.std.specs.declared.option.Option.{Option}
use Rattle.outside.specs.declared.disk.TheConstants.{MAX_DISK}
use Rattle.outside.specs.Disk.{Only}
use Rattle.order_meaning.specs.declared.names.Names.{Names}
use Rattle.gate_log.specs.Records.{blocks, Stands}
use Rattle.gate_log.specs.Commit.{CommitsOrNot, Commits, WithOrWithout}
use Rattle.gate_log.specs.Log.{HasRoom, StandsOver}
use Rattle.gate_log.specs.State.{LogState}
use Rattle.gate_log.proofs.Blocks.{length-blocks-push}
use Rattle.gate_log.proofs.Told.{if_some, at_some}
use Rattle.pair_entries.specs.declared.entry.Entry.{Entry}
use Rattle.pair_entries.specs.Payload.{Next, IsEntry, payload_on}
use Rattle.pair_entries.specs.Prepared.{OnDay}
use Rattle.pair_entries.specs.Birth.{birth_bytes, AreNames}
use Rattle.pair_entries.proofs.Names.{birth_size}
use Rattle.kept_entries.specs.Numbers.{GoesOn, first_numbers, numbers_before, numbers_after}
use Rattle.kept_entries.specs.Days.{last_day, day_after, day_number, dated, payload_behind}
use Rattle.kept_entries.specs.Entries.{DaysGoOn}
use Rattle.kept_entries.specs.Spots.{end_of}
use Rattle.pair_journal.specs.Journal.{Spells, JournalOf, Born}
use Rattle.pair_journal.specs.State.{JournalState}
use Rattle.pair_journal.specs.Calls.{payloads_of, KeepsJournal}
use Rattle.pair_journal.specs.Loading.{HasExtent}
use Rattle.kept_entries.proofs.Dating.{dated-push, length-dated, DaysGoOn-push, last_numbers}

-- where the records of a journal end
pub place_is : (names : Names) (entries : List Entry)
    → AreNames names → length (blocks (payloads_of names entries)) ≡ end_of entries
place_is names entries named = omega (
  arith,
  birth_size names named,
  length-append (birth_bytes names) (blocks (dated 0 entries)),
)

pub payloads-push : (names : Names) (entries : List Entry) (entry : Entry) → payloads_of
    names entries ++ payload_behind entries entry ∷ [] ≡ payloads_of names (entries ++ entry ∷ [])
payloads-push names entries entry =
    ap (λ (l : List (List ℕ)). birth_bytes names ∷ l) (sym (dated-push entries entry))

-- the payload of an entry that was dated
pub dated_behind : (entries : List Entry) (entry said : Entry) (before day : ℕ) (dated : OnDay)
    (payload : List ℕ) → before ≡ day_number entries → said ≡ entry → day ≡ day_after before said
    → dated ≡ record { day = day; entry = entry } → payload ≡ payload_on dated.day dated.entry
    → payload ≡ payload_behind entries entry
dated_behind entries entry said before day dated payload number same step is written =
    written ∙ ap (λ (d : OnDay). payload_on d.day d.entry) is
    ∙ ap (λ n. payload_on n entry) (step ∙ ap (day_after before) same
    ∙ ap (λ n. day_after n entry) number)

-- payloads of a journal with one entry more
pub spells_more : (payloads : List (List ℕ)) (names : Names) (entries : List Entry) (entry : Entry)
    (payload : List ℕ) → Spells payloads names entries → payload ≡ payload_behind entries entry
    → IsEntry entry → GoesOn (numbers_before (numbers_after first_numbers entries) entry) entry
    → Spells (payloads ++ payload ∷ []) names (entries ++ entry ∷ [])
spells_more payloads names entries entry payload spelt written is on = record {
  written = ap (λ (l : List (List ℕ)). l ++ payload ∷ []) spelt.written
      ∙ ap (λ (p : List ℕ). payloads_of names entries ++ p ∷ []) written
      ∙ payloads-push names entries entry;
  named = spelt.named;
  sound = DaysGoOn-push first_numbers entries entry spelt.sound is on;
}

-- bytes of a journal are those of the log under it
pub stands_log : (bytes : List ℕ) (log : LogState) (inside journal : JournalState)
    → inside ≡ journal → HasExtent log inside.names inside.entries
    → JournalOf bytes (Born journal.names journal.entries) → StandsOver log bytes
stands_log bytes log inside journal seen has (payloads, stands, spelt) =
    let extent = subst (λ (s : JournalState). HasExtent log s.names s.entries) seen has in (
      payloads,
      record {
        stands = stands;
        number = omega (
          arith,
          extent.number,
          ap length spelt.written,
          length-dated 0 journal.entries,
        );
        end = extent.end ∙ ap (λ (l : List (List ℕ)). length (blocks l)) (sym spelt.written);
      },
    )

-- ---- what a commit leaves

module _ (entry : Entry) (payload : List ℕ) (is : IsEntry entry) where
  -- in memory, once the log has the payload and the list of entries has the copy
  pub extent_more : (old new : LogState) (names : Names) (entries after : List Entry)
      (copy : Entry) → payload ≡ payload_behind entries entry → HasExtent old names entries
      → new.count ≡ old.count + 1 → new.end ≡ old.end + 5 + length payload
      → after ≡ entries ++ copy ∷ [] → copy ≡ entry → HasExtent new names after
  extent_more old new names entries after copy written has count end pushed same =
      let es : after ≡ entries ++ entry ∷ [] =
      pushed ∙ ap (λ (x : Entry). entries ++ x ∷ []) same in
      subst (HasExtent new names) (sym es) (record {
        number = omega (arith, count, has.number, length-append entries (entry ∷ []));
        end = omega (
          arith,
          end,
          has.end,
          ap length written,
          length-blocks-push (payloads_of names entries) (payload_behind entries entry),
          ap (λ (l : List (List ℕ)). length (blocks l)) (payloads-push names entries entry),
        );
      })

  -- on the disk, whatever the log answered
  module _ (told : Option (List ℕ)) (journal : JournalState)
      (written : payload ≡ payload_behind journal.entries entry)
      (on : GoesOn (numbers_before (numbers_after first_numbers journal.entries) entry) entry)
      (stands : ForSome told (λ b. JournalOf b (Born journal.names journal.entries))) where
    pub keeps_journal : (before after : List ℕ → Type 0)
        → CommitsOrNot told before after payload → KeepsJournal told before after journal entry
    keeps_journal before after commits = if_some told _ (λ b e only image left.
        let j = stands b e in
        elim (at_some told (λ x. Only x before → (ps : List (List ℕ)) → Stands x ps
        → (i : List ℕ) → after i → WithOrWithout ps payload i)
        b e commits.each only j.0 j.1 image left) [
          | inl old ↦ inl (j.0, old, j.2)
          | inr new ↦ inr (
            j.0 ++ payload ∷ [],
            new,
            spells_more j.0 journal.names journal.entries entry payload j.2 written is on,
          )
        ])

    pub stands_more : (told1 : Option (List ℕ)) → is_some told1 ≡ is_some told
        → Commits told told1 payload
        → ForSome told1 (λ b. JournalOf b (Born journal.names (journal.entries ++ entry ∷ [])))
    stands_more told1 same commits x e = go told refl
      where
        go : (o : Option (List ℕ)) → told ≡ o
            → JournalOf x (Born journal.names (journal.entries ++ entry ∷ []))
        go None none = absurd (cc (ap is_some none, ap is_some e, same))
        go (Some y) some =
            let j = stands y some in
            let answer = at_some told (λ z. (qs : List (List ℕ)) → Stands z qs → IfSome told1
            (λ after. Stands after (qs ++ payload ∷ []))) y some commits.added j.0 j.1 in (
              j.0 ++ payload ∷ [],
              at_some told1 (λ z. Stands z (j.0 ++ payload ∷ [])) x e answer,
              spells_more j.0 journal.names journal.entries entry payload j.2 written is on,
            )

-- the room that a log has is that of its journal
module _ (log : LogState) (names : Names) (entries : List Entry) (entry : Entry) (payload : List ℕ)
    (has : HasExtent log names entries) (written : payload ≡ payload_behind entries entry) where
  pub has_room : log.end + 5 + length payload < MAX_DISK
      → HasRoom (payloads_of names entries) (payload_behind entries entry)
  has_room room = omega (arith, room, has.end, ap length written)

  pub has_none : MAX_DISK ≤ log.end + 5 + length payload
      → MAX_DISK ≤ length (blocks (payloads_of names entries)) + 5
      + length (payload_behind entries entry)
  has_none full = omega (arith, full, has.end, ap length written)

pub goes_on_inside : (inside journal : JournalState) (entry : Entry) → inside ≡ journal
    → DaysGoOn first_numbers inside.entries
    → GoesOn (numbers_before (numbers_after first_numbers (last_day journal.entries)) entry) entry
    → GoesOn (numbers_before (numbers_after first_numbers inside.entries) entry) entry
goes_on_inside inside journal entry seen sound on =
    subst (λ (n : Next). GoesOn (numbers_before n entry) entry)
    (last_numbers inside.entries sound)
    (subst (λ (s : JournalState). GoesOn (numbers_before
    (numbers_after first_numbers (last_day s.entries)) entry) entry) (sym seen) on)
