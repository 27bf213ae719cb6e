-- A journal of format 1 beside its image in format 2.
use Rattle.std.proofs.Common.{◌≡◌, ℕ, ◌+◌, ◌-◌, ◌*◌, ◌<◌, ◌≤◌, List, [], ◌∷◌, length, map}
use Rattle.std.proofs.Common.{refl, ◌∙◌, ap, arith, length-append}
use Rattle.std.proofs.lemmas.List.{length-map}
use Rattle.order_meaning.specs.declared.names.Names.{Names}
use Rattle.outside.specs.declared.disk.TheConstants.{MAX_DISK}
use Rattle.gate_log.specs.Records.{blocks, AllSized}
use Rattle.gate_log.specs.Log.{StandsOver}
use Rattle.gate_log.specs.State.{LogState}
use Rattle.gate_log.proofs.Blocks.{Stands-unique}
use Rattle.pair_entries.specs.declared.entry.Entry.{Entry}
use Rattle.pair_entries.specs.Payload.{Next, entry_bytes}
use Rattle.pair_entries.specs.Birth.{birth_bytes}
use Rattle.pair_entries.proofs.Names.{birth_size}
use Rattle.pair_entries.proofs.Fronts.{entry_short}
use Rattle.kept_entries.specs.Numbers.{first_numbers}
use Rattle.kept_entries.specs.Days.{dated, day_after}
use Rattle.kept_entries.specs.Entries.{DaysGoOn}
use Rattle.pair_journal.specs.Journal.{Born}
use Rattle.pair_journal.specs.Calls.{payloads_of}
use Rattle.journal_migrate.specs.Format1.{JournalOf1, birth1_bytes, payloads1_of}
use Rattle.journal_migrate.specs.Migrating.{image_of, IsTwin, IsTooLong}

-- four bytes more for each entry
dated_longer : (day : ℕ) (es : List Entry)
    → length (blocks (dated day es)) ≡ length (blocks (map entry_bytes es)) + 4 * length es
dated_longer day [] = refl
dated_longer day (e ∷ es) =
    omega (
      arith,
      dated_longer (day_after day e) es,
      length-append (entry_bytes e) (blocks (dated (day_after day e) es)),
      length-append (entry_bytes e) (blocks (map entry_bytes es)),
    )

as_long : (names : Names) → length (birth1_bytes names) ≡ length (birth_bytes names)
as_long names = refl

longer : (names : Names) (entries : List Entry) → length (blocks (payloads_of names entries))
    ≡ length (blocks (payloads1_of names entries)) + 4 * length entries
longer names entries =
    omega (
      arith,
      as_long names,
      dated_longer 0 entries,
      length-append (birth_bytes names) (blocks (dated 0 entries)),
      length-append (birth1_bytes names) (blocks (map entry_bytes entries)),
    )

all_sized : (day : ℕ) (before : Next) (es : List Entry) → DaysGoOn before es
    → AllSized (dated day es)
all_sized day before [] are = tt
all_sized day before (e ∷ es) are = (
  (omega arith, omega (arith, entry_short e are.0)),
  all_sized (day_after day e) e.next es are.2,
)

module _ (bytes : List ℕ) (log : LogState) (over : StandsOver log bytes)
    (names : Names) (entries : List Entry) (born : JournalOf1 bytes (Born names entries)) where
  -- how long the records are in format 2, by the log of format 1
  extent : length (blocks (payloads_of names entries)) ≡ log.end + 4 * (log.count - 1)
  extent =
      let same : over.0 ≡ payloads1_of names entries =
      Stands-unique bytes over.0 born.0 over.1.stands born.1 ∙ born.2.written in
      omega (
        arith,
        longer names entries,
        over.1.end,
        over.1.number,
        ap (λ (l : List (List ℕ)). length (blocks l)) same,
        ap length same,
        length-map entries entry_bytes,
      )

  pub twin : log.end + 4 * (log.count - 1) < MAX_DISK → IsTwin bytes (image_of names entries)
  twin short = record {
    names = names;
    entries = entries;
    before = born;
    is = refl;
    after = (
      payloads_of names entries,
      record {
        gate = 0;
        after = [];
        split = refl;
        shut = λ is. omega (arith, is);
        fit = (birth_size names born.2.named, all_sized 0 first_numbers entries born.2.sound);
        within = omega (arith, extent, short);
      },
      record { written = refl; named = born.2.named; sound = born.2.sound },
    );
  }

  pub too_long : MAX_DISK ≤ log.end + 4 * (log.count - 1) → IsTooLong bytes
  too_long long = record {
    names = names;
    entries = entries;
    before = born;
    long = omega (arith, extent, long, length-append (blocks (payloads_of names entries)) (0 ∷ []));
  }
