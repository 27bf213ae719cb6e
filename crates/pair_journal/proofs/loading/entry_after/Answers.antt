use Rattle.std.proofs.Common.{◌≡◌, ◌∙◌, ◌++◌, ◌+◌, ◌<◌, ◌^◌, ℕ, List, IsTrue, ap, sym, subst, arith}
use Rattle.std.specs.Int.{w32, to_be_bytes}
use Rattle.gate_log.proofs.Blocks.{same_front}
use Rattle.pair_entries.specs.declared.entry.Entry.{Entry}
use Rattle.pair_entries.specs.Payload.{Next, IsEntry, entry_bytes, payload_on}
use Rattle.pair_entries.proofs.Same.{same_entry}
use Rattle.kept_entries.specs.Numbers.{GoesOn, numbers_before}
use Rattle.kept_entries.specs.Days.{day_after}
use Rattle.pair_journal.specs.Loading.{Follows}
use Rattle.kept_entries.proofs.Dating.{after_most}
use Rattle.pair_journal.proofs.Standing.{has_day, behind_day}
use Rattle.pair_journal.proofs.loading.entry_after.Goals as goal

-- the entry that is read is the one that goes on
the_one : (payload bytes : List ℕ) (day on : ℕ) (numbers : Next) (read entry : Entry)
    → payload ≡ to_be_bytes w32 on ++ bytes → on < 2 ^ 32 → day + 1 < 2 ^ 32
    → bytes ≡ entry_bytes read → IsEntry read → Follows day numbers payload entry
    → (read ≡ entry) × (on ≡ day_after day entry)
the_one payload bytes day on numbers read entry dated short next spelt sound follows =
    let whole = same_front on (day_after day entry) bytes (entry_bytes entry) short
    (omega (arith, next, after_most day entry.reset)) (sym dated ∙ follows.written) in
    (same_entry read entry sound follows.sound (sym spelt ∙ whole.1), whole.0)

pub returns-in_default : goal.returns-in_default
returns-in_default c = λ entry follows.
    has_day c.args.payload.now entry (day_after c.args.day entry, follows.written)
    c.in_default.ensures

pub returns-in_default-entry_ref : goal.returns-in_default-entry_ref
returns-in_default-entry_ref c = λ entry follows.
    c.in_default-entry_ref.ensures entry follows.sound
    (behind_day c.args.payload.now c.in-Some.bytes.now c.in-Some.on entry
    (day_after c.args.day entry, follows.written) c.in-Some.ensures.0)

pub returns-then-on-day_after : goal.returns-then-on-day_after
returns-then-on-day_after c = λ entry follows.
    let x = c.in-Some-entry_ref.ensures in
    let one = the_one c.args.payload.now c.in-Some.bytes.now c.args.day c.in-Some.on
    c.args.numbers c.in-Some-entry_ref.entry entry c.in-Some.ensures.0 c.in-Some.ensures.1
    c.requires x.0 x.1 follows in
    c.if-on-day_after.true (one.1 ∙ ap (λ (e : Entry). day_after c.args.day e) (sym one.0)
    ∙ sym c.day_after.ensures)

pub returns-then-not-goes_on : goal.returns-then-not-goes_on
returns-then-not-goes_on c = λ entry follows.
    let x = c.in-Some-entry_ref.ensures in
    let one = the_one c.args.payload.now c.in-Some.bytes.now c.args.day c.in-Some.on
    c.args.numbers c.in-Some-entry_ref.entry entry c.in-Some.ensures.0 c.in-Some.ensures.1
    c.requires x.0 x.1 follows in
    let on = subst (λ (e : Entry). GoesOn (numbers_before c.args.numbers e) e) (sym one.0)
    follows.goes_on in
    let test : IsTrue c.goes_on.result = c.goes_on.ensures.1
    (subst (λ (n : Next). GoesOn n c.in-Some-entry_ref.entry) (sym c.numbers_before.ensures) on) in
    let no = subst IsTrue c.if-not-goes_on.true test in
    absurd (cc no)

pub returns : goal.returns
returns c =
    let x = c.in-Some-entry_ref.ensures in
    record {
      written = c.in-Some.ensures.0 ∙ ap (λ b. to_be_bytes w32 c.in-Some.on ++ b) x.0
          ∙ ap (λ n. payload_on n c.in-Some-entry_ref.entry)
          (c.if-on-day_after.false ∙ c.day_after.ensures);
      sound = x.1;
      goes_on = subst (λ (n : Next). GoesOn n c.in-Some-entry_ref.entry) c.numbers_before.ensures
          (c.goes_on.ensures.0 c.if-not-goes_on.false);
    }
