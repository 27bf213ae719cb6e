-- A life begins with all that holds, where its journal is lawful and justifies what was written and
-- read.
use Rattle.std.proofs.Common.{◌≡◌, ◌+◌, Bool, false, List, [], ◌∷◌, ◌++◌, length, refl, sym, ap}
use Rattle.std.proofs.Common.{subst, append_assoc, append-nil}
use Rattle.std.specs.Option.{option_to_list}
use Rattle.std.specs.declared.option.Option.{Option}
use Rattle.order_meaning.specs.declared.Side.{Side}
use Rattle.order_meaning.specs.declared.Side.TheVariants.{Client, Venue}
use Rattle.order_meaning.specs.declared.names.Names.{Names}
use Rattle.pair_entries.specs.declared.entry.Entry.{Entry}
use Rattle.kept_entries.specs.Numbers.{next_out, numbers_after, first_numbers}
use Rattle.event_decisions.specs.Decide.{Asked, Words, Sessions, AreSides, numbers_of, IsDecided}
use Rattle.event_decisions.specs.Decide.{LawfulAfter, IsLawful}
use Rattle.wires.specs.Wire.{Connection}
use Rattle.life_laws.specs.Justified.{IsJustified}
use Rattle.life_laws.specs.Bodies.{bodies_read}
use Rattle.life_laws.specs.Forms.{all_placed}
use Rattle.life_laws.specs.Standing.{NumberedFrom, Standing, Holds}
use Rattle.life_laws.proofs.Decided.{extends}
use Rattle.life_laws.proofs.Keep.{numbered-keep}
use Rattle.life_laws.proofs.World.{counted-keep}

abbrev pub Counts : List Entry → Type 0
Counts entries = ((side : Side) → next_out side (numbers_after first_numbers entries)
    ≡ length (all_placed side entries) + 1) × ((side : Side)
    → NumberedFrom 1 (all_placed side entries))

module _ (answers : List Entry → (active : Bool) → Option Asked → Option Words
    → Type 0) (names : Names) where
  one-more : (before : List Entry) (e : Entry) → IsDecided answers names before e → Counts before
      → Counts (before ++ e ∷ [])
  one-more before e is so_far =
      let adds = extends names is.window before is.sessions is.event e.at is.decides.words
      is.decision is.decides.decided is.sides is.numbers so_far.0 in
      let grown : before ++ option_to_list is.decision.entry ≡ before ++ e ∷ [] = ap (λ o. before
      ++ option_to_list o) is.is in (
        (λ side. subst (λ l. next_out side (numbers_after first_numbers l)
            ≡ length (all_placed side l) + 1) grown
            (counted-keep side before is.event e.at is.decision adds (so_far.0 side))),
        (λ side. subst (λ l. NumberedFrom 1 (all_placed side l)) grown
            (numbered-keep side before is.event e.at is.decision adds (so_far.1 side))),
      )

  counts-after : (before entries : List Entry) → LawfulAfter answers names before entries
      → Counts before → Counts (before ++ entries)
  counts-after before [] lawful so_far = subst Counts (sym (append-nil before)) so_far
  counts-after before (e ∷ entries) lawful so_far =
      subst Counts (append_assoc before (e ∷ []) entries) (counts-after (before
      ++ e ∷ []) entries lawful.1 (one-more before e lawful.0 so_far))

  none : Counts []
  none = ((λ side. first side), (λ side. tt))
    where
      first : (side : Side) → next_out side (numbers_after first_numbers [])
          ≡ length (all_placed side []) + 1
      first Client = refl
      first Venue = refl

  stands : (entries : List Entry) (side : Side) (links : List Connection)
      → IsJustified names entries side links → Standing names entries side links false []
  stands entries side links j = record {
    forms = j.forms;
    shows = j.shows;
    once = j.once;
    whole = λ e. absurd (cc e);
    done = bodies_read side links;
    bodies = sym (append-nil (bodies_read side links));
    tooks = j.tooks;
  }

  pub begins : (entries : List Entry) (s : Sessions) (cl vl : List Connection)
      → IsLawful answers names entries → AreSides s → numbers_of s
      ≡ numbers_after first_numbers entries → IsJustified names entries Client cl
      → IsJustified names entries Venue vl → Holds answers names
      (record { entries = entries; sessions = s; client_up = false; venue_up = false }) cl vl [] []
  begins entries s cl vl lawful sides numbers cj vj =
      let counts = counts-after [] entries lawful none in
      record {
        lawful = lawful;
        sides = sides;
        numbers = numbers;
        counted = counts.0;
        in_order = counts.1;
        client = stands entries Client cl cj;
        venue = stands entries Venue vl vj;
      }
