-- Worked counts, by computation alone.
use Rattle.std.proofs.Common.{◌≡◌, ℕ, ◌-◌, ◌^◌, List, [], ◌∷◌, ◌++◌, refl, false, Some}
use Rattle.std.specs.Prelude.{codes}
use Rattle.order_meaning.specs.declared.Side.{Side}
use Rattle.order_meaning.specs.declared.Side.TheVariants.{Client, Venue}
use Rattle.pair_entries.specs.declared.entry.Out.{Out}
use Rattle.pair_entries.specs.declared.entry.Entry.{Entry}
use Rattle.drop_taps.specs.Tap.{all_counted, grown, entries_alone}

abbrev out : Side → List ℕ → Out
out side msg_type = record {
  side = side;
  number = 3;
  admin = false;
  resend = false;
  msg_type = msg_type;
  content = [];
}

-- the client's message 2 of a type, and what is given out for it
abbrev entry : List ℕ → List Out → Entry
entry msg_type outs = record {
  at = 258;
  reset = false;
  took = Some (record {
    side = Client;
    number = 2;
    raw = codes "35=" ++ msg_type ++ 1 ∷ [];
  });
  next = (3, 1, 1, 4);
  outs = outs;
}

order : all_counted (entry (codes "D") (out Venue (codes "D") ∷ [])) (entries_alone 5)
    ≡ record { entries = 6; requests = 1; reports = 0; refusals = 0 }
order = refl

refused : all_counted (entry (codes "D") (out Client (codes "j") ∷ [])) (entries_alone 0)
    ≡ record { entries = 1; requests = 0; reports = 0; refusals = 1 }
refused = refl

both_rejected : all_counted (entry (codes "D")
    (out Client (codes "3") ∷ out Venue (codes "3") ∷ out Client (codes "5") ∷ []))
    (entries_alone 0)
    ≡ record { entries = 1; requests = 0; reports = 0; refusals = 2 }
both_rejected = refl

-- a D to the client translates nothing
no_report : all_counted (entry (codes "D") (out Client (codes "D") ∷ [])) (entries_alone 0)
    ≡ entries_alone 1
no_report = refl

full : grown (2 ^ 64 - 2) 3 ≡ 2 ^ 64 - 1
full = refl
