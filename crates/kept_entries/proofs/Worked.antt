-- The days of a journal, worked by computation alone.
use Rattle.std.proofs.Common.{◌≡◌, [], ◌∷◌, List, ℕ, true, false, Some, None, take, map, refl}
use Rattle.std.specs.Prelude.{codes}
use Rattle.order_meaning.specs.declared.Side.TheVariants.{Venue}
use Rattle.pair_entries.specs.declared.entry.Entry.{Entry}
use Rattle.kept_entries.specs.Days.{days_of, last_day, day_at, dated}
use Rattle.kept_entries.specs.Given.{given}
use Rattle.kept_entries.specs.Numbers.{first_numbers, numbers_before, numbers_after}

abbrev logon : (at next : ℕ) → Entry
logon at next = record {
  at = at;
  reset = false;
  took = None;
  next = (1, 1, 1, next);
  outs = (record {
    side = Venue;
    number = 1;
    admin = true;
    resend = false;
    msg_type = codes "A";
    content = [];
  }) ∷ [];
}

abbrev new_day : ℕ → Entry
new_day at = record { at = at; reset = true; took = None; next = (1, 1, 1, 1); outs = [] }

-- a Logon, a new day, and the first Logon of that day, which has number 1 again
abbrev two_days : List Entry
two_days = logon 5 2 ∷ new_day 7 ∷ logon 8 2 ∷ []

days_are : days_of two_days ≡ record { ended = (logon 5 2 ∷ []) ∷ []; present = logon 8 2 ∷ [] }
days_are = refl

-- a day without an entry is one, too
empty_days : days_of (new_day 7 ∷ new_day 9 ∷ [])
    ≡ record { ended = [] ∷ [] ∷ []; present = [] }
empty_days = refl

-- the last day began with the entry that began it, or with the first of all
begins : (day_at [] ≡ None) × (day_at (logon 5 2 ∷ logon 6 3 ∷ []) ≡ Some 5)
    × (day_at two_days ≡ Some 7)
begins = (refl, refl, refl)

-- its number stands in front of each payload: 0, 1 and 1
numbered : map (take 4) (dated 0 two_days)
    ≡ (0 ∷ 0 ∷ 0 ∷ 0 ∷ []) ∷ (0 ∷ 0 ∷ 0 ∷ 1 ∷ []) ∷ (0 ∷ 0 ∷ 0 ∷ 1 ∷ []) ∷ []
numbered = refl

-- numbers go on from the first ones where a day begins
from : (numbers_before (5, 6, 7, 8) (new_day 7) ≡ first_numbers)
    × (numbers_before (5, 6, 7, 8) (logon 5 2) ≡ (5, 6, 7, 8))
    × (numbers_after first_numbers two_days ≡ (1, 1, 1, 2))
from = (refl, refl, refl)

-- the venue's out 1 of the last day
given_today : given Venue 1 (last_day two_days)
    ≡ Some (record {
      entry = logon 8 2;
      out = record {
        side = Venue;
        number = 1;
        admin = true;
        resend = false;
        msg_type = codes "A";
        content = [];
      };
    })
given_today = refl
