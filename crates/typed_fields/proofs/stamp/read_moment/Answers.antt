use Rattle.std.proofs.Common.{◌≡◌, ℕ, List, true, codes, take, length, ◌≤◌, refl, arith}
use Rattle.std.proofs.lemmas.List.{length-take}
use Rattle.typed_fields.specs.Digits.{has_pattern}
use Rattle.typed_fields.proofs.DigitsLemmas.{digits_of_pattern, length-has_pattern}
use Rattle.typed_fields.proofs.DigitsLemmas.{slice_range-take}
use Rattle.typed_fields.proofs.stamp.read_moment.Goals as goal

-- the bytes are as many as the form of whole seconds has
long : (bytes : List ℕ)
    → has_pattern (codes "YYYYMMDD-HH:MM:SS") (take 17 bytes) ≡ true → 17 ≤ length bytes
long bytes h = omega (arith, length-has_pattern _ _ h, length-take 17 bytes)

pub number_at-hour-requires-clause-within : goal.number_at-hour-requires-clause-within
number_at-hour-requires-clause-within c = omega (arith, long c.args.bytes.now c.requires.form)

pub number_at-hour-requires-clause-digits : goal.number_at-hour-requires-clause-digits
number_at-hour-requires-clause-digits c =
    rw (slice_range-take c.args.bytes.now 17 9 11 (omega arith)) at (digits_of_pattern
    (codes "YYYYMMDD-HH:MM:SS") (take 17 c.args.bytes.now) 9 11 c.requires.form refl)

pub number_at-minute-requires-clause-within : goal.number_at-minute-requires-clause-within
number_at-minute-requires-clause-within c = omega (arith, long c.args.bytes.now c.requires.form)

pub number_at-minute-requires-clause-digits : goal.number_at-minute-requires-clause-digits
number_at-minute-requires-clause-digits c =
    rw (slice_range-take c.args.bytes.now 17 12 14 (omega arith)) at (digits_of_pattern
    (codes "YYYYMMDD-HH:MM:SS") (take 17 c.args.bytes.now) 12 14 c.requires.form refl)

pub number_at-second-requires-clause-within : goal.number_at-second-requires-clause-within
number_at-second-requires-clause-within c = omega (arith, long c.args.bytes.now c.requires.form)

pub number_at-second-requires-clause-digits : goal.number_at-second-requires-clause-digits
number_at-second-requires-clause-digits c =
    rw (slice_range-take c.args.bytes.now 17 15 17 (omega arith)) at (digits_of_pattern
    (codes "YYYYMMDD-HH:MM:SS") (take 17 c.args.bytes.now) 15 17 c.requires.form refl)

pub day_number-requires-clause-long : goal.day_number-requires-clause-long
day_number-requires-clause-long c = omega (arith, long c.args.bytes.now c.requires.form)

pub day_number-requires-clause-digits : goal.day_number-requires-clause-digits
day_number-requires-clause-digits c =
    rw (slice_range-take c.args.bytes.now 17 0 8 (omega arith)) at (digits_of_pattern
    (codes "YYYYMMDD-HH:MM:SS") (take 17 c.args.bytes.now) 0 8 c.requires.form refl)
