-- Worked examples: bodies and groups with what the standard and the bounds of this crate say of
-- them. `|` stands for SOH.
use Rattle.std.proofs.Common.{◌≡◌, ℕ, zero, suc, ◌==◌, List, [], ◌∷◌, ◌++◌, length, true, sym, ap}
use Rattle.std.proofs.Common.{append-nil, Option, Some, None, if◌then◌else◌, map, codes, refl}
use Rattle.std.proofs.Common.{arith}
use Rattle.std.specs.Fmt.{digits}
use Rattle.field_groups.specs.declared.fault.SplitFault.{SplitFault}
use Rattle.field_groups.specs.declared.fault.SplitFault.TheVariants.{NoTag, BadTag, NoEnd}
use Rattle.field_groups.specs.declared.fault.SplitFault.TheVariants.{DataLength}
use Rattle.field_groups.specs.declared.group.GroupFault.TheVariants.{Count, Order, TooMany}
use Rattle.field_groups.specs.HeadValues.{number_in}
use Rattle.field_groups.specs.Data.{is_data_pair}
use Rattle.field_groups.specs.Field.{Field, field_bytes, is_value}
use Rattle.field_groups.specs.Fields.{Stops, SplitsInto, has_tag, is_tag_good}
use Rattle.field_groups.specs.Group.{Tags, lines_of, first_misplaced, group_fault}
use Rattle.field_groups.specs.Group.{group_lines}

-- the text with SOH in place of each `|`
abbrev piped : List ℕ → List ℕ
piped text = map (λ byte. if byte == 124 then 1 else byte) text

-- a field with its value in text
abbrev field : ℕ → List ℕ → Field
field tag value = (tag, piped value)

-- ---- fields

-- a body with no bytes
empty : SplitsInto [] [] None
empty = record { left = []; good = tt; at_most = omega arith; written = refl; stopped = refl }

-- an empty value is a value
empty_value : SplitsInto (piped (codes "58=|")) (field 58 [] ∷ []) None
unfolding field_bytes digits
empty_value = record {
  left = [];
  good = (record { positive = omega arith; nine_digits = omega arith; value = refl }, tt);
  at_most = omega arith;
  written = refl;
  stopped = refl;
}

-- `35=D`, SOH and these bytes, which begin at place 5
after_type : (left : List ℕ) (fault : Option SplitFault) → Stops 1 5 (Some (field 35 (codes "D")))
    left fault → SplitsInto (piped (codes "35=D|") ++ left) (field 35 (codes "D") ∷ []) fault
unfolding field_bytes digits
after_type left fault stopped = record {
  left = left;
  good = (record { positive = omega arith; nine_digits = omega arith; value = refl }, tt);
  at_most = omega arith;
  written = refl;
  stopped = stopped;
}

no_digit : SplitsInto
    (piped (codes "35=D|") ++ piped (codes "x=1|")) (field 35 (codes "D") ∷ []) (Some (NoTag 5))
unfolding has_tag
no_digit =
    after_type (piped (codes "x=1|")) (Some (NoTag 5)) (omega arith, omega arith, (refl, refl))

no_equals : SplitsInto
    (piped (codes "35=D|") ++ piped (codes "11|")) (field 35 (codes "D") ∷ []) (Some (NoTag 5))
unfolding has_tag
no_equals =
    after_type (piped (codes "11|")) (Some (NoTag 5)) (omega arith, omega arith, (refl, refl))

no_equals_after_ten : SplitsInto (piped (codes "35=D|") ++ piped (codes "1234567890"))
    (field 35 (codes "D") ∷ []) (Some (NoTag 5))
unfolding has_tag
no_equals_after_ten = after_type
    (piped (codes "1234567890")) (Some (NoTag 5)) (omega arith, omega arith, (refl, refl))

ten_digits : SplitsInto (piped (codes "35=D|") ++ piped (codes "1234567890="))
    (field 35 (codes "D") ∷ []) (Some (BadTag 5))
unfolding has_tag is_tag_good
ten_digits = after_type
    (piped (codes "1234567890=")) (Some (BadTag 5)) (omega arith, omega arith, (refl, refl, refl))

leading_zero : SplitsInto
    (piped (codes "35=D|") ++ piped (codes "01=x|")) (field 35 (codes "D") ∷ []) (Some (BadTag 5))
unfolding has_tag is_tag_good
leading_zero = after_type
    (piped (codes "01=x|")) (Some (BadTag 5)) (omega arith, omega arith, (refl, refl, refl))

no_soh : SplitsInto
    (piped (codes "35=D|") ++ piped (codes "11=A1")) (field 35 (codes "D") ∷ []) (Some (NoEnd 5))
unfolding has_tag is_tag_good is_data_pair
no_soh = after_type (piped (codes "11=A1"))
    (Some (NoEnd 5)) (omega arith, omega arith, (refl, refl, refl, refl, refl))

-- raw bytes behind their length
raw_bytes : SplitsInto (piped (codes "35=D|354=8|355=x|10=070|58=t|"))
    (field 35 (codes "D")
    ∷ field 354 (codes "8") ∷ field 355 (codes "x|10=070") ∷ field 58 (codes "t") ∷ []) None
unfolding field_bytes digits is_data_pair number_in
raw_bytes = record {
  left = [];
  good = (
    record { positive = omega arith; nine_digits = omega arith; value = refl },
    (
      record { positive = omega arith; nine_digits = omega arith; value = refl },
      (
        record { positive = omega arith; nine_digits = omega arith; value = refl },
        (record { positive = omega arith; nine_digits = omega arith; value = refl }, tt),
      ),
    ),
  );
  at_most = omega arith;
  written = refl;
  stopped = refl;
}

-- raw bytes without their length are like any other value
raw_bytes_alone : SplitsInto
    (piped (codes "355=x|58=t|")) (field 355 (codes "x") ∷ field 58 (codes "t") ∷ []) None
unfolding field_bytes digits is_data_pair
raw_bytes_alone = record {
  left = [];
  good = (
    record { positive = omega arith; nine_digits = omega arith; value = refl },
    (record { positive = omega arith; nine_digits = omega arith; value = refl }, tt),
  );
  at_most = omega arith;
  written = refl;
  stopped = refl;
}

-- a length field, and what follows it
after_length : (value left : List ℕ) (fault : Option SplitFault) → is_value None (354, value) ≡ true
    → Stops 1 (length (field_bytes (354, value) ++ [])) (Some (354, value)) left fault →
    SplitsInto (field_bytes (354, value) ++ left) ((354, value) ∷ []) fault
after_length value left fault is stopped = record {
  left = left;
  good = (record { positive = omega arith; nine_digits = omega arith; value = is }, tt);
  at_most = omega arith;
  written = ap (λ bytes. bytes ++ left) (sym (append-nil (field_bytes (354, value))));
  stopped = stopped;
}

past_the_end : SplitsInto (field_bytes (354, codes "99") ++ piped (codes "355=x|10=070|58=t|"))
    ((354, codes "99") ∷ []) (Some (DataLength 355))
unfolding has_tag is_tag_good is_data_pair number_in
past_the_end = after_length (codes "99") (piped (codes "355=x|10=070|58=t|"))
    (Some (DataLength 355)) refl (omega arith, omega arith, (refl, refl, refl, refl, refl))

too_short : SplitsInto (field_bytes (354, codes "1") ++ piped (codes "355=xy|"))
    ((354, codes "1") ∷ []) (Some (DataLength 355))
unfolding has_tag is_tag_good is_data_pair number_in
too_short = after_length (codes "1") (piped (codes "355=xy|"))
    (Some (DataLength 355)) refl (omega arith, omega arith, (refl, refl, refl, refl, refl))

no_number : SplitsInto (field_bytes (354, codes "x") ++ piped (codes "355=y|"))
    ((354, codes "x") ∷ []) (Some (DataLength 355))
unfolding has_tag is_tag_good is_data_pair number_in
no_number = after_length (codes "x") (piped (codes "355=y|"))
    (Some (DataLength 355)) refl (omega arith, omega arith, (refl, refl, refl, refl, refl))

-- ---- lengths and counts

numbers : map number_in (codes "0" ∷ codes "007"
    ∷ codes "1000000000" ∷ codes "1000000001" ∷ codes "00000000001" ∷ codes "1x" ∷ [] ∷ []) ≡
    Some 0 ∷ Some 7 ∷ Some 1_000_000_000 ∷ None ∷ None ∷ None ∷ None ∷ []
unfolding number_in
numbers = refl

-- ---- groups

-- the parties of a message
abbrev parties : Tags
parties = record { count = 453; first = 448; members = 447 ∷ 452 ∷ []; skip = 802 ∷ 523 ∷ 803 ∷ [] }

abbrev three_parties : List Field
three_parties =
    field 453 (codes "3")
    ∷ field 448 (codes "FUND") ∷ field 447 (codes "D") ∷ field 452 (codes "3") ∷
    field 448 (codes "BRKR") ∷ field 447 (codes "D") ∷ field 452 (codes "1") ∷
    field 448 (codes "CLRF")
    ∷ field 447 (codes "D") ∷ field 452 (codes "4") ∷ field 58 (codes "t") ∷ []

in_lines : group_lines parties 0 three_parties ≡ record {
  lines =
      ((448, 1) ∷ (447, 2) ∷ (452, 3) ∷ [])
      ∷ ((448, 4) ∷ (447, 5) ∷ (452, 6) ∷ []) ∷ ((448, 7) ∷ (447, 8) ∷ (452, 9) ∷ []) ∷ [];
  end = 10;
}
unfolding lines_of
in_lines = refl

in_order : group_fault parties 0 three_parties ≡ None
unfolding number_in lines_of first_misplaced
in_order = refl

-- three are said, and two stand
one_too_few : group_fault parties 0
    (field 453 (codes "3") ∷ field 448 (codes "A") ∷ field 448 (codes "B") ∷ []) ≡ Some (Count 453)
unfolding number_in
one_too_few = refl

no_count : group_fault parties 0 (field 453 (codes "x") ∷ field 448 (codes "A") ∷ [])
    ≡ Some (Count 453)
unfolding number_in
no_count = refl

-- a role before the first party, a role twice, and the first of two faults
before_first : group_fault parties 0
    (field 453 (codes "1") ∷ field 452 (codes "3") ∷ field 448 (codes "A") ∷ []) ≡ Some (Order 452)
unfolding number_in lines_of first_misplaced
before_first = refl

twice_in_a_line : group_fault parties 0 (field 453 (codes "2") ∷ field 448 (codes "A")
    ∷ field 452 (codes "3") ∷ field 452 (codes "1") ∷ field 448 (codes "B") ∷ []) ≡ Some (Order 452)
unfolding number_in lines_of first_misplaced
twice_in_a_line = refl

count_before_order : group_fault parties 0
    (field 453 (codes "3") ∷ field 452 (codes "3") ∷ field 448 (codes "A") ∷ []) ≡ Some (Count 453)
unfolding number_in
count_before_order = refl

-- sub-ids are passed over wherever they stand in the group
passed_over : group_lines parties
    0 (field 453 (codes "1") ∷ field 803 (codes "1") ∷ field 448 (codes "A") ∷ field 523 (codes "x")
    ∷ field 452 (codes "3") ∷ field 523 (codes "y") ∷ field 58 (codes "t") ∷ []) ≡
    record { lines = ((448, 2) ∷ (452, 4) ∷ []) ∷ []; end = 6 }
unfolding lines_of
passed_over = refl

abbrev many : ℕ → List Field
many zero = []
many (suc n) = field 448 (codes "A") ∷ many n

most_lines : group_fault parties 0 (field 453 (codes "32") ∷ many 32) ≡ None
unfolding number_in lines_of first_misplaced
most_lines = refl

too_many : group_fault parties 0 (field 453 (codes "33") ∷ many 33) ≡ Some TooMany
unfolding number_in lines_of first_misplaced
too_many = refl
