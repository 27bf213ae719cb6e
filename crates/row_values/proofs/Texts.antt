-- What fields say, by the spellings of their values.
use Rattle.std.specs.Prelude.{◌≡◌, ℕ, Bool, true, false, List, [], ◌∷◌, refl, not, is_some, Option}
use Rattle.std.specs.Prelude.{Some, None, Result, Ok, Err, ◌==◌, nat_le, if◌then◌else◌}
use Rattle.std.specs.Prelude.{option_and_then}
use Rattle.std.proofs.Common.{sym, ap, ◌∙◌, lit<, lit≤, pos}
use Rattle.std.specs.Int.{is_negative}
use Rattle.std.specs.Option.{option_map}
use Rattle.std.specs.Result.{result_ok}
use Rattle.std.specs.List.{list_any}
use Rattle.typed_fields.specs.declared.fault.FieldFault.{FieldFault}
use Rattle.typed_fields.specs.declared.dec.Dec.{Dec}
use Rattle.typed_fields.specs.declared.number.Number.{Number as NumberValue}
use Rattle.typed_fields.specs.Dec.{read_dec, dec_text, IsDec}
use Rattle.typed_fields.specs.Day.{read_day, day_text}
use Rattle.typed_fields.specs.declared.stamp.Stamp.{Stamp as StampValue}
use Rattle.typed_fields.specs.Stamp.{cut_text, read_fine, read_stamp, stamp_text}
use Rattle.typed_fields.specs.Flag.{read_flag, flag_text}
use Rattle.typed_fields.specs.Number.{read_number, number_text}
use Rattle.typed_fields.specs.MonthYear.{read_month_year, month_year_text}
use Rattle.value_kinds.proofs.Spelled.{as_price, as_number, as_qty, as_reason, in_range}
use Rattle.typed_fields.proofs.DayLaws.{day_is_plain}
use Rattle.typed_fields.proofs.StampLaws.{read_finer, read_whole, stamp_is_plain}
use Rattle.typed_fields.proofs.NumberLaws.{flag_is_plain, month_year_is_plain}
use Rattle.value_kinds.specs.ValueKind.{Stamp, FineStamp, Flag, MonthYear, Price, Qty, Number}
use Rattle.value_kinds.specs.ValueKind.{Reason, most_reason, spelt}
use Rattle.value_kinds.specs.ValueKind.{ValueKind, Code, Day, Spelling, listed_word}
use Rattle.value_kinds.specs.ValueKind.{spelling, spelled, text_of as spelled_text}
use Rattle.field_groups.specs.Field.{Field}
use Rattle.message_tables.specs.Tables.{Said, Wrong, ◌>>=◌, text_of}
use Rattle.message_tables.specs.Tables.{is_listed, value_at}
use Rattle.row_values.specs.Kinds.{Value, date_at, judge}
use Rattle.row_values.specs.Kinds.{reason_of, verdict_of}
use Rattle.row_values.specs.Kinds.{said}

pub text_is : (s : Spelling) → text_of (verdict_of s) ≡ spelled_text s
text_is (Ok (Some text)) = refl
text_is (Ok None) = refl
text_is (Err fault) = refl

-- what a field says as a value of a kind is the spelling of its value
pub said_some : (fields : List Field) (tag : ℕ) (kind : ValueKind) (bytes : List ℕ)
    → value_at tag fields ≡ Some bytes → said fields tag (Value kind) ≡ spelled kind bytes
unfolding judge spelled
said_some fields tag kind bytes at =
    ap (λ o. o >>= (λ v. text_of (verdict_of (spelling kind v)))) at
    ∙ text_is (spelling kind bytes)

pub said_none : (fields : List Field) (tag : ℕ) (kind : ValueKind)
    → value_at tag fields ≡ None → said fields tag (Value kind) ≡ None
said_none fields tag kind at = ap (λ o. o >>= (λ v. text_of (judge fields (Value kind) v))) at

-- both cases
pub ruleset at_tag = (said_some, said_none)

pub date_said : (fields : List Field) (tag : ℕ) → said fields tag (Value Day) ≡ date_at tag fields
unfolding judge
date_said fields tag = refl

-- ---- values by their readings

said_read : {A : Type 0} (text : A → List ℕ) (read : List ℕ → Result A FieldFault)
    (kind : ValueKind) → ((bytes : List ℕ)
    → spelled kind bytes ≡ option_map text (result_ok (read bytes)))
    → (fields : List Field) (tag : ℕ)
    → option_map text (option_and_then (λ b. result_ok (read b)) (value_at tag fields))
    ≡ said fields tag (Value kind)
unfolding judge spelled
said_read {A} text read kind is fields tag = here (value_at tag fields)
  where
    here : (o : Option (List ℕ)) → option_map text (option_and_then (λ b. result_ok (read b)) o)
        ≡ (o >>= (λ v. text_of (verdict_of (spelling kind v))))
    here None = refl
    here (Some bytes) = sym (is bytes) ∙ sym (text_is (spelling kind bytes))

-- a value whose one spelling is the bytes that it was read from
own : {A : Type 0} (text : A → List ℕ) (bytes : List ℕ) (r : Result A FieldFault)
    → ((x : A) → r ≡ Ok x → text x ≡ bytes)
    → spelled_text (spelt (λ _. bytes) r) ≡ option_map text (result_ok r)
own text bytes (Ok x) h = ap Some (sym (h x refl))
own text bytes (Err e) h = refl

day_spelled : (bytes : List ℕ)
    → spelled Day bytes ≡ option_map day_text (result_ok (read_day bytes))
unfolding spelled spelling
day_spelled [] = refl
day_spelled (b ∷ bs) = own day_text (b ∷ bs) (read_day (b ∷ bs)) (λ x h. day_is_plain (b ∷ bs) x h)

stamp_spelled : (bytes : List ℕ)
    → spelled Stamp bytes ≡ option_map stamp_text (result_ok (read_stamp bytes))
unfolding spelled spelling
stamp_spelled [] = refl
stamp_spelled (b ∷ bs) =
    own stamp_text (b ∷ bs) (read_stamp (b ∷ bs)) (λ x h. stamp_is_plain (b ∷ bs) x h)

-- a moment of FIX 4.2 is the same as a fine one
pub fine_alike : (bytes : List ℕ)
    → ((reason : ℕ) → verdict_of (spelling Stamp bytes) ≡ Wrong reason → ⊥)
    → spelled FineStamp bytes ≡ spelled Stamp bytes
unfolding spelled spelling
fine_alike [] good = refl
fine_alike (b ∷ bs) good = by (read_stamp (b ∷ bs)) refl
  where
    by : (r : Result StampValue FieldFault) → read_stamp (b ∷ bs) ≡ r
        → spelled_text (spelt (λ _. cut_text (b ∷ bs)) (read_fine (b ∷ bs)))
        ≡ spelled_text (spelt (λ _. b ∷ bs) r)
    by (Ok s) e =
        ap (λ r. spelled_text (spelt (λ _. cut_text (b ∷ bs)) r)) (read_finer (b ∷ bs) s e)
        ∙ ap Some (read_whole (b ∷ bs) s e)
    by (Err fault) e =
        absurd (good (reason_of fault) (ap (λ r. verdict_of (spelt (λ _. b ∷ bs) r)) e))

flag_spelled : (bytes : List ℕ)
    → spelled Flag bytes ≡ option_map flag_text (result_ok (read_flag bytes))
unfolding spelled spelling
flag_spelled [] = refl
flag_spelled (b ∷ bs) =
    own flag_text (b ∷ bs) (read_flag (b ∷ bs)) (λ x h. flag_is_plain (b ∷ bs) x h)

month_spelled : (bytes : List ℕ)
    → spelled MonthYear bytes ≡ option_map month_year_text (result_ok (read_month_year bytes))
unfolding spelled spelling
month_spelled [] = refl
month_spelled (b ∷ bs) =
    own month_year_text (b ∷ bs) (read_month_year (b ∷ bs))
    (λ x h. month_year_is_plain (b ∷ bs) x h)

pub day_said : (fields : List Field) (tag : ℕ)
    → option_map day_text (option_and_then (λ b. result_ok (read_day b)) (value_at tag fields))
    ≡ said fields tag (Value Day)
day_said fields tag = said_read day_text read_day Day day_spelled fields tag

pub stamp_said : (fields : List Field) (tag : ℕ)
    → option_map stamp_text (option_and_then (λ b. result_ok (read_stamp b)) (value_at tag fields))
    ≡ said fields tag (Value Stamp)
stamp_said fields tag = said_read stamp_text read_stamp Stamp stamp_spelled fields tag

pub flag_said : (fields : List Field) (tag : ℕ)
    → option_map flag_text (option_and_then (λ b. result_ok (read_flag b)) (value_at tag fields))
    ≡ said fields tag (Value Flag)
flag_said fields tag = said_read flag_text read_flag Flag flag_spelled fields tag

pub month_said : (fields : List Field) (tag : ℕ)
    → option_map month_year_text
    (option_and_then (λ b. result_ok (read_month_year b)) (value_at tag fields))
    ≡ said fields tag (Value MonthYear)
month_said fields tag = said_read month_year_text read_month_year MonthYear month_spelled fields tag

pub price_said : (fields : List Field) (tag : ℕ)
    → option_map dec_text (option_and_then (λ b. result_ok (read_dec b)) (value_at tag fields))
    ≡ said fields tag (Value Price)
price_said fields tag = said_read dec_text read_dec Price as_price fields tag

pub number_said : (fields : List Field) (tag : ℕ)
    → option_map number_text
    (option_and_then (λ b. result_ok (read_number b)) (value_at tag fields))
    ≡ said fields tag (Value Number)
number_said fields tag = said_read number_text read_number Number as_number fields tag

-- a decimal number that is not negative
abbrev pub if_positive : Option Dec → Said
if_positive None = None
if_positive (Some d) = if not (is_negative d.units) then Some (dec_text d) else None

pub qty_said : (fields : List Field) (tag : ℕ)
    → if_positive (option_and_then (λ b. result_ok (read_dec b)) (value_at tag fields))
    ≡ said fields tag (Value Qty)
unfolding judge spelled
qty_said fields tag = here (value_at tag fields)
  where
    by_read : (r : Result Dec FieldFault)
        → if_positive (result_ok r) ≡ in_range (λ d. not (is_negative d.units)) dec_text r
    by_read (Ok d) = refl
    by_read (Err e) = refl

    here : (o : Option (List ℕ)) → if_positive (option_and_then (λ b. result_ok (read_dec b)) o)
        ≡ (o >>= (λ v. text_of (verdict_of (spelling Qty v))))
    here None = refl
    here (Some bytes) = by_read (read_dec bytes) ∙ sym (as_qty bytes)
        ∙ sym (text_is (spelling Qty bytes))

-- a number that is not past the greatest reason
abbrev pub if_reason : Option NumberValue → Said
if_reason None = None
if_reason (Some n) = if nat_le n.value most_reason then Some (number_text n) else None

pub reason_said : (fields : List Field) (tag : ℕ)
    → if_reason (option_and_then (λ b. result_ok (read_number b)) (value_at tag fields))
    ≡ said fields tag (Value Reason)
unfolding judge spelled
reason_said fields tag = here (value_at tag fields)
  where
    by_read : (r : Result NumberValue FieldFault)
        → if_reason (result_ok r) ≡ in_range (λ n. nat_le n.value most_reason) number_text r
    by_read (Ok n) = refl
    by_read (Err e) = refl

    here : (o : Option (List ℕ)) → if_reason (option_and_then (λ b. result_ok (read_number b)) o)
        ≡ (o >>= (λ v. text_of (verdict_of (spelling Reason v))))
    here None = refl
    here (Some bytes) = by_read (read_number bytes) ∙ sym (as_reason bytes)
        ∙ sym (text_is (spelling Reason bytes))

-- a listed code is said exactly where the value is one
pub listed_is_said : (fields : List Field) (tag : ℕ) (listed : List ℕ)
    → is_some (said fields tag (Value (Code listed))) ≡ is_listed listed (value_at tag fields)
unfolding judge spelling
listed_is_said fields tag listed = here (value_at tag fields)
  where
    by_list : (good : Bool) (byte : ℕ)
        → is_some (text_of (verdict_of (Ok (listed_word good (byte ∷ []))))) ≡ good
    by_list true byte = refl
    by_list false byte = refl

    here : (o : Option (List ℕ))
        → is_some (o >>= (λ v. text_of (judge fields (Value (Code listed)) v))) ≡ is_listed listed o
    here None = refl
    here (Some []) = refl
    here (Some (b ∷ [])) = by_list (list_any (λ code. code == b) listed) b
    here (Some (b ∷ c ∷ bs)) = refl

-- zero can be read
pub zero_is : IsDec (record { units = pos 0 })
zero_is = record {
  digits = 0;
  zeros = 0;
  at_most_fifteen = lit< tt;
  at_most_eight = lit≤ tt;
  units = refl;
}
