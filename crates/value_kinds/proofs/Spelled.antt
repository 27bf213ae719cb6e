-- The canonical spellings of values by their readings.
use Rattle.std.proofs.Common.{◌≡◌, ◌≢◌, ℕ, List, [], ◌∷◌, length, get_or, map, Bool, true, false}
use Rattle.std.proofs.Common.{refl, sym, ap, ◌∙◌, arith}
use Rattle.std.specs.Borrow.{Bor}
use Rattle.std.proofs.lemmas.Bool.Decides.{nat_tests}
use Rattle.std.specs.Prelude.{IsTrue, Some, None, Result, Ok, Err, not, nat_le, ◌==◌, ◌&&◌, ◌||◌}
use Rattle.std.specs.Prelude.{if◌then◌else◌}
use Rattle.std.specs.Char.{is_ascii_digit, is_ascii_uppercase}
use Rattle.std.specs.List.{list_any, list_all, slice_get}
use Rattle.std.specs.Str.{bytes_eq}
use Rattle.value_kinds.specs.CodeKinds.{judged, is_good, is_verbatim, is_byte_kind}
use Rattle.value_kinds.specs.ValueKind.{code_text, text_of, if_in_range, formed, known, listed_word}
use Rattle.value_kinds.specs.ValueKind.{ValueKind, Filled, Id, Text, OneByte, Code, Known, Codes}
use Rattle.value_kinds.specs.ValueKind.{Word, Currency, Flag, Number, Reason, Qty, Price, Stamp}
use Rattle.value_kinds.specs.ValueKind.{FineStamp, Day, MonthYear, DayOfMonth, spelling, spelled}
use Rattle.value_kinds.specs.ValueKind.{spelt}
use Rattle.value_kinds.specs.ValueKind.{are_spaced, are_codes}
use Rattle.std.specs.declared.option.Option.{Option}
use Rattle.std.specs.Int.{is_negative}
use Rattle.std.specs.Option.{option_map}
use Rattle.std.specs.Result.{result_ok}
use Rattle.typed_fields.specs.declared.fault.FieldFault.{FieldFault}
use Rattle.typed_fields.specs.declared.fault.FieldFault.TheVariants.{Form, Range}
use Rattle.typed_fields.specs.declared.number.Number.{Number as NumberValue}
use Rattle.typed_fields.specs.declared.dec.Dec.{Dec}
use Rattle.typed_fields.specs.Number.{read_number, number_text}
use Rattle.typed_fields.specs.Dec.{read_dec, dec_text}
use Rattle.typed_fields.specs.declared.stamp.Stamp.{Stamp as StampValue}
use Rattle.typed_fields.specs.Stamp.{cut, cut_text, read_fine, read_stamp, stamp_text}
use Rattle.typed_fields.proofs.StampLaws.{read_cut, stamp_is_plain}
use Rattle.typed_fields.specs.Day.{read_day, day_text}
use Rattle.typed_fields.specs.MonthYear.{read_month_year, month_year_text}

pub by_reading : {A : Type 0} (text : A → List ℕ) (r : Result A FieldFault)
    → text_of (spelt text r) ≡ option_map text (result_ok r)
by_reading text (Ok x) = refl
by_reading text (Err e) = refl

abbrev pub in_range : {A : Type 0}
    → (A → Bool) → (A → List ℕ) → Result A FieldFault → Option (List ℕ)
in_range good text (Ok x) = if good x then Some (text x) else None
in_range good text (Err e) = None

by_bound : {A : Type 0} (good : A → Bool) (text : A → List ℕ) (r : Result A FieldFault)
    → text_of (spelt text (if_in_range good r)) ≡ in_range good text r
by_bound good text (Err e) = refl
by_bound good text (Ok x) = here (good x)
  where
    here : (b : Bool)
        → text_of (spelt text (if b then Ok x else Err Range)) ≡ (if b then Some (text x) else None)
    here true = refl
    here false = refl

pub as_price : (bytes : List ℕ)
    → spelled Price bytes ≡ option_map dec_text (result_ok (read_dec bytes))
unfolding spelled spelling
as_price [] = refl
as_price (b ∷ bs) = by_reading dec_text (read_dec (b ∷ bs))

pub as_number : (bytes : List ℕ)
    → spelled Number bytes ≡ option_map number_text (result_ok (read_number bytes))
unfolding spelled spelling
as_number [] = refl
as_number (b ∷ bs) = by_reading number_text (read_number (b ∷ bs))

pub as_qty : (bytes : List ℕ)
    → spelled Qty bytes ≡ in_range (λ d. not (is_negative d.units)) dec_text (read_dec bytes)
unfolding spelled spelling
as_qty [] = refl
as_qty (b ∷ bs) = by_bound (λ (d : Dec). not (is_negative d.units)) dec_text (read_dec (b ∷ bs))

pub as_reason : (bytes : List ℕ)
    → spelled Reason bytes ≡ in_range (λ n. nat_le n.value 9999) number_text (read_number bytes)
unfolding spelled spelling
as_reason [] = refl
as_reason (b ∷ bs) =
    by_bound (λ (n : NumberValue). nat_le n.value 9999) number_text (read_number (b ∷ bs))

-- a value whose one spelling is the bytes that it was read from
its_own : {A : Type 0} (text : A → List ℕ) (bytes : List ℕ) (r : Result A FieldFault)
    → ((x : A) → r ≡ Ok x → text x ≡ bytes)
    → option_map text (result_ok r) ≡ text_of (spelt (λ _. bytes) r)
its_own text bytes (Ok x) h = ap Some (h x refl)
its_own text bytes (Err e) h = refl

-- a moment in the fine form is cut
pub as_fine : (bytes : List ℕ) (s cut_s : StampValue) → read_fine bytes ≡ Ok s → cut_s ≡ cut s
    → Some (stamp_text cut_s) ≡ spelled FineStamp bytes
unfolding spelled spelling
as_fine [] s cut_s e f = absurd cc
as_fine (b ∷ bs) s cut_s e f =
    ap (λ x. Some (stamp_text x)) f
    ∙ ap Some (stamp_is_plain (cut_text (b ∷ bs)) (cut s) (read_cut (b ∷ bs) s e))
    ∙ sym (ap (λ r. text_of (spelt (λ _. cut_text (b ∷ bs)) r)) e)

pub not_fine : (bytes : List ℕ) (fault : FieldFault) → read_fine bytes ≡ Err fault
    → None ≡ spelled FineStamp bytes
unfolding spelled spelling
not_fine [] fault e = refl
not_fine (b ∷ bs) fault e = sym (ap (λ r. text_of (spelt (λ _. cut_text (b ∷ bs)) r)) e)

pub as_day : (bytes : List ℕ) → ((x : _) → read_day bytes ≡ Ok x → day_text x ≡ bytes)
    → option_map day_text (result_ok (read_day bytes)) ≡ spelled Day bytes
unfolding spelled spelling
as_day [] h = refl
as_day (b ∷ bs) h = its_own day_text (b ∷ bs) (read_day (b ∷ bs)) h

pub as_month_year : (bytes : List ℕ)
    → ((x : _) → read_month_year bytes ≡ Ok x → month_year_text x ≡ bytes)
    → option_map month_year_text (result_ok (read_month_year bytes)) ≡ spelled MonthYear bytes
unfolding spelled spelling
as_month_year [] h = refl
as_month_year (b ∷ bs) h = its_own month_year_text (b ∷ bs) (read_month_year (b ∷ bs)) h

pub words_seen : (bytes : List ℕ) (words : List (Bor (List ℕ))) → list_any (bytes_eq bytes)
    (map (λ word. word.now) words) ≡ list_any (λ word. bytes_eq bytes word.now) words
words_seen bytes [] = refl
words_seen bytes (word ∷ words) = ap (λ b. bytes_eq bytes word.now || b) (words_seen bytes words)

-- ---- kinds with one spelling, and codes

abbrev pub or_none : Bool → List ℕ → Option (List ℕ)
or_none good bytes = if good then Some bytes else None

by_form : (good : Bool) (bytes : List ℕ)
    → or_none (is_good (judged (formed good bytes))) bytes ≡ text_of (formed good bytes)
by_form true bytes = refl
by_form false bytes = refl

by_length : (good : Bool) (bytes : List ℕ)
    → or_none (is_good (judged (if good then Ok (Some bytes) else Err Range))) bytes
    ≡ text_of (if good then Ok (Some bytes) else Err Range)
by_length true bytes = refl
by_length false bytes = refl

by_list : (listed : Bool) (bytes : List ℕ)
    → or_none (is_good (judged (Ok (listed_word listed bytes)))) bytes ≡ listed_word listed bytes
by_list true bytes = refl
by_list false bytes = refl

by_codes : (good listed : Bool) (bytes : List ℕ)
    → or_none (is_good (judged (if good then Ok (listed_word listed bytes) else Err Form))) bytes
    ≡ text_of (if good then Ok (listed_word listed bytes) else Err Form)
by_codes true listed bytes = by_list listed bytes
by_codes false listed bytes = refl

pub verbatim : (kind : ValueKind) (bytes : List ℕ) → is_verbatim kind ≡ true
    → or_none (is_good (judged (spelling kind bytes))) bytes ≡ spelled kind bytes
unfolding spelled spelling
verbatim Filled [] h = refl
verbatim Filled (b ∷ bs) h = refl
verbatim Id [] h = refl
verbatim Id (b ∷ bs) h = by_length (nat_le (length (b ∷ bs)) 128) (b ∷ bs)
verbatim Text [] h = refl
verbatim Text (b ∷ bs) h = by_length (nat_le (length (b ∷ bs)) 2048) (b ∷ bs)
verbatim (Codes listed) [] h = refl
verbatim (Codes listed) (b ∷ bs) h =
    by_codes (are_spaced false (b ∷ bs)) (are_codes listed false (b ∷ bs)) (b ∷ bs)
verbatim (Word listed) [] h = refl
verbatim (Word listed) (b ∷ bs) h = by_list (list_any (bytes_eq (b ∷ bs)) listed) (b ∷ bs)
verbatim Currency [] h = refl
verbatim Currency (b ∷ bs) h =
    by_form ((length (b ∷ bs) == 3) && list_all is_ascii_uppercase (b ∷ bs)) (b ∷ bs)
verbatim OneByte bytes h = absurd cc
verbatim (Code listed) bytes h = absurd cc
verbatim (Known listed) bytes h = absurd cc
verbatim Flag bytes h = absurd cc
verbatim Number bytes h = absurd cc
verbatim Reason bytes h = absurd cc
verbatim Qty bytes h = absurd cc
verbatim Price bytes h = absurd cc
verbatim Stamp bytes h = absurd cc
verbatim FineStamp bytes h = absurd cc
verbatim Day bytes h = absurd cc
verbatim MonthYear bytes h = absurd cc
verbatim DayOfMonth bytes h = absurd cc

-- the first byte of a value, as a code
abbrev pub coded : Bool → List ℕ → Option (List ℕ)
coded good bytes = if good then option_map code_text (slice_get bytes 0) else None

pub as_code : (kind : ValueKind) (bytes : List ℕ) → is_byte_kind kind ≡ true
    → coded (is_good (judged (spelling kind bytes))) bytes ≡ spelled kind bytes
unfolding spelled spelling
as_code OneByte [] h = refl
as_code OneByte (b ∷ []) h = refl
as_code OneByte (b ∷ c ∷ bs) h =
    let e : (length (b ∷ c ∷ bs) == 1) ≡ false = grind (arith, nat_tests) in rw e refl
as_code (Code listed) [] h = refl
as_code (Code listed) (b ∷ []) h = here (list_any (λ code. code == b) listed)
  where
    here : (x : Bool)
        → coded (is_good (judged (Ok (listed_word x (b ∷ []))))) (b ∷ []) ≡ listed_word x (b ∷ [])
    here true = refl
    here false = refl
as_code (Code listed) (b ∷ c ∷ bs) h = refl
as_code (Known listed) [] h = refl
as_code (Known listed) (b ∷ []) h = here (list_any (λ code. code == b) listed)
  where
    here : (x : Bool)
        → coded (is_good (judged (known x (b ∷ [])))) (b ∷ []) ≡ text_of (known x (b ∷ []))
    here true = refl
    here false = refl
as_code (Known listed) (b ∷ c ∷ bs) h = refl
as_code Filled bytes h = absurd cc
as_code Id bytes h = absurd cc
as_code Text bytes h = absurd cc
as_code (Codes listed) bytes h = absurd cc
as_code (Word listed) bytes h = absurd cc
as_code Currency bytes h = absurd cc
as_code Flag bytes h = absurd cc
as_code Number bytes h = absurd cc
as_code Reason bytes h = absurd cc
as_code Qty bytes h = absurd cc
as_code Price bytes h = absurd cc
as_code Stamp bytes h = absurd cc
as_code FineStamp bytes h = absurd cc
as_code Day bytes h = absurd cc
as_code MonthYear bytes h = absurd cc
as_code DayOfMonth bytes h = absurd cc

-- ---- a day of a month

abbrev pub as_two : ℕ → ℕ → Option (List ℕ)
as_two ten one = if is_ascii_digit ten && is_ascii_digit one then Some (ten ∷ one ∷ []) else None

pub one_digit : (bytes : List ℕ) (d : ℕ)
    → length bytes ≡ 1 → as_two 48 (get_or bytes 0 d) ≡ spelled DayOfMonth bytes
unfolding spelled spelling
one_digit [] d len = absurd cc
one_digit (b ∷ []) d len = here (is_ascii_digit b)
  where
    here : (x : Bool) → (if true && x then Some (48 ∷ b ∷ []) else None)
        ≡ text_of (if x then Ok (Some (48 ∷ b ∷ [])) else Err Form)
    here true = refl
    here false = refl
one_digit (b ∷ c ∷ bs) d len = absurd (omega arith)

pub both_digits : (bytes : List ℕ) (d e : ℕ)
    → length bytes ≡ 2 → as_two (get_or bytes 0 d) (get_or bytes 1 e) ≡ spelled DayOfMonth bytes
unfolding spelled spelling
both_digits [] d e len = absurd cc
both_digits (b ∷ []) d e len = absurd (omega arith)
both_digits (b ∷ c ∷ []) d e len = here (is_ascii_digit b && is_ascii_digit c)
  where
    here : (x : Bool) → (if x then Some (b ∷ c ∷ []) else None) ≡ text_of (formed x (b ∷ c ∷ []))
    here true = refl
    here false = refl
both_digits (b ∷ c ∷ d ∷ bs) x e len = absurd (omega arith)

pub no_digits : (bytes : List ℕ)
    → length bytes ≢ 1 → length bytes ≢ 2 → None ≡ spelled DayOfMonth bytes
unfolding spelled spelling
no_digits [] one two = refl
no_digits (b ∷ []) one two = absurd (one refl)
no_digits (b ∷ c ∷ []) one two = absurd (two refl)
no_digits (b ∷ c ∷ d ∷ bs) one two = refl

pub code_good : (kind : ValueKind) (bytes : List ℕ) → IsTrue (is_byte_kind kind) → true ≡ is_good
    (judged (spelling kind bytes)) → option_map code_text (slice_get bytes 0) ≡ spelled kind bytes
code_good kind bytes h g = ap (λ x. coded x bytes) g ∙ as_code kind bytes h

pub code_bad : (kind : ValueKind) (bytes : List ℕ) → IsTrue (is_byte_kind kind)
    → false ≡ is_good (judged (spelling kind bytes)) → None ≡ spelled kind bytes
code_bad kind bytes h g = ap (λ x. coded x bytes) g ∙ as_code kind bytes h

-- moments are judged by their reading
pub judged_stamp : (v : List ℕ) → (length v == 0) ≡ false
    → judged (spelt (λ stamp. v) (read_stamp v)) ≡ judged (spelling Stamp v)
unfolding spelling
judged_stamp [] some = absurd cc
judged_stamp (b ∷ bs) some = refl

pub judged_fine : (v : List ℕ) → (length v == 0) ≡ false
    → judged (spelt (λ stamp. cut_text v) (read_fine v)) ≡ judged (spelling FineStamp v)
unfolding spelling
judged_fine [] some = absurd cc
judged_fine (b ∷ bs) some = refl
