-- The marks of values, by their judgements.
use Rattle.std.proofs.Common.{◌≡◌, ℕ, List, [], ◌∷◌, Bool, true, false, refl, ap, ◌∙◌, arith}
use Rattle.std.specs.Prelude.{Some, None, Ok, Err, is_some, if◌then◌else◌, ◌==◌}
use Rattle.std.specs.declared.option.Option.{Option}
use Rattle.std.specs.Option.{option_map}
use Rattle.std.specs.List.{list_any}
use Rattle.value_kinds.specs.CodeKinds.{is_good as is_judged, judged}
use Rattle.value_kinds.specs.ValueKind.{code_text, two_digit_text}
use Rattle.value_kinds.specs.ValueKind.{Spelling, Code, MonthYear, is_code, listed_word, spelling}
use Rattle.value_kinds.specs.ValueKind.{spelled, text_of as spelled_text, number_of_two}
use Rattle.row_values.specs.CodeKinds.{day_mark}
use Rattle.row_values.specs.CodeKinds.{counted_mark, judged_mark}
use Rattle.message_tables.specs.declared.table_fault.Mark.{Mark}
use Rattle.message_tables.specs.declared.table_fault.Mark.TheVariants as marks
use Rattle.message_tables.specs.Tables.{Said, Verdict, Spells, Outside, Wrong}
use Rattle.message_tables.specs.FirstFault.{mark_of}
use Rattle.message_tables.specs.Plain.{is_good}
use Rattle.row_values.specs.Kinds.{counted, filled, if_spelled, in_month, month_beside, verdict_of}
use Rattle.row_values.proofs.Texts.{date_said}
use Rattle.typed_fields.specs.declared.month_year.MonthYear.{MonthYear as MonthValue}
use Rattle.typed_fields.specs.Day.{is_date}

pub mark_judged : (s : Spelling) → judged_mark (judged s) ≡ mark_of (verdict_of s)
mark_judged (Ok (Some text)) = refl
mark_judged (Ok None) = refl
mark_judged (Err fault) = refl

-- a value is accepted exactly where its mark is good
pub accepted : (s : Spelling) → is_judged (judged s) ≡ is_good (mark_of (verdict_of s))
accepted (Ok (Some text)) = refl
accepted (Ok None) = refl
accepted (Err fault) = refl

pub counted_marked : (counts : Bool) (v : Verdict)
    → counted_mark counts (mark_of v) ≡ mark_of (counted counts v)
counted_marked true v = refl
counted_marked false (Spells text) = refl
counted_marked false Outside = refl
counted_marked false (Wrong reason) = refl

pub ruleset of_counted = (mark_judged, counted_marked)

-- a listed code is spelled exactly where it is one
pub code_spelled : (listed bytes : List ℕ) (code : Option ℕ)
    → option_map code_text code ≡ spelled (Code listed) bytes → is_some code ≡ is_code listed bytes
unfolding spelled spelling
code_spelled listed [] None h = refl
code_spelled listed [] (Some code) h = absurd cc
code_spelled listed (b ∷ []) code h = here (list_any (λ c. c == b) listed) code h
  where
    here : (good : Bool) (code : Option ℕ)
        → option_map code_text code ≡ spelled_text (Ok (listed_word good (b ∷ [])))
        → is_some code ≡ good
    here true None h = absurd cc
    here true (Some code) h = refl
    here false None h = refl
    here false (Some code) h = absurd cc
code_spelled listed (b ∷ c ∷ bs) None h = refl
code_spelled listed (b ∷ c ∷ bs) (Some code) h = absurd cc

-- a month is good where it is spelled, and else outside the profile
month_good : (s : Spelling) (text : List ℕ)
    → Some text ≡ spelled_text s → marks.Good ≡ mark_of (if_spelled s)
month_good (Ok (Some own)) text h = refl
month_good (Ok None) text h = absurd cc
month_good (Err fault) text h = absurd cc

month_out : (s : Spelling) → None ≡ spelled_text s → marks.Outside ≡ mark_of (if_spelled s)
month_out (Ok (Some text)) h = absurd cc
month_out (Ok None) h = refl
month_out (Err fault) h = refl

pub month_is_good : (bytes text : List ℕ) → Some text ≡ spelled MonthYear bytes
    → marks.Good ≡ mark_of (if_spelled (spelling MonthYear bytes))
unfolding spelled
month_is_good bytes text h = month_good (spelling MonthYear bytes) text h

pub month_is_out : (bytes : List ℕ) → None ≡ spelled MonthYear bytes
    → marks.Outside ≡ mark_of (if_spelled (spelling MonthYear bytes))
unfolding spelled
month_is_out bytes h = month_out (spelling MonthYear bytes) h

pub ruleset of_month = (month_is_good, month_is_out)

pub month_marked : (date : Said) (beside : Bool) (mark : Mark) (b : ℕ) (bs : List ℕ)
    → beside ≡ is_some date → mark ≡ mark_of (if_spelled (spelling MonthYear (b ∷ bs)))
    → (if beside then marks.Good else mark)
    ≡ mark_of (filled (b ∷ bs) (month_beside date (b ∷ bs)))
month_marked (Some text) true mark b bs e h = refl
month_marked None false mark b bs e h = h
month_marked (Some text) false mark b bs e h = absurd cc
month_marked None true mark b bs e h = absurd cc

pub ruleset of_kind = (mark_judged, date_said)

-- ---- a day beside its month

-- what is no day is that beside each month
pub no_day : (s : Spelling) (month : MonthValue) → None ≡ spelled_text s
    → mark_of (verdict_of s) ≡ mark_of (in_month (Some month) (verdict_of s))
no_day (Ok (Some text)) month h = absurd cc
no_day (Ok None) month h = refl
no_day (Err fault) month h = refl

pub number_is : (day : ℕ) → number_of_two (two_digit_text day) ≡ day
number_is day = omega arith

pub day_marked : (s : Spelling) (month : MonthValue) (day : ℕ)
    → Some (two_digit_text day) ≡ spelled_text s
    → day_mark (is_date month.year month.month day)
    ≡ mark_of (in_month (Some month) (verdict_of s))
day_marked (Ok (Some text)) month day h =
    let same : text ≡ two_digit_text day = cc in
    let e : number_of_two text ≡ day = ap number_of_two same ∙ number_is day in
    rw e (here (is_date month.year month.month day))
  where
    here : (b : Bool) → day_mark b ≡ mark_of (if b then Spells text else Wrong 5)
    here true = refl
    here false = refl
day_marked (Ok None) month day h = absurd cc
day_marked (Err fault) month day h = absurd cc
