-- Codes that count only in some cases.
use Rattle.std.specs.Prelude.{◌≡◌, ℕ, Bool, true, false, List, [], ◌∷◌, refl, not, codes, Ok}
use Rattle.std.specs.Prelude.{Option, Some, None, ◌||◌, if◌then◌else◌}
use Rattle.field_groups.specs.Field.{Field}
use Rattle.message_tables.specs.Tables.{Said, ◌>>=◌, text_of, is_listed, value_at}
use Rattle.value_kinds.specs.ValueKind.{Code, listed_word, is_code, spelling}
use Rattle.row_values.specs.Kinds.{Value, TimeBeside, counted, is_at_close, judge, verdict_of, said}
use Rattle.std.proofs.Common.{◌∙◌}

-- a TimeInForce, where it may be at the close or not
abbrev pub if_timely : Bool → Said → Said
if_timely may_close None = None
if_timely may_close (Some time) = if not (is_at_close time) || may_close then Some time else None

pub time_said : (fields : List Field) → said fields 59 (TimeBeside 40)
    ≡ if_timely (is_listed (codes "12") (value_at 40 fields))
    (said fields 59 (Value (Code (codes "01234567"))))
unfolding judge spelling
time_said fields = here (is_listed (codes "12") (value_at 40 fields)) (value_at 59 fields)
  where
    by_list : (counts good : Bool) (bytes : List ℕ)
        → text_of (counted counts (verdict_of (Ok (listed_word good bytes))))
        ≡ (if good then (if counts then Some bytes else None) else None)
    by_list true true bytes = refl
    by_list true false bytes = refl
    by_list false true bytes = refl
    by_list false false bytes = refl

    by_text : (may_close good : Bool) (bytes : List ℕ)
        → (if good then (if not (is_at_close bytes) || may_close then Some bytes else None)
        else None)
        ≡ if_timely may_close (text_of (verdict_of (Ok (listed_word good bytes))))
    by_text may_close true bytes = refl
    by_text may_close false bytes = refl

    here : (may_close : Bool) (o : Option (List ℕ))
        → (o >>= (λ v. text_of (counted (not (is_at_close v) || may_close)
        (verdict_of (spelling (Code (codes "01234567")) v)))))
        ≡ if_timely may_close
        (o >>= (λ v. text_of (verdict_of (spelling (Code (codes "01234567")) v))))
    here may_close None = refl
    here may_close (Some []) = refl
    here may_close (Some (b ∷ bs)) =
        let good = is_code (codes "01234567") (b ∷ bs) in
        by_list (not (is_at_close (b ∷ bs)) || may_close) good (b ∷ bs)
        ∙ by_text may_close good (b ∷ bs)
