-- What FIX 4.2 says otherwise than FIX 5.0 SP2 means the same there.
use Rattle.std.proofs.Common.{◌≡◌, ℕ, Bool, true, false, ◌==◌, ◌&&◌, ◌||◌, List, ◌++◌, Option}
use Rattle.std.proofs.Common.{Some, None, refl, ap, ◌∙◌, if◌then◌else◌, codes}
use Rattle.std.proofs.Common.{option_map, nat_le}
use Rattle.std.specs.Prelude.{IfSome, drop}
use Rattle.std.proofs.lemmas.List.{append-nil}
use Rattle.std.specs.Str.Parse.{digits_value}
use Rattle.value_kinds.specs.ValueKind.{number_of_two}
use Rattle.typed_fields.specs.Digits.{number_of, are_digits}
use Rattle.field_groups.specs.HeadValues.{number_in}
use Rattle.message_tables.specs.Tables.{Said, ◌>>=◌, code_of}
use Rattle.order_meaning.specs.Request.{OrderType, MarketOnClose, LimitOnClose}
use Rattle.rows_fix42.specs.Meaning as meaning42
use Rattle.rows_fix50.specs.Meaning as meaning50
use Rattle.reports_fix50.specs.Sense.{reason_within, reason_told, telling}
use Rattle.sound_laws.proofs.Each.{either}
use Rattle.report_rules.specs.Rules.{at_close, on_close, reason_down, time_down, type_down, within}

-- ---- reasons

pub reason_kept : (last other : ℕ) (text : List ℕ) → number_in text ≡ Some other → (reason : Said)
    → (reason_down last text reason >>= number_in)
    ≡ option_map (reason_within last other) (reason >>= number_in)
reason_kept last other text is None = refl
reason_kept last other text is (Some reason) =
    elim (number_in reason) as (λ n. number_in reason ≡ n
    → number_in (within last text reason n) ≡ option_map (reason_within last other) n) [
      | None ↦ λ e. e
      | Some n ↦ λ e. elim (nat_le n last) as (λ b. number_in (if b then reason else text)
          ≡ Some (if b then n else other)) [ true ↦ e | false ↦ is ]
    ] refl

-- the reasons of FIX 4.2 that stand for later ones
pub other_0 : number_in (codes "0") ≡ Some 0
unfolding number_in number_of are_digits
other_0 = refl

pub other_4 : number_in (codes "4") ≡ Some 4
unfolding number_in number_of are_digits
other_4 = refl

pub other_2 : number_in (codes "2") ≡ Some 2
unfolding number_in number_of are_digits
other_2 = refl

-- ---- texts

-- an execution report has no reason of a cancel reject
pub report_told : (text rej restate cxl : Said) → cxl ≡ None
    → telling text (reason_told 103 8 (rej >>= number_in)
    ++ (reason_told 378 5 (restate >>= number_in) ++ reason_told 102 3 (cxl >>= number_in)))
    ≡ telling text (reason_told 103 8 (rej >>= number_in)
    ++ reason_told 378 5 (restate >>= number_in))
report_told text rej restate cxl none =
    ap (λ (c : Said). telling text (reason_told 103 8 (rej >>= number_in)
    ++ (reason_told 378 5 (restate >>= number_in) ++ reason_told 102 3 (c >>= number_in)))) none
    ∙ ap (λ (t : List ℕ). telling text (reason_told 103 8 (rej >>= number_in) ++ t))
    (append-nil (reason_told 378 5 (restate >>= number_in)))

-- and a cancel reject has none of an execution report
pub reject_told : (text rej restate cxl : Said) → rej ≡ None → restate ≡ None
    → telling text (reason_told 103 8 (rej >>= number_in)
    ++ (reason_told 378 5 (restate >>= number_in) ++ reason_told 102 3 (cxl >>= number_in)))
    ≡ telling text (reason_told 102 3 (cxl >>= number_in))
reject_told text rej restate cxl none also =
    λ i. telling text (reason_told 103 8 (none i >>= number_in)
    ++ (reason_told 378 5 (also i >>= number_in) ++ reason_told 102 3 (cxl >>= number_in)))

-- ---- a maturity

pub same_maturity : (month date : Said)
    → IfSome date (λ d. number_of_two (drop 6 d) ≡ digits_value 10 (drop 6 d))
    → meaning42.maturity_of month (option_map (drop 6) date) ≡ meaning50.maturity_of month date
same_maturity None date h = refl
same_maturity (Some month) None h = refl
same_maturity (Some month) (Some date) h =
    ap (λ (d : ℕ). Some (record { month = month; day = Some d })) h

-- ---- the terms of an order

abbrev pub Terms : Type 0
Terms = Option OrderType × Option ℕ

abbrev pub terms50 : Said → Said → Terms
terms50 type time = meaning50.terms_of (type >>= code_of) (time >>= code_of)

abbrev pub terms42 : Said → Said → Terms
terms42 type time = (
  (type >>= code_of) >>= meaning42.order_type_of,
  meaning42.time_of (meaning42.is_on_close (type >>= code_of)) (time >>= code_of),
)

-- what is not on close is the same type in both
same_type : (c : ℕ) → (c == 53 || c == 66) ≡ false
    → meaning42.order_type_of c ≡ (meaning50.terms_of (Some c) None).0
same_type c h = let p = either (c == 53) (c == 66) h in rw (p.0, p.1) refl

by_codes : (c time : Option ℕ) → meaning42.is_on_close c ≡ false
    → IfSome c (λ code. IfSome time (λ t. (t == 55) ≡ at_close (Some code) (Some t)))
    → ◌≡◌ {A = Terms} (if at_close c time then terms42 (on_close c) None
    else (c >>= meaning42.order_type_of, meaning42.time_of (meaning42.is_on_close c) time))
    (meaning50.terms_of c time)
by_codes None None plain close = refl
by_codes None (Some t) plain close = refl
by_codes (Some c) None plain close = λ i. (same_type c plain i, None)
by_codes (Some c) (Some t) plain close = by (t == 55) (c == 49) (c == 50) close
  where
    by : (seven market limit : Bool) → seven ≡ (seven && (market || limit))
        → ◌≡◌ {A = Terms} (if seven && (market || limit)
        then terms42 (if market then Some (codes "5") else Some (codes "B")) None
        else (meaning42.order_type_of c, meaning42.time_of (c == 53 || c == 66) (Some t)))
        (if seven
        then (
          (if market then Some MarketOnClose else (if limit then Some LimitOnClose else None)),
          None,
        )
        else ((meaning50.terms_of (Some c) None).0, Some t))
    by true true limit h = refl
    by true false true h = refl
    by true false false h = absurd cc
    by false market limit h = λ i. (same_type c plain i, meaning42.time_of (plain i) (Some t))

pub same_terms : (type time : Said) → meaning42.is_on_close (type >>= code_of) ≡ false
    → IfSome (type >>= code_of) (λ c. IfSome (time >>= code_of)
    (λ t. (t == 55) ≡ at_close (Some c) (Some t)))
    → terms42 (type_down type time) (time_down type time) ≡ terms50 type time
same_terms type time plain close =
    (elim (at_close (type >>= code_of) (time >>= code_of)) as
    (λ b. terms42 (if b then on_close (type >>= code_of) else type) (if b then None else time)
    ≡ (if b then terms42 (on_close (type >>= code_of)) None else terms42 type time))
    [ true ↦ refl | false ↦ refl ]) ∙ by_codes (type >>= code_of) (time >>= code_of) plain close
