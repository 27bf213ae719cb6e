-- The first rule that lacks a spelling lacks that of the request.
use Rattle.std.proofs.Common.{◌≡◌, ℕ, Bool, true, false, Option, Some, None, refl, sym, ◌∙◌, codes}
use Rattle.std.proofs.Common.{subst}
use Rattle.std.proofs.lemmas.Bool.{eqb-true}
use Rattle.std.specs.Prelude.{◌==◌, is_some, if◌then◌else◌}
use Rattle.message_tables.specs.Tables.{◌>>=◌, code_of, first_of, or_else}
use Rattle.order_meaning.specs.Request.{OrderType, Market, Limit, Stop, StopLimit, MarketOnClose}
use Rattle.order_meaning.specs.Request.{LimitOnClose}
use Rattle.rows_fix42.specs.Meaning.{is_on_close, order_type_of, time_of}
use Rattle.rule_rows.specs.ByRules.{lack_if}
use Rattle.request_rules.specs.Rules.{at, is_late, is_unlisted}
use Rattle.request_rules.specs.Lack.{lacks_time, lacks_capacity}
use Rattle.request_rules.specs.Up.{LacksByRules}

-- an order that is not on close lacks no time
pub plain : (a b c d : Bool) (time : Option ℕ)
    → lacks_time (if a then Some Market else (if b then Some Limit else
    (if c then Some Stop else (if d then Some StopLimit else None)))) time ≡ false
plain true b c d time = refl
plain false true c d time = refl
plain false false true d time = refl
plain false false false true time = refl
plain false false false false time = refl

-- an order on close with another time lacks that time
late : (code time : Option ℕ)
    → lacks_time (code >>= order_type_of) (time_of (is_on_close code) time) ≡ is_late code time
late None time = none (time_of false time)
  where
    none : (t : Option ℕ) → lacks_time None t ≡ false
    none t = refl
late (Some code) time = by (code == 53) (code == 66) refl refl
  where
    P : ℕ → Type 0
    P c = lacks_time (order_type_of c) (time_of (is_on_close (Some c)) time) ≡ is_late (Some c) time

    on_close : (type : OrderType) → ((t : ℕ) → lacks_time (Some type) (Some t) ≡ true)
        → lacks_time (Some type) None ≡ false
        → lacks_time (Some type) (time_of true time) ≡ is_some (time_of true time)
    on_close type some none = each (time_of true time)
      where
        each : (t : Option ℕ) → lacks_time (Some type) t ≡ is_some t
        each None = none
        each (Some t) = some t

    by : (five b : Bool) → (code == 53) ≡ five → (code == 66) ≡ b → P code
    by true b e f = subst P (sym (eqb-true code 53 e)) (on_close MarketOnClose (λ t. refl) refl)
    by false true e f = subst P (sym (eqb-true code 66 f)) (on_close LimitOnClose (λ t. refl) refl)
    by false false e f = rw (e, f)
        (plain (code == 49) (code == 50) (code == 51) (code == 52) (time_of false time))

unlisted : (code : Option ℕ) → lacks_capacity code ≡ is_unlisted (codes "AIP") code
unlisted None = refl
unlisted (Some code) = refl

-- the lack of a request by the two rules that may have one
two_lacks : (late unlisted : Bool)
    → ◌≡◌ {A = Option ℕ} (if late then Some 59 else (if unlisted then Some 47 else None))
    (or_else (lack_if late 59) (or_else (lack_if unlisted 47) None))
two_lacks true unlisted = refl
two_lacks false true = refl
two_lacks false false = refl

pub lack_is : LacksByRules
unfolding first_of
lack_is kind m =
    (λ i. if late (at m 40 >>= code_of) (at m 59 >>= code_of) i then Some 59
    else (if unlisted (at m 47 >>= code_of) i then Some 47 else None))
    ∙ two_lacks (is_late (at m 40 >>= code_of) (at m 59 >>= code_of))
    (is_unlisted (codes "AIP") (at m 47 >>= code_of))
