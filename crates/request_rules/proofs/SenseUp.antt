-- What goes up by the rules means what it meant.
use Rattle.std.proofs.Common.{◌≡◌, ℕ, [], ◌∷◌, Bool, true, false, Option, Some, None}
use Rattle.std.proofs.Common.{refl, sym, ap, subst, ◌∙◌, codes, length}
use Rattle.std.proofs.lemmas.Bool.{eqb-true}
use Rattle.std.proofs.lemmas.List.{drop_at}
use Rattle.std.specs.Prelude.{IfSome, ◌==◌, ◌||◌, if◌then◌else◌, is_some}
use Rattle.std.specs.Str.Parse.{digits_value}
use Rattle.value_kinds.specs.ValueKind.{number_of_two}
use Rattle.message_tables.specs.Tables.{Place, Tag, Role, Said, Message, ◌>>=◌, code_of}
use Rattle.message_tables.specs.Tables.{lines_of, said_at, first_of, or_else}
use Rattle.order_meaning.specs.Request.{Request, RequestKind, New, Cancel, Replace, Status}
use Rattle.order_meaning.specs.Request.{OrderType, MarketOnClose, LimitOnClose}
use Rattle.row_values.specs.Amounts.{amount_of}
use Rattle.row_values.specs.Asked.{of_first, requested_by}
use Rattle.rows_fix42.specs.Meaning as meaning42
use Rattle.rows_fix50.specs.Meaning as meaning50
use Rattle.dict_fix42.specs.Sense as sense42
use Rattle.dict_fix50.specs.Sense as sense50
use Rattle.request_rules.specs.Rules.{at, date_up, is_late, is_unlisted, kinds, time_up, type_up}
use Rattle.request_rules.specs.Rules.{up_lack, up_message, up_rules}
use Rattle.request_rules.specs.Lack.{lack_of}
use Rattle.request_rules.specs.Up.{IsOrdinary, KeepsSense}
use Rattle.rule_rows.specs.ByRules.{At, Grouped, lack_if}
use Rattle.rule_rows.proofs.Looked as looked
use Rattle.request_rules.proofs.KindsUp.{are_kinds, own}
use Rattle.request_rules.proofs.LacksUp.{lack_is}

-- ---- a maturity

same_maturity : (month day : Said) → IfSome month (λ text. length text ≡ 6)
    → IfSome day (λ text. digits_value 10 text ≡ number_of_two text)
    → meaning50.maturity_of month (date_up month day) ≡ meaning42.maturity_of month day
same_maturity None day six two = refl
same_maturity (Some month) None six two = refl
same_maturity (Some month) (Some day) six two =
    ap (λ (d : ℕ). Some (record { month = month; day = Some d }))
    (ap (digits_value 10) (drop_at month day 6 six) ∙ two)

-- ---- the terms of an order

abbrev pub Terms : Type 0
Terms = Option OrderType × Option ℕ

-- what they mean in either version
abbrev terms50 : Said → Said → Terms
terms50 ord_type time = meaning50.terms_of (ord_type >>= code_of) (time >>= code_of)

abbrev terms42 : Said → Said → Terms
terms42 ord_type time = (
  (ord_type >>= code_of) >>= meaning42.order_type_of,
  meaning42.time_of (meaning42.is_on_close (ord_type >>= code_of)) (time >>= code_of),
)

module _ (time : Said) (other : IfSome (time >>= code_of) (λ code. (code == 55) ≡ false)) where
  -- no code of a type
  no_type : ◌≡◌ {A = Terms} (None, time >>= code_of)
      (None, meaning42.time_of false (time >>= code_of))
  no_type = by (time >>= code_of)
    where
      by : (code : Option ℕ) → ◌≡◌ {A = Terms} (None, code) (None, meaning42.time_of false code)
      by None = refl
      by (Some code) = refl

  -- on close, with no other time
  on_close : (type : OrderType) → is_some (meaning42.time_of true (time >>= code_of)) ≡ false
      → ◌≡◌ {A = Terms} (Some type, None) (Some type, meaning42.time_of true (time >>= code_of))
  on_close type h = by (meaning42.time_of true (time >>= code_of)) h
    where
      by : (t : Option ℕ) → is_some t ≡ false → ◌≡◌ {A = Terms} (Some type, None) (Some type, t)
      by None h = refl
      by (Some t) h = absurd cc

  -- not on close
  plain : (code : ℕ) → (code == 53) ≡ false → (code == 66) ≡ false
      → meaning50.terms_of (Some code) (time >>= code_of)
      ≡ (
        meaning42.order_type_of code,
        meaning42.time_of (meaning42.is_on_close (Some code)) (time >>= code_of),
      )
  plain code five b = by (time >>= code_of) other
    where
      by : (t : Option ℕ) → IfSome t (λ x. (x == 55) ≡ false)
          → meaning50.terms_of (Some code) t
          ≡ (meaning42.order_type_of code, meaning42.time_of (meaning42.is_on_close (Some code)) t)
      by None h = rw (five, b) refl
      by (Some t) h = rw (five, b, h) refl

  one_code : (code : ℕ) → is_late (Some code) (time >>= code_of) ≡ false
      → terms50 (type_up (Some (code ∷ []))) (time_up (Some (code ∷ [])) time)
      ≡ terms42 (Some (code ∷ [])) time
  one_code code h = by (code == 53) (code == 66) refl refl
    where
      P : ℕ → Type 0
      P c = is_late (Some c) (time >>= code_of) ≡ false
          → terms50 (type_up (Some (c ∷ []))) (time_up (Some (c ∷ [])) time)
          ≡ terms42 (Some (c ∷ [])) time

      left : (five b : Bool) → five ≡ false → b ≡ false
          → terms50 (if five then Some (codes "1") else (if b then Some (codes "2")
          else Some (code ∷ []))) (if five || b then Some (codes "7") else time)
          ≡ meaning50.terms_of (Some code) (time >>= code_of)
      left false false e f = refl
      left other b e f = absurd cc

      by : (five b : Bool) → (code == 53) ≡ five → (code == 66) ≡ b
          → terms50 (type_up (Some (code ∷ []))) (time_up (Some (code ∷ [])) time)
          ≡ terms42 (Some (code ∷ [])) time
      by true b e f = subst P (sym (eqb-true code 53 e)) (on_close MarketOnClose) h
      by false true e f = subst P (sym (eqb-true code 66 f)) (on_close LimitOnClose) h
      by false false e f = left (code == 53) (code == 66) e f ∙ plain code e f

  same_terms : (ord_type : Said) → is_late (ord_type >>= code_of) (time >>= code_of) ≡ false
      → terms50 (type_up ord_type) (time_up ord_type time) ≡ terms42 ord_type time
  same_terms None h = no_type
  same_terms (Some []) h = no_type
  same_terms (Some (code ∷ [])) h = one_code code h
  same_terms (Some (a ∷ b ∷ text)) h = no_type

-- ---- any request

-- no rule lacks a time
not_late : (late unlisted : Bool)
    → or_else (lack_if late 59) (or_else (lack_if unlisted 47) None) ≡ None → late ≡ false
not_late true unlisted h = absurd cc
not_late false unlisted h = refl

module _ (m : Message) where
  says : (place : Place) → said_at (up_message m).cells place
      ≡ looked.said_by kinds m (looked.rule_at kinds (At place) up_rules)
  says place = looked.says kinds are_kinds up_rules own m place

  has_lines_of : (count : ℕ) → lines_of count (up_message m).groups
      ≡ looked.lines_by kinds m (looked.rule_at kinds (Grouped count) up_rules)
  has_lines_of count = looked.has_lines_of kinds are_kinds up_rules own m count

  maturity : IsOrdinary m
      → meaning50.maturity_of (at (up_message m) 200) (at (up_message m) 541)
      ≡ meaning42.maturity_of (at m 200) (at m 205)
  maturity h = (λ i. meaning50.maturity_of (says (Tag 200) i) (says (Tag 541) i))
      ∙ same_maturity (at m 200) (at m 205) h.month h.day

  terms : IsOrdinary m → up_lack m ≡ None
      → terms50 (at (up_message m) 40) (at (up_message m) 59) ≡ terms42 (at m 40) (at m 59)
  unfolding first_of
  terms h none = (λ i. terms50 (says (Tag 40) i) (says (Tag 59) i))
      ∙ same_terms (at m 59) h.time (at m 40)
      (not_late (is_late (at m 40 >>= code_of) (at m 59 >>= code_of))
      (is_unlisted (codes "AIP") (at m 47 >>= code_of)) none)

  means : IsOrdinary m → (kind : RequestKind) → lack_of (sense42.request_of kind m) ≡ None
      → sense50.request_of kind (up_message m) ≡ sense42.request_of kind m
  means h kind lack =
      let mature = maturity h in
      let term = terms h (sym (lack_is kind m) ∙ lack) in
      λ i. requested_by kind m.resend (λ place. says place i) (λ count. has_lines_of count i)
      (record {
        client_id = says (Role 3) i;
        exec_broker = says (Role 1) i;
        clearing_firm = says (Role 4) i;
        hand_inst = says (Tag 21) i >>= code_of;
        max_floor = says (Tag 1138) i >>= amount_of;
        maturity = mature i;
        ord_type = (term i).0;
        time_in_force = (term i).1;
        capacity = says (Tag 528) i >>= code_of;
      })

-- the request of a letter
by_letter : (f g : RequestKind → Request)
    → ((kind : RequestKind) → lack_of (f kind) ≡ None → g kind ≡ f kind) → (d c r s : Bool)
    → of_first d c r s f >>= lack_of ≡ None → of_first d c r s g ≡ of_first d c r s f
by_letter f g same true c r s h = ap (λ (x : Request). Some x) (same New h)
by_letter f g same false true r s h = ap (λ (x : Request). Some x) (same Cancel h)
by_letter f g same false false true s h = ap (λ (x : Request). Some x) (same Replace h)
by_letter f g same false false false true h = ap (λ (x : Request). Some x) (same Status h)
by_letter f g same false false false false h = refl

-- IT MEANS THE SAME.
pub keeps_sense : KeepsSense
keeps_sense m h lack =
    by_letter (λ kind. sense42.request_of kind m) (λ kind. sense50.request_of kind (up_message m))
    (means m h) (m.letter == 68) (m.letter == 70) (m.letter == 71) (m.letter == 72) lack
