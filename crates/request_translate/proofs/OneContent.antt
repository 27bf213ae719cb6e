-- Canonical requests that mean the same have the same content: what each item means gives back what
-- is said there.
use Rattle.std.proofs.Common.{◌≡◌, ℕ, List, [], ◌∷◌, ◌++◌, map, take, drop, length, codes, Option}
use Rattle.std.proofs.Common.{Some, None, Bool, true, false, refl, sym, ap, subst, ◌∙◌, option_map}
use Rattle.std.proofs.Common.{unwrap_or, arith, length-drop}
use Rattle.std.specs.Prelude.{IsSome, IfSome, not, ◌||◌, ◌==◌, Result, Ok, Err}
use Rattle.std.specs.List.{AllByRecursion, slice_get, flat_map}
use Rattle.std.specs.Result.{result_ok}
use Rattle.std.proofs.lemmas.Bool.{eqb-true}
use Rattle.std.proofs.lemmas.List.{take-append-drop, take_all}
use Rattle.typed_fields.specs.declared.fault.FieldFault.{FieldFault}
use Rattle.typed_fields.specs.declared.dec.Dec.{Dec as DecValue}
use Rattle.typed_fields.specs.declared.flag.Flag.{Flag as FlagValue}
use Rattle.typed_fields.specs.Day.{read_day}
use Rattle.typed_fields.specs.Dec.{dec_text, read_dec}
use Rattle.typed_fields.specs.Digits.{are_digits, has_pattern, number_of, zero_padded}
use Rattle.typed_fields.specs.Flag.{flag_text, read_flag}
use Rattle.typed_fields.proofs.NumberLaws.{flag_is_plain}
use Rattle.typed_fields.proofs.DigitsLemmas.{digits_of_pattern, length-has_pattern}
use Rattle.typed_fields.proofs.SpellingLemmas.{judged_ok, zero_padded-number_of}
use Rattle.field_groups.specs.Field.{Field}
use Rattle.value_kinds.specs.ValueKind as kinds
use Rattle.value_kinds.specs.ValueKind.{code_text, is_code, spelling, spelt, units_of_text}
use Rattle.message_tables.specs.Tables.{Spells, Tag, Said, Cell, ◌>>=◌, code_of, flag_of, is_listed}
use Rattle.message_tables.specs.Tables.{is_one_of, value_at, Item, One, Party, Lines, Need}
use Rattle.message_tables.specs.Tables.{Required, Optional, Lenient, Message, lines_of}
use Rattle.message_tables.specs.Content.{line_fields, content, item_fields, cell_fields}
use Rattle.message_tables.specs.Content.{group_fields}
use Rattle.order_meaning.specs.declared.Amount.{Amount}
use Rattle.order_meaning.specs.Request.{OrderType, Market, Limit, Stop, StopLimit, MarketOnClose}
use Rattle.order_meaning.specs.Request.{LimitOnClose, NeutralAlloc, NeutralSession, NeutralMaturity}
use Rattle.order_meaning.specs.Request.{Request, RequestKind, New, Cancel, Replace, Status}
use Rattle.row_values.specs.Amounts.{amount_of, alloc_of, session_of}
use Rattle.row_values.specs.Groups.{allocs, sessions}
use Rattle.row_values.specs.Kinds.{Kind, Value, Byte, TimeBeside, judge, verdict_of}
use Rattle.row_values.specs.Kinds.{is_at_close}
use Rattle.rows_fix50.specs.Header.{month_by, table}
use Rattle.rows_fix50.specs.Meaning.{terms_of, maturity_of}
use Rattle.sound_laws.specs.Sound.{IsLine, IsItem, IsSaid}
use Rattle.sound_laws.proofs.Each.{◌&◌, both, one_of, at_index}
use Rattle.sound_laws.proofs.Judged50.{counts}
use Rattle.sound_laws.proofs.RowsSaid.{is_code_of}
use Rattle.rule_rows.proofs.FieldsSaid.{prices, quantities}
use Rattle.dict_fix50.specs.Requests.{new_order, cancel_request, replace_request, status_request}
use Rattle.dict_fix50.specs.Sense.{request50, request_of}
use Rattle.request_rules.specs.Canonical.{IsCanonical}
use Rattle.request_rules.specs.Rules.{at, party_lines}
use Rattle.request_translate.specs.Laws.{HaveOneContent, RequestsHaveOneContent}
use Rattle.sound_laws.proofs.ContentValues.{is_alone, groups_said, value_said}

-- what the meanings of two give back is the same where they mean the same
same_by : {S A : Type 0} (means : S → A) (back : A → S) (a b : S)
    → back (means a) ≡ a → back (means b) ≡ b → means a ≡ means b → a ≡ b
same_by means back a b x y e = sym x ∙ ap back e ∙ y

-- ---- texts and codes

text_back : (said : Said) → IsSome said → Some (unwrap_or said []) ≡ said
text_back None there = absurd cc
text_back (Some text) there = refl

-- a text of one byte
abbrev IsByte : List ℕ → Type 0
IsByte text = (code : ℕ) × (text ≡ code_text code)

code_back : (said : Said) → IfSome said IsByte → option_map code_text (said >>= code_of) ≡ said
code_back None h = refl
code_back (Some text) (code, is) =
    ap (λ (t : List ℕ). option_map code_text (code_of t)) is
    ∙ ap (λ (t : List ℕ). Some t) (sym is)

code_in_back : (said : Said) → IsSome said → IfSome said IsByte
    → Some (code_text (unwrap_or (said >>= code_of) 0)) ≡ said
code_in_back None there h = absurd cc
code_in_back (Some text) there (code, is) =
    ap (λ (t : List ℕ). Some (code_text (unwrap_or (code_of t) 0))) is
    ∙ ap (λ (t : List ℕ). Some t) (sym is)

codes_said : (fields : List Field) (listed : List ℕ) (said : Said)
    → IfSome said (λ t. judge fields (Value (kinds.Code listed)) t ≡ Spells t) → IfSome said IsByte
codes_said fields listed None h = tt
codes_said fields listed (Some text) h =
    let k = is_code_of fields listed text h in (k.code, k.is)

byte_is : (listed text : List ℕ) → is_code listed text ≡ true → IsByte text
byte_is listed (b ∷ []) h = (b, refl)
byte_is listed other h = absurd cc

bytes_said : (fields : List Field) (listed : List ℕ) (said : Said)
    → IfSome said (λ t. judge fields (Byte listed) t ≡ Spells t) → IfSome said IsByte
unfolding judge
bytes_said fields listed None h = tt
bytes_said fields listed (Some text) h = byte_is listed text
    (counts (is_code listed text) (verdict_of (spelling kinds.OneByte text)) text h).0

-- ---- amounts

amount_text : Amount → List ℕ
amount_text amount = dec_text (record { units = amount.units })

abbrev amounts_back : Option Amount → Said
amounts_back amount = option_map amount_text amount

abbrev read_amount : Result DecValue FieldFault → Option Amount
read_amount r =
    option_map (λ units. record { units = units }) (option_map (λ d. d.units) (result_ok r))

amount_back : (r : Result DecValue FieldFault)
    → amounts_back (read_amount r) ≡ option_map dec_text (result_ok r)
unfolding amount_text
amount_back (Ok d) = refl
amount_back (Err fault) = refl

prices_back : (fields : List Field) (said : Said)
    → IfSome said (λ t. judge fields (Value kinds.Price) t ≡ Spells t)
    → amounts_back (said >>= amount_of) ≡ said
unfolding judge units_of_text
prices_back fields None h = refl
prices_back fields (Some text) h = amount_back (read_dec text) ∙ prices text text h

qtys_back : (fields : List Field) (said : Said)
    → IfSome said (λ t. judge fields (Value kinds.Qty) t ≡ Spells t)
    → amounts_back (said >>= amount_of) ≡ said
unfolding judge units_of_text
qtys_back fields None h = refl
qtys_back fields (Some text) h = amount_back (read_dec text) ∙ quantities text text h

-- ---- flags

abbrev flag_back : Bool → List ℕ
flag_back is_yes = flag_text (record { yes = is_yes })

flag_is : (f : FlagValue) → flag_back (flag_of (flag_text f)) ≡ flag_text f
flag_is f = elim f.yes as (λ yes. flag_back (flag_of (flag_text (record { yes = yes })))
    ≡ flag_text (record { yes = yes })) [ true ↦ refl | false ↦ refl ]

flag_form : (text : List ℕ) (r : Result FlagValue FieldFault)
    → verdict_of (spelt (λ _. text) r) ≡ Spells text → (x : FlagValue) × (r ≡ Ok x)
flag_form text (Ok x) h = (x, refl)
flag_form text (Err fault) h = absurd cc

flags_back : (fields : List Field) (said : Said)
    → IfSome said (λ t. judge fields (Value kinds.Flag) t ≡ Spells t)
    → option_map flag_back (option_map flag_of said) ≡ said
unfolding judge spelling
flags_back fields None h = refl
flags_back fields (Some []) h = absurd cc
flags_back fields (Some (b ∷ bs)) h =
    let r = flag_form (b ∷ bs) (read_flag (b ∷ bs)) h in
    let is : flag_text r.0 ≡ b ∷ bs = flag_is_plain (b ∷ bs) r.0 r.1 in
    let P : List ℕ → Type 0 = λ text. Some (flag_back (flag_of text)) ≡ Some text in
    subst P is (ap (λ (text : List ℕ). Some text) (flag_is r.0))

-- ---- OrdType and TimeInForce

-- the codes of what they mean
abbrev codes_of : Option OrderType → Option ℕ → ℕ × Option ℕ
codes_of None time = (0, None)
codes_of (Some Market) time = (49, time)
codes_of (Some Limit) time = (50, time)
codes_of (Some Stop) time = (51, time)
codes_of (Some StopLimit) time = (52, time)
codes_of (Some MarketOnClose) time = (49, Some 55)
codes_of (Some LimitOnClose) time = (50, Some 55)

abbrev texts_of : ℕ × Option ℕ → Said × Said
texts_of both = (Some (code_text both.0), option_map code_text both.1)

-- what both mean, and what that gives back
abbrev terms_said : Said × Said → Option OrderType × Option ℕ
terms_said both = terms_of (both.0 >>= code_of) (both.1 >>= code_of)

abbrev terms_text : Option OrderType × Option ℕ → Said × Said
terms_text terms = texts_of (codes_of terms.0 terms.1)

-- a TimeInForce that may stand beside an OrdType
abbrev IsBeside : ℕ → Option ℕ → Type 0
IsBeside code time =
    IfSome time (λ t. (not (is_at_close (code_text t)) || is_one_of (codes "12") code) ≡ true)

abbrev IsBack : ℕ → Option ℕ → Type 0
IsBack code time =
    codes_of (terms_of (Some code) time).0 (terms_of (Some code) time).1 ≡ (code, time)

-- a TimeInForce of 7 or another
by_time : (code : ℕ) → IsBack code None → ((t : ℕ) → (t == 55) ≡ false → IsBack code (Some t))
    → (is_one_of (codes "12") code ≡ true → IsBack code (Some 55)) →
    (time : Option ℕ) → IsBeside code time → IsBack code time
by_time code none other close None h = none
by_time code none other close (Some t) h =
    elim (t == 55) as (λ b. (t == 55) ≡ b → IsBack code (Some t)) [
      | true ↦ λ e.
          let is : t ≡ 55 = eqb-true t 55 e in
          let Q : ℕ → Type 0 =
          λ x. (not (is_at_close (code_text x)) || is_one_of (codes "12") code) ≡ true in
          subst (λ (x : ℕ). IsBack code (Some x)) (sym is) (close (subst Q is h))
      | false ↦ other t
    ] refl

codes_are_back : (code : ℕ) → is_one_of (codes "1234") code ≡ true
    → (time : Option ℕ) → IsBeside code time → IsBack code time
codes_are_back code h =
    let P : ℕ → Type 0 = λ c. (time : Option ℕ) → IsBeside c time → IsBack c time in
    one_of P (codes "1234") (by_time 49 refl (λ t other. rw other refl) (λ close. refl)
    & by_time 50 refl (λ t other. rw other refl) (λ close. refl)
    & by_time 51 refl (λ t other. rw other refl) (λ close. absurd cc)
    & by_time 52 refl (λ t other. rw other refl) (λ close. absurd cc) & tt) code h

both_back : (code : ℕ) (time : Option ℕ) → IsBack code time
    → terms_text (terms_said (texts_of (code, time))) ≡ texts_of (code, time)
both_back code None h = ap texts_of h
both_back code (Some t) h = ap texts_of h

-- the code of a TimeInForce beside an OrdType
record IsTime (code : ℕ) (said : Said) : Type 0 where
  time : Option ℕ
  is : said ≡ option_map code_text time
  beside : IsBeside code time

time_is : (fields : List Field) (code : ℕ) (said : Said)
    → value_at 40 fields ≡ Some (code_text code)
    → IfSome said (λ t. judge fields (TimeBeside 40) t ≡ Spells t) → IsTime code said
unfolding judge
time_is fields code None at h = record { time = None; is = refl; beside = tt }
time_is fields code (Some text) at h =
    let counted = counts (not (is_at_close text) || is_listed (codes "12")
    (value_at 40 fields)) (verdict_of (spelling (kinds.Code (codes "01234567")) text)) text h in
    let k = is_code_of fields (codes "01234567") text counted.1 in
    let beside : (not (is_at_close text) || is_listed (codes "12") (Some (code_text code)))
    ≡ true = ap (λ (v : Said). not (is_at_close text) || is_listed (codes "12") v) (sym at)
    ∙ counted.0 in
    record {
      time = Some k.code;
      is = ap (λ (t : List ℕ). Some t) k.is;
      beside = ap (λ (t : List ℕ). not (is_at_close t) || is_one_of (codes "12") code) (sym k.is)
          ∙ beside;
    }

terms_back : (fields : List Field) (ord_type time : Said)
    → value_at 40 fields ≡ ord_type → IsSome ord_type →
    IfSome ord_type (λ t. judge fields (Value (kinds.Code (codes "1234"))) t ≡ Spells t)
    → IfSome time (λ t. judge fields (TimeBeside 40) t ≡ Spells t)
    → terms_text (terms_said (ord_type, time)) ≡ (ord_type, time)
terms_back fields None time at there h k = absurd cc
terms_back fields (Some text) time at there h k =
    let c = is_code_of fields (codes "1234") text h in
    let type : Some text ≡ Some (code_text c.code) = ap (λ (t : List ℕ). Some t) c.is in
    let t = time_is fields c.code time (at ∙ type) k in
    let is : ◌≡◌ {A = Said × Said} (Some text, time) (texts_of (c.code, t.time)) =
    λ i. (type i, t.is i) in
    ap (λ (both : Said × Said). terms_text (terms_said both)) is
    ∙ both_back c.code t.time (codes_are_back c.code c.listed t.time t.beside) ∙ sym is

-- ---- Maturity

-- a date is its month, and the two digits of its day
date_back : (fields : List Field) (date : List ℕ)
    → judge fields (Value kinds.Day) date ≡ Spells date
    → take 6 date ++ zero_padded 2 (number_of (drop 6 date)) ≡ date
unfolding judge spelling
date_back fields [] h = absurd cc
date_back fields (b ∷ bs) h =
    let date = b ∷ bs in
    let r = by (read_day date) h in
    let form : has_pattern (codes "YYYYMMDD") date ≡ true = (judged_ok date _ _ _ r.0 r.1).form in
    let long : length date ≡ 8 = length-has_pattern (codes "YYYYMMDD") date form in
    let short : length (drop 6 date) ≡ 2 = simp length-drop (omega arith) in
    let whole : take 2 (drop 6 date) ≡ drop 6 date = take_all 2 (drop 6 date) (omega arith) in
    let ds = digits_of_pattern (codes "YYYYMMDD") date 6 8 form refl in
    let digits : are_digits (drop 6 date) ≡ true = sym (ap are_digits whole) ∙ ds in
    let two : zero_padded 2 (number_of (drop 6 date)) ≡ drop 6 date =
    ap (λ (n : ℕ). zero_padded n (number_of (drop 6 date))) (sym short)
    ∙ zero_padded-number_of (drop 6 date) digits in
    ap (λ (ds : List ℕ). take 6 date ++ ds) two ∙ take-append-drop 6 date
  where
    by : {A : Type 0} (r : Result A FieldFault)
        → verdict_of (spelt (λ _. b ∷ bs) r) ≡ Spells (b ∷ bs) → (x : A) × (r ≡ Ok x)
    by (Ok x) h = (x, refl)
    by (Err fault) h = absurd cc

abbrev dated : List ℕ → Option ℕ → Said × Said
dated month day = (Some month, option_map (λ d. month ++ zero_padded 2 d) day)

abbrev maturity_text : Option NeutralMaturity → Said × Said
maturity_text None = (None, None)
maturity_text (Some maturity) = dated maturity.month maturity.day

abbrev maturity_said : Said × Said → Option NeutralMaturity
maturity_said both = maturity_of both.0 both.1

maturity_back : (fields : List Field) (month date : Said) → month ≡ month_by date month
    → IfSome date (λ t. judge fields (Value kinds.Day) t ≡ Spells t)
    → maturity_text (maturity_said (month, date)) ≡ (month, date)
unfolding number_of
maturity_back fields None None m h = refl
maturity_back fields None (Some date) m h = absurd cc
maturity_back fields (Some month) None m h = refl
maturity_back fields (Some month) (Some date) m h =
    let is : month ≡ take 6 date = cc in
    let back : month ++ zero_padded 2 (number_of (drop 6 date)) ≡ date =
    ap (λ (t : List ℕ). t ++ zero_padded 2 (number_of (drop 6 date))) is
    ∙ date_back fields date h in
    λ i. (Some month, Some (back i))

-- ---- groups

-- the lines that meanings give back
lines_back : {A : Type 0} (means : List Cell → A) (back : A → List Cell) (P : List Cell → Type 0)
    → ((line : List Cell) → P line → back (means line) ≡ line)
    → (lines : List (List Cell)) → AllByRecursion P lines → map back (map means lines) ≡ lines
lines_back means back P each [] h = refl
lines_back means back P each (line ∷ lines) h =
    λ i. each line h.0 i ∷ lines_back means back P each lines h.1 i

abbrev alloc_cells : NeutralAlloc → List Cell
alloc_cells alloc = (Tag 79, Some alloc.account) ∷ (Tag 80, amounts_back alloc.qty) ∷ []

alloc_back : (line : List Cell) → IsLine judge allocs.rows line
    → alloc_cells (alloc_of line) ≡ line
alloc_back [] h = absurd h
alloc_back (a ∷ []) h = absurd h.2
alloc_back (a ∷ b ∷ c ∷ line) h = absurd h.2.2
alloc_back (a ∷ b ∷ []) h =
    let account = text_back a.1 (h.1.needed refl) in
    let qty = qtys_back (line_fields (a ∷ b ∷ [])) b.1 h.2.1.spelled in
    let is : a ∷ b ∷ [] ≡ (Tag 79, a.1) ∷ (Tag 80, b.1) ∷ [] =
    λ i. (h.0 i, a.1) ∷ (h.2.0 i, b.1) ∷ [] in
    ap (λ (l : List Cell). alloc_cells (alloc_of l)) is
    ∙ (λ i. (Tag 79, account i) ∷ (Tag 80, qty i) ∷ []) ∙ sym is

allocs_back : (lines : List (List Cell)) → AllByRecursion (IsLine judge allocs.rows) lines
    → map alloc_cells (map alloc_of lines) ≡ lines
allocs_back = lines_back alloc_of alloc_cells (IsLine judge allocs.rows) alloc_back

abbrev session_cells : NeutralSession → List Cell
session_cells session = (Tag 336, Some session.id) ∷ []

session_back : (line : List Cell) → IsLine judge sessions.rows line
    → session_cells (session_of line) ≡ line
session_back [] h = absurd h
session_back (a ∷ b ∷ line) h = absurd h.2
session_back (a ∷ []) h =
    let is : a ∷ [] ≡ (Tag 336, a.1) ∷ [] = λ i. (h.0 i, a.1) ∷ [] in
    ap (λ (l : List Cell). session_cells (session_of l)) is
    ∙ ap (λ (s : Said). (Tag 336, s) ∷ []) (text_back a.1 (h.1.needed refl)) ∙ sym is

sessions_back : (lines : List (List Cell)) → AllByRecursion (IsLine judge sessions.rows) lines
    → map session_cells (map session_of lines) ≡ lines
sessions_back = lines_back session_of session_cells (IsLine judge sessions.rows) session_back

-- ---- what an item means of what is said there, and what that gives back

data Meaning : Type 0 where
  Told : Said → Meaning
  Text : List ℕ → Meaning
  Coded : Option ℕ → Meaning
  Code : ℕ → Meaning
  Amounts : Option Amount → Meaning
  Flagged : Option Bool → Meaning
  Lined : List (List Cell) → Meaning

abbrev back : Meaning → Said
back (Told said) = said
back (Text text) = Some text
back (Coded code) = option_map code_text code
back (Code code) = Some (code_text code)
back (Amounts amount) = amounts_back amount
back (Flagged flag) = option_map flag_back flag
back (Lined lines) = None

abbrev means : Kind → Need → Said → Meaning
means (Value (kinds.Code listed)) Required said = Code (unwrap_or (said >>= code_of) 0)
means (Value (kinds.Code listed)) need said = Coded (said >>= code_of)
means (Byte listed) need said = Coded (said >>= code_of)
means (Value kinds.Qty) need said = Amounts (said >>= amount_of)
means (Value kinds.Price) need said = Amounts (said >>= amount_of)
means (Value kinds.Flag) need said = Flagged (option_map flag_of said)
means kind Required said = Text (unwrap_or said [])
means kind need said = Told said

-- ONE LEMMA FOR EACH KIND OF ROW
row_back : (fields : List Field) (kind : Kind) (need : Need) (tag : ℕ) (said : Said)
    → IsSaid judge fields (record { tag = tag; kind = kind; need = need }) said
    → back (means kind need said) ≡ said
row_back fields (Value (kinds.Code listed)) Required tag said h =
    code_in_back said (h.needed refl) (codes_said fields listed said h.spelled)
row_back fields (Value (kinds.Code listed)) need tag said h =
    code_back said (codes_said fields listed said h.spelled)
row_back fields (Byte listed) need tag said h =
    code_back said (bytes_said fields listed said h.spelled)
row_back fields (Value kinds.Qty) need tag said h = qtys_back fields said h.spelled
row_back fields (Value kinds.Price) need tag said h = prices_back fields said h.spelled
row_back fields (Value kinds.Flag) need tag said h = flags_back fields said h.spelled
row_back fields kind Required tag said h = text_back said (h.needed refl)
row_back fields kind need tag said h = refl

abbrev item_means : Message → Item Kind → Meaning
item_means m (One row) = means row.kind row.need (at m row.tag)
item_means m (Party role) = Told None
item_means m (Lines group) = Lined (lines_of group.count m.groups)

abbrev lines_in : Meaning → List (List Cell)
lines_in (Lined lines) = lines
lines_in meaning = []

-- ---- two messages that mean the same at each item, beside the fields of each

module _ (f g : List Field) (m n : Message) where
  item_alike : (item : Item Kind) → item_means m item ≡ item_means n item
      → IsItem judge f m item → IsItem judge g n item
      → item_fields m item ≡ item_fields n item
  item_alike (One row) e a b = ap (λ (s : Said). cell_fields (Tag row.tag, s))
      (sym (row_back f row.kind row.need row.tag (at m row.tag) a) ∙ ap back e
      ∙ row_back g row.kind row.need row.tag (at n row.tag) b)
  item_alike (Party role) e a b = refl
  item_alike (Lines group) e a b =
      ap (λ (meaning : Meaning). group_fields group.count (lines_in meaning)) e

  items_alike : (items : List (Item Kind))
      → map (item_means m) items ≡ map (item_means n) items
      → AllByRecursion (IsItem judge f m) items
      → AllByRecursion (IsItem judge g n) items →
      flat_map (item_fields m) items ≡ flat_map (item_fields n) items
  items_alike [] e a b = refl
  items_alike (item ∷ items) e a b =
      let first : item_means m item ≡ item_means n item = cc in
      let rest : map (item_means m) items ≡ map (item_means n) items = cc in
      λ i. item_alike item first a.0 b.0 i ++ items_alike items rest a.1 b.1 i

-- ---- THE ROWS of two that mean the same

-- what the terms, the maturity and the groups say, in which several rows have a part
record HaveParts (m n : Message) : Type 0 where
  parties : lines_of 453 m.groups ≡ lines_of 453 n.groups
  month : at m 200 ≡ at n 200
  date : at m 541 ≡ at n 541

record HaveTerms (m n : Message) : Type 0 where
  ord_type : at m 40 ≡ at n 40
  time : at m 59 ≡ at n 59
  allocs : lines_of 78 m.groups ≡ lines_of 78 n.groups
  sessions : lines_of 386 m.groups ≡ lines_of 386 n.groups

abbrev SameMeanings : List (Item Kind) → Message → Message → Type 0
SameMeanings items m n = map (item_means m) items ≡ map (item_means n) items

module _ (m n : Message) (kind : RequestKind) (e : request_of kind m ≡ request_of kind n)
    (p : HaveParts m n) where
  new_means : HaveTerms m n → SameMeanings new_order m n
  new_means t = λ i.
      Text (e i).cl_ord_id ∷ Lined (p.parties i) ∷ Told None ∷ Told None ∷ Told None
      ∷ Told (e i).account ∷ Lined (t.allocs i) ∷ Coded (e i).settl_type ∷ Told (e i).settl_date
      ∷ Code (unwrap_or (e i).hand_inst 0) ∷ Told (e i).exec_inst ∷ Amounts (e i).min_qty
      ∷ Amounts (e i).max_floor ∷ Told (e i).ex_destination ∷ Lined (t.sessions i)
      ∷ Text (e i).symbol ∷ Told (e i).symbol_sfx ∷ Told (e i).security_id
      ∷ Coded (e i).id_source ∷ Told (e i).security_type ∷ Told (p.month i) ∷ Told (p.date i)
      ∷ Told (e i).security_exchange ∷ Code (e i).side ∷ Flagged (e i).locate
      ∷ Text (unwrap_or (e i).transact_time []) ∷ Amounts (e i).order_qty
      ∷ Code (unwrap_or (t.ord_type i >>= code_of) 0) ∷ Amounts (e i).price
      ∷ Amounts (e i).stop_px ∷ Told (e i).currency ∷ Told (t.time i)
      ∷ Told (e i).effective_time ∷ Told (e i).expire_date ∷ Told (e i).expire_time
      ∷ Coded (e i).capacity ∷ Coded (e i).open_close ∷ Told (e i).text ∷ []

  cancel_means : SameMeanings cancel_request m n
  cancel_means = λ i.
      Text (e i).cl_ord_id ∷ Text (unwrap_or (e i).orig_id []) ∷ Told (e i).order_id
      ∷ Lined (p.parties i) ∷ Told None ∷ Told None ∷ Told (e i).account
      ∷ Text (e i).symbol ∷ Told (e i).symbol_sfx ∷ Told (e i).security_id
      ∷ Coded (e i).id_source ∷ Told (e i).security_type ∷ Told (p.month i) ∷ Told (p.date i)
      ∷ Told (e i).security_exchange ∷ Code (e i).side ∷ Text (unwrap_or (e i).transact_time [])
      ∷ Amounts (e i).order_qty ∷ Told (e i).text ∷ []

  replace_means : HaveTerms m n → SameMeanings replace_request m n
  replace_means t =
      let rest = ap (drop 1) (new_means t) in
      λ i. Text (e i).cl_ord_id ∷ Text (unwrap_or (e i).orig_id []) ∷ Told (e i).order_id ∷ rest i

  status_means : SameMeanings status_request m n
  status_means = λ i.
      Text (e i).cl_ord_id ∷ Told (e i).order_id ∷ Lined (p.parties i) ∷ Told None ∷ Told None
      ∷ Told (e i).account ∷ Text (e i).symbol ∷ Told (e i).symbol_sfx ∷ Told (e i).security_id
      ∷ Coded (e i).id_source ∷ Told (e i).security_type ∷ Told (p.month i) ∷ Told (p.date i)
      ∷ Told (e i).security_exchange ∷ Code (e i).side ∷ []

-- ---- what is known of canonical requests of a type

module _ (letter : ℕ) (items : List (Item Kind)) where
  abbrev fields_of : Message → List Field
  fields_of m = content (table letter items) m

  item_said : (m : Message) → IsCanonical letter items m → (i : ℕ) (item : Item Kind)
      → slice_get items i ≡ Some item → IsItem judge (fields_of m) m item
  item_said m c i item is =
      at_index (IsItem judge (fields_of m) m) i items item is c.sound.items

  abbrev type_row : Item Kind
  type_row =
      One (record { tag = 40; kind = Value (kinds.Code (codes "1234")); need = Required })

  abbrev time_row : Item Kind
  time_row = One (record { tag = 59; kind = TimeBeside 40; need = Lenient })

  abbrev date_row : Item Kind
  date_row = One (record { tag = 541; kind = Value kinds.Day; need = Optional })

  -- the rows in which others have a part, and their meaning, which gives them back
  abbrev terms_at : Message → Said × Said
  terms_at m = (at m 40, at m 59)

  terms_given : (i j : ℕ) → slice_get items i ≡ Some type_row → slice_get items j ≡ Some time_row
      → is_alone 40 items ≡ true → (m : Message) → IsCanonical letter items m
      → terms_text (terms_said (terms_at m)) ≡ terms_at m
  terms_given i j type_is time_is alone m c =
      let ord_type = item_said m c i type_row type_is in
      terms_back (fields_of m) (at m 40) (at m 59)
      (value_said judge m 40 items alone
      (groups_said judge (fields_of m) m items c.sound.items))
      (ord_type.needed refl) ord_type.spelled (item_said m c j time_row time_is).spelled

  abbrev maturity_at : Message → Said × Said
  maturity_at m = (at m 200, at m 541)

  maturity_given : (i : ℕ) → slice_get items i ≡ Some date_row
      → (m : Message) → IsCanonical letter items m
      → maturity_text (maturity_said (maturity_at m)) ≡ maturity_at m
  maturity_given i is m c = maturity_back (fields_of m) (at m 200) (at m 541) c.month
      (item_said m c i date_row is).spelled

  module _ (m n : Message) (c : IsCanonical letter items m) (d : IsCanonical letter items n)
      (kind : RequestKind) (e : request_of kind m ≡ request_of kind n) where
    parts : (i : ℕ) → slice_get items i ≡ Some date_row → HaveParts m n
    parts i is =
        let maturity = same_by maturity_said maturity_text (maturity_at m)
        (maturity_at n) (maturity_given i is m c) (maturity_given i is n d)
        (ap (λ (r : Request). r.maturity) e) in
        record {
          parties = c.parties
              ∙ (λ j. party_lines (e j).client_id (e j).exec_broker (e j).clearing_firm)
              ∙ sym d.parties;
          month = λ j. (maturity j).0;
          date = λ j. (maturity j).1;
        }

    terms : (i j k l : ℕ) → slice_get items i ≡ Some type_row → slice_get items j ≡ Some time_row
        → slice_get items k ≡ Some (Lines allocs)
        → slice_get items l ≡ Some (Lines sessions) → is_alone 40 items ≡ true
        → HaveTerms m n
    terms i j k l type_is time_is allocs_are sessions_are alone =
        let both = same_by terms_said terms_text (terms_at m) (terms_at n)
        (terms_given i j type_is time_is alone m c) (terms_given i j type_is time_is alone n d)
        (ap (λ (r : Request). (r.ord_type, r.time_in_force)) e) in
        let alloc_lines = Lines allocs in
        let session_lines = Lines sessions in
        record {
          ord_type = λ j. (both j).0;
          time = λ j. (both j).1;
          allocs = same_by (map alloc_of) (map alloc_cells) _ _
              (allocs_back _ (item_said m c k alloc_lines allocs_are).said)
              (allocs_back _ (item_said n d k alloc_lines allocs_are).said)
              (ap (λ (r : Request). r.allocs) e);
          sessions = same_by (map session_of) (map session_cells) _ _
              (sessions_back _ (item_said m c l session_lines sessions_are).said)
              (sessions_back _ (item_said n d l session_lines sessions_are).said)
              (ap (λ (r : Request). r.sessions) e);
        }

    one_content : SameMeanings items m n → fields_of m ≡ fields_of n
    one_content alike = items_alike
        (fields_of m) (fields_of n) m n items alike c.sound.items d.sound.items

  -- what they mean
  meant : (m n : Message) (kind : RequestKind) → request50 m ≡ Some (request_of kind m)
      → request50 n ≡ Some (request_of kind n)
      → request50 m ≡ request50 n → request_of kind m ≡ request_of kind n
  meant m n kind a b e = ap
      (λ (r : Option Request). unwrap_or r (request_of kind m)) (sym a ∙ e ∙ b)

  -- a type of message with one content, by the place of its MaturityDate
  of_type : (kind : RequestKind) (date : ℕ) → slice_get items date ≡ Some date_row
      → ((m : Message) → m.letter ≡ letter → request50 m ≡ Some (request_of kind m))
      → ((m n : Message) → IsCanonical letter items m → IsCanonical letter items n
      → request_of kind m ≡ request_of kind n → HaveParts m n → SameMeanings items m n)
      → HaveOneContent letter items
  of_type kind date is asked alike m n c d same =
      let e = meant m n kind (asked m c.sound.letter) (asked n d.sound.letter) same in
      one_content m n c d kind e (alike m n c d e (parts m n c d kind e date is))

-- ---- the four types

pub have_one_content : RequestsHaveOneContent
have_one_content New = of_type 68 new_order New 21 refl (λ m letter. rw letter refl)
    (λ m n c d e parts. new_means m n New e parts
    (terms 68 new_order m n c d New e 27 31 6 14 refl refl refl refl refl))
have_one_content Cancel = of_type 70 cancel_request Cancel 13 refl (λ m letter. rw letter refl)
    (λ m n c d e parts. cancel_means m n Cancel e parts)
have_one_content Replace = of_type 71 replace_request Replace 23 refl (λ m letter. rw letter refl)
    (λ m n c d e parts. replace_means m n Replace e parts
    (terms 71 replace_request m n c d Replace e 29 33 8 16 refl refl refl refl refl))
have_one_content Status = of_type 72 status_request Status 12 refl (λ m letter. rw letter refl)
    (λ m n c d e parts. status_means m n Status e parts)
