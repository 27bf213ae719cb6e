-- A plain order: what it says in FIX 4.2, the request of FIX 5.0 SP2 that means the same, and the
-- frame of its translation.
use Rattle.std.proofs.Common.{◌≡◌, ◌≤◌, ◌*◌, ℕ, List, [], ◌∷◌, ◌++◌, map, length, lit≤, codes}
use Rattle.std.proofs.Common.{Option, Some, None, Result, Ok, Err, Bool, true, false, refl, sym, ap}
use Rattle.std.proofs.Common.{subst, ◌∙◌, arith, length-append}
use Rattle.std.specs.Prelude.{IfSome, nat_le, not, ◌||◌, if◌then◌else◌}
use Rattle.std.specs.Int.{is_negative}
use Rattle.std.specs.Fmt.{digits, decimal}
use Rattle.std.specs.List.{AllByRecursion}
use Rattle.std.proofs.lemmas.Bool.Decides.{nat_tests}
use Rattle.std.proofs.lemmas.Fmt.{length-decimal-le}
use Rattle.frame_grammar.specs.declared.frame.Kind.TheVariants.{Fixt11}
use Rattle.frame_grammar.specs.Frame.{frame_of}
use Rattle.field_groups.specs.Data.{is_data_tag}
use Rattle.field_groups.specs.Field.{Field, IsPlainField, body_of, field_bytes}
use Rattle.field_groups.specs.Fields.{SplitsInto}
use Rattle.field_groups.proofs.Plain.{plain_again}
use Rattle.typed_fields.specs.declared.fault.FieldFault.{FieldFault}
use Rattle.typed_fields.specs.declared.fault.FieldFault.TheVariants.{Range}
use Rattle.typed_fields.proofs.DigitsLemmas.{length-has_pattern}
use Rattle.typed_fields.proofs.SpellingLemmas.{judged_ok}
use Rattle.typed_fields.specs.Reading.{judged}
use Rattle.typed_fields.specs.Digits.{has_pattern}
use Rattle.typed_fields.specs.Dec.{dec_text, is_dec_form, is_dec_bounded}
use Rattle.typed_fields.specs.Stamp.{is_stamp_form, spells_moment, stamp_in}
use Rattle.value_kinds.specs.ValueKind.{ValueKind, Filled, Id, Code, Stamp, Qty, Price, spelling}
use Rattle.value_kinds.specs.ValueKind.{Spelling, spelt, if_in_range}
use Rattle.row_values.specs.Kinds.{judge}
use Rattle.message_tables.specs.Tables.{Cell, Message, Tag, first_of}
use Rattle.message_tables.specs.FirstFault.{first_fault, message_of}
use Rattle.dict_fix42.specs.Message.{message42}
use Rattle.request_translate.specs.Lack.{lack42}
use Rattle.translation.specs.Header.{with_content}
use Rattle.request_translate.specs.Translation.{up}
use Rattle.request_translate.specs.Plain.{PlainOrder, IsValue, HasPlainValues, client_field}
use Rattle.request_translate.specs.Plain.{client_party, terms, plain_fields, translated_fields}
use Rattle.request_translate.specs.Plain.{PlainOrdersAreTranslated}
use Rattle.sound_laws.specs.Sound.{IsClear}
use Rattle.sound_laws.proofs.PlainFields.{all_of, is_good_tag, plain_field}
use Rattle.sound_laws.proofs.Each.{◌&◌, both, each_by, each_joined}
use Rattle.translation.specs.Bodies.{IsRead as IsReadBody}
use Rattle.translation.proofs.Outcomes.{IsToldBy, fit, fits, gone_is, is_told, one_told, outcome}
use Rattle.rule_rows.specs.ByRules.{or_lack}
use Rattle.request_rules.specs.Rules.{up_content, up_message}

-- cells of tags at which nothing is said
abbrev unsaid : List ℕ → List Cell
unsaid tags = map (λ tag. (Tag tag, None)) tags

-- OrdType: market, or limit where there is a price
abbrev type_text : Option (List ℕ) → List ℕ
type_text None = codes "1"
type_text (Some price) = codes "2"

-- WHAT A PLAIN ORDER SAYS in FIX 4.2
abbrev said42 : PlainOrder → Message
said42 o = record {
  letter = 68;
  resend = false;
  cells =
      (Tag 11, Some o.cl_ord_id) ∷ (Tag 109, o.client_id) ∷
      unsaid (76 ∷ 439 ∷ 1 ∷ 63 ∷ 64 ∷ []) ++
      (Tag 21, Some o.hand_inst) ∷ unsaid (18 ∷ 110 ∷ 111 ∷ 100 ∷ []) ++
      (Tag 55, Some o.symbol) ∷
      unsaid (65 ∷ 48 ∷ 22 ∷ 167 ∷ 200 ∷ 205 ∷ 207 ∷ []) ++
      (Tag 54, Some o.side) ∷ (Tag 114, None) ∷ (Tag 60, Some o.transact_time) ∷
      (Tag 38, Some o.order_qty) ∷ (Tag 40, Some (type_text o.limit)) ∷ (Tag 44, o.limit) ∷
      unsaid (99 ∷ 15 ∷ 59 ∷ 168 ∷ 432 ∷ 126 ∷ 47 ∷ 77 ∷ 58 ∷ []);
  groups = (78, []) ∷ (386, []) ∷ [];
}

-- ---- what is read

-- an id has at least one byte
id_filled : (text : List ℕ)
    → spelling Id text ≡ Ok (Some text) → spelling Filled text ≡ Ok (Some text)
unfolding spelling
id_filled [] h = absurd cc
id_filled (b ∷ bs) h = refl

is_type : spelling Filled (codes "D") ≡ Ok (Some (codes "D"))
unfolding spelling
is_type = refl

is_market : spelling (Code (codes "12345B")) (codes "1") ≡ Ok (Some (codes "1"))
unfolding spelling
is_market = refl

is_limit : spelling (Code (codes "12345B")) (codes "2") ≡ Ok (Some (codes "2"))
unfolding spelling
is_limit = refl

abbrev IsSpelled : ValueKind → List ℕ → Type 0
IsSpelled kind text = spelling kind text ≡ Ok (Some text)

module _ (o : PlainOrder) where
  -- the fields of the order, as they are read
  abbrev IsRead : Type 0
  IsRead = message42 (codes "D") (plain_fields o) None ≡ Ok (said42 o)

  module _ (sender : IsSpelled Filled o.sender_comp_id)
      (target : IsSpelled Filled o.target_comp_id) (number : IsSpelled Filled o.msg_seq_num)
      (sent : IsSpelled Filled o.sending_time) (own : IsSpelled Id o.cl_ord_id)
      (inst : IsSpelled (Code (codes "123")) o.hand_inst) (symbol : IsSpelled Id o.symbol)
      (side : IsSpelled (Code (codes "123456")) o.side)
      (time : IsSpelled Stamp o.transact_time) (qty : IsSpelled Qty o.order_qty) where
    read_by : (client limit : Option (List ℕ)) → o.client_id ≡ client → o.limit ≡ limit
        → IfSome client (IsSpelled Id) → IfSome limit (IsSpelled Price) → IsRead
    unfolding message42 message_of first_fault first_of judge
    read_by None None c l i p =
        rw (c, l, is_type, sender, target, number, sent, own) (
        rw (inst, symbol, side, time, qty, is_market) refl)
    read_by None (Some price) c l i p =
        rw (c, l, is_type, sender, target, number, sent, own) (
        rw (inst, symbol, side, time, qty, is_limit, p) refl)
    read_by (Some id) None c l i p =
        rw (c, l, is_type, sender, target, number, sent, own, i) (
        rw (inst, symbol, side, time, qty, is_market) refl)
    read_by (Some id) (Some price) c l i p =
        rw (c, l, is_type, sender, target, number, sent, own, i) (
        rw (inst, symbol, side, time, qty, is_limit, p) refl)

  if_spelled : (kind : ValueKind) (value : Option (List ℕ))
      → IfSome value (IsValue kind) → IfSome value (IsSpelled kind)
  if_spelled kind None v = tt
  if_spelled kind (Some text) v = v.spelled

  filled : (text : List ℕ) → IsValue Id text → IsSpelled Filled text
  filled text v = id_filled text v.spelled

  -- A PLAIN ORDER IS READ.
  read : HasPlainValues o → IsRead
  read v =
      read_by (filled o.sender_comp_id v.sender_comp_id) (filled o.target_comp_id v.target_comp_id)
      (filled o.msg_seq_num v.msg_seq_num) (filled o.sending_time v.sending_time)
      v.cl_ord_id.spelled v.hand_inst.spelled v.symbol.spelled v.side.spelled
      v.transact_time.spelled v.order_qty.spelled o.client_id o.limit refl refl
      (if_spelled Id o.client_id v.client_id) (if_spelled Price o.limit v.limit)

-- ---- it lacks nothing

lacks_nothing : (o : PlainOrder) → lack42 (said42 o) ≡ None
lacks_nothing o = elim o.limit as (λ limit. o.limit ≡ limit → lack42 (said42 o) ≡ None) [
  | None ↦ λ l. rw l refl
  | Some price ↦ λ l. rw l refl
] refl

-- ---- it is written field by field

-- the content of its translation
abbrev content_fields : PlainOrder → List Field
content_fields o =
    (11, o.cl_ord_id) ∷ client_party o.client_id ++
    (21, o.hand_inst) ∷ (55, o.symbol) ∷ (54, o.side) ∷
    (60, o.transact_time) ∷ (38, o.order_qty) ∷ terms o.limit

content_is : (o : PlainOrder) (client limit : Option (List ℕ)) → o.client_id ≡ client
    → o.limit ≡ limit → content_fields o ≡ up_content (said42 o)
unfolding digits
content_is o None None c l = rw (c, l) refl
content_is o (Some id) None c l = rw (c, l) refl
content_is o client limit c l = rw (c, l) refl

up_is : (o : PlainOrder) (client limit : Option (List ℕ)) → o.client_id ≡ client
    → o.limit ≡ limit → with_content (plain_fields o) (content_fields o) ≡ translated_fields o
up_is o None None c l = rw (c, l) refl
up_is o (Some id) None c l = rw (c, l) refl
up_is o client limit c l = rw (c, l) refl

-- ---- its fields are plain and short

-- a field that is no raw data, with a value of at most 128 bytes
record IsFine (f : Field) : Type 0 where
  plain : IsPlainField f
  short : length f.1 ≤ 128

field_length : (f : Field) → IsFine f → length (field_bytes f) ≤ 139
unfolding field_bytes
field_length f h =
    let most = h.plain.nine_digits in
    omega (
      arith,
      h.short,
      length-decimal-le 9 f.0 (omega arith) (omega (arith, most)) (omega (arith, most)),
      length-append (decimal f.0 ++ 61 ∷ f.1) (1 ∷ []),
      length-append (decimal f.0) (61 ∷ f.1),
    )

body_length : (fields : List Field) → AllByRecursion IsFine fields
    → length (body_of fields) ≤ 139 * length fields
body_length [] h = omega arith
body_length (f ∷ fs) h =
    let here = field_length f h.0 in let rest = body_length fs h.1 in
    omega (arith, here, rest, length-append (field_bytes f) (body_of fs))

-- a value that was read has its form
form_is : {A : Type 0} (say : Result A FieldFault → Spelling) (text : List ℕ)
    → ((fault : FieldFault) → say (Err fault) ≡ Ok (Some text) → ⊥)
    → (bytes : List ℕ) (form bound : Bool) (x : A)
    → say (judged bytes form bound x) ≡ Ok (Some text) → form ≡ true
form_is say text none bytes form bound x h =
    elim (judged bytes form bound x) as (λ r. judged bytes form bound x ≡ r
    → say r ≡ Ok (Some text) → form ≡ true) [
      | Ok y ↦ λ e h. (judged_ok bytes form bound x y e).form
      | Err fault ↦ λ e h. absurd (none fault h)
    ] refl h

dec_length : (text : List ℕ) → is_dec_form text ≡ true → length text ≤ 128
dec_length text h = let most = (both (nat_le (length text) 32) _ h).0 in grind (arith, nat_tests)

stamp_length : (text : List ℕ) → is_stamp_form text ≡ true → length text ≤ 128
stamp_length text h =
    let long = codes "YYYYMMDD-HH:MM:SS.sss" in
    elim (has_pattern (codes "YYYYMMDD-HH:MM:SS") text) as (λ b.
    has_pattern (codes "YYYYMMDD-HH:MM:SS") text ≡ b → (b || has_pattern long text) ≡ true
    → length text ≤ 128) [
      | true ↦ λ e h. omega (arith, length-has_pattern (codes "YYYYMMDD-HH:MM:SS") text e)
      | false ↦ λ e h. omega (arith, length-has_pattern long text h)
    ] refl h

-- the kinds of its values, each of at most 128 bytes
abbrev is_short : ValueKind → Bool
is_short Id = true
is_short (Code listed) = true
is_short Qty = true
is_short Price = true
is_short Stamp = true
is_short kind = false

value_length : (kind : ValueKind) (text : List ℕ) → is_short kind ≡ true
    → IsSpelled kind text → length text ≤ 128
unfolding spelling
value_length kind [] is h = omega arith
value_length Id (b ∷ bs) is h =
    elim (nat_le (length (b ∷ bs)) 128) as (λ fits. nat_le (length (b ∷ bs)) 128 ≡ fits
    → (if fits then Ok (Some (b ∷ bs)) else Err Range) ≡ Ok (Some (b ∷ bs))
    → length (b ∷ bs) ≤ 128) [
      | true ↦ λ e h. grind (arith, nat_tests)
      | false ↦ λ e h. absurd cc
    ] refl h
value_length (Code listed) (b ∷ []) is h = omega arith
value_length (Code listed) (b ∷ c ∷ bs) is h = absurd cc
value_length Qty (b ∷ bs) is h = dec_length (b ∷ bs)
    (form_is (λ r. spelt dec_text (if_in_range (λ d. not (is_negative d.units)) r)) (b ∷ bs)
    (λ fault e. absurd cc) (b ∷ bs) (is_dec_form (b ∷ bs)) (is_dec_bounded (b ∷ bs)) _ h)
value_length Price (b ∷ bs) is h = dec_length (b ∷ bs) (form_is (spelt dec_text) (b ∷ bs)
    (λ fault e. absurd cc) (b ∷ bs) (is_dec_form (b ∷ bs)) (is_dec_bounded (b ∷ bs)) _ h)
value_length Stamp (b ∷ bs) is h = stamp_length (b ∷ bs) (form_is (spelt (λ _. b ∷ bs)) (b ∷ bs)
    (λ fault e. absurd cc) (b ∷ bs) (is_stamp_form (b ∷ bs)) (spells_moment (b ∷ bs))
    (stamp_in (b ∷ bs)) h)
value_length kind (b ∷ bs) is h = absurd cc

-- a field of these bytes, and one of a value
given : (tag : ℕ) (text : List ℕ) → is_good_tag tag ≡ true → IsClear text → length text ≤ 128
    → IsFine (tag, text)
given tag text good clear short =
    record { plain = plain_field tag text good clear; short = short }

fine : (tag : ℕ) (kind : ValueKind) (text : List ℕ) → is_good_tag tag ≡ true
    → is_short kind ≡ true → IsValue kind text → IsFine (tag, text)
fine tag kind text good is v = given tag text good v.clear (value_length kind text is v.spelled)

client_fine : (client : Option (List ℕ))
    → IfSome client (IsValue Id) → AllByRecursion IsFine (client_field client)
unfolding is_data_tag
client_fine None v = tt
client_fine (Some id) v = fine 109 Id id refl refl v & tt

party_fine : (client : Option (List ℕ))
    → IfSome client (IsValue Id) → AllByRecursion IsFine (client_party client)
unfolding is_data_tag
party_fine None v = tt
party_fine (Some id) v = search (arith, given, fine)

terms_fine : (limit : Option (List ℕ))
    → IfSome limit (IsValue Price) → AllByRecursion IsFine (terms limit)
unfolding is_data_tag
terms_fine None v = given 40 (codes "1") refl refl (lit≤ tt) & tt
terms_fine (Some price) v = search (arith, given, fine)

client_count : (client : Option (List ℕ))
    → (length (client_party client) ≤ 4) × (length (client_field client) ≤ 1)
client_count None = (omega arith, omega arith)
client_count (Some id) = (omega arith, omega arith)

terms_count : (limit : Option (List ℕ)) → length (terms limit) ≤ 2
terms_count None = omega arith
terms_count (Some price) = omega arith

module _ (o : PlainOrder) (v : HasPlainValues o) where
  -- the fields behind those of the client
  abbrev last_fields : List Field
  last_fields = (21, o.hand_inst) ∷ (55, o.symbol) ∷ (54, o.side) ∷
      (60, o.transact_time) ∷ (38, o.order_qty) ∷ terms o.limit

  -- all fields, with these for the client
  all_fine : (client : List Field) → AllByRecursion IsFine client → AllByRecursion IsFine (
      (35, codes "D") ∷ (49, o.sender_comp_id) ∷ (56, o.target_comp_id) ∷ (34, o.msg_seq_num)
      ∷ (52, o.sending_time) ∷ (11, o.cl_ord_id) ∷ client ++ last_fields)
  unfolding is_data_tag
  all_fine client are =
      let last : AllByRecursion IsFine last_fields =
      search (arith, given, fine, terms_fine o.limit v.limit) parts 20 in
      let rest = each_joined IsFine client last_fields are last in
      search (arith, given, fine, rest) parts 20

  up_fine : AllByRecursion IsFine (translated_fields o)
  up_fine = all_fine (client_party o.client_id) (party_fine o.client_id v.client_id)

  count : length (client_party o.client_id ++ last_fields) ≤ 11
  count = omega (
    arith,
    length-append (client_party o.client_id) last_fields,
    (client_count o.client_id).0,
    terms_count o.limit,
  )

  content_fits : length (body_of (content_fields o)) ≤ 7936
  content_fits = omega (arith, body_length (content_fields o) up_fine.1.1.1.1.1, count)

  body_fits : length (body_of (translated_fields o)) ≤ 8192
  body_fits = omega (arith, body_length (translated_fields o) up_fine, count)

  -- ---- its body is split into its fields

  plain : AllByRecursion IsPlainField (plain_fields o)
  plain = each_by IsFine IsPlainField (λ f h. h.plain) (plain_fields o)
      (all_fine (client_field o.client_id) (client_fine o.client_id v.client_id))

  abbrev body : List ℕ
  body = body_of (plain_fields o)

  split : SplitsInto body (plain_fields o) None
  split = plain_again (plain_fields o) (all_of (plain_fields o) plain)
      (omega (
        arith,
        length-append (client_field o.client_id) last_fields,
        (client_count o.client_id).1,
        terms_count o.limit,
      ))

  -- ---- its one outcome

  framed : Ok (frame_of Fixt11 (body_of (translated_fields o))) ≡ outcome up (plain_fields o) None
  framed =
      let fields = plain_fields o in
      let m = said42 o in
      let goes : IsReadBody up body fields =
      record { message = m; split = split; read = read o v } in
      let content = content_is o o.client_id o.limit refl refl in
      let bytes = up_is o o.client_id o.limit refl refl in
      let whole = subst (λ (fs : List Field). length (body_of fs) ≤ 8192) (sym bytes) body_fits in
      let fitting =
      ap (fits fields) (sym content) ∙ fit fields (content_fields o) content_fits whole in
      ap (λ (fs : List Field). Ok (frame_of Fixt11 (body_of fs)))
      (sym bytes ∙ ap (with_content fields) content)
      ∙ gone_is up body fields goes (up_message m)
      (ap (λ (lack : Option ℕ). or_lack lack (up_message m)) (lacks_nothing o)) true fitting

  pub told : IsToldBy up body (Ok (frame_of Fixt11 (body_of (translated_fields o))))
  told = record { fields = plain_fields o; stopped = None; split = split; is = framed }

-- THE ONE OUTCOME OF A PLAIN ORDER
pub plain_orders : PlainOrdersAreTranslated
plain_orders o outcome v is =
    one_told up (body_of (plain_fields o)) outcome
    (Ok (frame_of Fixt11 (body_of (translated_fields o))))
    (is_told up (body_of (plain_fields o)) outcome is) (told o v)
