-- What was taken is heard as it was said: its header says nothing.
use Rattle.std.proofs.Common.{◌≡◌, ℕ, ◌==◌, ◌||◌, ◌&&◌, length, arith, Bool, true, false, not, List}
use Rattle.std.proofs.Common.{[], ◌∷◌, codes, Option, Some, None, Result, Ok, Err, refl, sym, ap}
use Rattle.std.proofs.Common.{◌∙◌, if◌then◌else◌}
use Rattle.std.specs.Prelude.{cond, find, unwrap_or}
use Rattle.std.proofs.lemmas.Bool.{eqb-true}
use Rattle.std.proofs.lemmas.Bool.Decides.{nat_tests}
use Rattle.typed_fields.specs.Flag.{read_flag}
use Rattle.typed_fields.specs.declared.fault.FieldFault.TheVariants.{Empty, Form}
use Rattle.std.specs.Option.{option_map}
use Rattle.std.specs.Result.{result_ok}
use Rattle.std.specs.Str.{bytes_eq}
use Rattle.std.proofs.lemmas.Slice.Eq.{bytes_eq-Decides}
use Rattle.field_groups.specs.Field.{Field}
use Rattle.message_tables.specs.Tables.{Message, ◌>>=◌, flag_of, is_one_of, value_at}
use Rattle.order_meaning.specs.declared.Side.{Side}
use Rattle.order_meaning.specs.declared.Side.TheVariants.{Client}
use Rattle.order_meaning.specs.declared.fault.Fault.{Fault}
use Rattle.session_core.specs.declared.head.What.{What}
use Rattle.session_core.specs.declared.head.What.TheVariants as what
use Rattle.session_core.specs.declared.numbers.TheConstants.{ALL_USED, MAX_MSG_SEQ_NUM}
use Rattle.session_core.specs.declared.tag.TheConstants.{BEGIN_SEQ_NO, GAP_FILL_FLAG, NEW_SEQ_NO}
use Rattle.session_core.specs.declared.tag.TheConstants.{TEST_REQ_ID}
use Rattle.session_logon.specs.Head.{kind_of, logon_kind, number_in, resend_request_kind}
use Rattle.session_logon.specs.Head.{sequence_reset_kind, test_request_kind}
use Rattle.session_logon.specs.Logon.{is_said, is_yes, logon_of}
use Rattle.session_logon.specs.Reasons.{required, read_between, text_fault}
use Rattle.field_groups.specs.HeadValues as values
use Rattle.pair_entries.specs.declared.entry.Took.{Took}
use Rattle.pair_entries.specs.declared.entry.Entry.{Entry}
use Rattle.row_values.specs.Kinds.{resend_of}
use Rattle.event_decisions.specs.Body.{fields_of, type_of}
use Rattle.event_decisions.specs.Decide.{is_for_application}
use Rattle.event_decisions.specs.Laws.{what_of}
use Rattle.message_answers.specs.Answer.{other}
use Rattle.message_answers.specs.Message.{is_refusal, is_refusal_type, message_of}
use Rattle.message_answers.proofs.Letters.{among}
use Rattle.message_answers.proofs.ReadShapes.{resend_is}
use Rattle.life_laws.specs.Justified.{raw_of}
use Rattle.life_laws.specs.Receiver.{behind_header, header_tags, is_administrative, is_in_header}
use Rattle.life_laws.specs.Receiver.{message_by, read_body, read_reset}
use Rattle.life_laws.specs.Taken.{Read, Other}
use Rattle.book_laws.specs.Heard.{Heard, Plain, cl_ord_id_in, heard_body, heard_by, id_named_in}
use Rattle.book_laws.specs.Heard.{sort_of, with_resend}
use Rattle.book_laws.specs.HeardLaws.{IsHeardRefusal, RefusalsAreHeard}
use Rattle.book_laws.proofs.Session.{plain_type, reset_is, reset_kind}
use Rattle.book_laws.proofs.Session.{read_other as read_other_type}
use Rattle.book_laws.proofs.Sides.{far_side, own_side}
use Rattle.book_laws.proofs.Tests.{and-false}
use Rattle.book_laws.specs.Laws.{HeadersSayNothing}
use Rattle.book_laws.specs.Pairs.{heard_from, message_in, taken}

-- ---- types

is_for_reset : (a : Bool) (r : Result ℕ ℕ) → is_for_application (sequence_reset_kind a r) ≡ false
is_for_reset true (Ok to) = refl
is_for_reset false (Ok to) = refl
is_for_reset a r = refl

abbrev faulty_of : What → ℕ
faulty_of (what.Faulty tag reason) = tag
faulty_of other = NEW_SEQ_NO

faulty_reset : (a : Bool) (r : Result ℕ ℕ) → faulty_of (sequence_reset_kind a r) ≡ NEW_SEQ_NO
faulty_reset true (Ok to) = refl
faulty_reset false (Ok to) = refl
faulty_reset a r = refl

module _ (side : Side) (msg_type : List ℕ) (fields : List Field) where
  -- what is for the application is no SequenceReset
  pub no_reset : is_for_application (kind_of side msg_type fields) ≡ true
      → bytes_eq msg_type (codes "4") ≡ false
  no_reset is = by (bytes_eq msg_type (codes "4")) refl
    where
      by : (b : Bool) → bytes_eq msg_type (codes "4") ≡ b → bytes_eq msg_type (codes "4") ≡ false
      by false test = test
      by true test =
          let wrong : true ≡ false = sym is
          ∙ ap is_for_application (reset_is side msg_type fields test)
          ∙ is_for_reset (is_yes (value_at GAP_FILL_FLAG fields))
          (required (read_between 1 ALL_USED) (value_at NEW_SEQ_NO fields)) in absurd (cc wrong)

  -- a faulty SequenceReset is so by its NewSeqNo(36)
  pub faulty_tag : (tag reason : ℕ) → kind_of side msg_type fields ≡ what.Faulty tag reason
      → bytes_eq msg_type (codes "4") ≡ true → tag ≡ NEW_SEQ_NO
  faulty_tag tag reason is test =
      sym (ap faulty_of is) ∙ ap faulty_of (reset_is side msg_type fields test)
      ∙ faulty_reset (is_yes (value_at GAP_FILL_FLAG fields))
      (required (read_between 1 ALL_USED) (value_at NEW_SEQ_NO fields))

  -- what is the session's is administrative
  pub of_session : is_for_application (kind_of side msg_type fields) ≡ false
      → is_administrative msg_type ≡ true
  of_session is = by (bytes_eq msg_type (codes "A")) (bytes_eq msg_type (codes "0"))
      (bytes_eq msg_type (codes "1")) (bytes_eq msg_type (codes "2"))
      (bytes_eq msg_type (codes "3")) (bytes_eq msg_type (codes "4"))
      (bytes_eq msg_type (codes "5")) refl refl refl refl refl refl is
    where
      of : (letter : ℕ) → bytes_eq msg_type (letter ∷ []) ≡ true
          → is_one_of (codes "A01245") letter ≡ true → is_administrative msg_type ≡ true
      of letter test is = ap is_administrative ((bytes_eq-Decides msg_type (letter ∷ [])).0 test)
          ∙ among (λ l. is_administrative (l ∷ [])) (codes "A01245") letter refl is

      by : (a b c d e f g : Bool) → bytes_eq msg_type (codes "A") ≡ a
          → bytes_eq msg_type (codes "0") ≡ b → bytes_eq msg_type (codes "1") ≡ c
          → bytes_eq msg_type (codes "2") ≡ d → bytes_eq msg_type (codes "4") ≡ f
          → bytes_eq msg_type (codes "5") ≡ g → is_for_application
          (if a then logon_kind (logon_of side fields)
          else (if b then what.Heartbeat
          else (if c then test_request_kind (text_fault (value_at TEST_REQ_ID fields))
          else (if d then resend_request_kind
          (required (read_between 1 MAX_MSG_SEQ_NUM) (value_at BEGIN_SEQ_NO fields)) fields
          else (if e then what.Reject
          else (if f then reset_kind fields
          else (if g then what.Logout else what.App))))))) ≡ false
          → is_administrative msg_type ≡ true
      by true b c d e f g p q r s u v is = of 65 p refl
      by false true c d e f g p q r s u v is = of 48 q refl
      by false false true d e f g p q r s u v is = of 49 r refl
      by false false false true e f g p q r s u v is = of 50 s refl
      by false false false false false true g p q r s u v is = of 52 u refl
      by false false false false false false true p q r s u v is = of 53 v refl
      by false false false false e f g p q r s u v is = absurd (cc is)

reset_none : (number : ℕ) (kind : What) → message_in (read_reset number kind) ≡ None
reset_none number (what.GapFill to) = refl
reset_none number kind = refl

-- ---- what an entry took

-- what is heard in the body of a message
abbrev pub heard_raw : Side → ℕ → List ℕ → Heard
heard_raw side number raw = heard_from side (message_by number (type_of raw) (fields_of raw))

abbrev heard_in : Side → Option (List ℕ) → Option Heard
heard_in side raw = raw >>= (λ r. option_map (heard_from side) (message_in (read_body r)))

read_other : (number : ℕ) (raw : List ℕ) → bytes_eq (type_of raw) (codes "4") ≡ false
    → number_in (fields_of raw) ≡ Some number → read_body raw
    ≡ Other (message_by number (type_of raw) (fields_of raw)) (is_administrative (type_of raw))
read_other number raw none numbered =
    read_other_type Client (type_of raw) (fields_of raw) (unwrap_or (number_in (fields_of raw)) 0)
    none ∙ ap (λ (o : Option ℕ). Other (message_by (unwrap_or o 0) (type_of raw) (fields_of raw))
    (is_administrative (type_of raw))) numbered

module _ (e : Entry) where
  pub took_none : (side : Side) → e.took ≡ None → taken side e ≡ None
  took_none side is = ap (λ (t : Option Took). heard_in side (raw_of side t)) is

  module _ (took : Took) (is : e.took ≡ Some took) where
    pub took_far : taken (other took.side) e ≡ None
    took_far = ap (λ (t : Option Took). heard_in (other took.side) (raw_of (other took.side) t)) is
        ∙ ap (λ (b : Bool). heard_in (other took.side) (if b then Some took.raw else None))
        (far_side took.side)

    pub took_near : taken took.side e
        ≡ option_map (heard_from took.side) (message_in (read_body took.raw))
    took_near = ap (λ (t : Option Took). heard_in took.side (raw_of took.side t)) is
        ∙ ap (λ (b : Bool). heard_in took.side (if b then Some took.raw else None))
        (own_side took.side)

    pub took_heard : bytes_eq (type_of took.raw) (codes "4") ≡ false
        → number_in (fields_of took.raw) ≡ Some took.number
        → taken took.side e ≡ Some (heard_raw took.side took.number took.raw)
    took_heard none numbered = took_near
        ∙ ap (λ (r : Read). option_map (heard_from took.side) (message_in r))
        (read_other took.number took.raw none numbered)

    -- a message of the session is nothing that counts
    pub took_plain : is_for_application (what_of took.side took.raw) ≡ false
        → (m : Heard) → taken took.side e ≡ Some m → m.sort ≡ Plain
    took_plain session m takes =
        by (bytes_eq (type_of took.raw) (codes "4")) (sym took_near ∙ takes)
      where
        number : ℕ
        number = unwrap_or (number_in (fields_of took.raw)) 0

        by : (b : Bool) → option_map (heard_from took.side) (message_in (if b
            then read_reset number (reset_kind (fields_of took.raw))
            else Other (message_by number (type_of took.raw) (fields_of took.raw))
            (is_administrative (type_of took.raw)))) ≡ Some m → m.sort ≡ Plain
        by true is = absurd (cc (
          ap (option_map (heard_from took.side))
              (reset_none number (reset_kind (fields_of took.raw))),
          is,
        ))
        by false is =
            let same : heard_raw took.side number took.raw ≡ m = cc in
            ap (λ (h : Heard). h.sort) (sym same) ∙ plain_type (type_of took.raw) _
            (of_session took.side (type_of took.raw) (fields_of took.raw) session)

-- ---- a value behind the header

pub behind_value : (tag : ℕ) → is_one_of header_tags tag ≡ false → (fields : List Field)
    → value_at tag (behind_header fields) ≡ value_at tag fields
behind_value tag apart [] = refl
behind_value tag apart (f ∷ fields) =
    by (is_in_header f) (f.0 == tag) refl refl (behind_value tag apart fields)
  where
    by : (h t : Bool) → is_in_header f ≡ h → (f.0 == tag) ≡ t
        → value_at tag (behind_header fields) ≡ value_at tag fields
        → option_map (λ (g : Field). g.1) (find (λ (g : Field). g.0 == tag)
        (cond (not h) (f ∷ behind_header fields) (behind_header fields)))
        ≡ option_map (λ (g : Field). g.1) (if t then Some f else find (λ (g : Field). g.0 == tag)
        fields)
    by true true in_it same rest =
        let wrong : true ≡ false = sym in_it
        ∙ ap (λ (t : ℕ). is_one_of header_tags t) (eqb-true f.0 tag same) ∙ apart in
        absurd (cc wrong)
    by true false in_it same rest = rest
    by false true in_it same rest =
        ap (λ (b : Bool). option_map (λ (g : Field). g.1) (if b then Some f
        else find (λ (g : Field). g.0 == tag) (behind_header fields))) same
    by false false in_it same rest =
        ap (λ (b : Bool). option_map (λ (g : Field). g.1) (if b then Some f
        else find (λ (g : Field). g.0 == tag) (behind_header fields))) same ∙ rest

-- ---- PossResend(97)

one_byte : (x y : Bool) → is_said (if x || y then Ok (record { yes = x }) else Err Form)
    ≡ (x && true)
one_byte false true = refl
one_byte x y = refl

flag_same : (v : List ℕ) → is_said (read_flag v) ≡ bytes_eq v (codes "Y")
flag_same [] = refl
flag_same (a ∷ []) = one_byte (a == 89) (a == 78)
flag_same (a ∷ b ∷ v) =
    let some : (length (a ∷ b ∷ v) == 0) ≡ false = grind (arith, nat_tests) in
    let long : (length (a ∷ b ∷ v) == 1) ≡ false = grind (arith, nat_tests) in
    ap (λ (t : Bool). is_said (if t then Err Empty else (if (length (a ∷ b ∷ v) == 1)
    && (a == 89 || a == 78) then Ok (record { yes = a == 89 }) else Err Form))) some
    ∙ ap (λ (t : Bool). is_said (if t && (a == 89 || a == 78)
    then Ok (record { yes = a == 89 }) else Err Form)) long ∙ sym (and-false (a == 89))

resend_same : (value : Option (List ℕ)) → is_yes value ≡ unwrap_or (option_map flag_of value) false
resend_same None = refl
resend_same (Some v) = flag_same v

-- ---- what is heard in a body that was read

module _ (says : HeadersSayNothing) (side : Side) (number : ℕ) (raw : List ℕ) (m : Message)
    (reads : message_of side raw ≡ Ok m) where
  abbrev heard_with : (resend : Bool) → Option (List ℕ) → Message → Heard
  heard_with resend named said = record {
    number = number;
    resend = resend;
    sort = sort_of (type_of raw) true;
    number_named = if is_refusal_type (type_of raw) then named >>= values.number_in else None;
    id_named = id_named_in said;
    cl_ord_id = cl_ord_id_in said;
    said = Some said;
  }

  raw_is : heard_raw side number raw
      ≡ heard_with (is_yes (value_at 97 (fields_of raw))) (value_at 45 (behind_header (fields_of
      raw)))
      (record m { resend = is_yes (value_at 97 (fields_of raw)) })
  raw_is = ap (λ (r : Result Message Fault). heard_by number (is_yes (value_at 97 (fields_of raw)))
      (type_of raw) (behind_header (fields_of raw))
      (option_map (with_resend (is_yes (value_at 97 (fields_of raw)))) (result_ok r)))
      (says side raw m reads)

  body_is : heard_body side number raw
      ≡ heard_with (resend_of (fields_of raw)) (value_at 45 (fields_of raw)) m
  body_is = ap (λ (r : Result Message Fault). heard_by number (resend_of (fields_of raw))
      (type_of raw) (fields_of raw) (result_ok r)) reads

  -- A MESSAGE IS HEARD AS ITS BODY IS.
  pub raw_is_body : is_refusal m ≡ false → heard_raw side number raw ≡ heard_body side number raw
  raw_is_body none =
      let resend = resend_same (value_at 97 (fields_of raw)) in
      let own : m.resend ≡ resend_of (fields_of raw) =
      resend_is side raw m reads none in
      let named = behind_value 45 refl (fields_of raw) in
      raw_is ∙ (λ i. heard_with (resend i) (named i) (record m { resend = resend i }))
      ∙ ap (λ (b : Bool). heard_with (resend_of (fields_of raw)) (value_at 45 (fields_of raw))
      (record m { resend = b })) (sym own)
      ∙ sym body_is

  -- a refusal that is read is heard as such
  pub raw_refuses : RefusalsAreHeard → is_refusal m ≡ true
      → IsHeardRefusal m (heard_raw side number raw)
  raw_refuses heard refuses =
      let h = heard side number raw m reads refuses in
      let named = behind_value 45 refl (fields_of raw) in
      record {
        sort = ap (λ (x : Heard). x.sort) raw_is ∙ sym (ap (λ (x : Heard). x.sort) body_is)
            ∙ h.sort;
        number = ap (λ (x : Heard). x.number_named) raw_is
            ∙ ap (λ (v : Option (List ℕ)). if is_refusal_type (type_of raw)
            then v >>= values.number_in else None) named
            ∙ sym (ap (λ (x : Heard). x.number_named) body_is) ∙ h.number;
        id = ap (λ (x : Heard). x.id_named) raw_is
            ∙ sym (ap (λ (x : Heard). x.id_named) body_is) ∙ h.id;
      }
