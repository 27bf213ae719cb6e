-- The capture of a drill is a capture: each body is one of a round.
use Rattle.std.proofs.Common.{◌≡◌, ◌≢◌, ℕ, suc, ◌+◌, ◌-◌, ◌*◌, ◌/◌, ◌^◌, ◌≤◌, ◌<◌, Bool, true}
use Rattle.std.proofs.Common.{false}
use Rattle.std.proofs.Common.{List, [], ◌∷◌, ◌++◌, length, take, refl, sym, ◌∙◌, ap, inl}
use Rattle.std.proofs.Common.{inr}
use Rattle.std.proofs.Common.{append_assoc, length-append, arith, All, Some, None}
use Rattle.std.specs.Prelude.{codes, slice_index, ◌&&◌, nat_le}
use Rattle.std.specs.declared.option.Option.{Option}
use Rattle.std.specs.Fmt.{decimal}
use Rattle.std.specs.Str.Parse.{digits_value}
use Rattle.std.proofs.lemmas.List.{get_or_push}
use Rattle.std.proofs.lemmas.List.Elements.{All-append, All-cons, All-head, All-nil, All-tail}
use Rattle.std.proofs.lemmas.Str.Parse.{IsNumeralModel, numerals_by_value}
use Rattle.std.proofs.lemmas.Fmt.{digits_decimal, length-decimal-le}
use Rattle.std.proofs.lemmas.Bool.Decides.{nat_tests}
use Rattle.frame_grammar.specs.declared.frame.Kind.{Kind}
use Rattle.frame_grammar.specs.declared.frame.Kind.TheVariants.{Fix42, Fix44, Fixt11}
use Rattle.frame_grammar.specs.Frame.{IsBody, frame_of, front, opening, trailer}
use Rattle.order_meaning.specs.declared.Side.{Side}
use Rattle.order_meaning.specs.declared.Side.TheVariants.{Client, Venue}
use Rattle.capture_text.specs.declared.capture.Event.{Event}
use Rattle.capture_text.specs.declared.capture.Event.TheVariants as event
use Rattle.capture_text.specs.Capture.{IsName, IsByte, IsRound, is_open, kind_of, MayStand}
use Rattle.capture_text.specs.Capture.{AreEvents}
use Rattle.capture_text.specs.Capture.{IsCapture}
use Rattle.drill_day.specs.declared.order.Drawn.{Drawn}
use Rattle.drill_day.specs.declared.order.OrderKind.{OrderKind}
use Rattle.drill_day.specs.declared.order.OrderKind.TheVariants.{Filled, Busted, Corrected}
use Rattle.drill_day.specs.declared.order.OrderKind.TheVariants.{Rejected}
use Rattle.drill_day.specs.declared.report.ExecType.{ExecType}
use Rattle.drill_day.specs.declared.report.ExecType.TheVariants as exec
use Rattle.drill_day.specs.declared.report.OrdStatus.{OrdStatus}
use Rattle.drill_day.specs.declared.report.OrdStatus.TheVariants as status
use Rattle.drill_day.specs.declared.report.Report.{Report}
use Rattle.drill_day.specs.declared.body.MsgType.{MsgType}
use Rattle.drill_day.specs.declared.body.MsgType.TheVariants.{Logon, NewOrderSingle}
use Rattle.drill_day.specs.declared.body.MsgType.TheVariants.{ExecutionReport}
use Rattle.drill_day.specs.declared.day.Numbers.{Numbers}
use Rattle.drill_day.specs.Drill.{text_field, number_field, type_text, sender_text, header, logon}
use Rattle.drill_day.specs.Drill.{new_order, exec_text, status_text, reference, reject_reason}
use Rattle.drill_day.specs.Drill.{fill_fields, report_fields, Message, report_messages}
use Rattle.drill_day.specs.Drill.{report_message, order_message, messages_from, reports_by}
use Rattle.drill_day.specs.Drill.{reports_of, number_of, past, body_of, numbered, logon_event}
use Rattle.drill_day.specs.Drill.{orders_from, life_with, capture_of, drill_capture, morning}
use Rattle.drill_day.specs.Drill.{accepted, filled, half_filled, busted, corrected, rejected}
use Rattle.drill_day.specs.Day.{IsSmall}
use Rattle.drill_day.proofs.Orders.{few_of, small_of}

-- ---- bytes

-- every text of a drill is of such bytes
abbrev IsPlain : ℕ → Type 0
IsPlain byte = (33 ≤ byte) × (byte ≤ 122)

abbrev passes : List ℕ → Bool
passes [] = true
passes (byte ∷ bytes) = (nat_le 33 byte && nat_le byte 122) && passes bytes

abbrev fits : List ℕ → Bool
fits text = nat_le (length text) 25 && passes text

left : (a b : Bool) → (a && b) ≡ true → a ≡ true
left true b is = refl
left false b is = absurd (cc is)

right : (a b : Bool) → (a && b) ≡ true → b ≡ true
right true b is = is
right false b is = absurd (cc is)

le_passed : (m n : ℕ) → nat_le m n ≡ true → m ≤ n
le_passed m n is = grind (arith, nat_tests)

plain : (text : List ℕ) → passes text ≡ true → All IsPlain text
plain [] is = All-nil IsPlain
plain (byte ∷ text) is = All-cons IsPlain byte text (
  le_passed 33 byte (left (nat_le 33 byte) (nat_le byte 122) both),
  le_passed byte 122 (right (nat_le 33 byte) (nat_le byte 122) both),
)
    (plain text (right (nat_le 33 byte && nat_le byte 122) (passes text) is))
  where
    both : (nat_le 33 byte && nat_le byte 122) ≡ true
    both = left (nat_le 33 byte && nat_le byte 122) (passes text) is

bytes_of : (text : List ℕ) → All IsPlain text → All IsByte text
bytes_of text all = λ k d within. let byte = all k d within in
    inr (omega (arith, byte.0), omega (arith, byte.1), omega (arith, byte.1))

abbrev IsDigitByte : ℕ → Type 0
IsDigitByte byte = (48 ≤ byte) × (byte ≤ 57)

own : IsNumeralModel (All IsDigitByte) (digits_value 10)
own = numerals_by_value (All IsDigitByte) (record {
  empty = λ k d h. absurd (omega arith);
  parts = λ c cs h. (All-head IsDigitByte c cs h, All-tail IsDigitByte c cs h);
  more = λ c cs h t. All-cons IsDigitByte c cs h t;
})

digits_are : (n : ℕ) → n < 2 ^ 64 → All IsByte (decimal n)
digits_are n small = λ k d within. let byte = digits_decimal own n small k d within in
    inr (omega (arith, byte.0), omega (arith, byte.1), omega (arith, byte.1))

-- ---- fields

-- bytes of a body, at most so many
pub record IsPart (most : ℕ) (bytes : List ℕ) : Type 0 where
  pub all : All IsByte bytes
  pub short : length bytes ≤ most

-- they end in SOH
abbrev pub IsEnded : List ℕ → Type 0
IsEnded bytes = (front : List ℕ) × (bytes ≡ front ++ 1 ∷ [])

ended : (xs ys : List ℕ) → IsEnded ys → IsEnded (xs ++ ys)
ended xs ys (front, is) =
    (xs ++ front, ap (λ (l : List ℕ). xs ++ l) is ∙ sym (append_assoc xs front (1 ∷ [])))

soh : All IsByte (1 ∷ [])
soh = All-cons IsByte 1 [] (inl refl) (All-nil IsByte)

none : IsPart 0 []
none = record { all = All-nil IsByte; short = omega arith }

joined : (m n : ℕ) (xs ys : List ℕ) → IsPart m xs → IsPart n ys → IsPart (m + n) (xs ++ ys)
joined m n xs ys one two = record {
  all = All-append IsByte xs ys one.all two.all;
  short = let e = length-append xs ys in omega (arith, e, one.short, two.short);
}

wider : (m n : ℕ) (xs : List ℕ) → m ≤ n → IsPart m xs → IsPart n xs
wider m n xs few part = record { all = part.all; short = omega (arith, few, part.short) }

text_part : (text : List ℕ) → fits text ≡ true → IsPart 50 (text_field text)
text_part text is = record {
  all = All-append IsByte text (1 ∷ [])
      (bytes_of text (plain text (right (nat_le (length text) 25) (passes text) is))) soh;
  short = let e = length-append text (1 ∷ []) in
      let f = le_passed (length text) 25 (left (nat_le (length text) 25) (passes text) is) in
      omega (arith, e, f);
}

number_part : (text : List ℕ) (n : ℕ) → fits text ≡ true → n < 2 ^ 60
    → IsPart 50 (number_field text n)
number_part text n is small = record {
  all = All-append IsByte (text ++ decimal n) (1 ∷ [])
      (All-append IsByte text (decimal n)
      (bytes_of text (plain text (right (nat_le (length text) 25) (passes text) is)))
      (digits_are n bound)) soh;
  short = let e = length-append (text ++ decimal n) (1 ∷ []) in
      let g = length-append text (decimal n) in
      let f = le_passed (length text) 25 (left (nat_le (length text) 25) (passes text) is) in
      let d = length-decimal-le 20 n (omega arith) (omega (arith, small)) bound in
      omega (arith, e, f, g, d);
}
  where
    bound : n < 2 ^ 64
    bound = omega (arith, small)

-- ---- bodies

header_part : (side : Side) (type : MsgType) (n : ℕ) → n < 2 ^ 60 → IsPart 250 (header side type n)
header_part side type n small =
    joined 200 50 _ _
    (joined 150 50 _ _
    (joined 100 50 _ _
    (joined 50 50 _ _ (text_part (type_text type) (type_fits type))
    (text_part (sender_text side) (sender_fits side)))
    (text_part (codes "56=GATE") refl))
    (number_part (codes "34=") n refl small))
    (text_part (codes "52=20240102-10:00:00") refl)
  where
    type_fits : (t : MsgType) → fits (type_text t) ≡ true
    type_fits Logon = refl
    type_fits NewOrderSingle = refl
    type_fits ExecutionReport = refl

    sender_fits : (s : Side) → fits (sender_text s) ≡ true
    sender_fits Client = refl
    sender_fits Venue = refl

-- what stands behind the header
pub record IsRest (bytes : List ℕ) : Type 0 where
  pub part : IsPart 1000 bytes
  pub ended_so : IsEnded bytes

-- a body begins with its type
begins : (side : Side) (type : MsgType) (n : ℕ) (rest : List ℕ)
    → (take 3 (header side type n ++ rest) ≡ codes "35=")
    × (slice_index (header side type n ++ rest) 3 ≢ 1)
    × (5 ≤ length (header side type n ++ rest))
begins side Logon n rest = (refl, λ is. absurd (omega (arith, is)), omega arith)
begins side NewOrderSingle n rest = (refl, λ is. absurd (omega (arith, is)), omega arith)
begins side ExecutionReport n rest = (refl, λ is. absurd (omega (arith, is)), omega arith)

last : (bytes : List ℕ) → IsEnded bytes → slice_index bytes (length bytes - 1) ≡ 1
last bytes (front, is) =
    ap (λ (l : List ℕ). slice_index l (length l - 1)) is
    ∙ get_or_push front 1 0 (length (front ++ 1 ∷ []) - 1)
    (let e = length-append front (1 ∷ []) in omega (arith, e))

short_body : (side : Side) (type : MsgType) (n : ℕ) (rest : List ℕ) → n < 2 ^ 60 → IsRest rest
    → IsPart 1250 (header side type n ++ rest)
short_body side type n rest small is =
    joined 250 1000 (header side type n) rest (header_part side type n small) is.part

body_is : (side : Side) (type : MsgType) (n : ℕ) (rest : List ℕ) → n < 2 ^ 60 → IsRest rest
    → IsBody (header side type n ++ rest)
body_is side type n rest small is = record {
  writable = record {
    begins = (begins side type n rest).0;
    has_type = (begins side type n rest).1;
    ends = last (header side type n ++ rest) (ended (header side type n) rest is.ended_so);
    least = (begins side type n rest).2;
  };
  most = let e = (short_body side type n rest small is).short in omega (arith, e);
}

round_is : (kind : Kind) (body : List ℕ) → length body ≤ 1250 → IsRound (frame_of kind body)
round_is kind body few = (omega (arith, whole, last_of), omega (arith, whole, last_of, first, d))
  where
    before : List ℕ
    before = front kind (decimal (length body)) body

    last_of : length (trailer (front kind (decimal (length body)) body)) ≡ 7
    last_of = refl

    open_short : (k : Kind) → length (opening k) ≤ 20
    open_short Fix42 = omega arith
    open_short Fix44 = omega arith
    open_short Fixt11 = omega arith

    d : length (decimal (length body)) ≤ 7
    d = length-decimal-le 7 (length body) (omega arith) (omega (arith, few)) (omega (arith, few))

    first : length (front kind (decimal (length body)) body) ≤ 1300
    first = let a = length-append (opening kind ++ decimal (length body)) (1 ∷ body) in
        let b = length-append (opening kind) (decimal (length body)) in
        let o = open_short kind in omega (arith, a, b, o, d, few)

    whole : length (frame_of kind body)
        ≡ length (front kind (decimal (length body)) body)
        + length (trailer (front kind (decimal (length body)) body))
    whole = length-append (front kind (decimal (length body)) body)
        (trailer (front kind (decimal (length body)) body))

pub stands : (before : List Event) (side : Side) (type : MsgType) (n : ℕ) (rest : List ℕ)
    → is_open side before ≡ true → n < 2 ^ 60 → IsRest rest
    → MayStand before (event.Frame side (header side type n ++ rest))
stands before side type n rest open_so small is = (
  open_so,
  (short_body side type n rest small is).all,
  body_is side type n rest small is,
  round_is (kind_of side) (header side type n ++ rest) (short_body side type n rest small is).short,
)

-- ---- the fields of each message

logon_rest : (side : Side) → IsRest (logon side)
logon_rest Client = record {
  part = wider 100 1000 _ (omega arith)
      (joined 50 50 _ _ (text_part (codes "98=0") refl) (text_part (codes "108=30") refl));
  ended_so = ended (text_field (codes "98=0")) (text_field (codes "108=30")) (codes "108=30", refl);
}
logon_rest Venue = record {
  part = wider 150 1000 _ (omega arith)
      (joined 100 50 _ _
      (joined 50 50 _ _ (text_part (codes "98=0") refl) (text_part (codes "108=30") refl))
      (text_part (codes "1137=9") refl));
  ended_so = ended (text_field (codes "98=0") ++ text_field (codes "108=30"))
      (text_field (codes "1137=9")) (codes "1137=9", refl);
}

order_rest : (number : ℕ) (order : Drawn) → number < 2 ^ 60 → IsSmall order
    → IsRest (new_order number order)
order_rest number order low small = record {
  part = wider 400 1000 _ (omega arith)
      (joined 350 50 _ _
      (joined 300 50 _ _
      (joined 250 50 _ _
      (joined 200 50 _ _
      (joined 150 50 _ _
      (joined 100 50 _ _
      (joined 50 50 _ _ (number_part (codes "11=C") number refl low)
      (text_part (codes "21=1") refl))
      (text_part (codes "55=SYM") refl))
      (number_part (codes "54=") order.side refl (omega (arith, small.side))))
      (text_part (codes "60=20240102-10:00:00") refl))
      (number_part (codes "38=") order.quantity refl (omega (arith, small.quantity))))
      (text_part (codes "40=2") refl))
      (number_part (codes "44=") order.price refl (omega (arith, small.price))));
  ended_so = ended (number_field (codes "11=C") number ++ text_field (codes "21=1")
      ++ text_field (codes "55=SYM") ++ number_field (codes "54=") order.side
      ++ text_field (codes "60=20240102-10:00:00") ++ number_field (codes "38=") order.quantity
      ++ text_field (codes "40=2")) (number_field (codes "44=") order.price)
      (codes "44=" ++ decimal order.price, refl);
}

-- the numbers of a report
record IsLow (report : Report) : Type 0 where
  fill : (quantity : ℕ) → report.fill ≡ Some quantity → quantity < 2 ^ 60
  leaves : report.leaves < 2 ^ 60
  cum : report.cum < 2 ^ 60
  average : report.average < 2 ^ 60

reference_part : (type : ExecType) (before : ℕ) → before < 2 ^ 60
    → IsPart 50 (reference type before)
reference_part exec.New before low = wider 0 50 [] (omega arith) none
reference_part exec.Trade before low = wider 0 50 [] (omega arith) none
reference_part exec.TradeCancel before low = number_part (codes "19=E") before refl low
reference_part exec.TradeCorrect before low = number_part (codes "19=E") before refl low
reference_part exec.Rejected before low = wider 0 50 [] (omega arith) none

reason_part : (type : ExecType) → IsPart 50 (reject_reason type)
reason_part exec.New = wider 0 50 [] (omega arith) none
reason_part exec.Trade = wider 0 50 [] (omega arith) none
reason_part exec.TradeCancel = wider 0 50 [] (omega arith) none
reason_part exec.TradeCorrect = wider 0 50 [] (omega arith) none
reason_part exec.Rejected = text_part (codes "103=0") refl

fill_part : (fill : Option ℕ) (price : ℕ) → ((quantity : ℕ) → fill ≡ Some quantity
    → quantity < 2 ^ 60) → price < 2 ^ 60 → IsPart 100 (fill_fields fill price)
fill_part None price low price_low = wider 0 100 [] (omega arith) none
fill_part (Some quantity) price low price_low =
    joined 50 50 _ _ (number_part (codes "32=") quantity refl (low quantity refl))
    (number_part (codes "31=") price refl price_low)

exec_fits : (type : ExecType) → fits (exec_text type) ≡ true
exec_fits exec.New = refl
exec_fits exec.Trade = refl
exec_fits exec.TradeCancel = refl
exec_fits exec.TradeCorrect = refl
exec_fits exec.Rejected = refl

status_fits : (s : OrdStatus) → fits (status_text s) ≡ true
status_fits status.New = refl
status_fits status.PartiallyFilled = refl
status_fits status.Filled = refl
status_fits status.Rejected = refl

report_rest : (number before : ℕ) (order : Drawn) (report : Report) → number < 2 ^ 60
    → before + 1 < 2 ^ 60 → IsSmall order → IsLow report
    → IsRest (report_fields number before order report)
report_rest number before order report low few small is = record {
  part = wider 700 1000 _ (omega arith)
      (joined 650 50 _ _
      (joined 600 50 _ _
      (joined 550 50 _ _
      (joined 450 100 _ _
      (joined 400 50 _ _
      (joined 350 50 _ _
      (joined 300 50 _ _
      (joined 250 50 _ _
      (joined 200 50 _ _
      (joined 150 50 _ _
      (joined 100 50 _ _
      (joined 50 50 _ _ (number_part (codes "37=O") number refl low)
      (number_part (codes "11=C") number refl low))
      (number_part (codes "17=E") (before + 1) refl few))
      (reference_part report.exec_type before (omega (arith, few))))
      (text_part (exec_text report.exec_type) (exec_fits report.exec_type)))
      (text_part (status_text report.status) (status_fits report.status)))
      (reason_part report.exec_type))
      (text_part (codes "55=SYM") refl))
      (number_part (codes "54=") order.side refl (omega (arith, small.side))))
      (fill_part report.fill order.price is.fill (omega (arith, small.price))))
      (number_part (codes "151=") report.leaves refl is.leaves))
      (number_part (codes "14=") report.cum refl is.cum))
      (number_part (codes "6=") report.average refl is.average));
  ended_so = ended (number_field (codes "37=O") number
      ++ number_field (codes "11=C") number ++ number_field (codes "17=E") (before + 1)
      ++ reference report.exec_type before ++ text_field (exec_text report.exec_type)
      ++ text_field (status_text report.status) ++ reject_reason report.exec_type
      ++ text_field (codes "55=SYM") ++ number_field (codes "54=") order.side
      ++ fill_fields report.fill order.price ++ number_field (codes "151=") report.leaves
      ++ number_field (codes "14=") report.cum) (number_field (codes "6=") report.average)
      (codes "6=" ++ decimal report.average, refl);
}

-- ---- the messages of a day

same_some : (m n : ℕ) → Some m ≡ Some n → m ≡ n
same_some m n is = cc is

module _ (order : Drawn) (small : IsSmall order) where
  accepted_low : IsLow (accepted order)
  accepted_low = record {
    fill = λ quantity is. absurd (cc is);
    leaves = omega (arith, small.quantity);
    cum = omega arith;
    average = omega arith;
  }

  filled_low : IsLow (filled order)
  filled_low = record {
    fill = λ quantity is. let e = same_some order.quantity quantity is in
        omega (arith, e, small.quantity);
    leaves = omega arith;
    cum = omega (arith, small.quantity);
    average = omega (arith, small.price);
  }

  half_low : IsLow (half_filled order)
  half_low = record {
    fill = λ quantity is. let e = same_some (order.quantity / 2) quantity is in
        omega (arith, e, small.quantity);
    leaves = omega (arith, small.quantity);
    cum = omega (arith, small.quantity);
    average = omega (arith, small.price);
  }

  busted_low : IsLow (busted order)
  busted_low = record {
    fill = λ quantity is. absurd (cc is);
    leaves = omega (arith, small.quantity);
    cum = omega arith;
    average = omega arith;
  }

  corrected_low : IsLow (corrected order)
  corrected_low = record {
    fill = λ quantity is. let e = same_some (order.quantity / 4) quantity is in
        omega (arith, e, small.quantity);
    leaves = omega (arith, small.quantity);
    cum = omega (arith, small.quantity);
    average = omega (arith, small.price);
  }

  reports_low : (kind : OrderKind) → All IsLow (reports_by kind order)
  reports_low Filled = All-cons IsLow (accepted order) (filled order ∷ []) accepted_low
      (All-cons IsLow (filled order) [] filled_low (All-nil IsLow))
  reports_low Busted = All-cons IsLow (accepted order) (half_filled order ∷ busted order ∷ [])
      accepted_low
      (All-cons IsLow (half_filled order) (busted order ∷ []) half_low
      (All-cons IsLow (busted order) [] busted_low (All-nil IsLow)))
  reports_low Corrected = All-cons IsLow (accepted order)
      (half_filled order ∷ corrected order ∷ []) accepted_low
      (All-cons IsLow (half_filled order) (corrected order ∷ []) half_low
      (All-cons IsLow (corrected order) [] corrected_low (All-nil IsLow)))
  reports_low Rejected = All-cons IsLow rejected [] (record {
    fill = λ quantity is. absurd (cc is);
    leaves = omega arith;
    cum = omega arith;
    average = omega arith;
  }) (All-nil IsLow)

abbrev IsSent : Message → Type 0
IsSent message = IsRest message.fields

reports_sent : (number before : ℕ) (order : Drawn) (reports : List Report) → number < 2 ^ 60
    → before + length reports < 2 ^ 60 → IsSmall order → All IsLow reports
    → All IsSent (report_messages number before order reports)
reports_sent number before order [] low few small all = All-nil IsSent
reports_sent number before order (report ∷ reports) low few small all =
    All-cons IsSent (report_message number before order report)
    (report_messages number (before + 1) order reports)
    (report_rest number before order report low (omega (arith, few)) small
    (All-head IsLow report reports all))
    (reports_sent number (before + 1) order reports low (omega (arith, few)) small
    (All-tail IsLow report reports all))

few_by : (kind : OrderKind) (order : Drawn) → length (reports_by kind order) ≤ 3
few_by Filled order = omega arith
few_by Busted order = omega arith
few_by Corrected order = omega arith
few_by Rejected order = omega arith

messages_sent : (number before : ℕ) (orders : List Drawn)
    → number + length orders < 2 ^ 60 → before + 3 * length orders < 2 ^ 60
    → All IsSmall orders → All IsSent (messages_from number before orders)
messages_sent number before [] low few small = All-nil IsSent
messages_sent number before (order ∷ orders) low few small =
    let three = few_by order.kind order in
    let this = All-head IsSmall order orders small in
    All-cons IsSent (order_message number order)
    (report_messages number before order (reports_of order)
    ++ messages_from (number + 1) (before + length (reports_of order)) orders)
    (order_rest number order (omega (arith, low)) this)
    (All-append IsSent (report_messages number before order (reports_of order))
    (messages_from (number + 1) (before + length (reports_of order)) orders)
    (reports_sent number before order (reports_of order) (omega (arith, low))
    (omega (arith, few, three)) this (reports_low order this order.kind))
    (messages_sent (number + 1) (before + length (reports_of order)) orders
    (omega (arith, low)) (omega (arith, few, three)) (All-tail IsSmall order orders small)))

count_by : (number before : ℕ) (order : Drawn) (reports : List Report)
    → length (report_messages number before order reports) ≡ length reports
count_by number before order [] = refl
count_by number before order (report ∷ reports) =
    ap suc (count_by number (before + 1) order reports)

messages_few : (number before : ℕ) (orders : List Drawn)
    → length (messages_from number before orders) ≤ 4 * length orders
messages_few number before [] = omega arith
messages_few number before (order ∷ orders) =
    let three = few_by order.kind order in
    let e = length-append (report_messages number before order (reports_of order))
    (messages_from (number + 1) (before + length (reports_of order)) orders) in
    let f = count_by number before order (reports_of order) in
    let g = messages_few (number + 1) (before + length (reports_of order)) orders in
    omega (arith, three, e, f, g)

-- ---- the events

-- both sides are open
record AreBoth (before : List Event) : Type 0 where
  client : is_open Client before ≡ true
  venue : is_open Venue before ≡ true

open_of : (side : Side) (before : List Event) → AreBoth before → is_open side before ≡ true
open_of Client before both = both.client
open_of Venue before both = both.venue

low_of : (side : Side) (numbers : Numbers) (n : ℕ) → numbers.client + n < 2 ^ 60
    → numbers.venue + n < 2 ^ 60 → number_of side numbers + n < 2 ^ 60
low_of Client numbers n client venue = client
low_of Venue numbers n client venue = venue

past_client : (side : Side) (numbers : Numbers) → (past side numbers).client ≤ numbers.client + 1
past_client Client numbers = omega arith
past_client Venue numbers = omega arith

past_venue : (side : Side) (numbers : Numbers) → (past side numbers).venue ≤ numbers.venue + 1
past_venue Client numbers = omega arith
past_venue Venue numbers = omega arith

events_stand : (before : List Event) (numbers : Numbers) (messages : List Message)
    → AreBoth before → All IsSent messages
    → numbers.client + length messages < 2 ^ 60 → numbers.venue + length messages < 2 ^ 60
    → AreEvents before (numbered numbers messages)
events_stand before numbers [] both sent client venue = tt
events_stand before numbers (message ∷ messages) both sent client venue =
    let c = past_client message.side numbers in
    let v = past_venue message.side numbers in (
      stands before message.side message.type (number_of message.side numbers) message.fields
          (open_of message.side before both)
          (let e = low_of message.side numbers (length (message ∷ messages)) client venue in
          omega (arith, e))
          (All-head IsSent message messages sent),
      events_stand (event.Frame message.side
          (body_of (number_of message.side numbers) message) ∷ before)
          (past message.side numbers) messages
          (record { client = both.client; venue = both.venue })
          (All-tail IsSent message messages sent)
          (omega (arith, client, c)) (omega (arith, venue, v)),
    )

-- ---- the capture

name_is : (name : List ℕ) → fits name ≡ true → 1 ≤ length name → IsName name
name_is name is some = record {
  some = some;
  short = let e = le_passed (length name) 25
      (left (nat_le (length name) 25) (passes name) is) in omega (arith, e);
  printable = λ k d within.
      let byte = plain name (right (nat_le (length name) 25) (passes name) is) k d within in
      (byte.0, omega (arith, byte.1));
}

life_stands : (orders : List Drawn) → length orders ≤ 10000 → All IsSmall orders
    → AreEvents [] (life_with orders)
life_stands orders few small =
    let most = messages_few 1 0 orders in
    let opened = event.Opened Venue ∷ event.At morning ∷ [] in
    let other = event.Opened Client ∷ logon_event Venue ∷ opened in (
      omega arith,
      (
        refl,
        (
          stands opened Venue Logon 1 (logon Venue) refl (omega arith)
              (logon_rest Venue),
          (
            refl,
            (
              stands other Client Logon 1 (logon Client) refl (omega arith)
                  (logon_rest Client),
              events_stand (logon_event Client ∷ other) (record { client = 2; venue = 2 })
                  (messages_from 1 0 orders) (record { client = refl; venue = refl })
                  (messages_sent 1 0 orders (omega (arith, few)) (omega (arith, few)) small)
                  (omega (arith, few, most)) (omega (arith, few, most)),
            ),
          ),
        ),
      ),
    )

drill_is : (orders : List Drawn) → length orders ≤ 10000 → All IsSmall orders
    → IsCapture (capture_of (life_with orders))
drill_is orders few small = record {
  client_our = name_is (codes "GATE") refl (omega arith);
  client_peer = name_is (codes "CLNT") refl (omega arith);
  venue_our = name_is (codes "GATE") refl (omega arith);
  venue_peer = name_is (codes "VENU") refl (omega arith);
  heart = omega arith;
  reset = tt;
  some = omega arith;
  lives = All-cons (AreEvents []) (life_with orders) [] (life_stands orders few small)
      (All-nil (AreEvents []));
}

pub capture_is : (first count : ℕ) → count ≤ 10000 → IsCapture (drill_capture first count)
capture_is first count few = drill_is (orders_from first count)
    (few_of (orders_from first count) first count refl few)
    (small_of (orders_from first count) first count refl)
