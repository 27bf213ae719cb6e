-- Standard: FIX 4.2 and FIX 5.0 SP2, volume 6: how each field of a report of FIX 5.0 SP2 is spelled
-- in FIX 4.2. Own: the order of writing, and that a place that the source does not have is not
-- written.
use Rattle.std.specs.Prelude.{ℕ, ℤ, pos, Bool, true, false, not, ◌==◌, ◌&&◌, ◌||◌, List, [], ◌∷◌}
use Rattle.std.specs.Prelude.{◌++◌, drop, codes, Option, Some, None, Result, is_some, nat_le}
use Rattle.std.specs.Prelude.{unwrap_or, if◌then◌else◌}
use Rattle.std.specs.Option.{option_map}
use Rattle.std.specs.Ordering.{int_eq}
use Rattle.field_groups.specs.HeadValues.{number_in}
use Rattle.value_kinds.specs.ValueKind.{code_text}
use Rattle.field_groups.specs.Field.{Field}
use Rattle.message_tables.specs.Content.{content}
use Rattle.message_tables.specs.Tables.{Place, Tag, Role, Said, Message, Table, ◌>>=◌, code_of}
use Rattle.message_tables.specs.Tables.{is_one_of, said_at}
use Rattle.row_values.specs.Amounts.{amount_of}
use Rattle.order_meaning.specs.declared.Amount.{Amount}
use Rattle.order_meaning.specs.Report.{or_known}
use Rattle.reports_fix42.specs.Message.{cancel_reject_table, execution_report_table}
use Rattle.reports_fix50.specs.Sense.{reason_told, telling}
use Rattle.row_values.specs.Kinds.{Kind}
use Rattle.rule_rows.specs.Rules.{Rule as RuleOf, By, Group, Moved, with_own}
pub use Rattle.rule_rows.specs.Rules.{Same}
use Rattle.rule_rows.specs.ByRules.{At, Kinds, Outline, Target, by_rules, has_any, lack_by, lack_if}
use Rattle.rule_rows.specs.ByRules.{or_lack}

-- How FIX 4.2 says one line of its table otherwise than FIX 5.0 SP2.
pub data Own : Type 0 where
  -- OrigClOrdID of a cancel reject, or else the one that is known
  OrKnown : (known : Said) → Own
  -- the id of the first party of a role
  PartyOf : (role to : ℕ) → Own
  -- ExecID, ExecTransType, ExecType and OrdStatus, by ExecType, OrdStatus and LeavesQty
  ExecId : Own
  TransType : Own
  ExecType : Own
  OrdStatus : Own
  -- what each report on another execution says, and what each trade says
  Another : (tag : ℕ) → Own
  Traded : (tag : ℕ) → Own
  -- a reason; one past the last of FIX 4.2 is another one, and the text tells it
  Within : (tag last : ℕ) → (other : List ℕ) → Own
  Told : Own
  -- the month of a maturity, and the day of its date
  Month : Own
  DayOfDate : Own
  -- OrdType and TimeInForce, of which FIX 4.2 says by the first that an order is on close
  OrdType : Own
  Time : Own

abbrev pub Rule : Type 0
Rule = RuleOf Own

abbrev pub Original : Said → Rule
Original known = By (OrKnown known)

-- THE RULES by which a report goes down, in the order of writing of FIX 4.2. An execution report
-- says OrigClOrdID as it is; a cancel reject has to say it.
abbrev pub down_rules : (original : Rule) → List Rule
down_rules original =
    Same 37 ∷  -- OrderID
    Same 198 ∷  -- SecondaryOrderID
    Same 11 ∷  -- ClOrdID
    original ∷  -- OrigClOrdID
    By (PartyOf 3 109) ∷  -- ClientID
    By (PartyOf 1 76) ∷  -- ExecBroker
    By (PartyOf 4 439) ∷  -- ClearingFirm
    Group 382 ∷  -- NoContraBrokers
    By ExecId ∷
    By TransType ∷
    By (Another 19) ∷  -- ExecRefID
    By ExecType ∷
    By OrdStatus ∷
    By (Within 103 8 (codes "0")) ∷  -- OrdRejReason: Stale order; Broker option
    By (Within 378 5 (codes "4")) ∷  -- ExecRestatementReason: Partial decline; Broker option
    Same 1 ∷  -- Account
    Same 63 ∷  -- SettlmntTyp
    Same 64 ∷  -- FutSettDate
    Same 55 ∷  -- Symbol
    Same 65 ∷  -- SymbolSfx
    Same 48 ∷  -- SecurityID
    Same 22 ∷  -- IDSource
    Same 167 ∷  -- SecurityType
    By Month ∷
    By DayOfDate ∷
    Same 207 ∷  -- SecurityExchange
    Same 54 ∷  -- Side
    Same 38 ∷  -- OrderQty
    By OrdType ∷
    Same 44 ∷  -- Price
    Same 99 ∷  -- StopPx
    Same 15 ∷  -- Currency
    By Time ∷
    Same 432 ∷  -- ExpireDate
    Same 126 ∷  -- ExpireTime
    Moved 528 47 ∷  -- OrderCapacity, Rule80A
    By (Traded 32) ∷  -- LastShares
    By (Traded 31) ∷  -- LastPx
    Same 30 ∷  -- LastMkt
    Same 151 ∷  -- LeavesQty
    Same 14 ∷  -- CumQty
    Same 6 ∷  -- AvgPx
    Same 75 ∷  -- TradeDate
    Same 60 ∷  -- TransactTime
    Same 434 ∷  -- CxlRejResponseTo
    By (Within 102 3 (codes "2")) ∷  -- CxlRejReason: Already pending; Broker option
    Same 110 ∷  -- MinQty
    Moved 1138 111 ∷  -- DisplayQty, MaxFloor
    By Told ∷  -- Text
    []

-- ---- where a rule reads and writes

-- the places of the source of which such a rule tells
abbrev pub sources : Own → List Place
sources (OrKnown known) = Tag 41 ∷ []
sources (PartyOf role to) = Role role ∷ []
sources ExecId = Tag 17 ∷ []
sources TransType = Tag 150 ∷ []
sources ExecType = Tag 150 ∷ []
sources OrdStatus = Tag 39 ∷ []
sources (Another tag) = Tag tag ∷ []
sources (Traded tag) = Tag tag ∷ []
sources (Within tag last other) = Tag tag ∷ []
sources Told = Tag 58 ∷ Tag 103 ∷ Tag 378 ∷ Tag 102 ∷ []
sources Month = Tag 200 ∷ []
sources DayOfDate = Tag 541 ∷ []
sources OrdType = Tag 40 ∷ []
sources Time = Tag 59 ∷ []

-- whether it has its place: a cancel reject always names its order
abbrev pub has : Outline → Own → Bool
has there (OrKnown known) = true
has there rule = has_any there (sources rule)

abbrev pub target : Own → Target
target (OrKnown known) = At (Tag 41)
target (PartyOf role to) = At (Tag to)
target ExecId = At (Tag 17)
target TransType = At (Tag 20)
target ExecType = At (Tag 150)
target OrdStatus = At (Tag 39)
target (Another tag) = At (Tag tag)
target (Traded tag) = At (Tag tag)
target (Within tag last other) = At (Tag tag)
target Told = At (Tag 58)
target Month = At (Tag 200)
target DayOfDate = At (Tag 205)
target OrdType = At (Tag 40)
target Time = At (Tag 59)

-- ---- THE MAPPING of ExecType, OrdStatus and LeavesQty

-- the ExecTypes of both versions that tell of no execution
abbrev pub is_event : ℕ → Bool
is_event exec_type = is_one_of (codes "03456789ABCDE") exec_type

-- a report that was asked for: I, Order Status, and L, Triggered or Activated by System
abbrev pub is_status : ℕ → Bool
is_status exec_type = exec_type == 73 || exec_type == 76

-- ExecTransType. J, Trade in a Clearing Hold, and K, Trade has been released to Clearing, have
-- none.
abbrev pub trans_type : ℕ → Option ℕ
trans_type exec_type =
    if exec_type == 70 then Some 48 else  -- F, Trade: 0, New
    (if exec_type == 71 then Some 50 else  -- G, Trade Correct: 2, Correct
    (if exec_type == 72 then Some 49 else  -- H, Trade Cancel: 1, Cancel
    (if is_status exec_type then Some 51 else  -- 3, Status
    (if is_event exec_type then Some 48 else None))))

-- Whether a trade fills its order: OrdStatus is 2, Filled; or it is 6, Pending Cancel, or E,
-- Pending Replace, and nothing is left.
abbrev pub is_fill : ℕ → ℤ → Bool
is_fill status leaves = status == 50 || (status == 54 || status == 69) && int_eq leaves (pos 0)

-- ExecType: a trade is 1, Partial fill, or 2, Fill; what is about another one and a status say
-- OrdStatus
abbrev pub exec_type : (code status : ℕ) → Bool → ℕ
exec_type code status fill =
    if code == 70 then (if fill then 50 else 49) else
    (if code == 71 || (code == 72 || is_status code) then status else code)

-- Whether an order works on as one that was replaced: 150=5 with 39=0, which is 39=5
abbrev pub works_on : (status code : Option ℕ) → Bool
works_on None code = false
works_on (Some status) None = false
works_on (Some status) (Some code) = code == 53 && (status == 48)

-- ---- what FIX 4.2 says otherwise

abbrev pub coded : Option ℕ → Said
coded code = option_map code_text code

abbrev pub status_if : Option ℕ → Bool
status_if None = false
status_if (Some code) = is_status code

-- a status has no ExecID
abbrev pub id_down : Bool → Said → Said
id_down status id = option_map (λ text. if status then codes "0" else text) id

abbrev pub within : ℕ → List ℕ → List ℕ → Option ℕ → List ℕ
within last other text None = text
within last other text (Some reason) = if nat_le reason last then text else other

abbrev pub reason_down : ℕ → List ℕ → Said → Said
reason_down last other reason = option_map (λ text. within last other text (number_in text)) reason

-- an order at the close (7), market (1) or limit (2), is one on close
abbrev pub at_close : (type time : Option ℕ) → Bool
at_close None time = false
at_close (Some type) None = false
at_close (Some type) (Some time) = time == 55 && (type == 49 || type == 50)

abbrev pub on_close : Option ℕ → Said
on_close None = None
on_close (Some type) = if type == 49 then Some (codes "5") else Some (codes "B")

abbrev pub type_down : Said → Said → Said
type_down type time =
    if at_close (type >>= code_of) (time >>= code_of) then on_close (type >>= code_of) else type

abbrev pub time_down : Said → Said → Said
time_down type time = if at_close (type >>= code_of) (time >>= code_of) then None else time

-- an ExecType (150) that means no report
abbrev pub lacks_type : Option ℕ → Bool
lacks_type None = false
lacks_type (Some code) = not (is_some (trans_type code))

-- an amount that is not said
abbrev pub no_amount : Amount
no_amount = record { units = pos 0 }

-- WHAT THE RULES SAY, by what is said at each tag and of each role
module _ (at party : ℕ → Said) where
  abbrev code : ℕ → Option ℕ
  code tag = at tag >>= code_of

  -- whether a trade fills its order
  abbrev pub fills : Bool
  fills = is_fill (unwrap_or (code 39) 0) (unwrap_or (at 151 >>= amount_of) no_amount).units

  -- the reasons that FIX 4.2 lacks, as the text tells them
  abbrev pub tells : List ℕ
  tells = reason_told 103 8 (at 103 >>= number_in)
      ++ (reason_told 378 5 (at 378 >>= number_in) ++ reason_told 102 3 (at 102 >>= number_in))

  -- what such a rule says at its place
  abbrev pub own_says : Own → Said
  own_says (OrKnown known) = or_known (at 41) known
  own_says (PartyOf role to) = party role
  own_says ExecId = id_down (status_if (code 150)) (at 17)
  own_says TransType = coded (code 150 >>= trans_type)
  own_says ExecType =
      option_map (λ type. code_text (exec_type type (unwrap_or (code 39) 0) fills)) (code 150)
  own_says OrdStatus = if works_on (code 39) (code 150) then Some (codes "5") else at 39
  own_says (Another tag) = at tag
  own_says (Traded tag) = at tag
  own_says (Within tag last other) = reason_down last other (at tag)
  own_says Told = telling (at 58) tells
  own_says Month = at 200
  own_says DayOfDate = option_map (drop 6) (at 541)
  own_says OrdType = type_down (at 40) (at 59)
  own_says Time = time_down (at 40) (at 59)

  -- the tag that a rule cannot say
  abbrev pub own_lacks : Own → Option ℕ
  own_lacks TransType = lack_if (lacks_type (code 150)) 150
  own_lacks (OrKnown known) = lack_if (not (is_some (or_known (at 41) known))) 41
  own_lacks rule = None

module _ (m : Message) where
  abbrev pub at : ℕ → Said
  at tag = said_at m.cells (Tag tag)

  abbrev pub party : ℕ → Said
  party role = said_at m.cells (Role role)

  abbrev pub told : List ℕ
  told = tells at party

  abbrev pub own_said : Own → Said
  own_said rule = own_says at party rule

  abbrev pub own_lack : Own → Option ℕ
  own_lack rule = own_lacks at party rule

abbrev pub own_kinds : Kinds Own
own_kinds = record {
  target = target;
  has = has;
  said = own_said;
  lines = λ m rule. [];
  lack = own_lack;
}

abbrev pub kinds : Kinds Rule
kinds = with_own own_kinds

-- ---- THE MESSAGE

-- the rules for a message, where the original id of its order is known besides, or not
abbrev pub rules_for : Said → Message → List Rule
rules_for known m = if m.letter == 57 then down_rules (Original known) else down_rules (Same 41)

-- THE MESSAGE OF FIX 4.2 that a message of FIX 5.0 SP2 is, or the tag that FIX 4.2 cannot say:
-- ExecType (150), or OrigClOrdID (41) of a cancel reject
abbrev pub down_message : Said → Message → Result Message ℕ
down_message known m =
    or_lack (lack_by kinds (rules_for known m) m) (by_rules kinds (rules_for known m) m)

-- the table of a letter, and THE CONTENT that is written of a message
abbrev pub table_at : ℕ → Table Kind
table_at letter =
    if letter == 57 then cancel_reject_table else execution_report_table

abbrev pub written : Message → List Field
written w = content (table_at w.letter) w
