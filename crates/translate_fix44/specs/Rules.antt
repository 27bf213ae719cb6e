-- Standard: FIX 4.4 and FIX 5.0 SP2, volume 6: how each field of a request of FIX 4.4 is spelled in
-- FIX 5.0 SP2, and each field of a report of FIX 5.0 SP2 in FIX 4.4. Own: the order of writing;
-- that a place that the source does not have is not written; that an order without HandlInst says
-- 1; and that of OrderCapacity only A (agency), I (individual) and P (principal) are in the
-- profile.
use Rattle.std.specs.Prelude.{ℕ, Bool, true, false, not, ◌==◌, ◌&&◌, List, [], ◌∷◌, codes}
use Rattle.std.specs.Prelude.{Option, Some, None, Result, is_some, if◌then◌else◌}
use Rattle.std.specs.Option.{option_map}
use Rattle.std.specs.List.{list_any}
use Rattle.std.specs.Fmt.{decimal}
use Rattle.std.specs.Str.{bytes_eq}
use Rattle.value_kinds.specs.ValueKind.{code_text}
use Rattle.field_groups.specs.Field.{Field}
use Rattle.message_tables.specs.Tables.{Place, Tag, Role, Said, Cell, Message, ◌>>=◌, code_of}
use Rattle.message_tables.specs.Tables.{is_one_of, lines_of, or_else, said_at, text_in}
use Rattle.order_meaning.specs.Report.{or_known}
use Rattle.rule_rows.specs.ByRules.{At, Grouped, Kinds, Outline, Target, by_rules, content_by}
use Rattle.rule_rows.specs.ByRules.{has_any, has_place, lack_by, lack_if, or_lack, outline}
use Rattle.rule_rows.specs.Rules.{Rule as RuleOf, By, Group, Moved, with_own}
pub use Rattle.rule_rows.specs.Rules.{Same}
use Rattle.request_rules.specs.Rules.{Who, Client, Broker, Firm, is_unlisted, party_lines}
use Rattle.request_rules.specs.Rules.{role_of}
use Rattle.reports_fix50.specs.Sense.{telling}
use Rattle.report_rules.specs.Rules.{at, reason_down, told}

-- How the target says one line of its table otherwise than the source, in both directions.
pub data Own : Type 0 where
  -- the field of a tag, or else what is known besides
  Else : (tag : ℕ) → (known : Said) → Own
  -- a code, or the one that it turns to, where each that is not listed then has no counterpart
  Turned : (tag : ℕ) → (listed : List ℕ) → (turns : Option (ℕ × ℕ)) → Own
  -- TimeInForce, of which 7, at the close, has a counterpart beside a market or limit order alone
  AtClose : Own
  -- the first party of each of the roles 3, 1 and 4, as lines of a group; and one of these
  Parties : Own
  PartyOf : (who : Who) → Own
  -- a reason; one past the last of FIX 4.2 is another one, and the text tells it
  Within : (tag last : ℕ) → (other : List ℕ) → Own
  Told : Own

abbrev pub Rule : Type 0
Rule = RuleOf Own

-- THE RULES by which a request goes up, in the order of writing of FIX 5.0 SP2
abbrev pub up_rules : List Rule
up_rules =
    Same 11 ∷  -- ClOrdID
    Same 41 ∷  -- OrigClOrdID
    Same 37 ∷  -- OrderID
    By Parties ∷
    By (PartyOf Client) ∷
    By (PartyOf Broker) ∷
    By (PartyOf Firm) ∷
    Same 1 ∷  -- Account
    Group 78 ∷  -- NoAllocs
    Same 63 ∷  -- SettlType
    Same 64 ∷  -- SettlDate
    By (Else 21 (Some (codes "1"))) ∷  -- HandlInst: automated execution, no broker
    Same 18 ∷  -- ExecInst
    Same 110 ∷  -- MinQty
    Moved 111 1138 ∷  -- MaxFloor, DisplayQty
    Same 100 ∷  -- ExDestination
    Group 386 ∷  -- NoTradingSessions
    Same 55 ∷  -- Symbol
    Same 65 ∷  -- SymbolSfx
    Same 48 ∷  -- SecurityID
    Same 22 ∷  -- SecurityIDSource
    Same 167 ∷  -- SecurityType
    Same 200 ∷  -- MaturityMonthYear
    Same 541 ∷  -- MaturityDate
    Same 207 ∷  -- SecurityExchange
    Same 54 ∷  -- Side
    Same 114 ∷  -- LocateReqd
    Same 60 ∷  -- TransactTime
    Same 38 ∷  -- OrderQty
    By (Turned 40 (codes "1234") None) ∷  -- OrdType
    Same 44 ∷  -- Price
    Same 99 ∷  -- StopPx
    Same 15 ∷  -- Currency
    By AtClose ∷  -- TimeInForce
    Same 168 ∷  -- EffectiveTime
    Same 432 ∷  -- ExpireDate
    Same 126 ∷  -- ExpireTime
    By (Turned 528 (codes "AIP") None) ∷  -- OrderCapacity
    Same 77 ∷  -- PositionEffect
    Same 58 ∷  -- Text
    []

-- THE RULES by which a report goes down, in the order of writing of FIX 4.4. An execution report
-- says OrigClOrdID as it is; a cancel reject has to say it.
abbrev pub down_rules : (original : Rule) → List Rule
down_rules original =
    Same 37 ∷  -- OrderID
    Same 198 ∷  -- SecondaryOrderID
    Same 11 ∷  -- ClOrdID
    original ∷  -- OrigClOrdID
    By Parties ∷
    By (PartyOf Client) ∷
    By (PartyOf Broker) ∷
    By (PartyOf Firm) ∷
    Group 382 ∷  -- NoContraBrokers
    Same 17 ∷  -- ExecID
    Same 19 ∷  -- ExecRefID
    -- ExecType: L, Triggered or Activated by System, is I, Order Status
    By (Turned 150 (codes "03456789ABCDEFGHI") (Some (76, 73))) ∷
    By (Turned 39 (codes "012346789ABCDE") (Some (53, 48))) ∷  -- OrdStatus: 5, Replaced, is 0, New
    By (Within 103 8 (codes "0")) ∷  -- OrdRejReason: Broker option
    By (Within 378 5 (codes "4")) ∷  -- ExecRestatementReason: Broker option
    Same 1 ∷  -- Account
    Same 63 ∷  -- SettlType
    Same 64 ∷  -- SettlDate
    Same 55 ∷  -- Symbol
    Same 65 ∷  -- SymbolSfx
    Same 48 ∷  -- SecurityID
    Same 22 ∷  -- SecurityIDSource
    Same 167 ∷  -- SecurityType
    Same 200 ∷  -- MaturityMonthYear
    Same 541 ∷  -- MaturityDate
    Same 207 ∷  -- SecurityExchange
    Same 54 ∷  -- Side
    Same 38 ∷  -- OrderQty
    Same 40 ∷  -- OrdType
    Same 44 ∷  -- Price
    Same 99 ∷  -- StopPx
    Same 15 ∷  -- Currency
    Same 59 ∷  -- TimeInForce
    Same 432 ∷  -- ExpireDate
    Same 126 ∷  -- ExpireTime
    Same 528 ∷  -- OrderCapacity
    Same 32 ∷  -- LastQty
    Same 31 ∷  -- LastPx
    Same 30 ∷  -- LastMkt
    Same 151 ∷  -- LeavesQty
    Same 14 ∷  -- CumQty
    Same 6 ∷  -- AvgPx
    Same 75 ∷  -- TradeDate
    Same 60 ∷  -- TransactTime
    Same 434 ∷  -- CxlRejResponseTo
    By (Within 102 3 (codes "2")) ∷  -- CxlRejReason: Broker option
    Same 110 ∷  -- MinQty
    Moved 1138 111 ∷  -- DisplayQty, MaxFloor
    By Told ∷  -- Text
    []

-- ---- where a rule reads and writes

-- the places of the source of which such a rule tells
abbrev pub sources : Own → List Place
sources (Else tag known) = Tag tag ∷ []
sources (Turned tag listed turns) = Tag tag ∷ []
sources AtClose = Tag 59 ∷ []
sources Parties = Role 3 ∷ Role 1 ∷ Role 4 ∷ []
sources (PartyOf who) = Role (role_of who) ∷ []
sources (Within tag last other) = Tag tag ∷ []
sources Told = Tag 58 ∷ Tag 103 ∷ Tag 378 ∷ Tag 102 ∷ []

abbrev pub has : Outline → Own → Bool
has there rule = has_any there (sources rule)

abbrev pub target : Own → Target
target (Else tag known) = At (Tag tag)
target (Turned tag listed turns) = At (Tag tag)
target AtClose = At (Tag 59)
target Parties = Grouped 453
target (PartyOf who) = At (Role (role_of who))
target (Within tag last other) = At (Tag tag)
target Told = At (Tag 58)

-- ---- what the target says

abbrev pub turn : Option (ℕ × ℕ) → ℕ → ℕ
turn None code = code
turn (Some turned) code = if turned.0 == code then turned.1 else code

-- the code that a text is, turned
abbrev pub turned_code : Option (ℕ × ℕ) → Said → Option ℕ
turned_code turns text = option_map (turn turns) (text >>= code_of)

-- a place that the source has, or else what is known
abbrev pub else_said : Bool → Said → Said → Said
else_said true said known = or_known said known
else_said false said known = None

-- at the close, beside neither a market nor a limit order
abbrev pub is_market_or_limit : Option ℕ → Bool
is_market_or_limit None = false
is_market_or_limit (Some type) = is_one_of (codes "12") type

abbrev pub lacks_close : (type time : Option ℕ) → Bool
lacks_close type None = false
lacks_close type (Some time) = time == 55 && not (is_market_or_limit type)

module _ (m : Message) where
  abbrev pub party : ℕ → Said
  party role = said_at m.cells (Role role)

  -- what such a rule says at its place
  abbrev pub own_said : Own → Said
  own_said (Else tag known) = else_said (has_place (outline m) (Tag tag)) (at m tag) known
  own_said (Turned tag listed turns) = option_map code_text (turned_code turns (at m tag))
  own_said AtClose = at m 59
  own_said Parties = None
  own_said (PartyOf who) = party (role_of who)
  own_said (Within tag last other) = reason_down last other (at m tag)
  own_said Told = telling (at m 58) (told m)

  -- the lines of its group
  abbrev pub own_lines : Own → List (List Cell)
  own_lines Parties = party_lines (party 3) (party 1) (party 4)
  own_lines rule = []

  -- the tag that it cannot say
  abbrev pub own_lack : Own → Option ℕ
  own_lack (Turned tag listed turns) =
      lack_if (is_unlisted listed (turned_code turns (at m tag))) tag
  own_lack AtClose = lack_if (lacks_close (at m 40 >>= code_of) (at m 59 >>= code_of)) 59
  own_lack (Else tag known) =
      lack_if (has_place (outline m) (Tag tag) && not (is_some (or_known (at m tag) known))) tag
  own_lack rule = None

abbrev pub own_kinds : Kinds Own
own_kinds = record {
  target = target;
  has = has;
  said = own_said;
  lines = own_lines;
  lack = own_lack;
}

abbrev pub kinds : Kinds Rule
kinds = with_own own_kinds

-- ---- THE MESSAGES

-- whether a line is of a party whose role has a place in its message
abbrev pub is_role : Place → List ℕ → Bool
is_role (Role role) text = bytes_eq text (decimal role)
is_role (Tag tag) text = false

abbrev pub has_role : Message → List Cell → Bool
has_role m line = list_any (λ cell. is_role cell.0 (text_in line 452)) m.cells

abbrev pub lacks_role : Message → Bool
lacks_role m = list_any (λ line. not (has_role m line)) (lines_of 453 m.groups)

-- THE LACK of a request: OrdType (40), TimeInForce (59), OrderCapacity (528), and last PartyRole
abbrev pub up_lack : Message → Option ℕ
up_lack m = or_else (lack_by kinds up_rules m) (lack_if (lacks_role m) 452)

-- THE MESSAGE OF FIX 5.0 SP2 that a request of FIX 4.4 is, or the tag that FIX 5.0 SP2 cannot say
abbrev pub up_message : Message → Result Message ℕ
up_message m = or_lack (up_lack m) (by_rules kinds up_rules m)

-- the rules for a report, where the original id of its order is known besides, or not
abbrev pub rules_for : Said → Message → List Rule
rules_for known m = if m.letter == 57 then down_rules (By (Else 41 known)) else down_rules (Same 41)

-- THE MESSAGE OF FIX 4.4 that a report of FIX 5.0 SP2 is, or the tag that FIX 4.4 cannot say:
-- ExecType (150), or OrigClOrdID (41) of a cancel reject
abbrev pub down_message : Said → Message → Result Message ℕ
down_message known m =
    or_lack (lack_by kinds (rules_for known m) m) (by_rules kinds (rules_for known m) m)

-- the contents that the rules write
abbrev pub up_content : Message → List Field
up_content m = content_by kinds up_rules m

abbrev pub down_content : Said → Message → List Field
down_content known m = content_by kinds (rules_for known m) m
