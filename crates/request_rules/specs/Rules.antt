-- Standard: FIX 4.2 and FIX 5.0 SP2, volume 6: how each field of a request of FIX 4.2 is spelled in
-- FIX 5.0 SP2. Own: the order of writing; that a place that the source does not have is not
-- written; and that of OrderCapacity only A (agency), I (individual) and P (principal) are in the
-- profile.
use Rattle.std.specs.Prelude.{ℕ, Bool, true, false, not, ◌==◌, ◌&&◌, List, [], ◌∷◌, ◌++◌, map}
use Rattle.std.specs.Prelude.{codes, Option, Some, None, is_some, if◌then◌else◌}
use Rattle.field_groups.specs.Field.{Field}
use Rattle.message_tables.specs.Tables.{Tag, Role, Place, Said, Cell, Message, ◌>>=◌, code_of}
use Rattle.message_tables.specs.Tables.{is_one_of, said_at}
use Rattle.party_translate.specs.Parties.{parties_of}
use Rattle.row_values.specs.Lines.{party_cells}
use Rattle.rows_fix42.specs.Meaning.{is_on_close, time_of}
use Rattle.rule_rows.specs.ByRules.{At, Grouped, Kinds, Target, by_rules, content_by, has_any}
use Rattle.rule_rows.specs.ByRules.{lack_by, lack_if}
use Rattle.rule_rows.specs.Rules.{Rule as RuleOf, By, Group, Moved, Same, with_own}

-- the parties for which FIX 4.2 has a field each: ClientID, ExecBroker and ClearingFirm
pub data Who : Type 0 where
  Client : Who
  Broker : Who
  Firm : Who

abbrev pub tag_of : Who → ℕ
tag_of Client = 109
tag_of Broker = 76
tag_of Firm = 439

abbrev pub role_of : Who → ℕ
role_of Client = 3
role_of Broker = 1
role_of Firm = 4

-- How FIX 5.0 SP2 says one line of its table otherwise than FIX 4.2.
pub data Own : Type 0 where
  -- a code of another tag, where each that is not listed lacks a spelling
  Listed : (from to : ℕ) → (listed : List ℕ) → Own
  -- the parties of FIX 4.2's fields, as lines of a group
  Parties : Own
  -- one of these parties, by its role
  PartyOf : (who : Who) → Own
  -- the month and the date of a maturity
  Month : Own
  Date : Own
  -- OrdType and TimeInForce, of which FIX 5.0 SP2 says by the second that an order is on close
  OrdType : Own
  Time : Own

abbrev pub Rule : Type 0
Rule = RuleOf Own

-- THE RULES by which a request goes up, in the order of writing of FIX 5.0 SP2
abbrev pub up_rules : List Rule
up_rules =
    Same 11 ∷  -- ClOrdID
    Same 41 ∷  -- OrigClOrdID
    Same 37 ∷  -- OrderID
    By Parties ∷
    By (PartyOf Client) ∷
    By (PartyOf Broker) ∷
    By (PartyOf Firm) ∷
    Same 1 ∷  -- Account
    Group 78 ∷  -- NoAllocs
    Same 63 ∷  -- SettlType
    Same 64 ∷  -- SettlDate
    Same 21 ∷  -- HandlInst
    Same 18 ∷  -- ExecInst
    Same 110 ∷  -- MinQty
    Moved 111 1138 ∷  -- MaxFloor, DisplayQty
    Same 100 ∷  -- ExDestination
    Group 386 ∷  -- NoTradingSessions
    Same 55 ∷  -- Symbol
    Same 65 ∷  -- SymbolSfx
    Same 48 ∷  -- SecurityID
    Same 22 ∷  -- SecurityIDSource
    Same 167 ∷  -- SecurityType
    By Month ∷
    By Date ∷
    Same 207 ∷  -- SecurityExchange
    Same 54 ∷  -- Side
    Same 114 ∷  -- LocateReqd
    Same 60 ∷  -- TransactTime
    Same 38 ∷  -- OrderQty
    By OrdType ∷
    Same 44 ∷  -- Price
    Same 99 ∷  -- StopPx
    Same 15 ∷  -- Currency
    By Time ∷
    Same 168 ∷  -- EffectiveTime
    Same 432 ∷  -- ExpireDate
    Same 126 ∷  -- ExpireTime
    By (Listed 47 528 (codes "AIP")) ∷  -- Rule80A, OrderCapacity
    Same 77 ∷  -- PositionEffect
    Same 58 ∷  -- Text
    []

-- ---- where a rule reads and writes

-- the tags of the parties
abbrev pub party_tags : List Place
party_tags = Tag 109 ∷ Tag 76 ∷ Tag 439 ∷ []

-- the places of which such a rule tells, where FIX 4.2 has one of them
abbrev pub sources : Own → List Place
sources (Listed from to listed) = Tag from ∷ []
sources Parties = party_tags
sources (PartyOf who) = Tag (tag_of who) ∷ []
sources Month = Tag 200 ∷ []
sources Date = Tag 205 ∷ []
sources OrdType = Tag 40 ∷ []
sources Time = Tag 40 ∷ Tag 59 ∷ []

abbrev pub target : Own → Target
target (Listed from to listed) = At (Tag to)
target Parties = Grouped 453
target (PartyOf who) = At (Role (role_of who))
target Month = At (Tag 200)
target Date = At (Tag 541)
target OrdType = At (Tag 40)
target Time = At (Tag 59)

-- ---- what FIX 5.0 SP2 says

-- market and limit on close are market and limit, at the close (7)
abbrev pub type_by : Option ℕ → Said → Said
type_by None said = said
type_by (Some code) said =
    if code == 53 then Some (codes "1") else (if code == 66 then Some (codes "2") else said)

abbrev pub type_up : Said → Said
type_up ord_type = type_by (ord_type >>= code_of) ord_type

abbrev pub time_up : Said → Said → Said
time_up ord_type time = if is_on_close (ord_type >>= code_of) then Some (codes "7") else time

-- a month and its day are a date
abbrev pub date_up : Said → Said → Said
date_up None day = None
date_up (Some month) None = None
date_up (Some month) (Some day) = Some (month ++ day)

-- the lines of the parties
abbrev pub party_lines : Said → Said → Said → List (List Cell)
party_lines client broker firm =
    map party_cells (parties_of (record { client = client; broker = broker; firm = firm }))

-- what such a rule says at its place, by what FIX 4.2 says at its tags
abbrev pub own_said : (ℕ → Said) → Own → Said
own_said at (Listed from to listed) = at from
own_said at Parties = None
own_said at (PartyOf who) = at (tag_of who)
own_said at Month = at 200
own_said at Date = date_up (at 200) (at 205)
own_said at OrdType = type_up (at 40)
own_said at Time = time_up (at 40) (at 59)

-- the lines of its group
abbrev pub own_lines : (ℕ → Said) → Own → List (List Cell)
own_lines at Parties = party_lines (at 109) (at 76) (at 439)
own_lines at rule = []

-- ---- what FIX 5.0 SP2 cannot say

-- a code that is not listed
abbrev pub is_unlisted : List ℕ → Option ℕ → Bool
is_unlisted listed None = false
is_unlisted listed (Some code) = not (is_one_of listed code)

-- an order on close with another time
abbrev pub is_late : Option ℕ → Option ℕ → Bool
is_late ord_type time = is_on_close ord_type && is_some (time_of true time)

-- the tag that a rule cannot say
abbrev pub own_lack : (ℕ → Said) → Own → Option ℕ
own_lack at Time = lack_if (is_late (at 40 >>= code_of) (at 59 >>= code_of)) 59
own_lack at (Listed from to listed) = lack_if (is_unlisted listed (at from >>= code_of)) from
own_lack at rule = None

abbrev pub rule_lack : (ℕ → Said) → Rule → Option ℕ
rule_lack at (By rule) = own_lack at rule
rule_lack at rule = None

-- ---- a message

abbrev pub at : Message → ℕ → Said
at m tag = said_at m.cells (Tag tag)

abbrev pub own_kinds : Kinds Own
own_kinds = record {
  target = target;
  has = λ there rule. has_any there (sources rule);
  said = λ m rule. own_said (at m) rule;
  lines = λ m rule. own_lines (at m) rule;
  lack = λ m rule. own_lack (at m) rule;
}

abbrev pub kinds : Kinds Rule
kinds = with_own own_kinds

-- THE MESSAGE OF FIX 5.0 SP2 that a message of FIX 4.2 is; its content; and the tag of FIX 4.2 that
-- says what FIX 5.0 SP2 cannot say, if there is one
abbrev pub up_message : Message → Message
up_message m = by_rules kinds up_rules m

abbrev pub up_content : Message → List Field
up_content m = content_by kinds up_rules m

abbrev pub up_lack : Message → Option ℕ
up_lack m = lack_by kinds up_rules m
