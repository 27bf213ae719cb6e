-- Standard: FIX 4.2, New Order - Single (D), NoAllocs (78) and NoTradingSessions (386); FIX 5.0
-- SP2, the components Parties, PreAllocGrp and TrdgSesGrp. Own: which of their fields count.
use Rattle.std.specs.Prelude.{List, [], ◌∷◌, codes}
use Rattle.std.specs.List.{AllZip}
use Rattle.field_groups.specs.Field.{Field}
use Rattle.message_tables.specs.Tables.{Required, Optional, Fixed, RepeatingGroup, lines_in}
use Rattle.message_tables.specs.Tables.{tags_in}
use Rattle.order_meaning.specs.declared.party.PartyLine.{PartyLine}
use Rattle.row_values.specs.declared.lines.AllocLine.{AllocLine}
use Rattle.row_values.specs.declared.lines.SessionLine.{SessionLine}
use Rattle.value_kinds.specs.ValueKind.{Id, Number, OneByte, Qty}
use Rattle.row_values.specs.Kinds.{Kind, row}
use Rattle.row_values.specs.Lines.{IsParty, IsAlloc, IsSession}

-- the parties of FIX 5.0 SP2; PartyIDSource is D, whatever stands there, and sub-ids are passed
-- over
abbrev pub parties : RepeatingGroup Kind
parties = record {
  count = 453;  -- NoPartyIDs
  rows =
      row Required 448 Id ∷  -- PartyID
      row (Fixed (codes "D")) 447 OneByte ∷  -- PartyIDSource
      row Required 452 Number ∷  -- PartyRole
      [];
  skipped = 802 ∷ 523 ∷ 803 ∷ [];  -- NoPartySubIDs, PartySubID, PartySubIDType
}

-- the accounts of an order
abbrev pub allocs : RepeatingGroup Kind
allocs = record {
  count = 78;  -- NoAllocs
  rows =
      row Required 79 Id ∷  -- AllocAccount
      row Optional 80 Qty ∷  -- AllocShares of FIX 4.2, AllocQty of FIX 5.0 SP2
      [];
  skipped = [];
}

-- the sessions in which an order may trade
abbrev pub sessions : RepeatingGroup Kind
sessions = record {
  count = 386;  -- NoTradingSessions
  rows =
      row Required 336 Id ∷  -- TradingSessionID
      [];
  skipped = [];
}

-- ---- lines that say what the fields of their group say

abbrev pub AreParties : List Field → List PartyLine → Type 0
AreParties fields lines = AllZip IsParty (lines_in (tags_in parties) fields) lines

abbrev pub AreAllocs : List Field → List AllocLine → Type 0
AreAllocs fields lines = AllZip IsAlloc (lines_in (tags_in allocs) fields) lines

abbrev pub AreSessions : List Field → List SessionLine → Type 0
AreSessions fields lines = AllZip IsSession (lines_in (tags_in sessions) fields) lines
