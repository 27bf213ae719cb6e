-- Own: the lines for the operator; docs/DECISIONS.md, "The edge".
use Rattle.std.specs.Prelude.{◌≡◌, ℕ, zero, suc, List, [], ◌++◌, codes, decimal, Some, None, min}
use Rattle.std.specs.declared.option.Option.{Option}
use Rattle.std.specs.Net.Text.{socket_text}
use Rattle.typed_fields.specs.Stamp.{stamp_text, stamp_at}
use Rattle.edge_logic.specs.declared.fault.Fault.{Fault}
use Rattle.edge_logic.specs.declared.fault.Fault.TheVariants as fault
use Rattle.edge_logic.specs.declared.journal.Denial.{Denial}
use Rattle.edge_logic.specs.declared.journal.Denial.TheVariants as denial
use Rattle.edge_logic.specs.declared.journal.Refusal.{Refusal}
use Rattle.edge_logic.specs.declared.journal.Refusal.TheVariants as refusal
use Rattle.edge_logic.specs.declared.notice.PeerName.{PeerName}
use Rattle.edge_logic.specs.declared.notice.PeerName.TheVariants.{Client, Venue}
use Rattle.edge_logic.specs.declared.notice.Ending.{Ending}
use Rattle.edge_logic.specs.declared.notice.Ending.TheVariants.{ByPeer, ByUs, ByFailure}
use Rattle.edge_logic.specs.declared.notice.Ending.TheVariants.{ByPeerBehind, ByUsBehind}
use Rattle.edge_logic.specs.declared.notice.NextTry.{NextTry}
use Rattle.edge_logic.specs.declared.notice.NextTry.TheVariants.{Never, AtOnce, After}
use Rattle.edge_logic.specs.declared.notice.NextTry.TheVariants.{OpensAfter}
use Rattle.edge_logic.specs.declared.notice.Missed.{Missed}
use Rattle.edge_logic.specs.declared.notice.RefusedNth.{RefusedNth}
use Rattle.edge_logic.specs.declared.notice.ClosedNth.{ClosedNth}
use Rattle.edge_logic.specs.declared.notice.TooLow.{TooLow}
use Rattle.edge_logic.specs.declared.notice.Notice.{Notice}
use Rattle.edge_logic.specs.declared.notice.Notice.TheVariants as notice

abbrev pub peer_text : PeerName → List ℕ
peer_text Client = codes "client"
peer_text Venue = codes "venue"

abbrev pub ending_text : Ending → List ℕ
ending_text ByPeer = codes "ended by the peer"
ending_text ByUs = codes "ended by the gateway"
ending_text (ByFailure reason) = codes "failed: " ++ reason.now
ending_text (ByPeerBehind what) = codes "ended by the peer: " ++ what.now
ending_text (ByUsBehind what) = codes "ended by the gateway: " ++ what.now

abbrev pub next_text : NextTry → List ℕ
next_text Never = []
next_text AtOnce = codes "; next try at once"
next_text (After seconds) = codes "; next try in " ++ decimal seconds ++ codes " s"
next_text (OpensAfter seconds) =
    codes "; the port opens again in " ++ decimal seconds ++ codes " s"

-- why the venue was not reached, and when it is tried next
abbrev pub missed_text : Missed → List ℕ
missed_text missed = codes " not reached: " ++ missed.reason.now ++ next_text missed.next

-- the so manyth client that was refused
abbrev pub refused_text : RefusedNth → List ℕ
refused_text nth = codes " refused, since one is connected: number " ++ decimal nth.0

-- why a connection was closed that was no client's yet; it is the so manyth
abbrev pub closed_text : ClosedNth → List ℕ
closed_text closed = codes " closed: " ++ closed.why.now ++ codes ": number " ++ decimal closed.nth

-- a number that is too low
abbrev pub low_text : TooLow → List ℕ
low_text low = codes "expected " ++ decimal low.expected ++ codes ", got " ++ decimal low.got

-- what a line says
abbrev pub notice_text : Notice → List ℕ
notice_text (notice.Listening at) = codes "listening on " ++ socket_text at
notice_text (notice.NotListening at reason) =
    codes "cannot listen on " ++ socket_text at ++ codes ": " ++ reason.now
notice_text (notice.Connected peer at) =
    peer_text peer ++ codes " " ++ socket_text at ++ codes " connected"
notice_text (notice.Refused at nth) = codes "client " ++ socket_text at ++ refused_text nth
notice_text (notice.Closed at closed) = codes "client " ++ socket_text at ++ closed_text closed
notice_text (notice.NumbersLow peer low) =
    peer_text peer ++ codes " numbers are too low: " ++ low_text low
    ++ codes "; has it begun a new day?"
notice_text (notice.OwnNumbersLow peer low) =
    peer_text peer ++ codes " finds our numbers too low: " ++ low_text low
    ++ codes "; is its day that of yesterday?"
notice_text (notice.Late peer) =
    peer_text peer ++ codes " did not begin with number 1; is its day that of yesterday?"
notice_text (notice.Ended peer ending next) =
    peer_text peer ++ codes " connection " ++ ending_text ending ++ next_text next
notice_text (notice.NotReached at missed) = codes "venue " ++ socket_text at ++ missed_text missed
notice_text (notice.StopAsked) = codes "the stop file asks for an end"
notice_text (notice.EndTakes seconds) =
    codes "an end by the stop file takes " ++ decimal seconds ++ codes " s"
notice_text (notice.Text text) = text.now

-- how many lines before were lost, where any was
abbrev pub lost_text : ℕ → List ℕ
lost_text zero = []
lost_text (suc lost) = codes " (" ++ decimal (suc lost) ++ codes " lines before this were lost)"

-- a line: its moment as a UTCTimestamp, and what it says
unfoldable pub line_text : ℕ → Notice → ℕ → List ℕ
line_text moment what lost =
    stamp_text (stamp_at (min moment 4_102_444_799_999)) ++ codes " " ++ notice_text what
    ++ lost_text lost ++ codes "\n"

-- why a connection failed; a reason of the system is the system's text
abbrev pub fault_text : Fault → Option (List ℕ)
fault_text (fault.System error) = None
fault_text fault.TookNothing = Some (codes "the peer took nothing for 5 s")
fault_text fault.NoRoom = Some (codes "the peer leaves too many bytes waiting")
fault_text fault.NoAnswer = Some (codes "no answer within 5 s")
fault_text fault.NotConnected = Some (codes "not connected")
fault_text fault.NoMemory = Some (codes "out of memory")

-- why a gateway cannot have its journal
abbrev pub refusal_text : Refusal → List ℕ
refusal_text (refusal.InUse path) = codes "fixgate: journal " ++ path.now ++ codes " is in use"
refusal_text (refusal.Failed path reason) =
    codes "fixgate: journal " ++ path.now ++ codes ": " ++ reason.now
refusal_text (refusal.StopLies path) =
    codes "fixgate: stop file " ++ path.now ++ codes " is there already"
refusal_text (refusal.OldFormat path) =
    codes "fixgate: journal " ++ path.now ++ codes " is of format 1: migrate makes it format 2"
refusal_text (refusal.NotOld path) =
    codes "fixgate: journal " ++ path.now ++ codes " is not of format 1, which alone migrates"

-- the line of why a call on the journal at this path failed; a reason of the system is the system's
-- text
abbrev pub TellsDenial : List ℕ → Denial → List ℕ → Type 0
TellsDenial path denial.InUse line =
    line ≡ codes "fixgate: journal " ++ path ++ codes " is in use"
TellsDenial path denial.NoFile line =
    line ≡ codes "fixgate: journal " ++ path ++ codes ": is no regular file"
TellsDenial path denial.NoJournal line =
    line ≡ codes "fixgate: journal " ++ path
    ++ codes ": is no journal: it begins with neither byte 0 nor byte 1"
TellsDenial path (denial.System error) line =
    (reason : List ℕ) × (line ≡ codes "fixgate: journal " ++ path ++ codes ": " ++ reason)
