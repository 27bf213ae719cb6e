-- Standard: FIX 4.2 and FIXT 1.1, "Standard message header" and Sequence Reset.
-- Own: the order of the header's fields, and moments with three digits of the second;
-- docs/DECISIONS.md, "Frames that are sent".
--
-- The frames that are sent.
use Rattle.std.specs.Prelude.{ℕ, ◌+◌, Bool, true, false, List, ◌++◌, codes, Some, None}
use Rattle.std.specs.Prelude.{if◌then◌else◌}
use Rattle.frame_grammar.specs.declared.frame.Kind.{Kind}
use Rattle.frame_grammar.specs.declared.frame.Kind.TheVariants.{Fix42, Fixt11}
use Rattle.frame_grammar.specs.Frame.{frame_of}
use Rattle.field_groups.specs.Field.{body_of}
use Rattle.typed_fields.specs.Stamp.{stamp_at}
use Rattle.order_meaning.specs.declared.Side.{Side}
use Rattle.order_meaning.specs.declared.Side.TheVariants.{Client, Venue}
use Rattle.order_meaning.specs.declared.names.Names.{Names}
use Rattle.session_logon.specs.Content.{gap_fill_fields}
use Rattle.session_logon.specs.Laws.{Heading, header_fields}

-- the client speaks FIX 4.2, and the venue FIXT 1.1
abbrev pub kind_of : Side → Kind
kind_of Client = Fix42
kind_of Venue = Fixt11

-- The header of a message that is sent now: one that is sent again has PossDupFlag(43), and its
-- first moment in OrigSendingTime(122).
abbrev pub heading : (number : ℕ) → (resend : Bool) → (first now : ℕ) → (again : Bool) → Heading
heading number resend first now again = record {
  number = number;
  dup = again;
  resend = resend;
  sent = stamp_at now;
  first = if again then Some (stamp_at first) else None;
}

abbrev pub body_out : Side → Names → Heading → (msg_type content : List ℕ) → List ℕ
body_out side names h msg_type content =
    body_of (header_fields side names msg_type h) ++ content

-- THE FRAME OF A MESSAGE, which is sent for the first time or again
abbrev pub frame_out : Names → Side → (number : ℕ) → (msg_type content : List ℕ) → (resend : Bool)
    → (first now : ℕ) → (again : Bool) → List ℕ
frame_out names side number msg_type content resend first now again = frame_of (kind_of side)
    (body_out side names (heading number resend first now again) msg_type content)

-- THE FRAME OF A GAP FILL, a SequenceReset that stands for the messages of these numbers
abbrev pub fill_out : Names → Side → (from to : ℕ) → (first now : ℕ) → List ℕ
fill_out names side from to first now =
    frame_out names side from (codes "4") (body_of (gap_fill_fields (to + 1))) false first now true
