-- Worked examples of the session table, by computation.
use Rattle.std.specs.Prelude.{◌≡◌, ℕ, true, false, [], ◌∷◌, Some, None, Ok, Err, refl}
use Rattle.order_meaning.specs.declared.Side.TheVariants.{Client, Venue}
use Rattle.session_core.specs.declared.session.LinkState.{LinkState}
use Rattle.session_core.specs.declared.session.LinkState.TheVariants.{Down, Wait, Active}
use Rattle.session_core.specs.declared.session.Session.{Session}
use Rattle.session_core.specs.declared.head.Head.{Head}
use Rattle.session_core.specs.declared.head.What.{What}
use Rattle.session_core.specs.declared.head.What.TheVariants as what
use Rattle.session_core.specs.declared.act.Why.TheVariants as why
use Rattle.session_core.specs.declared.act.Admin.TheVariants as admin
use Rattle.session_core.specs.declared.act.Act.TheVariants.{Take, Skip, Say, Resend, HangUp}
use Rattle.session_core.specs.Table.{Opened, Message, Tick, End, step, given, does, spent}

-- a client's session with these next numbers, at HeartBtInt 30, silent since 0
abbrev pub client : LinkState → ℕ → ℕ → Session
client link next_in next_out = record {
  side = Client;
  link = link;
  numbers = record { next_in = next_in; next_out = next_out };
  heart = 30;
  seen = 0;
  said = 0;
  tested = None;
  ask = None;
}

-- the same after a message at 7, which was answered or not, and where all up to `top` was asked for
abbrev pub heard_at_7 : LinkState → ℕ → ℕ → Session
heard_at_7 link next_in next_out = record (client link next_in next_out) { seen = 7 }

abbrev pub answered_at_7 : LinkState → ℕ → ℕ → Session
answered_at_7 link next_in next_out = record (heard_at_7 link next_in next_out) { said = 7 }

abbrev pub asking : ℕ → Session → Session
asking top s = record s { ask = Some (record { top = top; since = 7 }) }

abbrev pub message : ℕ → What → Head
message n w = record { number = Some n; dup = false; comp = None; time = None; what = w }

abbrev pub repeated : ℕ → What → Head
repeated n w = record (message n w) { dup = true }

-- ---- a gap: messages 5 to 7 were lost. The early Heartbeat 8 shows it, and all from 5 on is asked
-- for.

pub gap_opens : step (client Active 5 2) (Message (message 8 what.Heartbeat)) 7
    ≡ Ok (does (Skip ∷ Say (admin.ResendRequest 5) ∷ []) (asking 8 (answered_at_7 Active 5 3)))
gap_opens = refl

-- 5 and 6 were no orders, and a gap fill stands for them
pub gap_filled : step
    (asking 8 (answered_at_7 Active 5 3)) (Message (repeated 5 (what.GapFill 7))) 7
    ≡ Ok (does (Take ∷ []) (asking 8 (answered_at_7 Active 7 3)))
gap_filled = refl

-- the order 7 comes again, and is taken
pub gap_order : step (asking 8 (answered_at_7 Active 7 3)) (Message (repeated 7 what.App)) 7
    ≡ Ok (does (Take ∷ []) (asking 8 (answered_at_7 Active 8 3)))
gap_order = refl

-- the Heartbeat 8 comes again: the gap is closed
pub gap_closed : step (asking 8 (answered_at_7 Active 8 3)) (Message (repeated 8 what.Heartbeat)) 7
    ≡ Ok (does (Take ∷ []) (answered_at_7 Active 9 3))
gap_closed = refl

-- the order 7 once more is passed over
pub old_order : step (answered_at_7 Active 9 3) (Message (repeated 7 what.App)) 7
    ≡ Ok (does (Skip ∷ []) (answered_at_7 Active 9 3))
old_order = refl

-- ---- a ResendRequest that is itself too high is answered before the gap is asked for

pub request_too_high : step (client Active 5 4) (Message (message 9 (what.ResendRequest 2 3))) 7
    ≡ Ok (does (Skip ∷ Resend 2 3 ∷ Say (admin.ResendRequest 5) ∷ [])
    (asking 9 (answered_at_7 Active 5 5)))
request_too_high = refl

-- ---- a resend ends at the last number that was given out: 7 where the next is 8, and 0 where none
-- was

pub resend_all : step (client Active 5 8) (Message (message 5 (what.ResendRequest 2 0))) 7
    ≡ Ok (does (Take ∷ Resend 2 7 ∷ []) (heard_at_7 Active 6 8))
resend_all = refl

pub resend_none : step (client Active 5 1) (Message (message 5 (what.ResendRequest 1 1))) 7
    ≡ Ok (does (Take ∷ Resend 1 0 ∷ []) (heard_at_7 Active 6 1))
resend_none = refl

-- ---- a SequenceReset that would lower the expected number

pub reset_too_low : step (client Active 5 8) (Message (message 9 (what.Reset 4))) 7
    ≡ Ok (does (Skip ∷ Say (admin.Reject 36 5) ∷ []) (answered_at_7 Active 5 9))
reset_too_low = refl

-- ---- a Logon with ResetSeqNumFlag, as the very first message and later

pub first_logon : step (client Wait 1 1) (Message (message 1 (what.Logon 30 true))) 7
    ≡ Ok (does (Take ∷ Say (admin.Logon true) ∷ []) (answered_at_7 Active 2 2))
first_logon = refl

pub later_logon : step (client Wait 4 1) (Message (message 1 (what.Logon 30 true))) 7
    ≡ Ok (does (Skip ∷ Say (admin.Logout (why.Logon 141)) ∷ HangUp ∷ []) (answered_at_7 Down 4 2))
later_logon = refl

-- ---- silence: 36 seconds are not too long, a millisecond more is; the TestRequest is then no
-- Heartbeat's company

pub silent : step (record (client Active 5 8) { said = 36000 }) Tick 36000
    ≡ Ok (does [] (record (client Active 5 8) { said = 36000 }))
silent = refl

pub too_silent : step (client Active 5 8) Tick 36001
    ≡ Ok (does (Say admin.TestRequest ∷ [])
    (record (client Active 5 9) { said = 36001; tested = Some 36001 }))
too_silent = refl

-- ---- the last number, 999,999,999, is given, and no other after it

pub last_given : given (client Active 5 999999999) 7
    ≡ Ok (record { 0 = 999999999; 1 = record (client Active 5 1000000000) { said = 7 } })
last_given = refl

pub none_given : given (client Active 5 1000000000) 7 ≡ Err spent
none_given = refl

pub none_for_a_heartbeat : step
    (client Active 5 1000000000) (Message (message 5 what.TestRequest)) 7 ≡ Err spent
none_for_a_heartbeat = refl

pub none_for_a_logout : step (client Active 5 1000000000) End 7 ≡ Err spent
none_for_a_logout = refl

pub none_for_a_logon : step (record (client Down 5 1000000000) { side = Venue }) Opened 7
    ≡ Err spent
none_for_a_logon = refl
