-- Worked examples of heads and of what a session says, by computation.
use Rattle.std.proofs.Common.{◌≡◌, ℕ, true, false, [], ◌∷◌, codes, Some, None, Ok, Err}
use Rattle.std.proofs.Common.{pos, refl}
use Rattle.std.specs.Fmt.{digits}
use Rattle.typed_fields.specs.Digits.{are_digits, has_pattern, number_of}
use Rattle.order_meaning.specs.declared.Side.TheVariants.{Client, Venue}
use Rattle.order_meaning.specs.declared.names.Names.{Names}
use Rattle.session_core.specs.declared.act.Admin.TheVariants as admin
use Rattle.session_core.specs.declared.act.Why.TheVariants as why
use Rattle.session_core.specs.declared.head.What.TheVariants as what
use Rattle.session_logon.specs.declared.logon.LogonFault.TheVariants.{Tag}
use Rattle.session_logon.specs.Logon.{logon_of}
use Rattle.typed_fields.specs.declared.stamp.Fraction.TheVariants.{Whole}
use Rattle.typed_fields.specs.declared.stamp.Stamp.{Stamp}
use Rattle.session_logon.specs.Head.{head_of, kind_of, time_fault, wrong_time}
use Rattle.session_logon.specs.Content.{fields_of, logout_text}

abbrev names : Names
names = record {
  client_our = codes "GATE";
  client_peer = codes "CLNT";
  venue_our = codes "GATE";
  venue_peer = codes "VENU";
}

-- 2024-01-02 10:00:00
abbrev now : ℕ
now = 1704189600000

-- ---- a Heartbeat of the client without SendingTime(52)

pub heartbeat : head_of Client names 120 (codes "0")
    ((35, codes "0") ∷ (49, codes "CLNT") ∷ (56, codes "GATE") ∷ (34, codes "2") ∷ []) now
    ≡ record { number = Some 2; dup = false; comp = None; time = Some 1; what = what.Heartbeat }
unfolding are_digits number_of
heartbeat = refl

-- ---- a SendingTime(52) of 10:00:00 is good for two minutes, and not for a millisecond more, to
-- both sides of now

abbrev ten : Stamp
ten = record { day = pos 19724; hour = 10; minute = 0; second = 0; frac = Whole }

-- the client's has no or three digits of the second, the venue's no, three, six or nine
pub forms : (wrong_time Client 120 now ((52, codes "20240102-10:00:00.123999999") ∷ []) ≡ Some 6)
    × (wrong_time Venue 120 now ((52, codes "20240102-10:00:00.1") ∷ []) ≡ Some 6)
    × (wrong_time Venue 120 now ((52, codes "20240102-24:00:00.123999999") ∷ []) ≡ Some 5)
unfolding number_of has_pattern
forms = (refl, refl, refl)

pub on_time : (time_fault 120 now (Ok ten) ≡ None) × (time_fault 120 1704189720000 (Ok ten) ≡ None)
    × (time_fault 120 1704189720001 (Ok ten) ≡ Some 10)
    × (time_fault 120 1704189480000 (Ok ten) ≡ None)
    × (time_fault 120 1704189479999 (Ok ten) ≡ Some 10)
on_time = (refl, refl, refl, refl, refl)

-- ---- both names are wrong and the number is above the greatest: SenderCompID(49) is named

pub wrong_header : head_of Venue names 120 (codes "0")
    ((49, codes "CLNT")
    ∷ (56, codes "X") ∷ (34, codes "1000000000") ∷ (43, codes "Y") ∷ (52, []) ∷ []) now
    ≡ record { number = None; dup = true; comp = Some 49; time = Some 4; what = what.Heartbeat }
unfolding are_digits number_of
wrong_header = refl

-- ---- session messages and their first wrong field

pub no_id : kind_of Client (codes "1") [] ≡ what.Faulty 112 1
no_id = refl

pub end_below_begin : kind_of Client (codes "2") ((16, codes "4") ∷ (7, codes "5") ∷ [])
    ≡ what.Faulty 16 5
unfolding are_digits number_of
end_below_begin = refl

pub all_from_5 : kind_of Client (codes "2") ((7, codes "5") ∷ (7, codes "x") ∷ (16, codes "0") ∷ [])
    ≡ what.ResendRequest 5 0
unfolding are_digits number_of
all_from_5 = refl

pub gap_fill : kind_of Client (codes "4") ((123, codes "Y") ∷ (36, codes "7") ∷ []) ≡ what.GapFill 7
unfolding are_digits number_of
gap_fill = refl

-- a GapFillFlag(123) that is neither Y nor N counts as absent
pub no_new_number : kind_of Client (codes "4") ((123, codes "X") ∷ []) ≡ what.FaultyReset 36 1
no_new_number = refl

-- ---- Logons: to the gateway from both sides

pub client_logon : logon_of Client ((98, codes "0") ∷ (108, codes "30") ∷ (141, codes "Y") ∷ [])
    ≡ Ok (30, true)
unfolding are_digits number_of
client_logon = refl

pub venue_logon : logon_of Venue ((98, codes "0") ∷ (108, codes "30") ∷ []) ≡ Err (Tag 1137)
unfolding are_digits number_of
venue_logon = refl

pub encrypted_logon : logon_of Client ((108, codes "x") ∷ (98, codes "1") ∷ []) ≡ Err (Tag 98)
encrypted_logon = refl

-- ---- what is said

pub to_the_venue : fields_of Venue (admin.Logon false) 30 1 0 [] []
    ≡ (98, codes "0") ∷ (108, codes "30") ∷ (1137, codes "9") ∷ []
unfolding digits
to_the_venue = refl

pub echo : fields_of Client (admin.Heartbeat true) 30 5 4 (codes "1") (codes "ping")
    ≡ (112, codes "ping") ∷ []
echo = refl

pub too_low : logout_text (why.TooLow 5 4) ≡ codes "MsgSeqNum too low, expecting 5 but received 4"
unfolding digits
too_low = refl
