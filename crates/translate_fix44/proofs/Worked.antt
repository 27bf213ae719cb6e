-- An order of FIX 4.4, and three reports for its client, worked by hand.
use Rattle.std.proofs.Common.{◌≡◌, ℕ, List, [], ◌∷◌, false, Some, None, Ok, Err, codes}
use Rattle.std.specs.Fmt.{digits}
use Rattle.typed_fields.specs.Digits.{are_digits, number_of}
use Rattle.field_groups.specs.HeadValues.{number_in}
use Rattle.message_tables.specs.Tables.{Cell, Message, Role, Said, Tag, first_of}
use Rattle.translate_fix44.specs.Rules.{down_message, up_message}

-- ---- an order

abbrev line : (id role : List ℕ) → List Cell
line id role =
    (Tag 448, Some id) ∷ (Tag 447, Some (codes "D")) ∷ (Tag 452, Some role) ∷ []

-- an order of a client, of this type and capacity and with this party besides
abbrev order : (ord_type capacity role : List ℕ) → Message
order ord_type capacity role = record {
  letter = 68;
  resend = false;
  cells =
      (Tag 11, Some (codes "A1")) ∷ (Role 3, Some (codes "ALPHA")) ∷ (Role 1, None) ∷
      (Role 4, None) ∷ (Tag 21, None) ∷ (Tag 111, Some (codes "50")) ∷
      (Tag 54, Some (codes "1")) ∷ (Tag 40, Some ord_type) ∷ (Tag 59, Some (codes "7")) ∷
      (Tag 528, Some capacity) ∷ (Tag 58, None) ∷ [];
  groups = (453, line (codes "ALPHA") (codes "3") ∷ line (codes "DESK") role ∷ []) ∷ (78, []) ∷ [];
}

pub record Orders : Type 0 where
  -- its HandlInst is 1, and the most to be shown is DisplayQty
  pub up : up_message (order (codes "2") (codes "A") (codes "3")) ≡ Ok (record {
    letter = 68;
    resend = false;
    cells =
        (Tag 11, Some (codes "A1")) ∷ (Role 3, Some (codes "ALPHA")) ∷ (Role 1, None) ∷
        (Role 4, None) ∷ (Tag 21, Some (codes "1")) ∷ (Tag 1138, Some (codes "50")) ∷
        (Tag 54, Some (codes "1")) ∷ (Tag 40, Some (codes "2")) ∷ (Tag 59, Some (codes "7")) ∷
        (Tag 528, Some (codes "A")) ∷ (Tag 58, None) ∷ [];
    groups = (453, line (codes "ALPHA") (codes "3") ∷ []) ∷ (78, []) ∷ [];
  })
  -- limit on close, a stop order at the close, a riskless principal, and a trader's desk
  pub limit_on_close : up_message (order (codes "B") (codes "R") (codes "3")) ≡ Err 40
  pub stop_at_close : up_message (order (codes "3") (codes "R") (codes "3")) ≡ Err 59
  pub riskless : up_message (order (codes "2") (codes "R") (codes "12")) ≡ Err 528
  pub desk : up_message (order (codes "2") (codes "A") (codes "12")) ≡ Err 452

orders : Orders
unfolding first_of digits
orders = search

-- ---- reports

-- a report with this ExecType and this OrdStatus, and a reason that FIX 4.2 lacks
abbrev told : (exec_type ord_status reason : List ℕ) → (text : Said) → Message
told exec_type ord_status reason text = record {
  letter = 56;
  resend = false;
  cells =
      (Tag 37, Some (codes "V7")) ∷ (Tag 41, None) ∷ (Tag 17, Some (codes "E9")) ∷
      (Tag 150, Some exec_type) ∷ (Tag 39, Some ord_status) ∷ (Tag 103, Some reason) ∷
      (Tag 1138, Some (codes "50")) ∷ (Tag 58, text) ∷ [];
  groups = [];
}

-- a cancel reject that does not name its order
abbrev refusal : Message
refusal = record {
  letter = 57;
  resend = false;
  cells = (Tag 37, Some (codes "V7")) ∷ (Tag 41, None) ∷ (Tag 39, Some (codes "0")) ∷
      (Tag 102, Some (codes "6")) ∷ (Tag 58, None) ∷ [];
  groups = [];
}

pub record Reports : Type 0 where
  -- a stop order that was triggered, and stands as replaced
  pub triggered : down_message None (told (codes "L") (codes "5") (codes "99")
      (Some (codes "late"))) ≡ Ok (record {
        letter = 56;
        resend = false;
        cells =
            (Tag 37, Some (codes "V7")) ∷ (Tag 41, None) ∷ (Tag 17, Some (codes "E9")) ∷
            (Tag 150, Some (codes "I")) ∷ (Tag 39, Some (codes "0")) ∷
            (Tag 103, Some (codes "0")) ∷ (Tag 111, Some (codes "50")) ∷
            (Tag 58, Some (codes "late [103=99]")) ∷ [];
        groups = [];
      })
  -- a trade stays a trade, and a reason of FIX 4.2 what it is
  pub trade : down_message None (told (codes "F") (codes "1") (codes "8") None) ≡ Ok (record {
    letter = 56;
    resend = false;
    cells =
        (Tag 37, Some (codes "V7")) ∷ (Tag 41, None) ∷ (Tag 17, Some (codes "E9")) ∷
        (Tag 150, Some (codes "F")) ∷ (Tag 39, Some (codes "1")) ∷ (Tag 103, Some (codes "8")) ∷
        (Tag 111, Some (codes "50")) ∷ (Tag 58, None) ∷ [];
    groups = [];
  })
  -- a trade in a clearing hold
  pub held : down_message None (told (codes "J") (codes "0") (codes "8") None) ≡ Err 150
  -- a cancel reject names the order that is known, and lacks it where none is
  pub refused : down_message (Some (codes "C1")) refusal ≡ Ok (record {
    letter = 57;
    resend = false;
    cells = (Tag 37, Some (codes "V7")) ∷ (Tag 41, Some (codes "C1")) ∷ (Tag 39, Some (codes "0")) ∷
        (Tag 102, Some (codes "2")) ∷ (Tag 58, Some (codes "[102=6]")) ∷ [];
    groups = [];
  })
  pub lacks : down_message None refusal ≡ Err 41

reports : Reports
unfolding first_of digits number_in number_of are_digits
reports = search
