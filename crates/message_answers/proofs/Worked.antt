-- Answers that are worked through from the definitions alone, with `|` for SOH. The client's
-- message 2, an order A1, went on as the venue's 3, its message 4, the cancel A2 of A1, as 5, and
-- its status request 8 as 6; the venue's report 5 as the client's 4, its cancel reject 6 as 7.
use Rattle.std.proofs.Common.{◌≡◌, ℕ, zero, suc, Bool, true, false, List, [], ◌∷◌, ◌++◌, map, codes}
use Rattle.std.proofs.Common.{Some, None, Option, refl, if◌then◌else◌}
use Rattle.std.specs.Prelude.{◌==◌}
use Rattle.std.specs.Fmt.{digits}
use Rattle.typed_fields.specs.Digits.{are_digits, number_of, has_pattern, zero_padded}
use Rattle.typed_fields.specs.Digits.{without_leading_zeros, without_trailing_zeros}
use Rattle.field_groups.specs.Field.{field_bytes}
use Rattle.field_groups.specs.Data.{is_data_pair}
use Rattle.field_groups.specs.Fields.{has_tag, is_tag_good}
use Rattle.field_groups.specs.HeadValues.{number_in}
use Rattle.message_tables.specs.Tables.{first_of}
use Rattle.message_tables.specs.FirstFault.{first_fault, message_of}
use Rattle.value_kinds.specs.ValueKind.{spelling, units_of_text}
use Rattle.row_values.specs.Kinds.{judge}
use Rattle.order_meaning.specs.Reasons.{later_reason_words}
use Rattle.order_meaning.specs.declared.Side.{Side}
use Rattle.order_meaning.specs.declared.Side.TheVariants.{Client, Venue}
use Rattle.order_chains.specs.declared.item.ChainItem.{ChainItem}
use Rattle.session_core.specs.declared.said.Said.{Said}
use Rattle.pair_entries.specs.declared.entry.Entry.{Entry}
use Rattle.reject_rules.specs.Content.{reject, business_reject}
use Rattle.reject_rules.specs.Refusals.{no_counterpart}
use Rattle.reject_rules.specs.Renumbered.{rejected_text}
use Rattle.dict_fix42.specs.Message.{message42}
use Rattle.reports_fix42.specs.Message.{message42 as refusal42}
use Rattle.reports_fix50.specs.Message.{message50}
use Rattle.reports_fix50.specs.Sense.{exec_of}
use Rattle.event_decisions.specs.Body.{reading_of}
use Rattle.message_answers.specs.Chains.{chains_of}
use Rattle.message_answers.specs.Known.{Known}
use Rattle.message_answers.specs.Answer.{Answer, Nothing, Near, Far, Forward, answer_to}

abbrev soh : List ℕ → List ℕ
soh text = map (λ byte. if byte == 124 then 1 else byte) text

abbrev text_of : List ℕ → List ℕ
text_of bytes = map (λ byte. if byte == 1 then 124 else byte) bytes

abbrev said_text : Said → List ℕ
said_text said = said.msg_type ++ codes " " ++ text_of said.content

-- an answer as a text: nothing; to whom, the type and the content; or that the message goes on
abbrev shown : Answer → List ℕ
shown Nothing = codes "nothing"
shown (Near said) = codes "near " ++ said_text said
shown (Far said) = codes "far " ++ said_text said
shown (Forward original m) = codes "on"

abbrev sources : Side → ℕ → Option (ℕ × ℕ)
sources Venue number =
    if number == 3 then Some (2, 68) else (if number == 5 then Some (4, 70) else
    (if number == 6 then Some (8, 72) else None))
sources Client number =
    if number == 4 then Some (5, 56) else (if number == 7 then Some (6, 57) else None)

abbrev known : Known
known = record {
  chains =
      record { id = codes "A1"; orig = None; number = 2; letter = 68 } ∷
      record { id = codes "A2"; orig = Some (codes "A1"); number = 4; letter = 70 } ∷ [];
  source = sources;
}

-- the answer to message 7 of a side with these fields behind its header
abbrev answered : Bool → Side → List ℕ → List ℕ
answered active side text =
    shown (answer_to known active (record { side = side; number = 7; body = soh text }))

-- the fields of a cancel behind its ClOrdID, and of an order
abbrev cancel : List ℕ
cancel = codes "41=A1|55=IBM|54=1|60=20240102-10:00:00|"

abbrev order : List ℕ
order = codes "21=1|55=IBM|54=1|60=20240102-10:00:00|38=100|40=2|44=10.5|"

pub record Requests : Type 0 where
  pub worked_forward : answered true Client (codes "35=D|11=A3|" ++ order) ≡ codes "on"
  pub worked_used : answered true Client (codes "35=D|11=A1|" ++ order)
      ≡ codes "near j 45=7|372=D|380=0|58=tag 11 is already used|"
  -- also while the venue is away
  pub worked_used_away : answered false Client (codes "35=D|11=A2|" ++ order)
      ≡ codes "near j 45=7|372=D|380=0|58=tag 11 is already used|"
  pub worked_repeat : answered true Client (codes "35=D|97=Y|11=A1|" ++ order) ≡ codes "nothing"
  -- a repeat of what did not go on goes on
  pub worked_new_repeat : answered true Client (codes "35=D|97=Y|11=A3|" ++ order) ≡ codes "on"
  pub worked_cancel : answered true Client (codes "35=F|11=A3|" ++ cancel) ≡ codes "on"
  pub worked_cancel_used : answered true Client (codes "35=F|11=A2|" ++ cancel)
      ≡ codes "near j 45=7|372=F|380=0|58=tag 11 is already used|"
  pub worked_replace_away : answered false Client (codes "35=G|11=A3|41=A1|" ++ order)
      ≡ codes "near j 45=7|372=G|380=4|58=venue is not connected|"
  pub worked_away : answered false Client (codes "35=D|11=A3|" ++ order)
      ≡ codes "near j 45=7|372=D|380=4|58=venue is not connected|"
  -- away before a lack
  pub worked_away_first : answered false Client (codes "35=D|11=A3|" ++ order ++ codes "47=J|")
      ≡ codes "near j 45=7|372=D|380=4|58=venue is not connected|"
  pub worked_capacity : answered true Client (codes "35=D|11=A3|" ++ order ++ codes "47=J|")
      ≡ codes "near j 45=7|372=D|380=0|58=tag 47 has no counterpart|"
  -- a status request does not join, and may name an order that went on
  pub worked_status : answered true Client (codes "35=H|11=A1|55=IBM|54=1|") ≡ codes "on"
  -- a fault comes before all of these
  pub worked_fault : answered false Client (codes "35=D|11=A1|38=1|" ++ order)
      ≡ codes "near 3 45=7|371=38|372=D|58=tag appears more than once|"
  pub worked_unknown : answered true Client (codes "35=D|11=A3|" ++ order ++ codes "9999=x|")
      ≡ codes "near j 45=7|372=D|380=0|58=tag 9999 has no counterpart|"
  pub worked_type : answered true Client (codes "35=8|11=A3|")
      ≡ codes "near j 45=7|372=8|380=3|58=tag 35 has no counterpart|"

pub worked_requests : Requests
unfolding reading_of is_data_pair has_tag is_tag_good message42 message_of first_fault first_of
    number_in judge spelling are_digits number_of has_pattern units_of_text without_leading_zeros
    without_trailing_zeros zero_padded digits field_bytes reject business_reject no_counterpart
    later_reason_words
worked_requests = record {
  worked_forward = refl;
  worked_used = refl;
  worked_used_away = refl;
  worked_repeat = refl;
  worked_new_repeat = refl;
  worked_cancel = refl;
  worked_cancel_used = refl;
  worked_replace_away = refl;
  worked_away = refl;
  worked_away_first = refl;
  worked_capacity = refl;
  worked_status = refl;
  worked_fault = refl;
  worked_unknown = refl;
  worked_type = refl;
}

pub record Refused : Type 0 where
  -- the venue rejects its message 3, which was the client's 2
  pub worked_reject : answered true Venue (codes "35=3|45=3|371=40|372=D|373=5|")
      ≡ codes "far j 45=2|372=D|380=0|58=rejected by venue tag 40 reason 5|"
  pub worked_business : answered true Venue (codes "35=j|45=5|372=F|380=6|58=no|")
      ≡ codes "far j 45=4|372=F|380=0|58=no [380=6]|"
  pub worked_of_status : answered true Venue (codes "35=j|45=6|372=H|380=3|")
      ≡ codes "far j 45=8|372=H|380=3|"
  -- the last reason of FIX 4.2, and the next one
  pub worked_reason_5 : answered true Venue (codes "35=j|45=3|372=D|380=5|")
      ≡ codes "far j 45=2|372=D|380=5|"
  pub worked_reason_6 : answered true Venue (codes "35=j|45=3|372=D|380=6|")
      ≡ codes "far j 45=2|372=D|380=0|58=[380=6]|"
  -- by the id alone, known and unknown
  pub worked_id : answered true Venue (codes "35=j|372=D|379=A1|380=1|")
      ≡ codes "far j 45=2|372=D|379=A1|380=1|"
  pub worked_unknown_id : answered true Venue (codes "35=j|372=D|379=A9|380=1|") ≡ codes "nothing"
  -- nothing that went on has this number, whatever the id
  pub worked_not_ours : answered true Venue (codes "35=j|45=4|372=D|379=A1|380=1|")
      ≡ codes "nothing"
  pub worked_client : answered true Client (codes "35=j|45=4|372=8|380=5|58=bad|")
      ≡ codes "far j 45=5|372=8|380=5|58=bad|"
  pub worked_client_reject : answered false Client (codes "35=3|45=4|58=bad|")
      ≡ codes "far j 45=5|372=8|380=0|58=rejected by client: bad|"
  pub worked_client_6 : answered true Client (codes "35=j|45=4|372=8|380=6|")
      ≡ codes "far j 45=5|372=8|380=6|"
  pub worked_of_cancel_reject : answered true Client (codes "35=3|45=7|371=102|373=5|")
      ≡ codes "far j 45=6|372=9|380=0|58=rejected by client tag 102 reason 5|"
  pub worked_client_other : answered true Client (codes "35=3|45=3|") ≡ codes "nothing"
  -- in FIX 4.2 a refusal has a number
  pub worked_no_number : answered true Client (codes "35=j|372=8|379=A1|380=1|")
      ≡ codes "near 3 45=7|371=45|372=j|373=1|"

pub worked_refused : Refused
unfolding reading_of is_data_pair has_tag is_tag_good message50 refusal42 message_of first_fault
    first_of number_in judge spelling are_digits number_of digits field_bytes reject
    business_reject rejected_text
worked_refused = record {
  worked_reject = refl;
  worked_business = refl;
  worked_of_status = refl;
  worked_reason_5 = refl;
  worked_reason_6 = refl;
  worked_id = refl;
  worked_unknown_id = refl;
  worked_not_ours = refl;
  worked_client = refl;
  worked_client_reject = refl;
  worked_client_6 = refl;
  worked_of_cancel_reject = refl;
  worked_client_other = refl;
  worked_no_number = refl;
}

-- a text of so many bytes: the first 512 are told
abbrev letters : ℕ → List ℕ
letters zero = []
letters (suc n) = 120 ∷ letters n

abbrev told_text : ℕ → List ℕ
told_text n = answered true Venue (codes "35=j|45=3|372=D|380=1|58=" ++ letters n ++ codes "|")

abbrev rejected_text_of : ℕ → List ℕ
rejected_text_of n = answered true Client (codes "35=3|45=4|58=" ++ letters n ++ codes "|")

pub record Texts : Type 0 where
  pub worked_511 : told_text 511
      ≡ codes "far j 45=2|372=D|380=1|58=" ++ letters 511 ++ codes "|"
  pub worked_512 : told_text 512
      ≡ codes "far j 45=2|372=D|380=1|58=" ++ letters 512 ++ codes "|"
  pub worked_513 : told_text 513
      ≡ codes "far j 45=2|372=D|380=1|58=" ++ letters 512 ++ codes "|"
  pub worked_rejected_513 : rejected_text_of 513
      ≡ codes "far j 45=5|372=8|380=0|58=rejected by client: " ++ letters 512 ++ codes "|"

pub worked_texts : Texts
unfolding reading_of is_data_pair has_tag is_tag_good message50 refusal42 message_of first_fault
    first_of number_in judge spelling are_digits number_of digits field_bytes reject
    business_reject rejected_text
worked_texts = record {
  worked_511 = refl;
  worked_512 = refl;
  worked_513 = refl;
  worked_rejected_513 = refl;
}

-- an execution report but for its ExecType, and a cancel reject
abbrev report : List ℕ → List ℕ
report exec_type = codes "35=8|37=O1|11=A1|17=E1|150=" ++ exec_type
    ++ codes "|39=0|55=IBM|54=1|151=100|14=0|6=0|"

abbrev not_canceled : List ℕ → List ℕ
not_canceled id = codes "35=9|37=O1|11=" ++ id ++ codes "|39=0|434=1|"

pub record Reports : Type 0 where
  pub worked_report : answered true Venue (report (codes "0")) ≡ codes "on"
  pub worked_no_exec : answered true Venue (report (codes "J"))
      ≡ codes "near j 45=7|372=8|380=0|58=tag 150 has no counterpart|"
  pub worked_original : answered true Venue (not_canceled (codes "A2")) ≡ codes "on"
  -- A1 is an order, which has no original id
  pub worked_no_original : answered true Venue (not_canceled (codes "A1"))
      ≡ codes "near j 45=7|372=9|380=0|58=tag 41 has no counterpart|"
  pub worked_unknown_order : answered true Venue (not_canceled (codes "A9"))
      ≡ codes "near j 45=7|372=9|380=0|58=tag 41 has no counterpart|"
  pub worked_of_client : answered true Venue (codes "35=D|11=A3|")
      ≡ codes "near j 45=7|372=D|380=3|58=tag 35 has no counterpart|"

pub worked_reports : Reports
unfolding reading_of is_data_pair has_tag is_tag_good message50 message_of first_fault first_of
    number_in judge spelling are_digits number_of has_pattern units_of_text without_leading_zeros
    without_trailing_zeros zero_padded digits field_bytes reject business_reject no_counterpart
    exec_of
worked_reports = record {
  worked_report = refl;
  worked_no_exec = refl;
  worked_original = refl;
  worked_no_original = refl;
  worked_unknown_order = refl;
  worked_of_client = refl;
}

-- ---- the chains of a journal

-- what a message of the client gave out: an out to this side, of this type
abbrev gave : ℕ → List ℕ → Side → List ℕ → Entry
gave number text side msg_type = record {
  at = 0;
  reset = false;
  took = Some (record { side = Client; number = number; raw = soh text });
  next = (1, 1, 1, 1);
  outs = record {
    side = side;
    number = number;
    admin = false;
    resend = false;
    msg_type = msg_type;
    content = [];
  } ∷ [];
}

abbrev a1 : ChainItem
a1 = record { id = codes "A1"; orig = None; number = 2; letter = 68 }

-- an order, one that was refused, its repeat, the order again, and a status request: one joins
pub worked_chains :
    chains_of (
    gave 2 (codes "35=D|11=A1|" ++ order) Venue (codes "D")
    ∷ gave 3 (codes "35=D|11=A2|" ++ order) Client (codes "j")
    ∷ gave 4 (codes "35=D|97=Y|11=A1|" ++ order) Venue (codes "D")
    ∷ gave 5 (codes "35=H|11=A3|55=IBM|54=1|") Venue (codes "H") ∷ []
    )
    ≡ a1 ∷ []
unfolding reading_of is_data_pair has_tag is_tag_good message42 message_of first_fault first_of
    number_in judge spelling are_digits number_of has_pattern units_of_text without_leading_zeros
    without_trailing_zeros zero_padded
worked_chains = refl
