-- A worked report of FIX 4.4 as a struct: the content in which it is written, by computation.
use Rattle.std.specs.Prelude.{◌≡◌, [], ◌∷◌, codes, true, Some, None, refl}
use Rattle.std.specs.Fmt.{digits}
use Rattle.message_tables.specs.Content.{content}
use Rattle.reports_fix44.specs.Message.{cancel_reject_table}
use Rattle.reports_fix44.specs.Said.{cancel_reject_says}
use Rattle.reports_fix44.specs.declared.reports.CancelReject44.{CancelReject44}

-- the cancel C1 of the order A1 came too late
abbrev sample : CancelReject44
sample = record {
  resend = true;
  order_id = codes "O1";
  secondary_id = None;
  cl_ord_id = codes "C1";
  orig_id = codes "A1";
  ord_status = 50;
  account = None;
  transact_time = None;
  response_to = 49;
  cxl_reason = Some (record { value = 0 });
  text = Some (codes "too late");
}

-- PossResend (97) is of the header
written : content cancel_reject_table (cancel_reject_says sample)
    ≡ (37, codes "O1") ∷ (11, codes "C1") ∷ (41, codes "A1") ∷ (39, codes "2") ∷
    (434, codes "1") ∷ (102, codes "0") ∷ (58, codes "too late") ∷ []
unfolding digits
written = refl
