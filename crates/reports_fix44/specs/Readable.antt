-- Own: the reports that can be written: each number, day and moment is one that can be read, and
-- each PartyRole is a number.
use Rattle.std.specs.Prelude.{IfSome}
use Rattle.typed_fields.specs.Number.{IsNumber}
use Rattle.typed_fields.specs.Stamp.{IsStamp}
use Rattle.reports_fix44.specs.declared.reports.CancelReject44.{CancelReject44}

pub record IsReadableCancelReject (m : CancelReject44) : Type 0 where
  pub transact_time : IfSome m.transact_time IsStamp
  pub cxl_reason : IfSome m.cxl_reason IsNumber
