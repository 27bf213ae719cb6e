-- Own: the messages that can be written: each number, day and moment is one that can be read, and
-- each PartyRole is a number.
use Rattle.std.specs.Prelude.{IfSome}
use Rattle.typed_fields.specs.Dec.{IsDec}
use Rattle.typed_fields.specs.Day.{IsDay}
use Rattle.typed_fields.specs.Stamp.{IsStamp}
use Rattle.row_values.specs.Lines.{IsReadableMaturity, AreReadableParties, AreReadableAllocs}
use Rattle.dict_fix50.specs.declared.requests.New.{New}
use Rattle.dict_fix50.specs.declared.requests.Cancel50.{Cancel50}
use Rattle.dict_fix50.specs.declared.requests.Replace.{Replace}
use Rattle.dict_fix50.specs.declared.requests.Status50.{Status50}
use Rattle.dict_fix50.specs.declared.requests.Msg50.{Msg50}
use Rattle.dict_fix50.specs.declared.requests.Msg50.TheVariants as messages

pub record IsReadableNew {HandInst : Type 0} (m : New HandInst) : Type 0 where
  pub parties : AreReadableParties m.parties
  pub allocs : AreReadableAllocs m.allocs
  pub settl_date : IfSome m.settl_date IsDay
  pub min_qty : IfSome m.min_qty IsDec
  pub max_floor : IfSome m.max_floor IsDec
  pub maturity : IfSome m.maturity IsReadableMaturity
  pub transact_time : IsStamp m.transact_time
  pub order_qty : IsDec m.order_qty
  pub price : IfSome m.price IsDec
  pub stop_px : IfSome m.stop_px IsDec
  pub effective_time : IfSome m.effective_time IsStamp
  pub expire_date : IfSome m.expire_date IsDay
  pub expire_time : IfSome m.expire_time IsStamp

pub record IsReadableCancel (m : Cancel50) : Type 0 where
  pub parties : AreReadableParties m.parties
  pub maturity : IfSome m.maturity IsReadableMaturity
  pub transact_time : IsStamp m.transact_time
  pub order_qty : IfSome m.order_qty IsDec

pub record IsReadableReplace {HandInst : Type 0} (m : Replace HandInst) : Type 0 where
  pub parties : AreReadableParties m.parties
  pub allocs : AreReadableAllocs m.allocs
  pub settl_date : IfSome m.settl_date IsDay
  pub min_qty : IfSome m.min_qty IsDec
  pub max_floor : IfSome m.max_floor IsDec
  pub maturity : IfSome m.maturity IsReadableMaturity
  pub transact_time : IsStamp m.transact_time
  pub order_qty : IsDec m.order_qty
  pub price : IfSome m.price IsDec
  pub stop_px : IfSome m.stop_px IsDec
  pub effective_time : IfSome m.effective_time IsStamp
  pub expire_date : IfSome m.expire_date IsDay
  pub expire_time : IfSome m.expire_time IsStamp

pub record IsReadableStatus (m : Status50) : Type 0 where
  pub parties : AreReadableParties m.parties
  pub maturity : IfSome m.maturity IsReadableMaturity

-- A MESSAGE WHOSE VALUES CAN BE READ
abbrev pub IsReadable50 : Msg50 → Type 0
IsReadable50 (messages.New m) = IsReadableNew m
IsReadable50 (messages.Cancel m) = IsReadableCancel m
IsReadable50 (messages.Replace m) = IsReadableReplace m
IsReadable50 (messages.Status m) = IsReadableStatus m
