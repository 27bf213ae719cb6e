-- Own: the messages that can be written: each number, day, month and moment is one that can be
-- read.
use Rattle.std.specs.Prelude.{IfSome}
use Rattle.typed_fields.specs.Dec.{IsDec}
use Rattle.typed_fields.specs.Day.{IsDay}
use Rattle.typed_fields.specs.Stamp.{IsStamp}
use Rattle.row_values.specs.Lines.{IsReadableMaturity, AreReadableAllocs}
use Rattle.dict_fix42.specs.declared.requests.New42.{New42}
use Rattle.dict_fix42.specs.declared.requests.Cancel42.{Cancel42}
use Rattle.dict_fix42.specs.declared.requests.Replace42.{Replace42}
use Rattle.dict_fix42.specs.declared.requests.Status42.{Status42}
use Rattle.dict_fix42.specs.declared.requests.Msg42.{Msg42}
use Rattle.dict_fix42.specs.declared.requests.Msg42.TheVariants as messages

pub record IsReadableNew (m : New42) : Type 0 where
  pub allocs : AreReadableAllocs m.allocs
  pub settl_date : IfSome m.settl_date IsDay
  pub min_qty : IfSome m.min_qty IsDec
  pub max_floor : IfSome m.max_floor IsDec
  pub maturity : IfSome m.maturity IsReadableMaturity
  pub transact_time : IsStamp m.transact_time
  pub order_qty : IsDec m.order_qty
  pub price : IfSome m.price IsDec
  pub stop_px : IfSome m.stop_px IsDec
  pub effective_time : IfSome m.effective_time IsStamp
  pub expire_date : IfSome m.expire_date IsDay
  pub expire_time : IfSome m.expire_time IsStamp

pub record IsReadableCancel (m : Cancel42) : Type 0 where
  pub maturity : IfSome m.maturity IsReadableMaturity
  pub transact_time : IsStamp m.transact_time
  pub order_qty : IfSome m.order_qty IsDec

pub record IsReadableReplace (m : Replace42) : Type 0 where
  pub allocs : AreReadableAllocs m.allocs
  pub settl_date : IfSome m.settl_date IsDay
  pub min_qty : IfSome m.min_qty IsDec
  pub max_floor : IfSome m.max_floor IsDec
  pub maturity : IfSome m.maturity IsReadableMaturity
  pub transact_time : IsStamp m.transact_time
  pub order_qty : IsDec m.order_qty
  pub price : IfSome m.price IsDec
  pub stop_px : IfSome m.stop_px IsDec
  pub effective_time : IfSome m.effective_time IsStamp
  pub expire_date : IfSome m.expire_date IsDay
  pub expire_time : IfSome m.expire_time IsStamp

pub record IsReadableStatus (m : Status42) : Type 0 where
  pub maturity : IfSome m.maturity IsReadableMaturity

-- A MESSAGE WHOSE VALUES CAN BE READ
abbrev pub IsReadable42 : Msg42 → Type 0
IsReadable42 (messages.New m) = IsReadableNew m
IsReadable42 (messages.Cancel m) = IsReadableCancel m
IsReadable42 (messages.Replace m) = IsReadableReplace m
IsReadable42 (messages.Status m) = IsReadableStatus m
