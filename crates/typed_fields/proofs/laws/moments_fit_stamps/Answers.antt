use Rattle.typed_fields.proofs.StampLaws.{stamp_millis-stamp_at, stamp_at-stamp_millis}
use Rattle.typed_fields.proofs.laws.moments_fit_stamps.Goals as goal

pub returns : goal.returns
returns c = record { moment = stamp_millis-stamp_at; stamp = stamp_at-stamp_millis }
