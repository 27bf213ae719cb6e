-- The capture of an input, by what reading it and replaying it answered.
use Rattle.std.proofs.Common.{◌≡◌, ℕ, List, refl, sym, subst, inl, inr, Result, Ok, Err}
use Rattle.std.specs.Prelude.{⊤, IsErrAnd}
use Rattle.std.specs.declared.option.Option.{Option}
use Rattle.drop_taps.specs.Shown.{TapState}
use Rattle.capture_text.specs.declared.capture.Capture.{Capture}
use Rattle.replay_lines.specs.declared.printing.PrintError.{PrintError}
use Rattle.replay_lines.specs.declared.printing.PrintError.TheVariants as prints
use Rattle.capture_replay.specs.declared.error.ReplayError.{ReplayError}
use Rattle.capture_replay.specs.declared.error.ReplayError.TheVariants as errors
use Rattle.capture_replay.specs.Replay.{Replays}
use Rattle.capture_replay.specs.Input.{IsRead, Replayed, error_of_print}

module _ {T : Type 0} (state : T → TapState) (taken : List ℕ) (left : Option (List ℕ)) where
  -- it was not read as a capture
  pub unread : (seen : List T) (old : Option (List ℕ)) (error : ReplayError)
      (told : Result ⊤ ReplayError) → IsErrAnd told (λ e. e ≡ error)
      → IsRead taken left (Err error) → Replayed state taken left seen seen told old old
  unread seen old error (Ok value) same is = absurd same
  unread seen old error (Err other) same is =
      subst (λ (e : ReplayError). Replayed state taken left seen seen (Err e) old old) (sym same)
      (by error is)
    where
      by : (e : ReplayError) → IsRead taken left (Err e)
          → Replayed state taken left seen seen (Err e) old old
      by errors.InputFault is = (is, refl, refl)
      by errors.InputTooLong is = (is, refl, refl)
      by (errors.CaptureRefused line) is = (is, refl, refl)
      by errors.OutputFault is = absurd is
      by errors.NoMemory is = inl (is, refl, refl)

  -- its replay failed
  pub failed : (seen now : List T) (old new : Option (List ℕ)) (capture : Capture)
      (error : PrintError) (told : Result ⊤ ReplayError)
      → IsErrAnd told (λ e. e ≡ error_of_print error) → IsRead taken left (Ok capture)
      → Replays state capture seen now (Err error) old new
      → Replayed state taken left seen now told old new
  failed seen now old new capture error (Ok value) same read replays = absurd same
  failed seen now old new capture error (Err other) same read replays =
      subst (λ (e : ReplayError). Replayed state taken left seen now (Err e) old new) (sym same)
      (by error replays)
    where
      by : (e : PrintError) → Replays state capture seen now (Err e) old new
          → Replayed state taken left seen now (Err (error_of_print e)) old new
      by prints.OutputFault replays = (capture, read, replays)
      by prints.NoMemory replays = inr (capture, read, replays)
