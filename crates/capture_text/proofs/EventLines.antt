-- The lines of events, told apart.
use Rattle.std.proofs.Common.{◌≡◌, ◌≢◌, ℕ, List, ◌++◌, map, All, Some, None}
use Rattle.std.proofs.Common.{refl, sym, ◌∙◌, subst}
use Rattle.std.specs.Prelude.{codes}
use Rattle.order_meaning.specs.declared.Side.{Side}
use Rattle.order_meaning.specs.declared.Side.TheVariants.{Client, Venue}
use Rattle.frame_grammar.specs.Frame.{IsBody, frame_of}
use Rattle.capture_text.specs.declared.capture.Event.TheVariants as event
use Rattle.capture_text.specs.Capture.{written, letter, kind_of, IsByte, IsRound}
use Rattle.capture_text.specs.Line.{LineSays, Writes}
use Rattle.capture_text.proofs.Bytes.{differ, behind}
use Rattle.capture_text.proofs.Written.{written_once}

-- a text that writes no round is the line of no event behind a letter and a blank
pub no_text : (side : Side) (text : List ℕ)
    → ((bytes : List ℕ) → All IsByte bytes → IsRound bytes → text ≢ map written bytes)
    → LineSays (letter side ++ codes " " ++ text) None
no_text Client text none (event.Stop call image) bounded is = differ 0 is refl
no_text Client text none (event.At ms) bounded is = differ 0 is refl
no_text Client text none event.Tick bounded is = differ 0 is refl
no_text Client text none (event.Opened Client) bounded is = differ 1 is refl
no_text Client text none (event.Opened Venue) bounded is = differ 0 is refl
no_text Client text none (event.Closed Client) bounded is = differ 1 is refl
no_text Client text none (event.Closed Venue) bounded is = differ 0 is refl
no_text Client text none (event.Text Client bytes) (are, round) is =
    none bytes are round (behind 2 is)
no_text Client text none (event.Text Venue bytes) bounded is = differ 0 is refl
no_text Client text none (event.Frame Client body) bounded is = differ 1 is refl
no_text Client text none (event.Frame Venue body) bounded is = differ 0 is refl
no_text Venue text none (event.Stop call image) bounded is = differ 0 is refl
no_text Venue text none (event.At ms) bounded is = differ 0 is refl
no_text Venue text none event.Tick bounded is = differ 0 is refl
no_text Venue text none (event.Opened Client) bounded is = differ 0 is refl
no_text Venue text none (event.Opened Venue) bounded is = differ 1 is refl
no_text Venue text none (event.Closed Client) bounded is = differ 0 is refl
no_text Venue text none (event.Closed Venue) bounded is = differ 1 is refl
no_text Venue text none (event.Text Client bytes) bounded is = differ 0 is refl
no_text Venue text none (event.Text Venue bytes) (are, round) is =
    none bytes are round (behind 2 is)
no_text Venue text none (event.Frame Client body) bounded is = differ 0 is refl
no_text Venue text none (event.Frame Venue body) bounded is = differ 1 is refl

-- a text that writes no body of a round is the line of no event behind a letter, `f` and a blank
pub no_frame : (side : Side) (text : List ℕ)
    → ((body : List ℕ) → All IsByte body → IsBody body → IsRound (frame_of (kind_of side) body)
    → text ≢ map written body)
    → LineSays (letter side ++ codes "f " ++ text) None
no_frame Client text none (event.Stop call image) bounded is = differ 0 is refl
no_frame Client text none (event.At ms) bounded is = differ 0 is refl
no_frame Client text none event.Tick bounded is = differ 0 is refl
no_frame Client text none (event.Opened Client) bounded is = differ 1 is refl
no_frame Client text none (event.Opened Venue) bounded is = differ 0 is refl
no_frame Client text none (event.Closed Client) bounded is = differ 1 is refl
no_frame Client text none (event.Closed Venue) bounded is = differ 0 is refl
no_frame Client text none (event.Text Client bytes) bounded is = differ 1 is refl
no_frame Client text none (event.Text Venue bytes) bounded is = differ 0 is refl
no_frame Client text none (event.Frame Client body) (are, sound, round) is =
    none body are sound round (behind 3 is)
no_frame Client text none (event.Frame Venue body) bounded is = differ 0 is refl
no_frame Venue text none (event.Stop call image) bounded is = differ 0 is refl
no_frame Venue text none (event.At ms) bounded is = differ 0 is refl
no_frame Venue text none event.Tick bounded is = differ 0 is refl
no_frame Venue text none (event.Opened Client) bounded is = differ 0 is refl
no_frame Venue text none (event.Opened Venue) bounded is = differ 1 is refl
no_frame Venue text none (event.Closed Client) bounded is = differ 0 is refl
no_frame Venue text none (event.Closed Venue) bounded is = differ 1 is refl
no_frame Venue text none (event.Text Client bytes) bounded is = differ 0 is refl
no_frame Venue text none (event.Text Venue bytes) bounded is = differ 1 is refl
no_frame Venue text none (event.Frame Client body) bounded is = differ 0 is refl
no_frame Venue text none (event.Frame Venue body) (are, sound, round) is =
    none body are sound round (behind 3 is)

-- a body that is written is that of no round
pub no_round : (side : Side) (text body : List ℕ) → Writes text (Some body)
    → (IsBody body × IsRound (frame_of (kind_of side) body) → ⊥)
    → LineSays (letter side ++ codes "f " ++ text) None
no_round side text body (is, are) none = no_frame side text (λ these all sound round same.
    let one : these ≡ body = written_once these body all are (sym same ∙ is) in
    none (
      subst IsBody one sound,
      subst (λ (b : List ℕ). IsRound (frame_of (kind_of side) b)) one round,
    ))
