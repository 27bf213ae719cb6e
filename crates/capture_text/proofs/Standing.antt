-- Whether an event may stand is read off its line.
use Rattle.std.proofs.Common.{◌≡◌, ◌==◌, ℕ, Bool, true, false, not, List, get_or, refl, sym}
use Rattle.std.proofs.Common.{◌∙◌, ap, Some, None, if◌then◌else◌}
use Rattle.order_meaning.specs.declared.Side.TheVariants.{Client, Venue}
use Rattle.capture_text.specs.declared.capture.Event.{Event}
use Rattle.capture_text.specs.declared.capture.Event.TheVariants as event
use Rattle.capture_text.specs.Capture.{line_of, is_open, is_fresh, MayStand}
use Rattle.capture_text.specs.Line.{IsBounded, LineSays}
use Rattle.capture_text.specs.Life.{Follows}

-- where the client and the venue are open, and where no line stands before
abbrev allowed : Bool → Bool → Bool → List ℕ → Bool
allowed client venue fresh line =
    if get_or line 0 0 == 99 then (if get_or line 1 0 == 43 then not client else client)
    else if get_or line 0 0 == 118 then (if get_or line 1 0 == 43 then not venue else venue)
    else if get_or line 0 0 == 115 then fresh
    else true

abbrev at : List Event → List ℕ → Bool
at before line = allowed (is_open Client before) (is_open Venue before) (is_fresh before) line

not_open : (test : Bool) → test ≡ false → not test ≡ true
not_open test is = ap not is

was_not : (test : Bool) → not test ≡ true → test ≡ false
was_not true is = absurd (cc is)
was_not false is = refl

stands : (before : List Event) (e : Event) → MayStand before e → at before (line_of e) ≡ true
stands before (event.Stop call image) may = may.0
stands before (event.At ms) may = refl
stands before event.Tick may = refl
stands before (event.Opened Client) may = not_open (is_open Client before) may
stands before (event.Opened Venue) may = not_open (is_open Venue before) may
stands before (event.Closed Client) may = may
stands before (event.Closed Venue) may = may
stands before (event.Text Client bytes) may = may.0
stands before (event.Text Venue bytes) may = may.0
stands before (event.Frame Client body) may = may.0
stands before (event.Frame Venue body) may = may.0

may_stand : (before : List Event) (e : Event) → IsBounded e → at before (line_of e) ≡ true
    → MayStand before e
may_stand before (event.Stop call image) (some, small) is = (is, some, small)
may_stand before (event.At ms) small is = small
may_stand before event.Tick bounded is = tt
may_stand before (event.Opened Client) bounded is = was_not (is_open Client before) is
may_stand before (event.Opened Venue) bounded is = was_not (is_open Venue before) is
may_stand before (event.Closed Client) bounded is = is
may_stand before (event.Closed Venue) bounded is = is
may_stand before (event.Text Client bytes) (are, round) is = (is, are, round)
may_stand before (event.Text Venue bytes) (are, round) is = (is, are, round)
may_stand before (event.Frame Client body) (are, sound, round) is = (is, are, sound, round)
may_stand before (event.Frame Venue body) (are, sound, round) is = (is, are, sound, round)

pub is_bounded : (before : List Event) (e : Event) → MayStand before e → IsBounded e
is_bounded before (event.Stop call image) (is, some, small) = (some, small)
is_bounded before (event.At ms) small = small
is_bounded before event.Tick may = tt
is_bounded before (event.Opened side) may = tt
is_bounded before (event.Closed side) may = tt
is_bounded before (event.Text side bytes) (is, are, round) = (are, round)
is_bounded before (event.Frame side body) (is, are, sound, round) = (are, sound, round)

-- the line of no event is that of none that may stand
pub no_event_follows : (line : List ℕ) (before : List Event) → LineSays line None
    → Follows line before None
no_event_follows line before none = λ e may is. none e (is_bounded before e may) is

-- an event that may not stand has the line of none that may
pub none_follows : (line : List ℕ) (before : List Event) (e : Event)
    → LineSays line (Some e) → (MayStand before e → ⊥) → Follows line before None
none_follows line before e (says, bounded) other = λ o may is.
    other (may_stand before e bounded
    (ap (λ (l : List ℕ). at before l) (sym says ∙ is) ∙ stands before o may))

pub event_follows : (line : List ℕ) (before : List Event) (e : Event)
    → LineSays line (Some e) → MayStand before e → Follows line before (Some e)
event_follows line before e (says, bounded) may = (says, may)

pub ruleset what_follows = (no_event_follows, none_follows, event_follows)
