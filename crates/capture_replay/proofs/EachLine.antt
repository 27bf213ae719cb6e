-- The lines of a life, one more at a time.
use Rattle.std.proofs.Common.{◌≡◌, ◌∙◌, ℕ, zero, suc, ◌<◌, List, [], ◌∷◌}
use Rattle.std.proofs.Common.{◌++◌, length, get_or, All, Bool, true, false}
use Rattle.std.proofs.Common.{refl, sym, ap, arith, if◌then◌else◌}
use Rattle.wires.specs.Clock.{moment_at}
use Rattle.capture_text.specs.declared.capture.Event.{Event}
use Rattle.capture_text.specs.declared.capture.Event.TheVariants as event
use Rattle.capture_text.specs.Capture.{MayStand, AreEvents}
use Rattle.capture_text.specs.Line.{IsBounded}
use Rattle.capture_text.proofs.Standing.{is_bounded}
use Rattle.capture_replay.specs.Rounds.{is_round, now_after, moment_after}
use Rattle.capture_replay.specs.Rounds.{moments_from}

-- ---- bounds

bounded_in : (before life : List Event) → AreEvents before life
    → (k : ℕ) (d : Event) → k < length life → IsBounded (get_or life k d)
bounded_in before [] events k d within = absurd (omega (arith, within))
bounded_in before (line ∷ life) (may, events) zero d within = is_bounded before line may
bounded_in before (line ∷ life) (may, events) (suc k) d within =
    bounded_in (line ∷ before) life events k d (omega (arith, within))

pub all_bounded : (life : List Event) → AreEvents [] life → All IsBounded life
all_bounded life events = bounded_in [] life events

-- ---- moments

pub no_round : (line : Event) (left rest : List Event) (all : List ℕ) (now : ℕ)
    → is_round line ≡ false → left ≡ line ∷ rest → all ≡ moments_from now left
    → all ≡ moments_from (now_after now line) rest
no_round line left rest all now is there was = was ∙ ap (moments_from now) there
    ∙ ap (λ (b : Bool). (if b then now ∷ [] else []) ++ moments_from (now_after now line) rest) is

-- a round leaves the clock where it is
stands : (now : ℕ) (line : Event) → is_round line ≡ true → now_after now line ≡ now
stands now (event.Stop call image) is = refl
stands now (event.At ms) is = absurd (cc is)
stands now event.Tick is = refl
stands now (event.Opened side) is = refl
stands now (event.Closed side) is = refl
stands now (event.Text side bytes) is = refl
stands now (event.Frame side body) is = refl

round_next : (line : Event) (left rest : List Event) (all : List ℕ) (now : ℕ)
    → is_round line ≡ true → left ≡ line ∷ rest → all ≡ moments_from now left
    → all ≡ now ∷ moments_from now rest
round_next line left rest all now is there was = was ∙ ap (moments_from now) there
    ∙ ap (λ (b : Bool). (if b then now ∷ [] else []) ++ moments_from (now_after now line) rest) is
    ∙ ap (λ (m : ℕ). now ∷ moments_from m rest) (stands now line is)

abbrev Begins : List ℕ → Type 0
Begins list = (first : ℕ) × (rest : List ℕ) × (list ≡ first ∷ rest)

some_moment : (now : ℕ) (life : List Event) → Begins (moments_from now life)
some_moment now [] = (now, [], refl)
some_moment now (line ∷ life) = by (is_round line) (some_moment (now_after now line) life)
  where
    by : (round : Bool) → Begins (moments_from (now_after now line) life)
        → Begins ((if round then now ∷ [] else []) ++ moments_from (now_after now line) life)
    by true begins = (now, moments_from (now_after now line) life, refl)
    by false begins = begins

first_of : (now : ℕ) (rest : List ℕ) → moment_at (now ∷ rest) 0 ≡ now
first_of now [] = refl
first_of now (next ∷ rest) = refl

rest_of : (now : ℕ) (rest : List ℕ) → Begins rest → (after : ℕ)
    → moment_at (now ∷ rest) (suc after) ≡ moment_at rest after
rest_of now rest (next, more, is) after =
    ap (λ (l : List ℕ). moment_at (now ∷ l) (suc after)) is
    ∙ ap (λ (l : List ℕ). moment_at l after) (sym is)

-- the moment of a round, and those behind it
module _ (line : Event) (left rest : List Event) (all : List ℕ) (now : ℕ)
    (is : is_round line ≡ true) (there : left ≡ line ∷ rest) (was : all ≡ moments_from now left)
  where
    pub round_first : moment_at all 0 ≡ now
    round_first = ap (λ (l : List ℕ). moment_at l 0) (round_next line left rest all now is there was)
        ∙ first_of now (moments_from now rest)

    pub round_rest : (after : ℕ)
        → moment_at all (suc after) ≡ moment_at (moments_from now rest) after
    round_rest after =
        ap (λ (l : List ℕ). moment_at l (suc after)) (round_next line left rest all now is there was)
        ∙ rest_of now (moments_from now rest) (some_moment now rest) after

-- the moment of the end, again and again
module _ (left rest : List Event) (all : List ℕ) (now : ℕ) (none : left ≡ []) (past : rest ≡ [])
    (was : all ≡ moments_from now left) where
  pub end_first : moment_at all 0 ≡ now
  end_first = ap (λ (l : List ℕ). moment_at l 0) (was ∙ ap (moments_from now) none)

  pub end_rest : (after : ℕ) → moment_at all (suc after) ≡ moment_at (moments_from now rest) after
  end_rest after =
      ap (λ (l : List ℕ). moment_at l (suc after)) (was ∙ ap (moments_from now) none)
      ∙ ap (λ (l : List Event). moment_at (moments_from now l) after) (sym past)

-- ---- the moment behind lines

pub one_after : (line : Event) (left rest : List Event) (end now : ℕ) → left ≡ line ∷ rest
    → moment_after now left ≡ end → moment_after (now_after now line) rest ≡ end
one_after line left rest end now is was = sym (ap (moment_after now) is) ∙ was

pub all_told : (left : List Event) (end now : ℕ) → left ≡ []
    → moment_after now left ≡ end → now ≡ end
all_told left end now none was = ap (moment_after now) (sym none) ∙ was

pub ruleset after_more = (one_after, all_told)
