-- Lines with which lives may begin, and those with which none go on.
use Rattle.std.proofs.Common.{◌≡◌, ◌≢◌, ◌⊎◌, inl, inr, ℕ, ◌≤◌, Bool, true, false, List, []}
use Rattle.std.proofs.Common.{◌∷◌, ◌++◌, map, All, refl, sym, ◌∙◌, ap, subst, append_assoc}
use Rattle.std.proofs.Common.{None, arith, append-nil, bytes_eq, if◌then◌else◌}
use Rattle.std.specs.Prelude.{codes}
use Rattle.std.specs.List.{flat_map}
use Rattle.std.proofs.lemmas.Grind.{flat_map-append}
use Rattle.std.proofs.lemmas.List.{length-append}
use Rattle.std.proofs.lemmas.List.Elements.{All-append, All-cons, All-head, All-nil, All-tail}
use Rattle.order_meaning.specs.declared.Side.{Side}
use Rattle.order_meaning.specs.declared.Side.TheVariants.{Client, Venue}
use Rattle.capture_text.specs.declared.capture.Event.{Event}
use Rattle.capture_text.specs.declared.capture.Event.TheVariants as event
use Rattle.capture_text.specs.Capture.{letter, line_of, life_lines, is_open, is_fresh, MayStand}
use Rattle.capture_text.specs.Capture.{AreEvents}
use Rattle.capture_text.specs.Life.{behind, Begun, Follows}
use Rattle.capture_text.proofs.Bytes.{differ}

abbrev pub Texts : Type 0
Texts = List (List ℕ)

abbrev end : List ℕ
end = codes "end"

-- the line of an event does not end a life
pub not_end : (e : Event) → line_of e ≡ end → ⊥
not_end (event.Stop call image) is = differ 0 is refl
not_end (event.At ms) is = differ 0 is refl
not_end event.Tick is = differ 0 is refl
not_end (event.Opened Client) is = differ 0 is refl
not_end (event.Opened Venue) is = differ 0 is refl
not_end (event.Closed Client) is = differ 0 is refl
not_end (event.Closed Venue) is = differ 0 is refl
not_end (event.Text Client bytes) is = differ 0 is refl
not_end (event.Text Venue bytes) is = differ 0 is refl
not_end (event.Frame Client body) is = differ 0 is refl
not_end (event.Frame Venue body) is = differ 0 is refl

-- what the first line and the others of two equal lists are
tail_same : (x y : List ℕ) (xs ys : Texts) → x ∷ xs ≡ y ∷ ys → (x ≡ y) × (xs ≡ ys)
tail_same x y xs ys is = (cc is, cc is)

-- the end of a life stands once behind its events
pub ends_once : (events others : List Event) (x y : Texts)
    → map line_of events ++ end ∷ x ≡ map line_of others ++ end ∷ y → x ≡ y
ends_once [] [] x y is = (tail_same end end x y is).1
ends_once [] (o ∷ others) x y is =
    absurd (not_end o (sym (tail_same end (line_of o) x (map line_of others ++ end ∷ y) is).0))
ends_once (e ∷ events) [] x y is =
    absurd (not_end e ((tail_same (line_of e) end (map line_of events ++ end ∷ x) y is).0))
ends_once (e ∷ events) (o ∷ others) x y is = ends_once events others x y
    ((tail_same (line_of e) (line_of o) (map line_of events ++ end ∷ x)
    (map line_of others ++ end ∷ y) is).1)

-- lines behind whole lives are lives
pub behind_lives : (lives all : List (List Event)) (more : Texts)
    → All (AreEvents []) all → flat_map life_lines all ≡ flat_map life_lines lives ++ more
    → (left : List (List Event)) × All (AreEvents []) left × (flat_map life_lines left ≡ more)
behind_lives [] all more sound is = (all, sound, is)
behind_lives (life ∷ lives) [] more sound is = absurd (cc is)
behind_lives (life ∷ lives) (top ∷ all) more sound is =
    behind_lives lives all more (All-tail (AreEvents []) top all sound)
    (ends_once top life (flat_map life_lines all) (flat_map life_lines lives ++ more)
    (tail_same (codes "life") (codes "life") _ _ (straight top (flat_map life_lines all)
    ∙ is
    ∙ append_assoc (life_lines life) (flat_map life_lines lives) more
    ∙ sym (straight life (flat_map life_lines lives ++ more)))).1)
  where
    straight : (events : List Event) (rest : Texts)
        → codes "life" ∷ map line_of events ++ end ∷ rest ≡ life_lines events ++ rest
    straight events rest =
        ap (λ (ls : Texts). codes "life" ∷ ls)
        (sym (append_assoc (map line_of events) (end ∷ []) rest))

-- ---- which sides are open is read off the lines

-- the same sides are open, and no line stands before both of them
abbrev Same : List Event → List Event → Type 0
Same before other = ((side : Side) → is_open side before ≡ is_open side other)
    × (is_fresh before ≡ is_fresh other)

same_stands : (before other : List Event) (e : Event)
    → Same before other → MayStand before e → MayStand other e
same_stands before other (event.Stop call image) same (fresh, some, small) =
    (sym same.1 ∙ fresh, some, small)
same_stands before other (event.At ms) same may = may
same_stands before other event.Tick same may = may
same_stands before other (event.Opened side) same may = sym (same.0 side) ∙ may
same_stands before other (event.Closed side) same may = sym (same.0 side) ∙ may
same_stands before other (event.Text side bytes) same (is, are, round) =
    (sym (same.0 side) ∙ is, are, round)
same_stands before other (event.Frame side body) same (is, are, sound, round) =
    (sym (same.0 side) ∙ is, are, sound, round)

-- what a line does to a side
abbrev effect : Side → List ℕ → Bool → Bool
effect side line was =
    if bytes_eq line (letter side ++ codes "+") then true
    else if bytes_eq line (letter side ++ codes "-") then false
    else was

effect_is : (side : Side) (e : Event) (before : List Event)
    → is_open side (e ∷ before) ≡ effect side (line_of e) (is_open side before)
effect_is Client (event.Stop call image) before = refl
effect_is Client (event.At ms) before = refl
effect_is Client event.Tick before = refl
effect_is Client (event.Opened Client) before = refl
effect_is Client (event.Opened Venue) before = refl
effect_is Client (event.Closed Client) before = refl
effect_is Client (event.Closed Venue) before = refl
effect_is Client (event.Text Client bytes) before = refl
effect_is Client (event.Text Venue bytes) before = refl
effect_is Client (event.Frame Client body) before = refl
effect_is Client (event.Frame Venue body) before = refl
effect_is Venue (event.Stop call image) before = refl
effect_is Venue (event.At ms) before = refl
effect_is Venue event.Tick before = refl
effect_is Venue (event.Opened Client) before = refl
effect_is Venue (event.Opened Venue) before = refl
effect_is Venue (event.Closed Client) before = refl
effect_is Venue (event.Closed Venue) before = refl
effect_is Venue (event.Text Client bytes) before = refl
effect_is Venue (event.Text Venue bytes) before = refl
effect_is Venue (event.Frame Client body) before = refl
effect_is Venue (event.Frame Venue body) before = refl

same_next : (before other : List Event) (e o : Event)
    → Same before other → line_of e ≡ line_of o → Same (e ∷ before) (o ∷ other)
same_next before other e o same is = (
  λ side. effect_is side e before
      ∙ ap (λ (line : List ℕ). effect side line (is_open side before)) is
      ∙ ap (λ (was : Bool). effect side (line_of o) was) (same.0 side)
      ∙ sym (effect_is side o other),
  refl,
)

-- behind events of a life a line ends it, or is that of an event that may stand there
goes_on : (events all before other : List Event) (line : List ℕ) (x y : Texts)
    → Same before other → AreEvents other all
    → map line_of events ++ line ∷ x ≡ map line_of all ++ end ∷ y
    → (line ≡ end)
    ⊎ ((e : Event) × (line ≡ line_of e) × MayStand (behind before events) e)
goes_on [] [] before other line x y same sound is = inl (tail_same line end x y is).0
goes_on [] (o ∷ all) before other line x y same (may, sound) is =
    inr (
      o,
      (tail_same line (line_of o) x (map line_of all ++ end ∷ y) is).0,
      same_stands other before o (λ side. sym (same.0 side), sym same.1) may,
    )
goes_on (e ∷ events) [] before other line x y same sound is =
    absurd (not_end e (tail_same (line_of e) end (map line_of events ++ line ∷ x) y is).0)
goes_on (e ∷ events) (o ∷ all) before other line x y same (may, sound) is =
    let both = tail_same (line_of e) (line_of o) (map line_of events ++ line ∷ x)
    (map line_of all ++ end ∷ y) is in
    goes_on events all (e ∷ before) (o ∷ other) line x y
    (same_next before other e o same both.0) sound both.1

-- events alone do not end a life
never_whole : (events all : List Event) (y : Texts)
    → map line_of events ≡ map line_of all ++ end ∷ y → ⊥
never_whole [] [] y is = absurd (cc is)
never_whole [] (o ∷ all) y is = absurd (cc is)
never_whole (e ∷ events) [] y is = not_end e (tail_same (line_of e) end (map line_of events) y is).0
never_whole (e ∷ events) (o ∷ all) y is = never_whole events all y
    ((tail_same (line_of e) (line_of o) (map line_of events) (map line_of all ++ end ∷ y) is).1)

-- ---- what may stand behind whole lives

abbrev pub within : List (List Event) → List Event → Texts
within lives events = flat_map life_lines lives ++ codes "life" ∷ map line_of events

lives_more : (lives more : List (List Event)) (rest : Texts)
    → flat_map life_lines more ≡ rest
    → flat_map life_lines (lives ++ more) ≡ flat_map life_lines lives ++ rest
lives_more lives more rest is =
    flat_map-append life_lines lives more
    ∙ ap (λ (ls : Texts). flat_map life_lines lives ++ ls) is

pub begun_between : (lives : List (List Event)) → All (AreEvents []) lives
    → Begun (flat_map life_lines lives)
begun_between lives sound = record {
  lives = lives ++ [] ∷ [];
  rest = life_lines [];
  sound = All-append (AreEvents []) lives ([] ∷ []) sound
      (All-cons (AreEvents []) [] [] tt (All-nil (AreEvents [])));
  some = subst (λ n. 1 ≤ n) (sym (length-append lives ([] ∷ []))) (omega arith);
  split = lives_more lives ([] ∷ []) (life_lines []) (append-nil (life_lines []));
}

pub begun_within : (lives : List (List Event)) (events : List Event)
    → All (AreEvents []) lives → AreEvents [] events → Begun (within lives events)
begun_within lives events sound are = record {
  lives = lives ++ events ∷ [];
  rest = end ∷ [];
  sound = All-append (AreEvents []) lives (events ∷ []) sound
      (All-cons (AreEvents []) events [] are (All-nil (AreEvents [])));
  some = subst (λ n. 1 ≤ n) (sym (length-append lives (events ∷ []))) (omega arith);
  split = lives_more lives (events ∷ []) (life_lines events) (append-nil (life_lines events))
      ∙ sym (append_assoc (flat_map life_lines lives) (codes "life" ∷ map line_of events)
      (end ∷ []));
}

-- a line that begins no life is outside between lives
pub outside_between : (lives : List (List Event)) (part : List ℕ)
    → part ≢ codes "life" → Begun (flat_map life_lines lives ++ part ∷ []) → ⊥
outside_between lives part other begun =
    let left = behind_lives lives begun.lives (part ∷ begun.rest) begun.sound
    (begun.split ∙ append_assoc (flat_map life_lines lives) (part ∷ []) begun.rest) in
    none left.0 left.2
  where
    none : (left : List (List Event)) → flat_map life_lines left ≡ part ∷ begun.rest → ⊥
    none [] is = absurd (cc is)
    none (top ∷ left) is = other (sym (tail_same (codes "life") part _ begun.rest is).0)

-- a line that follows no event and does not end the life is outside within one
pub outside_within : (lives : List (List Event)) (events : List Event) (part : List ℕ)
    → part ≢ end → Follows part (behind [] events) None
    → Begun (within lives events ++ part ∷ []) → ⊥
outside_within lives events part other follows begun =
    let left = behind_lives lives begun.lives
    (codes "life" ∷ map line_of events ++ part ∷ begun.rest)
    begun.sound (begun.split
    ∙ append_assoc (within lives events) (part ∷ []) begun.rest
    ∙ append_assoc (flat_map life_lines lives) (codes "life" ∷ map line_of events)
    (part ∷ begun.rest)) in
    none left.0 left.1 left.2
  where
    straight_tail : (top : List Event) (left : List (List Event))
        → map line_of top ++ end ∷ flat_map life_lines left
        ≡ (map line_of top ++ end ∷ []) ++ flat_map life_lines left
    straight_tail top left =
        sym (append_assoc (map line_of top) (end ∷ []) (flat_map life_lines left))

    none : (left : List (List Event)) → All (AreEvents []) left
        → flat_map life_lines left ≡ codes "life" ∷ map line_of events ++ part ∷ begun.rest → ⊥
    none [] sound is = absurd (cc is)
    none (top ∷ left) sound is = elim (goes_on events top [] [] part begun.rest
        (flat_map life_lines left) (λ side. refl, refl) (All-head (AreEvents []) top left sound)
        (sym (straight_tail top left ∙ (tail_same (codes "life") (codes "life") _ _ is).1))) [
          | inl ends ↦ other ends
          | inr (e, is, may) ↦ follows e may is
        ]

-- a text does not end within a life
pub not_whole : (lives : List (List Event)) (events : List Event) (all : List (List Event))
    → All (AreEvents []) all → flat_map life_lines all ≡ within lives events → ⊥
not_whole lives events all sound is =
    let left = behind_lives lives all (codes "life" ∷ map line_of events) sound is in
    none left.0 left.2
  where
    none : (left : List (List Event))
        → flat_map life_lines left ≡ codes "life" ∷ map line_of events → ⊥
    none [] is = absurd (cc is)
    none (top ∷ left) is = never_whole events top (flat_map life_lines left)
        (sym (sym (append_assoc (map line_of top) (end ∷ []) (flat_map life_lines left))
        ∙ (tail_same (codes "life") (codes "life") _ _ is).1))
