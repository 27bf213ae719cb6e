-- The lines of a life and of lives that were passed, one more at a time.
use Rattle.std.proofs.Common.{◌≡◌, ◌≢◌, ◌⊎◌, inl, inr, ℕ, ◌+◌, ◌-◌, ◌^◌, ◌≤◌, min, List, []}
use Rattle.std.proofs.Common.{◌∷◌, ◌++◌, map, length, All, refl, sym, ◌∙◌, ap, subst}
use Rattle.std.proofs.Common.{append_assoc, append-nil, Ok, Err, Some, None}
use Rattle.std.proofs.Common.{◌==◌, true, false}
use Rattle.std.specs.Result.{IsErr, IsErrAnd}
use Rattle.std.specs.declared.result.Result.{Result}
use Rattle.std.proofs.lemmas.Bool.{eqb-true}
use Rattle.std.proofs.Common.{arith}
use Rattle.std.specs.Prelude.{codes}
use Rattle.std.specs.List.{flat_map}
use Rattle.std.proofs.lemmas.List.{map-append, length-append, length-map}
use Rattle.std.proofs.lemmas.List.Elements.{All-append, All-cons, All-nil}
use Rattle.std.proofs.lemmas.Grind.{flat_map-append}
use Rattle.capture_text.specs.declared.capture.Event.{Event}
use Rattle.capture_text.specs.Capture.{line_of, life_lines, MayStand, AreEvents}
use Rattle.capture_text.specs.Reading.{parts}
use Rattle.capture_text.specs.declared.life.Open.{Open}
use Rattle.capture_text.specs.Life.{behind, counted, AreOpen, Follows, Breaks, IsLife, IsBroken}
use Rattle.capture_text.specs.Life.{AreLives, AreNone, Breaking, IsNoLine, LivesSay}
use Rattle.capture_text.specs.declared.reading.CaptureFault.{CaptureFault}
use Rattle.capture_text.specs.declared.reading.CaptureFault.TheVariants.{Line, NoMemory}
use Rattle.capture_text.proofs.Parts.{some_part}
use Rattle.capture_text.proofs.Grammar.{Texts, within, begun_between, begun_within, outside_between}
use Rattle.capture_text.proofs.Grammar.{outside_within, not_whole}

abbrev pub next : ℕ → ℕ
next number = min (number + 1) (2 ^ 32 - 1)

-- ---- within a life

-- the events of these lines were passed
pub record Passed (text : List ℕ) (before : ℕ) (life : List Event) (rest : List ℕ) (number : ℕ)
    : Type 0 where
  pub events : AreEvents [] life
  pub lines : parts text ≡ map line_of life ++ parts rest
  pub place : number ≡ counted (before + length life)

behind_more : (before events : List Event) (e : Event)
    → behind before (events ++ e ∷ []) ≡ e ∷ behind before events
behind_more before [] e = refl
behind_more before (o ∷ events) e = behind_more (o ∷ before) events e

are_more : (before events : List Event) (e : Event)
    → AreEvents before events → MayStand (behind before events) e
    → AreEvents before (events ++ e ∷ [])
are_more before [] e are may = (may, tt)
are_more before (o ∷ events) e (one, are) may = (one, are_more (o ∷ before) events e are may)

lines_more : (events : List Event) (e : Event) (line : List ℕ) (rest after : Texts)
    → rest ≡ line ∷ after → line ≡ line_of e
    → map line_of events ++ rest ≡ map line_of (events ++ e ∷ []) ++ after
lines_more events e line rest after is says =
    ap (λ (ls : Texts). map line_of events ++ ls) (is ∙ ap (λ (l : List ℕ). l ∷ after) says)
    ∙ sym (append_assoc (map line_of events) (line_of e ∷ []) after)
    ∙ ap (λ (ls : Texts). ls ++ after) (sym (map-append line_of events (e ∷ [])))

pub passed_none : (text : List ℕ) (before : ℕ) → before ≤ 2 ^ 32 - 1
    → Passed text before [] text before
passed_none text before fits = record {
  events = tt;
  lines = refl;
  place = omega (arith, fits);
}

pub passed_more : (text rest line after : List ℕ) (before number : ℕ) (life : List Event)
    (e : Event)
    → Passed text before life rest number → parts rest ≡ line ∷ parts after
    → line ≡ line_of e → MayStand (behind [] life) e
    → Passed text before (life ++ e ∷ []) after (next number)
passed_more text rest line after before number life e passed is says may = record {
  events = are_more [] life e passed.events may;
  lines = passed.lines ∙ lines_more life e line (parts rest) (parts after) is says;
  place = subst (λ n. next number ≡ counted (before + n)) (sym (length-append life (e ∷ [])))
      (omega (arith, passed.place));
}

pub passed_end : (text rest line after : List ℕ) (before number : ℕ) (life : List Event)
    → Passed text before life rest number → parts rest ≡ line ∷ parts after
    → line ≡ codes "end" → IsLife text before life after (next number)
passed_end text rest line after before number life passed is ends = record {
  events = passed.events;
  lines = passed.lines ∙ ap (λ (ls : Texts). map line_of life ++ ls)
      (is ∙ ap (λ (l : List ℕ). l ∷ parts after) ends);
  place = omega (arith, passed.place);
}

breaks_by : (events : List Event) (part : List ℕ) (after : Texts)
    → part ≢ codes "end" → Follows part (behind [] events) None → Breaks events part after
breaks_by events part [] other follows = tt
breaks_by events part (next ∷ after) other follows = (other, follows)

pub passed_broken : (text rest line after : List ℕ) (before number : ℕ) (life : List Event)
    → Passed text before life rest number → parts rest ≡ line ∷ parts after
    → line ≢ codes "end" → Follows line (behind [] life) None
    → IsBroken text before (next number)
passed_broken text rest line after before number life passed is other follows = record {
  events = life;
  part = line;
  after = parts after;
  sound = passed.events;
  split = passed.lines ∙ ap (λ (ls : Texts). map line_of life ++ ls) is;
  place = omega (arith, passed.place);
  breaks = breaks_by life line (parts after) other follows;
}

pub passed_short : (text rest part : List ℕ) (before number : ℕ) (life : List Event)
    → Passed text before life rest number → parts rest ≡ part ∷ []
    → IsBroken text before (next number)
passed_short text rest part before number life passed is = record {
  events = life;
  part = part;
  after = [];
  sound = passed.events;
  split = passed.lines ∙ ap (λ (ls : Texts). map line_of life ++ ls) is;
  place = omega (arith, passed.place);
  breaks = tt;
}

pub lives_on : (text rest line after : List ℕ) (before number new : ℕ) (life longer : List Event)
    (e : Event)
    → Passed text before life rest number → parts rest ≡ line ∷ parts after
    → Follows line (behind [] life) (Some e) → longer ≡ life ++ e ∷ [] → new ≡ next number
    → Passed text before longer after new
lives_on text rest line after before number new life longer e passed is (says, may) longer_is
    new_is =
    subst (λ (l : List Event). Passed text before l after new) (sym longer_is)
    (subst (λ n. Passed text before (life ++ e ∷ []) after n) (sym new_is)
    (passed_more text rest line after before number life e passed is says may))

pub stay_open : (sides : Open) (life longer : List Event) (e : Event)
    → AreOpen sides (e ∷ behind [] life) → longer ≡ life ++ e ∷ []
    → AreOpen sides (behind [] longer)
stay_open sides life longer e are is = subst (AreOpen sides)
    (sym (ap (λ (l : List Event). behind [] l) is ∙ behind_more [] life e)) are

-- ---- between lives

pub record Between (text : List ℕ) (lives : List (List Event)) (rest : List ℕ) (number : ℕ)
    : Type 0 where
  pub sound : All (AreEvents []) lives
  pub lines : parts text ≡ flat_map life_lines lives ++ parts rest
  pub place : number ≡ counted (length (flat_map life_lines lives) + 2)

pub between_none : (text : List ℕ) → Between text [] text 2
between_none text = record { sound = All-nil (AreEvents []); lines = refl; place = refl }

lives_more : (lives : List (List Event)) (life : List Event) (more : Texts)
    → flat_map life_lines lives ++ (codes "life" ∷ map line_of life ++ codes "end" ∷ more)
    ≡ flat_map life_lines (lives ++ life ∷ []) ++ more
lives_more lives life more =
    ap (λ (ls : Texts). flat_map life_lines lives ++ codes "life" ∷ ls)
    (sym (append_assoc (map line_of life) (codes "end" ∷ []) more))
    ∙ sym (append_assoc (flat_map life_lines lives) (life_lines life) more)
    ∙ ap (λ (ls : Texts). ls ++ more) (
    ap (λ (ls : Texts). flat_map life_lines lives ++ ls) (sym (append-nil (life_lines life)))
    ∙ sym (flat_map-append life_lines lives (life ∷ []))
    )

-- how many lines a life more makes
length_life : (life : List Event) → length (life_lines life) ≡ length life + 2
length_life life =
    let ends : length (map line_of life ++ codes "end" ∷ []) ≡ length (map line_of life) + 1
    = length-append (map line_of life) (codes "end" ∷ []) in
    let events : length (map line_of life) ≡ length life = length-map life line_of in
    omega (arith, ends, events)

length_more : (lives : List (List Event)) (life : List Event)
    → length (flat_map life_lines (lives ++ life ∷ []))
    ≡ length (flat_map life_lines lives) + length life + 2
length_more lives life =
    ap (λ (ls : Texts). length ls) (flat_map-append life_lines lives (life ∷ []))
    ∙ length-append (flat_map life_lines lives) (life_lines life ++ [])
    ∙ ap (λ n. length (flat_map life_lines lives) + n)
    (ap (λ (ls : Texts). length ls) (append-nil (life_lines life)) ∙ length_life life)
    ∙ omega arith

pub between_more : (text rest line after behind : List ℕ) (number last : ℕ)
    (lives : List (List Event)) (life : List Event)
    → Between text lives rest number → parts rest ≡ line ∷ parts after → line ≡ codes "life"
    → IsLife after (next number) life behind last
    → Between text (lives ++ life ∷ []) behind last
between_more text rest line after behind number last lives life between is begins one = record {
  sound = All-append (AreEvents []) lives (life ∷ []) between.sound
      (All-cons (AreEvents []) life [] one.events (All-nil (AreEvents [])));
  lines = between.lines
      ∙ ap (λ (ls : Texts). flat_map life_lines lives ++ ls) (is
      ∙ ap (λ (l : List ℕ). l ∷ parts after) begins
      ∙ ap (λ (ls : Texts). codes "life" ∷ ls) one.lines)
      ∙ lives_more lives life (parts behind);
  place = subst (λ n. last ≡ counted (n + 2)) (sym (length_more lives life))
      (omega (arith, between.place, one.place));
}

no_line : (lives : List (List Event)) (part : List ℕ) (after : Texts) (text : List ℕ)
    → part ≢ codes "life" → parts text ≡ after → IsNoLine (flat_map life_lines lives) part after
no_line lives part [] text other is =
    absurd (cc (is, (some_part text).2))
no_line lives part (next ∷ after) text other is = outside_between lives part other

-- a line that begins no life
pub between_other : (text rest line after : List ℕ) (number : ℕ) (lives : List (List Event))
    → Between text lives rest number → parts rest ≡ line ∷ parts after → line ≢ codes "life"
    → AreNone text (next number)
between_other text rest line after number lives between is other = record {
  before = flat_map life_lines lives;
  part = line;
  after = parts after;
  split = between.lines ∙ ap (λ (ls : Texts). flat_map life_lines lives ++ ls) is;
  place = omega (arith, between.place);
  begins = begun_between lives between.sound;
  outside = no_line lives line (parts after) after other refl;
}

no_event : (lives : List (List Event)) (events : List Event) (part : List ℕ) (after : Texts)
    → Breaks events part after → IsNoLine (within lives events) part after
no_event lives events part [] breaks = λ all sound some is.
    absurd (not_whole lives events all sound is)
no_event lives events part (next ∷ after) (other, follows) =
    outside_within lives events part other follows

length_within : (lives : List (List Event)) (events : List Event)
    → length (within lives events) ≡ length (flat_map life_lines lives) + length events + 1
length_within lives events =
    let all : length (within lives events)
    ≡ length (flat_map life_lines lives) + length (codes "life" ∷ map line_of events)
    = length-append (flat_map life_lines lives) (codes "life" ∷ map line_of events) in
    let same : length (map line_of events) ≡ length events = length-map events line_of in
    omega (arith, all, same)

-- a life that is broken
pub between_broken : (text rest line after : List ℕ) (number last : ℕ) (lives : List (List Event))
    → Between text lives rest number → parts rest ≡ line ∷ parts after → line ≡ codes "life"
    → IsBroken after (next number) last → AreNone text last
between_broken text rest line after number last lives between is begins broken = record {
  before = within lives broken.events;
  part = broken.part;
  after = broken.after;
  split = between.lines
      ∙ ap (λ (ls : Texts). flat_map life_lines lives ++ ls) (is
      ∙ ap (λ (l : List ℕ). l ∷ parts after) begins
      ∙ ap (λ (ls : Texts). codes "life" ∷ ls) broken.split)
      ∙ sym (append_assoc (flat_map life_lines lives) (codes "life" ∷ map line_of broken.events)
      (broken.part ∷ broken.after));
  place = subst (λ n. last ≡ counted (n + 3)) (sym (length_within lives broken.events))
      (omega (arith, between.place, broken.place));
  begins = begun_within lives broken.events between.sound broken.sound;
  outside = no_event lives broken.events broken.part broken.after broken.breaks;
}

-- the text ends behind whole lives, but with what is no line, or without a life
pub between_short : (text rest : List ℕ) (number : ℕ) (lives : List (List Event))
    → Between text lives rest number → parts rest ≡ rest ∷ []
    → (rest ≢ []) ⊎ (lives ≡ []) → AreNone text (next number)
between_short text rest number lives between is why = record {
  before = flat_map life_lines lives;
  part = rest;
  after = [];
  split = between.lines ∙ ap (λ (ls : Texts). flat_map life_lines lives ++ ls) is;
  place = omega (arith, between.place);
  begins = begun_between lives between.sound;
  outside = outside why;
}
  where
    no_life : (all : List (List Event)) → 1 ≤ length all → flat_map life_lines all ≡ [] → ⊥
    no_life [] some is = absurd (omega (arith, some))
    no_life (life ∷ all) some is = absurd (cc is)

    outside : (rest ≢ []) ⊎ (lives ≡ []) → IsNoLine (flat_map life_lines lives) rest []
    outside (inl more) = λ all sound some is. more
    outside (inr none) = λ all sound some same empty. no_life all some
        (same ∙ ap (λ (ls : List (List Event)). flat_map life_lines ls) none)

-- the text ends behind whole lives
pub between_whole : (text rest : List ℕ) (number : ℕ) (lives : List (List Event))
    → Between text lives rest number → parts rest ≡ rest ∷ [] → rest ≡ []
    → 1 ≤ length lives → AreLives text lives
between_whole text rest number lives between is empty some = record {
  sound = between.sound;
  some = some;
  lines = between.lines ∙ ap (λ (ls : Texts). flat_map life_lines lives ++ ls)
      (is ∙ ap (λ (part : List ℕ). part ∷ []) empty);
}

-- a life that is broken, by its fault
pub broken_life : (text rest line after : List ℕ) (number new : ℕ) (lives : List (List Event))
    (fault : CaptureFault)
    → Between text lives rest number → parts rest ≡ line ∷ parts after → line ≡ codes "life"
    → new ≡ next number → Breaking after new fault → LivesSay text (Err fault)
broken_life text rest line after number new lives (Line last) between is begins new_is broken =
    between_broken text rest line after number last lives between is begins
    (subst (λ n. IsBroken after n last) new_is broken)
broken_life text rest line after number new lives NoMemory between is begins new_is broken = tt

pub one_life_on : (text rest line after behind : List ℕ) (number new last : ℕ)
    (lives longer : List (List Event)) (life : List Event)
    → Between text lives rest number → parts rest ≡ line ∷ parts after → line ≡ codes "life"
    → new ≡ next number → IsLife after new life behind last → longer ≡ lives ++ life ∷ []
    → Between text longer behind last
one_life_on text rest line after behind number new last lives longer life between is begins new_is
    one longer_is =
    subst (λ (ls : List (List Event)). Between text ls behind last) (sym longer_is)
    (between_more text rest line after behind number last lives life between is begins
    (subst (λ n. IsLife after n life behind last) new_is one))

pub says_fault : (text : List ℕ) (fault : CaptureFault)
    (result : Result (List (List Event)) CaptureFault)
    → IsErr result → IsErrAnd result (λ e. e ≡ fault) → LivesSay text (Err fault)
    → LivesSay text result
says_fault text fault (Ok lives) is also says = absurd (cc is)
says_fault text fault (Err other) is also says =
    subst (λ (f : CaptureFault). LivesSay text (Err f)) (sym also) says

not_empty : (text : List ℕ) → (length text == 0) ≡ false → text ≢ []
not_empty [] is same = absurd (cc is)
not_empty (byte ∷ text) is same = absurd (cc same)

no_lives : (lives : List (List Event)) → (length lives == 0) ≡ true → lives ≡ []
no_lives [] is = refl
no_lives (life ∷ lives) is = absurd (eqb-nonzero is)
  where
    eqb-nonzero : (length (life ∷ lives) == 0) ≡ true → ⊥
    eqb-nonzero is = absurd (omega (arith, eqb-true (length (life ∷ lives)) 0 is))

-- the text ends, but no line ends it
pub ends_short : (text rest : List ℕ) (number new : ℕ) (lives : List (List Event))
    → Between text lives rest number → parts rest ≡ rest ∷ [] → new ≡ next number
    → (length rest == 0) ≡ false → AreNone text new
ends_short text rest number new lives between is new_is more =
    subst (AreNone text) (sym new_is)
    (between_short text rest number lives between is (inl (not_empty rest more)))

-- the text ends without a life
pub ends_none : (text rest : List ℕ) (number new : ℕ) (lives : List (List Event))
    → Between text lives rest number → parts rest ≡ rest ∷ [] → new ≡ next number
    → (length lives == 0) ≡ true → AreNone text new
ends_none text rest number new lives between is new_is none =
    subst (AreNone text) (sym new_is)
    (between_short text rest number lives between is (inr (no_lives lives none)))

pub ruleset lives_pass = (passed_none, passed_more, passed_end, passed_broken, passed_short)

pub ruleset all_lives_pass =
    (between_none, between_more, between_other, between_broken, between_short, between_whole)
