-- From the header and the lives of a text to the whole of it.
use Rattle.std.proofs.Common.{◌≡◌, ◌≢◌, ℕ, ◌≤◌, List, [], ◌∷◌, ◌++◌, length, All, refl, sym}
use Rattle.std.proofs.Common.{◌∙◌, ap, Err, Some, None, arith}
use Rattle.std.specs.declared.option.Option.{Option}
use Rattle.std.specs.List.{flat_map}
use Rattle.std.proofs.lemmas.List.Elements.{All-cons, All-nil}
use Rattle.order_meaning.specs.declared.names.Names.{Names}
use Rattle.capture_text.specs.declared.capture.Event.{Event}
use Rattle.capture_text.specs.declared.capture.Capture.{Capture}
use Rattle.capture_text.specs.declared.reading.CaptureFault.{CaptureFault}
use Rattle.capture_text.specs.declared.reading.CaptureFault.TheVariants.{Line, NoMemory}
use Rattle.capture_text.specs.Capture.{title, names_line, lines_of, life_lines, AreEvents}
use Rattle.capture_text.specs.Capture.{IsCapture, IsName}
use Rattle.capture_text.specs.Reading.{parts, IsTextOf, Begins, IsOutside, FirstOutside, Reads}
use Rattle.capture_text.specs.Header.{AreNames, AreTimes, IsHeader, NamesLine, Faults}
use Rattle.capture_text.proofs.Grammar.{Texts}
use Rattle.capture_text.specs.Life.{Begun, IsNoLine, AreLives, AreNone, LivesSay}

same_tail : (x y : List ℕ) (xs ys : Texts) → x ∷ xs ≡ y ∷ ys → (x ≡ y) × (xs ≡ ys)
same_tail x y xs ys is = (cc is, cc is)

abbrev pub capture_of : Names → ℕ → Option ℕ → List (List Event) → Capture
capture_of names heart reset lives =
    record { names = names; heart = heart; reset = reset; lives = lives }

is_capture : (names : Names) (heart : ℕ) (reset : Option ℕ) (lives : List (List Event))
    → AreNames names → AreTimes heart reset → 1 ≤ length lives → All (AreEvents []) lives
    → IsCapture (capture_of names heart reset lives)
is_capture names heart reset lives named bounded some sound = record {
  client_our = named.client_our;
  client_peer = named.client_peer;
  venue_our = named.venue_our;
  venue_peer = named.venue_peer;
  heart = bounded.0;
  reset = bounded.1;
  some = some;
  lives = sound;
}

-- a capture of these lines has these lives
begun_in : (names : Names) (heart : ℕ) (reset : Option ℕ) (lines : Texts)
    → Begins (title ∷ names_line names heart reset ∷ lines) → Begun lines
begun_in names heart reset lines (capture, rest, sound, split) = record {
  lives = capture.lives;
  rest = rest;
  sound = sound.lives;
  some = sound.some;
  split = (same_tail _ _ _ _ (same_tail _ _ _ _ split).1).1;
}

outside_in : (names : Names) (heart : ℕ) (reset : Option ℕ) (before : Texts) (part : List ℕ)
    (after : Texts) → IsNoLine before part after
    → IsOutside (title ∷ names_line names heart reset ∷ before) part after
outside_in names heart reset before part (next ∷ after) outside =
    λ begins. outside (begun_in names heart reset (before ++ part ∷ []) begins)
outside_in names heart reset before part [] outside =
    λ capture sound is. outside capture.lives sound.lives sound.some
    (same_tail _ _ _ _ (same_tail _ _ _ _ is).1).1

-- the text is this capture
pub is_text : (text rest : List ℕ) (names : Names) (heart : ℕ) (reset : Option ℕ)
    (lives : List (List Event)) → IsHeader text names heart reset rest → AreLives rest lives
    → IsTextOf text (capture_of names heart reset lives)
is_text text rest names heart reset lives header are = record {
  sound = is_capture names heart reset lives header.named header.bounded are.some are.sound;
  lines = header.lines ∙ ap (λ (ls : Texts). title ∷ names_line names heart reset ∷ ls) are.lines;
}

-- the first line outside of the lives is that of the text
pub is_outside : (text rest : List ℕ) (names : Names) (heart number : ℕ) (reset : Option ℕ)
    → IsHeader text names heart reset rest → AreNone rest number → FirstOutside text number
is_outside text rest names heart number reset header none = record {
  before = title ∷ names_line names heart reset ∷ none.before;
  part = none.part;
  after = none.after;
  split = header.lines ∙ ap (λ (ls : Texts). title ∷ names_line names heart reset ∷ ls) none.split;
  place = none.place ∙ omega arith;
  begins = (
    capture_of names heart reset none.begins.lives,
    none.begins.rest,
    is_capture names heart reset none.begins.lives header.named header.bounded none.begins.some
        none.begins.sound,
    ap (λ (ls : Texts). title ∷ names_line names heart reset ∷ ls) none.begins.split,
  );
  outside = outside_in names heart reset none.before none.part none.after none.outside;
}

pub lives_fault : (text rest : List ℕ) (names : Names) (heart : ℕ) (reset : Option ℕ)
    (fault : CaptureFault) → IsHeader text names heart reset rest → LivesSay rest (Err fault)
    → Reads text (Err fault)
lives_fault text rest names heart reset (Line number) header none =
    is_outside text rest names heart number reset header none
lives_fault text rest names heart reset NoMemory header none = tt

pub reads_fault : (text : List ℕ) (fault : CaptureFault) → Faults text fault
    → Reads text (Err fault)
reads_fault text (Line number) outside = outside
reads_fault text NoMemory outside = tt

-- ---- the first two lines

short_name : (byte : ℕ) → 33 ≤ byte → byte ≤ 126 → IsName (byte ∷ [])
short_name byte low high = record {
  some = omega arith;
  short = omega arith;
  printable = All-cons (λ b. (33 ≤ b) × (b ≤ 126)) byte [] (low, high)
      (All-nil (λ b. (33 ≤ b) × (b ≤ 126)));
}

abbrev some_names : Names
some_names = record {
  client_our = 65 ∷ [];
  client_peer = 65 ∷ [];
  venue_our = 65 ∷ [];
  venue_peer = 65 ∷ [];
}

some_capture : IsCapture (capture_of some_names 0 None ([] ∷ []))
some_capture = is_capture some_names 0 None ([] ∷ []) (record {
  client_our = short_name 65 (omega arith) (omega arith);
  client_peer = short_name 65 (omega arith) (omega arith);
  venue_our = short_name 65 (omega arith) (omega arith);
  venue_peer = short_name 65 (omega arith) (omega arith);
}) (omega arith, tt) (omega arith)
    (All-cons (AreEvents []) [] [] tt (All-nil (AreEvents [])))

begins_nothing : Begins []
begins_nothing = (
  capture_of some_names 0 None ([] ∷ []),
  lines_of (capture_of some_names 0 None ([] ∷ [])),
  some_capture,
  refl,
)

begins_title : Begins (title ∷ [])
begins_title = (
  capture_of some_names 0 None ([] ∷ []),
  names_line some_names 0 None ∷ flat_map life_lines ([] ∷ []),
  some_capture,
  refl,
)

outside_first : (part : List ℕ) (after : Texts) → part ≢ title → IsOutside [] part after
outside_first part (next ∷ after) other = λ (capture, rest, sound, is).
    other (sym (same_tail _ _ _ _ is).0)
outside_first part [] other = λ capture sound is. absurd (cc is)

-- the first line is none
pub first_is_none : (text : List ℕ) (part : List ℕ) (after : Texts)
    → parts text ≡ part ∷ after → part ≢ title → FirstOutside text 1
first_is_none text part after split other = record {
  before = [];
  part = part;
  after = after;
  split = split;
  place = refl;
  begins = begins_nothing;
  outside = outside_first part after other;
}

-- no line ends
pub no_first : (text : List ℕ) (part : List ℕ) → parts text ≡ part ∷ [] → FirstOutside text 1
no_first text part split = record {
  before = [];
  part = part;
  after = [];
  split = split;
  place = refl;
  begins = begins_nothing;
  outside = λ capture sound is. absurd (cc is);
}

names_in : (capture : Capture) → IsCapture capture → AreNames capture.names
names_in capture sound = record {
  client_our = sound.client_our;
  client_peer = sound.client_peer;
  venue_our = sound.venue_our;
  venue_peer = sound.venue_peer;
}

outside_second : (part : List ℕ) (after : Texts) → NamesLine part None
    → IsOutside (title ∷ []) part after
outside_second part (next ∷ after) other = λ (capture, rest, sound, is).
    other capture.names capture.heart capture.reset (names_in capture sound)
    (sound.heart, sound.reset)
    (sym (same_tail _ _ _ _ (same_tail _ _ _ _ is).1).0)
outside_second part [] other = λ capture sound is. absurd (cc (same_tail _ _ _ _ is).1)

-- the second line is none
pub second_is_none : (text : List ℕ) (part : List ℕ) (after : Texts)
    → parts text ≡ title ∷ part ∷ after → NamesLine part None → FirstOutside text 2
second_is_none text part after split other = record {
  before = title ∷ [];
  part = part;
  after = after;
  split = split;
  place = refl;
  begins = begins_title;
  outside = outside_second part after other;
}

pub no_second : (text line behind : List ℕ)
    → parts text ≡ line ∷ parts behind → line ≡ title → parts behind ≡ behind ∷ []
    → FirstOutside text 2
no_second text line behind split is end = record {
  before = title ∷ [];
  part = behind;
  after = [];
  split = split ∙ ap (λ (l : List ℕ). l ∷ parts behind) is ∙ ap (λ (ls : Texts). title ∷ ls) end;
  place = refl;
  begins = begins_title;
  outside = λ capture sound is. absurd (cc (same_tail _ _ _ _ is).1);
}

pub is_header : (text line rest : List ℕ) (names : Names) (heart : ℕ) (reset : Option ℕ)
    → parts text ≡ title ∷ line ∷ parts rest → NamesLine line (Some (names, heart, reset))
    → IsHeader text names heart reset rest
is_header text line rest names heart reset split (named, bounded, is) = record {
  named = named;
  bounded = bounded;
  lines = split ∙ ap (λ (l : List ℕ). title ∷ l ∷ parts rest) is;
}

pub ruleset title_lines = (no_first, first_is_none, no_second)

pub ruleset whole_text = (is_header, is_text, lives_fault, reads_fault, second_is_none)
