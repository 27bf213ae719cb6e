-- Inside: what the reader of the second line answers.
use Rattle.std.specs.Prelude.{◌≡◌, ◌≢◌, ◌≤◌, ◌==◌, ℕ, List, ◌∷◌, codes, Some, None, IfSome}
use Rattle.std.specs.List.{slice_split}
use Rattle.std.specs.Fmt.{decimal}
use Rattle.std.specs.declared.option.Option.{Option}
use Rattle.order_meaning.specs.declared.names.Names.{Names}
use Rattle.capture_text.specs.declared.reading.CaptureFault.{CaptureFault}
use Rattle.capture_text.specs.declared.reading.CaptureFault.TheVariants.{Line, NoMemory}
use Rattle.capture_text.specs.Capture.{title, names_line, times, IsName}
use Rattle.capture_text.specs.Reading.{parts, FirstOutside}

-- a text, cut at each such byte
abbrev pub cuts : ℕ → List ℕ → List (List ℕ)
cuts byte text = slice_split (λ b. b == byte) text

-- parts of a line that are not `names` and five words or more
abbrev pub IsShort : List (List ℕ) → Type 0
IsShort words = (a b c d e : List ℕ) (more : List (List ℕ))
    → words ≢ codes "names" ∷ a ∷ b ∷ c ∷ d ∷ e ∷ more

abbrev pub written_names : List ℕ → List ℕ → List ℕ → List ℕ → Names
written_names client_our client_peer venue_our venue_peer = record {
  client_our = client_our;
  client_peer = client_peer;
  venue_our = venue_our;
  venue_peer = venue_peer;
}

-- the number up to a bound that a text writes
abbrev pub NumberSays : (most : ℕ) → List ℕ → Option ℕ → Type 0
NumberSays most text (Some number) = (number ≤ most) × (text ≡ decimal number)
NumberSays most text None = (number : ℕ) → number ≤ most → text ≢ decimal number

-- HeartBtInt(108) of at most an hour, and a minute of the day, where there is one
abbrev pub AreTimes : ℕ → Option ℕ → Type 0
AreTimes heart reset = (heart ≤ 3600) × IfSome reset (λ minute. minute ≤ 1439)

-- the seconds and the minute that a text writes
abbrev pub TimesSay : List ℕ → Option (ℕ × Option ℕ) → Type 0
TimesSay text (Some (heart, reset)) = AreTimes heart reset × (cuts 32 text ≡ times heart reset)
TimesSay text None =
    (heart : ℕ) (reset : Option ℕ) → AreTimes heart reset → cuts 32 text ≢ times heart reset

pub record AreNames (names : Names) : Type 0 where
  pub client_our : IsName names.client_our
  pub client_peer : IsName names.client_peer
  pub venue_our : IsName names.venue_our
  pub venue_peer : IsName names.venue_peer

-- the names and the times of a line, or it is the line of none
abbrev pub NamesLine : List ℕ → Option (Names × ℕ × Option ℕ) → Type 0
NamesLine line (Some (names, heart, reset)) =
    AreNames names × AreTimes heart reset × (line ≡ names_line names heart reset)
NamesLine line None =
    (names : Names) (heart : ℕ) (reset : Option ℕ) → AreNames names → AreTimes heart reset
    → line ≢ names_line names heart reset

-- the first two lines of a text, and what stands behind them
pub record IsHeader (text : List ℕ) (names : Names) (heart : ℕ) (reset : Option ℕ) (rest : List ℕ)
    : Type 0 where
  pub named : AreNames names
  pub bounded : AreTimes heart reset
  pub lines : parts text ≡ title ∷ names_line names heart reset ∷ parts rest

-- a fault names the first line outside
abbrev pub Faults : List ℕ → CaptureFault → Type 0
Faults text (Line number) = FirstOutside text number
Faults text NoMemory = Unit {0}
