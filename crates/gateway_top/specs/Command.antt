-- Own: the forms of the command line; docs/DECISIONS.md, "Commands".
use Rattle.std.specs.Prelude.{ℕ, ◌≤◌, Bool, ◌&&◌, nat_le, List, [], ◌∷◌, codes}
use Rattle.std.specs.Prelude.{Some, None, if◌then◌else◌}
use Rattle.std.specs.Fmt.{decimal}
use Rattle.std.specs.Option.{option_map}
use Rattle.std.specs.Str.{bytes_eq}
use Rattle.std.specs.Str.Parse.{digits_value}
use Rattle.std.specs.declared.option.Option.{Option}
use Rattle.gateway_top.specs.declared.command.TheConstants.{MAX_ROUNDS, MAX_FIRST, MAX_COUNT}
use Rattle.gateway_top.specs.declared.command.Command.{Command}
use Rattle.gateway_top.specs.declared.command.Command.TheVariants.{Help, Version, Stream}
use Rattle.gateway_top.specs.declared.command.Command.TheVariants.{Serve, Show, Migrate, Replay}
use Rattle.gateway_top.specs.declared.command.Command.TheVariants.{Drill}
use Rattle.gateway_top.specs.declared.task.Task.TheVariants.{TranslateUp, TranslateDown}
use Rattle.gateway_top.specs.declared.task.Task.TheVariants.{CheckClient, CheckVenue}
use Rattle.gateway_top.specs.declared.task.Task.TheVariants.{TranslateUp44, TranslateDown44}
use Rattle.gateway_top.specs.declared.task.Task.TheVariants.{CheckClient44}

-- a word is this number: its digits, without a zero in front, within these bounds
abbrev pub is_between : (least most number : ℕ) → List ℕ → Bool
is_between least most number word =
    bytes_eq word (decimal number) && (nat_le least number && nat_le number most)

abbrev pub number_in : (least most : ℕ) → List ℕ → Option ℕ
number_in least most word =
    if is_between least most (digits_value 10 word) word then Some (digits_value 10 word) else None

-- the drill of these two numbers
abbrev pub drill_from : Option ℕ → Option ℕ → Option Command
drill_from (Some first) (Some count) = Some (Drill first count)
drill_from first count = None

abbrev pub drill_of : List ℕ → List ℕ → Option Command
drill_of first count = drill_from (number_in 0 MAX_FIRST first) (number_in 1 MAX_COUNT count)

-- the numbers of a drill are within their bounds
abbrev pub IsWithin : Command → Type 0
IsWithin (Drill first count) = (first ≤ MAX_FIRST) × (1 ≤ count) × (count ≤ MAX_COUNT)
IsWithin command = Unit {0}

-- the command of these words, where they are one of the forms
abbrev pub command_of : List (List ℕ) → Option Command
command_of (word ∷ []) =
    if bytes_eq word (codes "--help") then Some Help
    else if bytes_eq word (codes "--version") then Some Version
    else if bytes_eq word (codes "show") then Some Show
    else if bytes_eq word (codes "migrate") then Some Migrate
    else if bytes_eq word (codes "replay") then Some Replay
    else None
command_of (first ∷ second ∷ []) =
    if bytes_eq first (codes "translate") && bytes_eq second (codes "up")
    then Some (Stream TranslateUp)
    else if bytes_eq first (codes "translate") && bytes_eq second (codes "down")
    then Some (Stream TranslateDown)
    else if bytes_eq first (codes "check") && bytes_eq second (codes "client")
    then Some (Stream CheckClient)
    else if bytes_eq first (codes "check") && bytes_eq second (codes "venue")
    then Some (Stream CheckVenue)
    else if bytes_eq first (codes "translate") && bytes_eq second (codes "up44")
    then Some (Stream TranslateUp44)
    else if bytes_eq first (codes "translate") && bytes_eq second (codes "down44")
    then Some (Stream TranslateDown44)
    else if bytes_eq first (codes "check") && bytes_eq second (codes "client44")
    then Some (Stream CheckClient44)
    else if bytes_eq first (codes "serve")
    then option_map (λ rounds. Serve rounds) (number_in 1 MAX_ROUNDS second)
    else None
command_of (first ∷ second ∷ third ∷ []) =
    if bytes_eq first (codes "drill") then drill_of second third else None
command_of words = None

-- WHAT A COMMAND LEAVES ALONE of the input, the output, the disk, the wires with the clock, and the
-- taps, which are then as they were; the words of none leave all.
abbrev pub LeavesAlone : Option Command → (input output disk wires taps : Type 0) → Type 0
LeavesAlone (Some Help) input output disk wires taps = input × disk × wires × taps
LeavesAlone (Some Version) input output disk wires taps = input × disk × wires × taps
LeavesAlone (Some (Stream task)) input output disk wires taps = disk × wires × taps
LeavesAlone (Some (Serve rounds)) input output disk wires taps = output
LeavesAlone (Some Show) input output disk wires taps = input × wires × taps
LeavesAlone (Some Migrate) input output disk wires taps = input × wires × taps
LeavesAlone (Some Replay) input output disk wires taps = disk × wires
LeavesAlone (Some (Drill first count)) input output disk wires taps = input × disk × wires
LeavesAlone None input output disk wires taps = input × output × disk × wires × taps
