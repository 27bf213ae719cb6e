-- Own: what a task writes for the pieces of its input; docs/DECISIONS.md, "Commands".
use Rattle.std.specs.Prelude.{◌≡◌, ℕ, List, [], ◌∷◌, ◌++◌, length, Some, None, MatchBool}
use Rattle.std.specs.Prelude.{Result, Ok, Err}
use Rattle.std.specs.declared.option.Option.{Option}
use Rattle.frame_grammar.specs.declared.pieces.Rest.{Rest}
use Rattle.frame_grammar.specs.declared.pieces.Rest.TheVariants as rests
use Rattle.frame_grammar.specs.Cut.{Piece, Good, Bad}
use Rattle.frame_grammar.specs.Places.{capped, place_after}
use Rattle.translation.specs.declared.error.TranslateError.{TranslateError}
use Rattle.request_translate.specs.Translation as up
use Rattle.report_translate.specs.Translation as down
use Rattle.order_meaning.specs.declared.Side.TheVariants.{Client, Venue}
use Rattle.translate_fix44.specs.Translation as fix44
use Rattle.translation.specs.Bodies as bodies
use Rattle.gateway_top.specs.Finding.{IsFound, IsFound44, refusal_at}
use Rattle.gateway_top.specs.Line.{frame_line, garbled_line, inside_line}
use Rattle.gateway_top.specs.declared.finding.Finding.{Finding}
use Rattle.gateway_top.specs.Task.{has_ended, first_of}
use Rattle.gateway_top.specs.declared.task.Task.{Task}
use Rattle.gateway_top.specs.declared.task.Task.TheVariants.{TranslateUp, TranslateDown}
use Rattle.gateway_top.specs.declared.task.Task.TheVariants.{CheckClient, CheckVenue}
use Rattle.gateway_top.specs.declared.task.Task.TheVariants.{TranslateUp44, TranslateDown44}
use Rattle.gateway_top.specs.declared.task.Task.TheVariants.{CheckClient44}

-- What a translation writes for a frame that begins here, where its body has these outcomes: the
-- text of a frame, or nothing where there is none, and then it is refused.
abbrev pub Writes : (Result (List ℕ) TranslateError → Type 0) → ℕ → Option ℕ → List ℕ → Type 0
Writes outcome place None said = outcome (Ok said)
Writes outcome place (Some at) said =
    ((error : TranslateError) × outcome (Err error)) × (at ≡ place) × (said ≡ [])

-- What a check writes for a frame that begins here and has these bytes, where this may be found of
-- it: its line. It is refused for what is found.
abbrev pub Tells : (Finding → Type 0) → ℕ → List ℕ → List ℕ → Option ℕ → List ℕ → Type 0
Tells found place body bytes refused said =
    (finding : Finding) × found finding × (refused ≡ refusal_at finding place)
    × (said ≡ frame_line place (length bytes) body finding)

-- What a task writes for a piece that comes behind others, and where that piece begins if it is
-- refused. A translation is written for a request, or a report, that has one, and any other piece
-- is refused. A check writes a line for each piece, and refuses those that are garbled, faulty, not
-- supported or without a counterpart.
abbrev pub Judges : Task → List Piece → Piece → Option ℕ → List ℕ → Type 0
Judges TranslateUp before (Good body bytes) refused said =
    Writes (up.IsOutcome body) (place_after before) refused said
Judges TranslateDown before (Good body bytes) refused said =
    Writes (down.IsOutcome body) (place_after before) refused said
Judges CheckClient before (Good body bytes) refused said =
    Tells (IsFound Client body) (place_after before) body bytes refused said
Judges CheckVenue before (Good body bytes) refused said =
    Tells (IsFound Venue body) (place_after before) body bytes refused said
Judges TranslateUp44 before (Good body bytes) refused said =
    Writes (bodies.IsOutcome fix44.up body) (place_after before) refused said
Judges TranslateDown44 before (Good body bytes) refused said =
    Writes (bodies.IsOutcome fix44.down body) (place_after before) refused said
Judges CheckClient44 before (Good body bytes) refused said =
    Tells (IsFound44 body) (place_after before) body bytes refused said
Judges TranslateUp before (Bad cause bytes) refused said =
    (refused ≡ Some (place_after before)) × (said ≡ [])
Judges TranslateDown before (Bad cause bytes) refused said =
    (refused ≡ Some (place_after before)) × (said ≡ [])
Judges TranslateUp44 before (Bad cause bytes) refused said =
    (refused ≡ Some (place_after before)) × (said ≡ [])
Judges TranslateDown44 before (Bad cause bytes) refused said =
    (refused ≡ Some (place_after before)) × (said ≡ [])
Judges task before (Bad cause bytes) refused said =
    (refused ≡ Some (place_after before))
    × (said ≡ garbled_line (place_after before) (capped (length bytes)) cause)

-- what a task writes for pieces that come behind others, and where the first of them that it
-- refuses begins
abbrev pub JudgesAll : Task → List Piece → List Piece → Option ℕ → List ℕ → Type 0
JudgesAll task before [] refused said = (refused ≡ None) × (said ≡ [])
JudgesAll task before (piece ∷ pieces) refused said =
    (at : Option ℕ) × (now : List ℕ) × (later_at : Option ℕ) × (later : List ℕ) ×
    Judges task before piece at now × (refused ≡ first_of at later_at) × (said ≡ now ++ later) ×
    MatchBool (has_ended task at) ((later_at ≡ None) × (later ≡ []))
    (JudgesAll task (before ++ piece ∷ []) pieces later_at later)

-- what a task writes for the end of the input, and where what is unfinished there begins
abbrev pub end_said : Task → Rest → List ℕ
end_said TranslateUp rest = []
end_said TranslateDown rest = []
end_said TranslateUp44 rest = []
end_said TranslateDown44 rest = []
end_said task rests.Clean = []
end_said task (rests.Inside at len) = inside_line at len
end_said task (rests.Garbled at len cause) = garbled_line at len cause

abbrev pub unfinished : Rest → Option ℕ
unfinished rests.Clean = None
unfinished (rests.Inside at len) = Some at
unfinished (rests.Garbled at len cause) = Some at
