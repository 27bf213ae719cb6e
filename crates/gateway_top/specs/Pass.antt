-- Inside: what a pass over a stream has come to; no clause of run rests on it.
use Rattle.std.specs.Prelude.{◌≡◌, ℕ, false, List, [], ◌++◌, Some, None}
use Rattle.std.specs.declared.option.Option.{Option}
use Rattle.std.specs.Io.KnownBytes.{Appends, Keeps}
use Rattle.outside.specs.Bytes.{AppendsFront}
use Rattle.frame_grammar.specs.declared.pieces.Rest.{Rest}
use Rattle.frame_grammar.specs.Cut.{Piece, Cut}
use Rattle.frame_grammar.specs.Held.{Held}
use Rattle.frame_grammar.specs.Framer.{StandsFor}
use Rattle.gateway_top.specs.Judge.{JudgesAll, end_said, unfinished}
use Rattle.gateway_top.specs.Task.{has_ended, first_of}
use Rattle.gateway_top.specs.declared.task.Task.{Task}
use Rattle.gateway_top.specs.declared.status.Status.{Status}
use Rattle.gateway_top.specs.declared.status.Status.TheVariants.{Done, Refused, OutputFault}
use Rattle.gateway_top.specs.declared.status.Status.TheVariants.{NoMemory}

-- What is there once the pieces that have come were judged, where the framer stood for this stream
-- and these pieces were judged before: more pieces, and what is said of them. Unless the task has
-- ended, each piece that has come whole was judged.
pub record CaughtUp (task : Task) (framer : Held) (stream : List ℕ) (answered : List Piece)
    (refused : Option ℕ) (before old new : List ℕ) : Type 0 where
  pub more : List Piece
  pub said : List ℕ
  pub stands : StandsFor framer stream (answered ++ more)
  pub judges : JudgesAll task [] (answered ++ more) refused (before ++ said)
  pub written : new ≡ old ++ said
  pub waits : has_ended task refused ≡ false → (rest : List ℕ)
      × Cut framer.kind stream (answered ++ more) rest

-- The bytes that came next were fed and their pieces judged, for whatever stream and pieces the
-- framer stood.
abbrev pub Advances : Task → Held → Held → Option ℕ → Option ℕ → List ℕ → List ℕ → Type 0
Advances task old new refused_old refused_new bytes said =
    (stream : List ℕ) (answered : List Piece) (before : List ℕ) → StandsFor old stream answered →
    has_ended task refused_old ≡ false → JudgesAll task [] answered refused_old before →
    CaughtUp task new (stream ++ bytes) answered refused_new before [] said

-- What the end of a stream adds at a status: where the task refused first before it, and how the
-- input ends, are known.
abbrev pub Ends : Task → Rest → Option ℕ → Status → Option (List ℕ) → Option (List ℕ) → Type 0
Ends task end refused Done old new = (first_of refused (unfinished end) ≡ None)
    × Appends old new (end_said task end)
Ends task end refused (Refused at) old new = (first_of refused (unfinished end) ≡ Some at)
    × Appends old new (end_said task end)
Ends task end refused OutputFault old new = AppendsFront old new (end_said task end)
Ends task end refused NoMemory old new = Keeps old new
Ends task end refused status old new = ⊥
