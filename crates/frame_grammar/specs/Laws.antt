-- Own: what the laws of frames say; docs/DEFINITIONS.md lists them.
use Rattle.std.specs.Prelude.{◌≡◌, ℕ, List, ◌++◌}
use Rattle.frame_grammar.specs.declared.frame.Kind.{Kind}
use Rattle.frame_grammar.specs.declared.frame.Garble.{Garble}
use Rattle.frame_grammar.specs.Cause.{IsShortest, BreaksFirst}
use Rattle.frame_grammar.specs.Found.{Whole, Broken, found}
use Rattle.frame_grammar.specs.Frame.{IsFrame}

abbrev pub FindsFramesAlone : Type 0
FindsFramesAlone = (kind : Kind) (text body after : List ℕ) → found kind text ≡ Whole body after
    → (bytes : List ℕ) × IsFrame kind body bytes × (text ≡ bytes ++ after)

abbrev pub FindsEachFrame : Type 0
FindsEachFrame = (kind : Kind) (body bytes after : List ℕ) → IsFrame kind body bytes
    → found kind (bytes ++ after) ≡ Whole body after

-- two frames that begin one text are one
abbrev pub BeginsNoOther : Type 0
BeginsNoOther = (kind : Kind) (body bytes after other_body other other_after : List ℕ)
    → IsFrame kind body bytes → IsFrame kind other_body other
    → bytes ++ after ≡ other ++ other_after
    → (body ≡ other_body) × (bytes ≡ other)

abbrev pub NamesFirstBroken : Type 0
NamesFirstBroken = (kind : Kind) (text : List ℕ) (cause : Garble) (after : List ℕ)
    → found kind text ≡ Broken cause after
    → (front : List ℕ) × (text ≡ front ++ after) × IsShortest kind front
    × BreaksFirst kind cause front
