-- Worked lines of replays, by computation alone.
use Rattle.std.proofs.Common.{◌≡◌, [], ◌∷◌, ◌++◌, refl, true, false}
use Rattle.std.specs.Prelude.{codes}
use Rattle.std.specs.Fmt.{digits}
use Rattle.wires.specs.Wire.{Poll, Send, HangUp, Opened, Bytes}
use Rattle.replay_lines.specs.Pieces.{pieces_of}
use Rattle.replay_lines.specs.ReplayLines.{life_lines, last_lines, drill_lines}

life : life_lines 1 [] (((codes "8=FIXT.1.1" ++ 1 ∷ []) ∷ codes "x" ∷ []) ∷ [] ∷ []) (codes "Done")
    ≡ codes "life 1\nvenue 1\n> 8=FIXT.1.1|\n> x\nvenue 2\nend Done\n"
unfolding digits
life = refl

last : last_lines 3 (1, 1, 1, 2) ≡ codes "entries 3\nnext 1 1 1 2\n"
unfolding digits
last = refl

drill : drill_lines 1 2 (1, 1, 0, 0) (codes "Done") 12 (4, 8, 7, 5)
    ≡ codes "drill 1 2\nkinds 1 1 0 0\nend Done\nentries 12\nnext 4 8 7 5\n"
unfolding digits
drill = refl

-- what was written, send by send; ten bytes of a send that failed are a piece
pieces : pieces_of (Poll Opened ∷ Send (codes "a") (codes "a") true ∷ Poll (Bytes (codes "in"))
    ∷ Send (codes "12345678901") (codes "1234567890") false ∷ Poll Opened ∷ HangUp ∷ [])
    ≡ (codes "a" ∷ codes "1234567890" ∷ []) ∷ [] ∷ []
pieces = refl
