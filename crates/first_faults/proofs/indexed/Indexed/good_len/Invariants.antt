use Rattle.std.proofs.Common.{take}
use Rattle.first_faults.specs.Indexed.{AreGoodFields, HaveCome}
use Rattle.first_faults.proofs.indexed.Indexed.good_len.Given as goal

abbrev pub invariant-loop-place : goal.invariant-loop-place
invariant-loop-place l =
    AreGoodFields l.self l.fields l.place l.span × HaveCome l.rows (take l.place l.fields) l.come
