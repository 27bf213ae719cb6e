-- A session whose connection ended is down.
use Rattle.std.proofs.Common.{◌≡◌, Bool, false, [], sym, ◌∙◌, ap, Ok, Err, arith}
use Rattle.std.specs.Prelude.{◌+◌, Result, if◌then◌else◌}
use Rattle.session_core.specs.declared.session.Session.{Session}
use Rattle.session_core.specs.declared.session.Spent.{Spent}
use Rattle.session_core.specs.declared.session.Step.{Step}
use Rattle.session_core.specs.Table as session
use Rattle.life_laws.specs.Happens.{standing}

next_of : Session → Result Step Spent → Session
next_of s (Ok t) = t.next
next_of s (Err e) = s

pub closed_down : (s r : Session) → session.step s session.Closed 0 ≡ Ok (session.does [] r)
    → r ≡ session.down s
unfolding next_of
closed_down s r is =
    let none : s.numbers.next_out + 0 ≡ s.numbers.next_out = omega arith in
    sym (ap (next_of s) is)
    ∙ (λ i. record (session.down s) { numbers = record s.numbers { next_out = none i } })

pub down_standing : (up : Bool) (s r : Session) → up ≡ false → r ≡ session.down s
    → r ≡ standing up s
down_standing up s r down is =
    is ∙ sym (ap (λ b. if b then s else session.down s) down)
