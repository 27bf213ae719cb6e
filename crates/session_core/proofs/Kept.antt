-- What the rows of the session table keep.
use Rattle.std.proofs.Common.{ℕ, true, false, if◌then◌else◌, IfOk, Ok, Err}
use Rattle.session_core.specs.declared.session.Step.{Step}
use Rattle.session_core.specs.Table.{settled, counted, is_spent, says, does, spent}

-- ---- the count of a step's messages

-- what holds of a counted step holds of each step that is answered
pub if_settled : (now : ℕ) (t : Step) (P : Step → Type 0)
    → P (does t.acts (counted now (says t.acts) t.next)) → IfOk (settled now t) P
if_settled now t P h =
    elim (is_spent t.next.numbers.next_out (says t.acts)) as (λ b.
    IfOk (if b then Err spent else Ok (does t.acts (counted now (says t.acts) t.next))) P)
    [ true ↦ tt | false ↦ h ]
