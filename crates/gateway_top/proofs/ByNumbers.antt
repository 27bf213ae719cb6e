-- What holds of the numbers of a command holds of the command.
use Rattle.std.proofs.Common.{◌≡◌, ℕ, ◌≤◌, sym, ◌∙◌, subst, Some, IfSome, Ok, Err}
use Rattle.std.specs.Prelude.{Result, OnErr}
use Rattle.std.specs.declared.option.Option.{Option}
use Rattle.gateway_top.specs.declared.command.Command.{Command}
use Rattle.gateway_top.specs.declared.command.Command.TheVariants.{Serve, Replay, Drill}
use Rattle.gateway_top.specs.Command.{IsWithin}
use Rattle.gateway_top.specs.Program.{IfServe, IfReplay, IfDrill}

pub if_serve : (command known : Option Command) (rounds : ℕ) (holds : ℕ → Type 0)
    → known ≡ command → known ≡ Some (Serve rounds) → holds rounds → IfServe command holds
if_serve command known rounds holds same is served =
    subst (λ (k : Option Command). IfServe k holds) (sym is ∙ same) served

pub if_replay : (command known : Option Command) (holds : Type 0) → known ≡ command
    → known ≡ Some Replay → holds → IfReplay command holds
if_replay command known holds same is replayed =
    subst (λ (k : Option Command). IfReplay k holds) (sym is ∙ same) replayed

pub if_drill : (command known : Option Command) (first count : ℕ) (holds : ℕ → ℕ → Type 0)
    → known ≡ command → known ≡ Some (Drill first count) → holds first count
    → IfDrill command holds
if_drill command known first count holds same is drilled =
    subst (λ (k : Option Command). IfDrill k holds) (sym is ∙ same) drilled

-- five facts of what did not begin
pub on_err_all : {T E : Type 0} (P Q R S V : Type 0) (answer : Result T E) → OnErr answer P
    → OnErr answer Q → OnErr answer R → OnErr answer S → OnErr answer V
    → OnErr answer (P × Q × R × S × V)
on_err_all P Q R S V (Ok value) p q r s v = tt
on_err_all P Q R S V (Err error) p q r s v = (p, q, r, s, v)

-- the numbers of a drill that was read
pub within : (known : Option Command) (first count : ℕ) → known ≡ Some (Drill first count)
    → IfSome known IsWithin → (first ≤ 65536) × (1 ≤ count) × (count ≤ 10000)
within known first count is holds = subst (λ (k : Option Command). IfSome k IsWithin) is holds
