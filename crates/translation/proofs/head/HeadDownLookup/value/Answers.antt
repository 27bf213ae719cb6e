use Rattle.std.proofs.Common.{List, ℕ, sym, ap, ◌∙◌}
use Rattle.std.specs.Borrow.{Bor}
use Rattle.std.specs.Option.{option_map}
use Rattle.translation.proofs.CarriedDown.{none_down, some_down}
use Rattle.translation.proofs.head.HeadDownLookup.value.Goals as goal

pub returns-in-None : goal.returns-in-None
returns-in-None c =
    none_down c.args.tag c.args.self.now.fields.now
    (sym (ap (option_map (λ (v : Bor (List ℕ)). v.now)) c.in-None.is) ∙ c.value.ensures)

pub returns-in-Some : goal.returns-in-Some
returns-in-Some c =
    some_down c.args.tag c.args.self.now.fields.now c.in-Some.value.now c.carried_down.result.now
    (sym (ap (option_map (λ (v : Bor (List ℕ)). v.now)) c.in-Some.is) ∙ c.value.ensures)
    c.carried_down.ensures
