use Rattle.std.proofs.Common.{List, ℕ, sym, ap, ◌∙◌}
use Rattle.std.specs.Borrow.{Bor}
use Rattle.std.specs.Option.{option_map}
use Rattle.field_groups.specs.Field.{Field}
use Rattle.translation.proofs.CarriedDown.{type_none, type_some}
use Rattle.translation.proofs.head.HeadDown.msg_type.Goals as goal

pub returns-in-Some : goal.returns-in-Some
returns-in-Some c =
    let bare : (ℕ × Bor (List ℕ)) → Field = λ field. (field.0, field.1.now) in
    type_some c.args.self.now.fields.now c.in-Some.tag c.in-Some.value.now
    c.carried_down.result.now
    (sym (ap (option_map bare) c.in-Some.is)
    ∙ c.at.ensures) c.carried_down.ensures

pub returns-in-None : goal.returns-in-None
returns-in-None c =
    let bare : (ℕ × Bor (List ℕ)) → Field = λ field. (field.0, field.1.now) in
    type_none c.args.self.now.fields.now
    (sym (ap (option_map bare) c.in-None.is)
    ∙ c.at.ensures)
