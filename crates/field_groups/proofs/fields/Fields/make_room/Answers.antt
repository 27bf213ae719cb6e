use Rattle.std.proofs.Common.{◌∙◌, subst}
use Rattle.field_groups.specs.Index.{IsIndexed}
use Rattle.field_groups.proofs.Indexing.{Parts}
use Rattle.field_groups.proofs.Places.{none_mapped}
use Rattle.field_groups.proofs.fields.Fields.make_room.Goals as goal

pub invariant_of-self : goal.invariant_of-self
invariant_of-self c =
    rw c.in_ok-self-inside.ensures.items
    (subst (λ (parts : Parts). IsIndexed parts c.self.inside.first)
    (none_mapped _ c.self.inside.parts.items (c.self.view_is ∙ c.requires)) c.self.invariant)
