use Rattle.std.proofs.Common.{◌∙◌, ap, sym, eqb}
use Rattle.field_groups.specs.Field.{Field}
use Rattle.field_groups.proofs.Indexing.{absent, present}
use Rattle.field_groups.proofs.Places.{position-map}
use Rattle.field_groups.proofs.fields.Fields.find_shared.Goals as goal

pub returns-in_err-place-clause-place : goal.returns-in_err-place-clause-place
returns-in_err-place-clause-place c =
    let none = absent c.self.inside.parts.items c.self.inside.first c.args.tag c.slot_of.result
    c.self.invariant c.slot_of.ensures.value c.slot_of.ensures.within
    (sym c.counted_place.ensures ∙ c.in_err-place.was) in
    rw (← c.self.view_is)
    (c.from_residual.ensures ∙ sym none ∙ sym (position-map (λ (f : Field). eqb f.0 c.args.tag)
    (λ part. (part.0, part.1.now)) c.self.inside.parts.items))

pub returns-then-index-tag-clause-place : goal.returns-then-index-tag-clause-place
returns-then-index-tag-clause-place c =
    let found = present c.self.inside.parts.items c.self.inside.first c.args.tag c.slot_of.result
    c.self.invariant c.slot_of.ensures.value c.slot_of.ensures.within c.in_ok-place.place
    c.index.result.now (sym c.counted_place.ensures ∙ c.in_ok-place.was)
    (sym (ap (λ part. part.0) c.index.ensures) ∙ c.if-index-tag.true) in
    rw (← c.self.view_is)
    (sym found ∙ sym (position-map (λ (f : Field). eqb f.0 c.args.tag)
    (λ part. (part.0, part.1.now)) c.self.inside.parts.items))

pub returns-clause-place : goal.returns-clause-place
returns-clause-place c =
    rw (← c.self.view_is)
    (c.first_place.ensures ∙ rw c.deref.ensures.value (sym (position-map (λ (f : Field).
    eqb f.0 c.args.tag) (λ part. (part.0, part.1.now)) c.self.inside.parts.items)))
