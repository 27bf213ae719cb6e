use Rattle.std.proofs.Common.{◌∙◌, sym, eqb}
use Rattle.field_groups.specs.Field.{Field}
use Rattle.field_groups.proofs.Indexing.{own_place, found_within}
use Rattle.field_groups.proofs.Places.{position-map}
use Rattle.field_groups.proofs.fields.Fields.find.Goals as goal

pub returns-then-tag-lt-OWN-clause-place : goal.returns-then-tag-lt-OWN-clause-place
returns-then-tag-lt-OWN-clause-place c =
    rw (← c.self.view_is)
    (c.counted_place.ensures ∙ sym (own_place c.self.inside.parts.items c.self.inside.first
    c.args.tag c.self.invariant c.if-tag-lt-OWN.true) ∙ sym (position-map (λ (f : Field).
    eqb f.0 c.args.tag) (λ part. (part.0, part.1.now)) c.self.inside.parts.items))

pub returns-then-tag-lt-OWN-clause-within : goal.returns-then-tag-lt-OWN-clause-within
returns-then-tag-lt-OWN-clause-within c =
    found_within (λ (f : Field). eqb f.0 c.args.tag) c.args.self.now c.counted_place.result
    (returns-then-tag-lt-OWN-clause-place c)

pub returns-else-tag-lt-OWN-clause-within : goal.returns-else-tag-lt-OWN-clause-within
returns-else-tag-lt-OWN-clause-within c =
    found_within (λ (f : Field). eqb f.0 c.args.tag) c.args.self.now c.find_shared.result
    c.find_shared.ensures.place
