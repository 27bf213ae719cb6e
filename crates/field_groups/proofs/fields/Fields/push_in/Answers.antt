use Rattle.std.proofs.Common.{◌≡◌, length, sym, ap, ◌∙◌}
use Rattle.std.proofs.lemmas.List.{length-map}
use Rattle.field_groups.specs.Field.{Field}
use Rattle.field_groups.proofs.Indexing.{pushed_indexed}
use Rattle.field_groups.proofs.fields.Fields.push_in.Goals as goal

pub invariant_of-self-2 : goal.invariant_of-self-2
invariant_of-self-2 c =
    let same : c.len-place.result ≡ length c.self.inside.parts.items = c.len-place.ensures.value
    ∙ ap (length {A = Field}) (sym c.self.view_is)
    ∙ length-map {B = Field} c.self.inside.parts.items _ in
    rw (c.in_ok-push.ensures.items, c.index_place.ensures)
    (pushed_indexed c.self.inside.parts.items c.self.inside.first (c.args.tag, c.args.value)
    c.args.slot c.len-place.result c.requires.slot c.self.invariant same
    (rw c.len-place.ensures.value c.requires.few))
