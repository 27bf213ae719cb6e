use Rattle.std.proofs.Common.{None, Some, refl}
use Rattle.message_tables.proofs.ByPlace.{value_by_place}
use Rattle.message_tables.proofs.lookup.FieldsLookup.value.Goals as goal

pub returns-in-None : goal.returns-in-None
returns-in-None c =
    value_by_place c.args.tag c.args.self.now None None c.in-None.ensures.place refl

pub returns-in-Some : goal.returns-in-Some
returns-in-Some c = value_by_place c.args.tag c.args.self.now (Some c.in-Some.place) _
    c.in-Some.ensures.place c.field.ensures
