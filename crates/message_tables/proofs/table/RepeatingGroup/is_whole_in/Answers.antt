use Rattle.std.proofs.Common.{sym, ap, ◌∙◌, List}
use Rattle.std.proofs.lemmas.List.{length-map}
use Rattle.field_groups.specs.Field.{Field}
use Rattle.message_tables.specs.Tables.{first_of, lines_in}
use Rattle.message_tables.specs.FirstFault.{missing}
use Rattle.message_tables.specs.CodeTables.{seen, group_of, own_tags}
use Rattle.message_tables.proofs.Placed.{lines_behind}
use Rattle.message_tables.proofs.table.RepeatingGroup.is_whole_in.Goals as goal

pub returns-in-None : goal.returns-in-None
returns-in-None g c = λ yes.
    let group = own_tags c.args.self.now in
    let fault =
    λ (line : List Field). first_of (missing line) (group_of (λ k. k) c.args.self.now).rows in
    record {
      placed = λ place within.
          let lt = rw (length-map c.args.fields.now _) at within in
          c.is_placed.ensures c.if-not-is_placed.false place lt;
      said = sym (c.in-None.ensures
          ∙ ap (λ (fields : List Field). first_of fault (lines_in group fields))
          c.rest.ensures.seen
          ∙ ap (first_of fault)
          (lines_behind group (seen c.args.fields.now) c.args.from c.requires.apart.before));
    }
