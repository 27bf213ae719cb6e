use Rattle.std.proofs.lemmas.List.{get_or_default}
use Rattle.first_faults.specs.Indexed.{IsApartItem}
use Rattle.first_faults.proofs.ByTags.{at_item}
use Rattle.first_faults.proofs.indexed.are_whole.Goals as goal

pub is_whole_item-requires : goal.is_whole_item-requires
is_whole_item-requires c =
    at_item (IsApartItem c.args.fields.now c.args.span) c.args.items.now c.loop-item.item-index _
    (get_or_default c.args.items.now c.loop-item.item-index _ _ c.loop-item-test.true)
    c.loop-item-test.true c.requires
