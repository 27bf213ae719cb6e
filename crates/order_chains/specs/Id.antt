-- Inside: how an id stands in the set; contracts see its bytes.
use Rattle.std.specs.Prelude.{ℕ, List}
use Rattle.order_chains.specs.declared.id.Id.{Id}
use Rattle.order_chains.specs.declared.id.Id.TheVariants as ids

abbrev pub bytes_of : Id → List ℕ
bytes_of (ids.Short id) = id
bytes_of (ids.Long id) = id.value.items
bytes_of (ids.Lent id) = id.now
