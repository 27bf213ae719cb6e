use Rattle.request_translate.proofs.PlainOrders.{plain_orders}
use Rattle.request_translate.proofs.laws.a_plain_order_is_translated_as_before.Goals as goal

pub returns : goal.returns
returns c = plain_orders
