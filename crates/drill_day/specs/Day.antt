-- Inside: a day while it is made.
use Rattle.std.specs.Prelude.{◌≡◌, ℕ, ◌+◌, ◌≤◌, List, ◌∷◌, ◌++◌, length}
use Rattle.capture_text.specs.declared.capture.Event.{Event}
use Rattle.drill_day.specs.declared.order.Drawn.{Drawn}
use Rattle.drill_day.specs.declared.day.Day.{Day}
use Rattle.drill_day.specs.Drill.{Message, numbered, messages_from}

-- the bounds of an order
pub record IsSmall (order : Drawn) : Type 0 where
  pub quantity : order.quantity ≤ 5000
  pub price : order.price ≤ 99
  pub side : order.side ≤ 2

-- the life of a day, once these messages are sent as well
abbrev pub with_messages : Day → List Message → List Event
with_messages day messages = day.life ++ numbered day.numbers messages

-- .. and once these orders are played, from this number on
abbrev pub with_orders : ℕ → Day → List Drawn → List Event
with_orders number day orders = with_messages day (messages_from number day.reports orders)

-- what a day counts is at most this
pub record IsUpTo (limit : ℕ) (day : Day) : Type 0 where
  pub client : day.numbers.client ≤ limit
  pub venue : day.numbers.venue ≤ limit
  pub reports : day.reports ≤ limit

-- these messages were sent, so many of them reports
pub record Adds (messages : List Message) (reports : ℕ) (old new : Day) : Type 0 where
  pub sent : (rest : List Message)
      → with_messages new rest ≡ with_messages old (messages ++ rest)
  pub count : new.reports ≡ old.reports + reports
  pub up_to : (limit : ℕ) → IsUpTo limit old → IsUpTo (limit + length messages) new

-- the order of this number was played
pub record Plays (number : ℕ) (order : Drawn) (old new : Day) : Type 0 where
  pub played : (rest : List Drawn)
      → with_orders (number + 1) new rest ≡ with_orders number old (order ∷ rest)
  pub up_to : (limit : ℕ) → IsUpTo limit old → IsUpTo (limit + 4) new
