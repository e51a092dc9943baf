-- The orders in hand.
use Rattle.std.specs.Prelude.{ℕ, Bool, List}
use Rattle.device.specs.declared.orders.Direction.{Direction}
use Rattle.device.specs.declared.orders.Direction.TheVariants.{Inward, Outward}
use Rattle.device.specs.declared.orders.Order.{Order}
use Rattle.wire.specs.declared.hand.Hand.{Hand}

-- orders in hand, at most
abbrev pub most_orders : ℕ
most_orders = 16

-- the orders in hand, in order of acceptance
abbrev pub orders_of : Hand → List Order
orders_of h = h.orders.items

-- whether a way is open, where it is said which are
abbrev pub open_way : Bool → Bool → Direction → Bool
open_way inward outward Inward = inward
open_way inward outward Outward = outward
