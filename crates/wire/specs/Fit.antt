-- Which orders and which slots a wire takes.
use Rattle.std.specs.Prelude.{ℕ, Bool, not, ◌&&◌, List, [], ◌∷◌, Ok, Result, ◌==◌, nat_le, nat_lt}
use Rattle.std.specs.List.{list_all}
use Rattle.rules.specs.Refusal.{refuse_first}
use Rattle.device.specs.declared.orders.Direction.{Direction}
use Rattle.device.specs.declared.orders.Direction.TheVariants.{Inward, Outward}
use Rattle.device.specs.declared.orders.Order.{Order}
use Rattle.device.specs.declared.fault.DeviceFault.{DeviceFault}
use Rattle.device.specs.declared.fault.DeviceFault.TheVariants.{BadSlots}
use Rattle.wire.specs.Packet.{longest}

-- bytes that an inward order has room for
abbrev pub frame : ℕ
frame = 4096

-- packets that may wait
abbrev pub most_waiting : ℕ
most_waiting = 8

-- an order is at place 0, outward of a packet's length, inward of a whole frame
abbrev pub wire_fits : Direction → ℕ → ℕ → Bool
wire_fits Inward place size = place == 0 && size == frame
wire_fits Outward place size = place == 0 && (nat_lt 0 size && nat_le size longest)

-- every order fits
abbrev pub all_fit : List Order → Bool
all_fit os = list_all (λ o. wire_fits o.direction o.place o.length) os

-- as many slots as packets may wait
abbrev pub checked : ℕ → Result Unit DeviceFault
checked slots = refuse_first ((not (slots == most_waiting), BadSlots) ∷ []) (Ok tt)
