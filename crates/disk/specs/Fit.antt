-- Which orders and which memory a disk takes.
use Rattle.std.specs.Prelude.{ℕ, ◌+◌, ◌*◌, ◌%◌, Bool, not, ◌&&◌, List, [], ◌∷◌, Ok, Result, ◌==◌, nat_le, nat_lt}
use Rattle.std.specs.List.{list_all}
use Rattle.rules.specs.Refusal.{refuse_first}
use Rattle.device.specs.declared.orders.Order.{Order}
use Rattle.device.specs.declared.fault.DeviceFault.{DeviceFault}
use Rattle.device.specs.declared.fault.DeviceFault.TheVariants.{BadMemory, BadSlots}

-- bytes to a sector
abbrev pub sector_size : ℕ
sector_size = 512

-- sectors to a disk, at most
abbrev pub most_sectors : ℕ
most_sectors = 128

-- orders in hand, at most
abbrev pub most_orders : ℕ
most_orders = 4

-- where a sector begins
abbrev pub sector : ℕ → ℕ
sector place = place * sector_size

-- an order on a disk of n bytes: whole sectors, at least one, that end within the disk
abbrev pub fits_in : ℕ → ℕ → ℕ → Bool
fits_in n place size = nat_lt 0 size && (size % sector_size == 0 && nat_le (sector place + size) n)

-- the orders end within a disk of n bytes
abbrev pub all_within : ℕ → List Order → Bool
all_within n os = list_all (λ o. nat_le (sector o.place + o.length) n) os

-- 1 to 128 whole sectors of memory, and four slots
abbrev pub checked : ℕ → ℕ → Result Unit DeviceFault
checked size slots = refuse_first
    (((size == 0), BadMemory)
    ∷ (nat_lt (sector most_sectors) size, BadMemory)
    ∷ (not (size % sector_size == 0), BadMemory)
    ∷ (not (slots == most_orders), BadSlots)
    ∷ []) (Ok tt)
