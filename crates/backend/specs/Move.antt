-- The bytes of a job are moved, segment by segment, between memory and a device.
use Rattle.std.specs.Prelude.{◌≡◌, ℕ, List, length, Result}
use Rattle.device.specs.Meaning.{Rules}
use Rattle.device.specs.Transfer.{filling_parts, filled_parts, draining_parts, drained_parts}
use Rattle.device.specs.declared.orders.Direction.{Direction}
use Rattle.device.specs.declared.orders.Direction.TheVariants.{Inward, Outward}
use Rattle.device.specs.declared.fault.DeviceFault.{DeviceFault}
use Rattle.device.specs.declared.transfer.Part.{Part}
use Rattle.connection.specs.Tables.{parts_of}
use Rattle.connection.specs.declared.tables.Job.{Job}

module _ {M : Type 0} (R : Rules M) where
  -- inward the parts are filled in turn, outward drained; the first that is refused refuses the whole
  abbrev pub moving : Direction → ℕ → List Part → List ℕ → M → Result Unit DeviceFault
  moving Inward t ps m x = filling_parts R x t 0 ps (length m)
  moving Outward t ps m x = draining_parts R x t 0 ps m

  -- what was filled or drained before it stays so
  abbrev pub moved_memory : Direction → ℕ → List Part → List ℕ → M → List ℕ
  moved_memory Inward t ps m x = filled_parts R x t 0 ps m
  moved_memory Outward t ps m x = m

  abbrev pub moved_device : Direction → ℕ → List Part → List ℕ → M → M
  moved_device Inward t ps m x = x
  moved_device Outward t ps m x = drained_parts R x t 0 ps m

  -- the bytes of the job j, under the ticket t
  pub record Moved (t : ℕ) (j : Job) (m : List ℕ) (x : M) (r : Result Unit DeviceFault) (m' : List ℕ) (x' : M) : Type 0 where
    pub answer : r ≡ moving j.direction t (parts_of j) m x
    pub memory : m' ≡ moved_memory j.direction t (parts_of j) m x
    pub device : x' ≡ moved_device j.direction t (parts_of j) m x
