-- The numbers of a line's faults.
use Rattle.std.specs.Prelude.{ℤ}
use Rattle.abi.specs.Status.{errno_number}
use Rattle.abi.specs.declared.status.Errno.TheVariants.{Enospc}
use Rattle.queue.specs.declared.fault.QueueFault.{QueueFault}
use Rattle.queue.specs.declared.fault.QueueFault.TheVariants.{Full}

abbrev pub fault_number : QueueFault → ℤ
fault_number Full = errno_number Enospc
