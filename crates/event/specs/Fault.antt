-- The numbers of the faults of this layer.
use Rattle.std.specs.Prelude.{ℤ}
use Rattle.abi.specs.Status.{errno_number}
use Rattle.abi.specs.declared.status.Errno.TheVariants.{Einval}
use Rattle.event.specs.declared.fault.EventFault.{EventFault}
use Rattle.event.specs.declared.fault.EventFault.TheVariants.{BadPort}

abbrev pub fault_number : EventFault → ℤ
fault_number BadPort = errno_number Einval
