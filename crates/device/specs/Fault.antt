-- The numbers of a device's faults.
use Rattle.std.specs.Prelude.{ℤ}
use Rattle.abi.specs.Status.{grant_number, house_number}
use Rattle.abi.specs.declared.status.GrantStatus.TheVariants.{BadHandle, BadVirtAddr, BadDevAddr}
use Rattle.abi.specs.declared.status.HouseStatus.TheVariants.{Busy}
use Rattle.device.specs.declared.fault.DeviceFault.{DeviceFault}
use Rattle.device.specs.declared.fault.DeviceFault.TheVariants.{NoFit, TicketInHand, Full, BadTicket, BadMemory, BadSlots}

abbrev pub fault_number : DeviceFault → ℤ
fault_number NoFit = grant_number BadDevAddr
fault_number TicketInHand = grant_number BadHandle
fault_number Full = house_number Busy
fault_number BadTicket = grant_number BadHandle
fault_number BadMemory = grant_number BadVirtAddr
fault_number BadSlots = grant_number BadVirtAddr
