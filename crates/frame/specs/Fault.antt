-- The numbers of the faults of this layer.
use Rattle.std.specs.Prelude.{ℤ}
use Rattle.abi.specs.Status.{grant_number, house_number}
use Rattle.abi.specs.declared.status.GrantStatus.TheVariants.{BadVirtAddr, PermissionDenied, BadPage}
use Rattle.abi.specs.declared.status.HouseStatus.TheVariants.{Busy}
use Rattle.frame.specs.declared.fault.FrameFault.{FrameFault}
use Rattle.frame.specs.declared.fault.FrameFault.TheVariants.{NoFrame, Owned, NotOwner, Pinned, OutOfFrame, NoAccess}

abbrev pub fault_number : FrameFault → ℤ
fault_number NoFrame = grant_number BadPage
fault_number Owned = house_number Busy
fault_number NotOwner = grant_number BadPage
fault_number Pinned = house_number Busy
fault_number OutOfFrame = grant_number BadVirtAddr
fault_number NoAccess = grant_number PermissionDenied
