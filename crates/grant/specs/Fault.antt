-- The numbers of the faults of this layer.
use Rattle.std.specs.Prelude.{ℤ}
use Rattle.abi.specs.Status.{grant_number, errno_number, house_number}
use Rattle.abi.specs.declared.status.GrantStatus.TheVariants.{GeneralError, BadDomain, BadGntref, BadHandle, NoDeviceSpace, PermissionDenied, BadPage}
use Rattle.abi.specs.declared.status.Errno.TheVariants.{Einval}
use Rattle.abi.specs.declared.status.HouseStatus.TheVariants.{Busy}
use Rattle.grant.specs.declared.fault.GrantFault.{GrantFault}
use Rattle.grant.specs.declared.fault.GrantFault.TheVariants.{NoReference, InUse, BadMode, BadOwner, NoHandle, NotGranted, NotOwners, ReadOnly, PinnedOtherwise, NoMapping}

abbrev pub fault_number : GrantFault → ℤ
fault_number NoReference = grant_number BadGntref
fault_number InUse = house_number Busy
fault_number BadMode = errno_number Einval
fault_number BadOwner = grant_number BadDomain
fault_number NoHandle = grant_number NoDeviceSpace
fault_number NotGranted = grant_number GeneralError
fault_number NotOwners = grant_number BadPage
fault_number ReadOnly = grant_number PermissionDenied
fault_number PinnedOtherwise = grant_number GeneralError
fault_number NoMapping = grant_number BadHandle
