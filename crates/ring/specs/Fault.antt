-- The faults of this layer, and those that it carries whole: their numbers and their layers.
use Rattle.std.specs.Prelude.{ℤ, negsuc}
use Rattle.abi.specs.Status.{grant_number, errno_number, house_number}
use Rattle.abi.specs.declared.status.GrantStatus.TheVariants.{BadHandle}
use Rattle.abi.specs.declared.status.Errno.TheVariants.{Einval, Enospc}
use Rattle.abi.specs.declared.status.HouseStatus.TheVariants.{Busy as BusyNumber, BadRingIndex}
use Rattle.grant.specs.Fault.{fault_number as grant_fault_number}
use Rattle.device.specs.Fault.{fault_number as device_fault_number}
use Rattle.ring.specs.declared.fault.Layer.{Layer}
use Rattle.ring.specs.declared.fault.Layer.TheVariants.{InGrant, InDevice, InRing}
use Rattle.ring.specs.declared.fault.RingFault.{RingFault}
use Rattle.ring.specs.declared.fault.RingFault.TheVariants.{BadKind, NoConnection, NotLive, BadIndex, Busy, BadBay, NoJob, HasJobs, BadOperation, BadCount, BadSegment, BadSpan, Unfit, OfGrant, OfDevice}

-- the statuses by which a request is answered at once: -2 for an operation that there is not, -1 for all else
abbrev pub not_supported : ℤ
not_supported = negsuc 1

abbrev pub refused : ℤ
refused = negsuc 0

-- what the guest is told of a request that met the fault
abbrev pub status_of : RingFault → ℤ
status_of BadKind = refused
status_of NoConnection = refused
status_of NotLive = refused
status_of BadIndex = refused
status_of Busy = refused
status_of BadBay = refused
status_of NoJob = refused
status_of HasJobs = refused
status_of BadOperation = not_supported
status_of BadCount = refused
status_of BadSegment = refused
status_of BadSpan = refused
status_of Unfit = refused
status_of (OfGrant e) = refused
status_of (OfDevice e) = refused

-- the number of the fault: one of a request has the status that its guest is told
abbrev pub fault_number : RingFault → ℤ
fault_number BadKind = errno_number Einval
fault_number NoConnection = errno_number Enospc
fault_number NotLive = errno_number Einval
fault_number BadIndex = house_number BadRingIndex
fault_number Busy = house_number BusyNumber
fault_number BadBay = errno_number Einval
fault_number NoJob = grant_number BadHandle
fault_number HasJobs = house_number BusyNumber
fault_number BadOperation = status_of BadOperation
fault_number BadCount = status_of BadCount
fault_number BadSegment = status_of BadSegment
fault_number BadSpan = status_of BadSpan
fault_number Unfit = status_of Unfit
fault_number (OfGrant e) = grant_fault_number e
fault_number (OfDevice e) = device_fault_number e

-- the layer in which the fault was met
abbrev pub layer_of : RingFault → Layer
layer_of BadKind = InRing
layer_of NoConnection = InRing
layer_of NotLive = InRing
layer_of BadIndex = InRing
layer_of Busy = InRing
layer_of BadBay = InRing
layer_of NoJob = InRing
layer_of HasJobs = InRing
layer_of BadOperation = InRing
layer_of BadCount = InRing
layer_of BadSegment = InRing
layer_of BadSpan = InRing
layer_of Unfit = InRing
layer_of (OfGrant e) = InGrant
layer_of (OfDevice e) = InDevice
