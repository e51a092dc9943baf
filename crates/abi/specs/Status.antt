-- The numbers of refusals.
use Rattle.std.specs.Prelude.{ℤ, negsuc}
use Rattle.abi.specs.declared.status.GrantStatus.{GrantStatus}
use Rattle.abi.specs.declared.status.GrantStatus.TheVariants.{GeneralError, BadDomain, BadGntref, BadHandle, BadVirtAddr, BadDevAddr, NoDeviceSpace, PermissionDenied, BadPage}
use Rattle.abi.specs.declared.status.Errno.{Errno}
use Rattle.abi.specs.declared.status.Errno.TheVariants.{Einval, Enospc}
use Rattle.abi.specs.declared.status.HouseStatus.{HouseStatus}
use Rattle.abi.specs.declared.status.HouseStatus.TheVariants.{Busy, BadRingIndex}

-- Xen's grant_table.h: -1 to -9 (negsuc n is -(n + 1))
abbrev pub grant_number : GrantStatus → ℤ
grant_number GeneralError = negsuc 0
grant_number BadDomain = negsuc 1
grant_number BadGntref = negsuc 2
grant_number BadHandle = negsuc 3
grant_number BadVirtAddr = negsuc 4
grant_number BadDevAddr = negsuc 5
grant_number NoDeviceSpace = negsuc 6
grant_number PermissionDenied = negsuc 7
grant_number BadPage = negsuc 8

-- Xen's errno.h: -22 and -28
abbrev pub errno_number : Errno → ℤ
errno_number Einval = negsuc 21
errno_number Enospc = negsuc 27

-- our own: -41 and -42
abbrev pub house_number : HouseStatus → ℤ
house_number Busy = negsuc 40
house_number BadRingIndex = negsuc 41
