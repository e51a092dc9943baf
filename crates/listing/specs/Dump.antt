-- When a dump of a page ends well.
use Rattle.std.specs.Prelude.{◌≡◌, true, is_ok, Ok, Err, Result}
use Rattle.listing.specs.declared.dump.DumpFault.{DumpFault}
use Rattle.listing.specs.declared.dump.DumpFault.TheVariants.{Output, Refused}
use Rattle.ringpage.specs.declared.requests.Outstanding.{Outstanding}
use Rattle.ringpage.specs.declared.requests.Overrun.{Overrun}

-- it ends well only where the ring has room for what its header claims, and is refused as the header is;
-- of output that fails nothing is said
abbrev pub Ended : Result Outstanding Overrun → Result Unit DumpFault → Type 0
Ended v (Ok done) = is_ok v ≡ true
Ended v (Err (Refused o)) = v ≡ Err o
Ended v (Err (Output e)) = Unit {0}
