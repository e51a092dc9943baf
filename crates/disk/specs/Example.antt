-- An order of 8 sectors on a disk of 32: it fits at place 24, its end being the disk's, and not at 25.
use Rattle.std.specs.Prelude.{◌≡◌, true, false}
use Rattle.disk.specs.Fit.{sector, fits_in}

abbrev pub EightOnThirtyTwo : Type 0
EightOnThirtyTwo = (fits_in (sector 32) 24 (sector 8) ≡ true) × (fits_in (sector 32) 25 (sector 8) ≡ false)
