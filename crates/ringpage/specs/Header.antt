-- The header of a ring page.
use Rattle.std.specs.Prelude.{ℕ, List}
use Rattle.layout.specs.Layout.{read}
use Rattle.abi.specs.Page.{ring_header}
use Rattle.abi.specs.declared.page.RingHeader.{RingHeader}

-- the header that a page begins with
abbrev pub header_of : List ℕ → RingHeader
header_of page = ring_header.of (read ring_header.layout page)
