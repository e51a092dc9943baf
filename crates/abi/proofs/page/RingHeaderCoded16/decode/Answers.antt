use Rattle.std.proofs.Common.{refl, rules}
use Rattle.abi.specs.Page.{ring_header}
use Rattle.layout.proofs.Codec.{decodes}
use Rattle.abi.proofs.page.RingHeaderCoded16.decode.Goals as goal

pub returns : goal.returns
returns c = decodes ring_header c.args.bytes.now _ c.fits-bytes (search rules) refl
