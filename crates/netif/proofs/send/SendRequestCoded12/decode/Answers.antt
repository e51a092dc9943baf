use Rattle.std.proofs.Common.{refl, rules}
use Rattle.netif.specs.Send.{send_request}
use Rattle.layout.proofs.Codec.{decodes}
use Rattle.netif.proofs.send.SendRequestCoded12.decode.Goals as goal

pub returns : goal.returns
returns c = decodes send_request c.args.slot.now _ c.fits-slot (search rules) refl
