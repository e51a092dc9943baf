-- The request in a slot.
use Rattle.std.specs.Prelude.{ℕ, List}
use Rattle.layout.specs.Layout.{read_at}
use Rattle.blkif.specs.Block.{block_request}
use Rattle.netif.specs.Send.{send_request}
use Rattle.netif.specs.Receive.{receive_request}
use Rattle.abi.specs.declared.page.Kind.{Kind}
use Rattle.abi.specs.declared.page.Kind.TheVariants.{Block, Send, Receive}
use Rattle.ringpage.specs.declared.slot.Request.{Request}
use Rattle.ringpage.specs.declared.slot.Request.TheVariants.{OfBlock, OfSend, OfReceive}

-- the request of this kind that begins at the byte b of some bytes
abbrev pub request_at : Kind → ℕ → List ℕ → Request
request_at Block b bs = OfBlock (block_request.of (read_at b block_request.layout bs))
request_at Send b bs = OfSend (send_request.of (read_at b send_request.layout bs))
request_at Receive b bs = OfReceive (receive_request.of (read_at b receive_request.layout bs))
