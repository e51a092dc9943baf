-- Responses: of the kind of the request, with its id and operation.
use Rattle.std.specs.Prelude.{ℕ, ◌%◌, ◌^◌, List, ℤ}
use Rattle.layout.specs.Layout.{written}
use Rattle.abi.specs.declared.page.Kind.{Kind}
use Rattle.abi.specs.declared.page.Kind.TheVariants.{Block, Send, Receive}
use Rattle.blkif.specs.Block.{block_response}
use Rattle.netif.specs.Send.{send_response}
use Rattle.netif.specs.Receive.{receive_response}

-- the bytes of a response to the request with this id and operation; a receive's offset and flags are 0
abbrev pub response_bytes : Kind → ℕ → ℕ → ℤ → List ℕ
response_bytes Block id operation status = written block_response.layout (block_response.values (record { id = id; operation = operation; status = status }))
response_bytes Send id operation status = written send_response.layout (send_response.values (record { id = id % 2 ^ 16; status = status }))
response_bytes Receive id operation status = written receive_response.layout (receive_response.values (record { id = id % 2 ^ 16; offset = 0; flags = 0; status = status }))
