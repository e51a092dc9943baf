use Rattle.std.proofs.Common.{◌≡◌, ◌^◌, ◌<◌, [], ◌∷◌, get_or, ap, arith, w16, to_z, of_z, rules}
use Rattle.std.proofs.lemmas.Int.{of_z-to_z}
use Rattle.layout.specs.Layout.{read, number}
use Rattle.blkif.specs.Block.{block_response}
use Rattle.blkif.specs.declared.block.BlockResponse.{BlockResponse}
use Rattle.layout.proofs.Codec.{decodes}
use Rattle.blkif.proofs.block.BlockResponseCoded16.decode.Goals as goal

pub returns : goal.returns
returns c =
    let bs = c.args.bytes.now in
    let m : BlockResponse = record { id = c.from_le_bytes.result; operation = get_or bs 8 0; status = to_z w16 (of_z w16 c.from_le_bytes-2.result) } in
    let e : m ≡ block_response.of (read block_response.layout bs) = search rules in
    let v : number 2 10 bs < 2 ^ 16 = omega (arith, c.fits-bytes 10, c.fits-bytes 11) in
    decodes block_response bs m c.fits-bytes e (ap (λ s. number 8 0 bs ∷ number 1 8 bs ∷ s ∷ []) (of_z-to_z w16 (number 2 10 bs) v))
