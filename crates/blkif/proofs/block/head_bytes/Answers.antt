use Rattle.std.proofs.Common.{◌≡◌, rules}
use Rattle.layout.specs.Layout.{le}
use Rattle.blkif.proofs.block.head_bytes.Goals as goal

pub returns : goal.returns
returns c =
    let i : c.to_le_bytes.result ≡ le 8 c.args.id = search rules in
    let s : c.to_le_bytes-2.result ≡ le 8 c.args.sector = search rules in
    simp (i, s) (search rules)
