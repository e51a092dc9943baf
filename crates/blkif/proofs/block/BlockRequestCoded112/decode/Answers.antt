use Rattle.std.proofs.Common.{◌≡◌, ◌<◌, ◌≤◌, [], ◌∷◌, ◌++◌, length, get_or, sym, refl, ap, ◌∙◌, ap₂, arith}
use Rattle.std.proofs.lemmas.List.{take_more_set, take_all, length-set}
use Rattle.layout.specs.Layout.{number, read}
use Rattle.blkif.specs.Block.{block_request}
use Rattle.blkif.specs.declared.block.BlockRequest.{BlockRequest}
use Rattle.layout.proofs.Codec.{decodes}
use Rattle.blkif.proofs.Segments.{segments_at, segments_at_more}
use Rattle.blkif.proofs.block.BlockRequestCoded112.decode.Goals as goal

pub loop-i-preserved : goal.loop-i-preserved
loop-i-preserved c =
    let i = c.loop-i.i in
    let s = c.loop-i.segments in
    let h : i < length s = omega (arith, c.loop-i.invariant.0) in (
      length-set s i c.segment_at.result ∙ c.loop-i.invariant.0,
      take_more_set s i c.segment_at.result h ∙ ap₂ (λ x y. x ++ y ∷ []) c.loop-i.invariant.1 c.segment_at.ensures
          ∙ sym (segments_at_more i 24 c.args.slot.now),
    )

pub returns : goal.returns
returns c =
    let bs = c.args.slot.now in
    let i = c.loop-i.i in
    let s = c.loop-i.segments in
    let full : length s ≤ i = omega (arith, c.loop-i.invariant.0) in
    let last : i ≡ 11 = omega (arith, c.loop-i.invariant.0) in
    let ss : s ≡ segments_at 11 24 bs = sym (take_all i s full) ∙ c.loop-i.invariant.1 ∙ ap (λ n. segments_at n 24 bs) last in
    let o : get_or bs 0 0 ≡ number 1 0 bs = omega arith in
    let n : get_or bs 1 0 ≡ number 1 1 bs = omega arith in
    let a : c.from_le_bytes.result ≡ number 8 8 bs = omega arith in
    let b : c.from_le_bytes-2.result ≡ number 8 16 bs = omega arith in
    let r : BlockRequest = record { operation = get_or bs 0 0; count = get_or bs 1 0; id = c.from_le_bytes.result; sector = c.from_le_bytes-2.result; segments = s } in
    let e : r ≡ block_request.of (read block_request.layout bs) = cc in
    decodes block_request bs r c.fits-slot e refl
