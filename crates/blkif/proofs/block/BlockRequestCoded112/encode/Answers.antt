use Rattle.std.proofs.Common.{◌≡◌, ◌+◌, ◌-◌, ◌*◌, ◌<◌, ◌++◌, length, get_or, take, sym, ap, ◌∙◌, subst, ap₂, arith, rules}
use Rattle.std.specs.List.{flat_map, AllByRecursion as All}
use Rattle.std.proofs.lemmas.Slice.{take-put_mid, overwrites}
use Rattle.std.proofs.ByRecursion.{All-more}
use Rattle.std.proofs.lemmas.List.{take_all, append_assoc}
use Rattle.layout.specs.Layout.{written, read}
use Rattle.blkif.specs.Block.{block_request, segment_of, segment_layout}
use Rattle.blkif.specs.declared.block.Segment.{Segment}
use Rattle.layout.proofs.Codec.{encodes}
use Rattle.blkif.proofs.Segments.{head_of, bytes_of, Fits, fits_back, fit_segments, joined-take_more, block_back, whole}
use Rattle.blkif.proofs.block.BlockRequestCoded112.encode.Goals as goal

none : Segment
none = record { reference = 0; first = 0; last = 0 }

pub loop-i-preserved : goal.loop-i-preserved
unfolding none
loop-i-preserved c =
    let i = c.loop-i.i in
    let at = 24 + 8 * i in
    let out = c.loop-i.out in
    let m = c.args.self.now in
    let ss = m.segments in
    let len : length ss ≡ 11 = search rules in
    let h : i < length ss = omega arith in
    let l : length out ≡ 112 = c.loop-i.invariant.0 in
    let part = c.copy_from_slice-in-loop-i.new.self in
    let y : part ≡ bytes_of (get_or ss i none) = c.copy_from_slice-in-loop-i.ensures.after ∙ c.encode.ensures.value in
    let eight : length part ≡ 8 = ap length y in (
      search (rules, overwrites),
      take-put_mid at (at + 8 - at) out part (24 + 8 * (i + 1)) (omega arith) (omega arith)
          ∙ ap₂ (λ a b. a ++ b) c.loop-i.invariant.1 y
          ∙ append_assoc (head_of m) (flat_map bytes_of (take i ss)) (bytes_of (get_or ss i none))
          ∙ ap (λ x. head_of m ++ x) (sym (joined-take_more ss i none h)),
      All-more Fits ss i none h c.loop-i.invariant.2 (fits_back (get_or ss i none) (subst (λ b. segment_of (read segment_layout b) ≡ get_or ss i none) c.encode.ensures.value c.encode.ensures.back)),
    )

pub returns : goal.returns
returns c =
    let i = c.loop-i.i in
    let out = c.loop-i.out in
    let m = c.args.self.now in
    let ss = m.segments in
    let len : length ss ≡ 11 = search rules in
    let l : length out ≡ 112 = c.loop-i.invariant.0 in
    let end : i ≡ 11 = omega arith in
    let all : take i ss ≡ ss = take_all i ss (omega arith) in
    let e : out ≡ written block_request.layout (block_request.values m) =
    sym (take_all (24 + 8 * i) out (omega arith)) ∙ c.loop-i.invariant.1 ∙ ap (λ x. head_of m ++ flat_map bytes_of x) all ∙ sym (whole m len) in
    let fits = fit_segments 11 ss len (subst (All Fits) all c.loop-i.invariant.2) in
    encodes block_request m out e (search rules, (search rules, (search rules, (search rules, fits)))) (block_back m len)
