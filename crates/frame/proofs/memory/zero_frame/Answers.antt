use Rattle.std.proofs.Common.{◌≡◌, ℕ, ◌-◌, length, replicate, ap, ◌∙◌, sym, arith}
use Rattle.std.specs.List.{between}
use Rattle.std.proofs.lemmas.List.Edits.{length-between}
use Rattle.std.proofs.lemmas.List.{length-replicate}
use Rattle.frame.proofs.Placing.{put_is_placed, written}
use Rattle.frame.proofs.memory.zero_frame.Goals as goal

pub returns : goal.returns
returns c =
    let m = c.args.memory.now in
    let r = c.in_ok-range.range in
    let zeros = replicate {A = ℕ} 4096 0 in
    let z : length zeros ≡ 4096 = length-replicate {A = ℕ} 4096 0 in
    let n : r.end - r.start ≡ 4096 = omega (arith, c.in_ok-range.ensures.start, c.in_ok-range.ensures.end) in
    let l : length (between r.start r.end m) ≡ 4096 = length-between m r.start r.end c.in_ok-range.ensures.inside ∙ n in
    written _ _ _ _ _ r.start c.in_ok-range.ensures.answer c.in_ok-range.ensures.start
    (put_is_placed r.start (r.end - r.start) m _ zeros (c.fill.ensures.after (λ y e. e) ∙ ap (λ k. replicate k 0) l) (z ∙ sym n))
