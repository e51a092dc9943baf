use Rattle.std.proofs.Common.{◌≡◌, ◌+◌, ◌*◌, replicate, refl, ap, ◌∙◌, arith, rules}
use Rattle.rules.specs.Refusal.{after_ok}
use Rattle.frame.specs.Memory.{placed}
use Rattle.table_calls.proofs.Granting.{granted}
use Rattle.table_calls.proofs.frames.take.Goals as goal

pub returns : goal.returns
returns c =
    let f = c.args.frame in
    let m = c.args.memory.now in
    let start : 4096 * f + 0 ≡ 4096 * f = omega arith in
    granted _ _ _ _ _ _ _ _ _ _ _ _ c.in_ok-domain.ensures.answer c.in_ok-may_take.ensures refl
    (search rules)
    (c.zero_frame.ensures.after
    ∙ ap (λ a. after_ok a m (λ _. placed (4096 * f + 0) (replicate 4096 0) m)) c.in_ok-zero_frame.was
    ∙ ap (λ k. placed k (replicate 4096 0) m) start)
