use Rattle.std.proofs.Common.{◌≡◌, ℕ, ◌+◌, ◌-◌, ◌≤◌, List, ◌++◌, length, take, drop, Ok, Err, Result, ap, ◌∙◌, arith}
use borrow.Rule.Slice.PartMut.{put_mid}
use Rattle.std.specs.List.{between}
use Rattle.std.proofs.lemmas.Grind.{common_steps}
use Rattle.std.proofs.lemmas.List.Edits.{split_between}
use Rattle.rules.specs.Refusal.{after_ok}
use Rattle.device.specs.Meaning.{serving}
use Rattle.device.specs.declared.orders.Direction.TheVariants.{Inward}
use Rattle.device.proofs.transfer.fill_part.Goals as goal

-- the whole after a call that changed the part where it was granted
put_granted : {X T E : Type 0} (a b : ℕ) (xs : List X) (s : Result T E) (f : T → List X) → a ≤ b → put_mid a (b - a) xs (after_ok s (between a b xs) f) ≡ after_ok s xs (λ o. take a xs ++ (f o ++ drop b xs))
put_granted a b xs (Ok o) f le = grind (arith, common_steps)
put_granted a b xs (Err e) f le = grind (arith, common_steps, split_between)

pub returns : goal.returns
returns g c =
    let d = g.D.Device in
    let a = c.args in
    let xs = a.memory.now in
    let m = d.meaning a.device.now in
    let start = a.part.start in
    let end = c.in_ok-end.end in
    let size = length (between start end xs) in
    let put = ap (put_mid start (end - start) xs) c.fill.ensures.filled ∙ put_granted start end xs (serving d.rules m a.ticket Inward (a.at + size)) (λ o. d.rules.bytes m o a.at size) (grind arith) in
    record {
      answer = grind (arith, common_steps);
      after = c.fill.ensures.after;
      memory = put ∙ grind (arith, common_steps);
    }
