use Rattle.std.proofs.Common.{◌≡◌, length, is_some, sym, refl, ap, ◌∙◌, arith}
use Rattle.queue.specs.Line.{items, first, rest}
use Rattle.queue.proofs.Turns.{items_pop, nth_default, take_own}
use Rattle.queue.proofs.line.Queue.discard.Goals as goal

pub returns : goal.returns
returns g c =
    let q = c.args.self.now in
    let h = c.start in
    let n = c.len-len in
    let p = c.place-at in
    let below = p.ensures.below (omega arith) in
    let (x, here, read) = nth_default q.slots.now p.result below in
    let own = take_own q.len q.head h.result n.result q.slots.now n.ensures.is h.ensures.is in
    let all = own ∙ items_pop h.result n.result p.result q.slots.now x h.ensures.bound (omega arith) n.ensures.bound below p.ensures.is read in
    record {
      answer = sym (ap (λ xs. is_some (first xs)) all);
      popped = record {
        holds = sym (ap rest all);
        slots = refl;
        none = λ e. absurd (let z : length (items q) ≡ 0 = ap length e in omega (arith, n.ensures.is));
        lent = refl;
      };
    }
