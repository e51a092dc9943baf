use Rattle.std.proofs.Common.{sym, ap, ◌∙◌, arith}
use Rattle.queue.specs.Line.{first}
use Rattle.queue.proofs.Turns.{items-first, take_own}
use Rattle.queue.proofs.line.Queue.front_index.Goals as goal

pub returns : goal.returns
returns g c =
    let q = c.args.self.now in
    let h = c.start in
    let n = c.len in
    let p = c.place in
    let own = take_own q.len q.head h.result n.result q.slots.now n.ensures.is h.ensures.is in
    (p.ensures.below (omega arith), items-first h.result n.result p.result q.slots.now h.ensures.bound (omega arith) n.ensures.bound (p.ensures.below (omega arith)) p.ensures.is ∙ sym (ap first own))
