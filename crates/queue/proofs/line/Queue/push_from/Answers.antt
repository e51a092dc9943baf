use Rattle.std.proofs.Common.{◌+◌, [], ◌∷◌, ◌++◌, length, take, sym, refl, ap, ◌∙◌, arith}
use Rattle.std.proofs.lemmas.Bool.{ne_eqb, cond-false, both_ways}
use Rattle.std.proofs.lemmas.List.{length-set}
use Rattle.queue.specs.Line.{turned}
use Rattle.queue.proofs.Turns.{items_push, take_own}
use Rattle.queue.proofs.line.Queue.push_from.Goals as goal

pub returns : goal.returns
returns g c =
    let q = c.args.self.now in
    let x = c.args.item.now in
    let h = c.start-head in
    let n = c.len-len in
    let p = c.place-end in
    let room = ne_eqb _ _ (λ e. c.if-len-size.false (n.ensures.is ∙ e)) in
    let own = take_own q.len q.head h.result n.result q.slots.now n.ensures.is h.ensures.is in
    let one_more = items_push h.result n.result p.result q.slots.now x h.ensures.bound (omega arith) p.ensures.is in
    record {
      answer = sym (cond-false _ _ _ room);
      holds = ap (λ xs. take (n.result + 1) (turned h.result xs)) c.put.ensures ∙ one_more ∙ ap (λ ys. ys ++ x ∷ []) (sym own) ∙ sym (cond-false _ _ _ room);
      size = ap length c.put.ensures ∙ length-set q.slots.now p.result x;
      refused = λ e. absurd (both_ways _ room e);
      lent = refl;
    }
