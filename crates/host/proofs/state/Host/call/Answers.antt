use Rattle.std.proofs.Common.{sym, subst, arith}
use Rattle.event.specs.Pending.{pick}
use Rattle.law.specs.Run.{Kept}
use Rattle.host.specs.Calls.{call_of, reply_of}
use Rattle.host.specs.View.{seen}
use Rattle.host.proofs.Steps.{kept_past}
use Rattle.host.proofs.state.Host.call.Goals as goal

pub returns-then-length-gt-FRAME_SIZE-clause-step : goal.returns-then-length-gt-FRAME_SIZE-clause-step
returns-then-length-gt-FRAME_SIZE-clause-step g c =
    let b = g.B.Device in
    let n = g.N.Device in
    let w = seen c.args.self.now c.args.memory.now (b.meaning c.args.block.now) (n.meaning c.args.net.now) in
    subst (λ k. Kept b.rules n.rules pick w (call_of k) (reply_of k c.load.result c.args.buffer.now) w) (sym c.in-Load.is)
    (kept_past _ _ b.laws n.laws (omega arith) c.if-length-gt-FRAME_SIZE.true c.load.ensures.step)
