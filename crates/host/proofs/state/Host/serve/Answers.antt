use Rattle.std.proofs.Common.{Err, sym, ap, ◌∙◌}
use Rattle.std.proofs.lemmas.Result.{err_from_is_err_and}
use Rattle.law.specs.Step.{proceeds, served_in}
use Rattle.host.specs.View.{seen}
use Rattle.host.proofs.Bays.{kept_refused, kept_block, kept_net}
use Rattle.host.proofs.state.Host.serve.Goals as goal

pub returns-in_err-fitting : goal.returns-in_err-fitting
returns-in_err-fitting g c =
    let p = err_from_is_err_and c.from_residual.result c.from_residual.ensures.1 in
    kept_refused g.B.Device.laws g.N.Device.laws c.in_err-fitting.ensures.answer (p.1 ∙ ap Err p.2)

pub returns-in-BlockBay : goal.returns-in-BlockBay
unfolding proceeds
returns-in-BlockBay g c =
    let b = g.B.Device in
    let n = g.N.Device in
    let w = seen c.args.self.now c.args.memory.now (b.meaning c.args.block.now) (n.meaning c.args.net.now) in
    kept_block b.laws n.laws c.in_ok-fitting.ensures.answer c.serve.ensures c.passed_up.ensures
    (ap (λ k. served_in b.rules n.rules k c.args.connection w) (sym c.serving_bay.ensures ∙ c.in-BlockBay.is))

pub returns-in-NetBay : goal.returns-in-NetBay
unfolding proceeds
returns-in-NetBay g c =
    let b = g.B.Device in
    let n = g.N.Device in
    let w = seen c.args.self.now c.args.memory.now (b.meaning c.args.block.now) (n.meaning c.args.net.now) in
    kept_net b.laws n.laws c.in_ok-fitting.ensures.answer c.serve-in-NetBay.ensures c.passed_up-in-NetBay.ensures
    (ap (λ k. served_in b.rules n.rules k c.args.connection w) (sym c.serving_bay.ensures ∙ c.in-NetBay.is))
