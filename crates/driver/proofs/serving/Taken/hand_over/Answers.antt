use Rattle.std.proofs.Common.{sym, ap, ◌∙◌, ap₂, Some}
use Rattle.request.specs.Check.{miss}
use Rattle.request.specs.Checked.{asked_by}
use Rattle.connection.specs.Tables.{with_job}
use Rattle.backend.specs.Look.{consumed}
use Rattle.backend.specs.Segments.{order_for}
use Rattle.law.specs.World.{with_grants, with_rings}
use Rattle.law.specs.Serve.{answered_now}
use Rattle.driver.specs.Outcomes.{all_mapped}
use Rattle.driver.proofs.Leaving.{leaves_by, answered-leaves, order-taken, order-refused}
use Rattle.driver.proofs.serving.Taken.hand_over.Goals as goal

pub returns-in-Ok : goal.returns-in-Ok
returns-in-Ok g c =
    let H = c.args.tables.now in
    let j = c.args.job.now in
    let a = asked_by c.args.checked.now in
    order-taken g.D.Device.rules c.args.self.token.connection (consumed c.args.self.connection.now) c.args.self.request.now a (all_mapped j H.grants) H c.args.memory.now (g.D.Device.meaning c.args.device.now)
    _ _ _ _ (c.order_for-order.ensures ∙ ap (λ t. order_for t a) c.requires.ticket) c.accept.ensures c.in-Ok.is
    (ap (λ C. with_rings C H) (c.hand_over.ensures.rings ∙ ap₂ (λ t x. with_job t (Some x) H.rings) c.requires.ticket c.requires.own))

pub returns-in-Err : goal.returns-in-Err
returns-in-Err g c =
    let D = g.D.Device.rules in
    let x = g.D.Device.meaning c.args.device.now in
    let H = c.args.tables.now in
    let m = c.args.memory.now in
    let n = c.args.self.token.connection in
    let k = consumed c.args.self.connection.now in
    let q = c.args.self.request.now in
    let a = asked_by c.args.checked.now in
    order-refused D n k q a (all_mapped c.args.job.now H.grants) H m x
    _ _ c.in-Err.fault _ _ _ _ (c.order_for-order.ensures ∙ ap (λ t. order_for t a) c.requires.ticket) c.accept.ensures c.in-Err.is
    (leaves_by _ _ _ _ _ _
    (ap₂ (λ f G. answered_now D n k q f (with_grants G H) m x) (sym (c.into.ensures ∙ ap (λ f. miss f 0) c.from.ensures)) (sym c.unpin_segments.ensures))
    (answered-leaves D n k q c.into.result _ _ _ m x _ _ _ c.requires.live c.args.self.id c.args.self.operation c.refuse.ensures.answer c.refuse.ensures.after))
