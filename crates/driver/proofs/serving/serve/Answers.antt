use Rattle.std.proofs.Common.{◌≡◌, IfSome, Err, Option, sym, ap, ◌∙◌, subst}
use Rattle.std.specs.Option.{option_map}
use Rattle.rules.specs.Refusal.{if_some}
use Rattle.ring.specs.declared.fault.RingFault.TheVariants.{NotLive}
use Rattle.connection.specs.Tables.{connection_at}
use Rattle.connection.specs.declared.number.ConnectionNumber.{ConnectionNumber}
use Rattle.connection.specs.declared.tables.Connection.{Connection}
use Rattle.law.specs.Serve.{served, served_on}
use Rattle.driver.proofs.Leaving.{found_there, leaves_by}
use Rattle.driver.proofs.serving.serve.Goals as goal

pub serve_live-requires : goal.serve_live-requires
serve_live-requires g c =
    let is = found_there c.live.result NotLive (c.in_ok-number.number, c.in_ok-number.connection) (sym c.ok_or.ensures.value ∙ c.in_ok-number.was) in
    let number : c.in_ok-number.number.number ≡ c.args.number =
    subst (λ (o : Option (ConnectionNumber × Connection)). IfSome o (λ l. l.0.number ≡ c.args.number)) is c.live.ensures.number in
    ap (connection_at c.args.tables.now.rings) number ∙ sym c.live.ensures.value ∙ ap (option_map (λ (l : ConnectionNumber × Connection). l.1)) is

pub returns : goal.returns
unfolding served
returns g c =
    let D = g.D.Device.rules in
    let x = g.D.Device.meaning c.args.device.now in
    let H = c.args.tables.now in
    let m = c.args.memory.now in
    let k = c.in_ok-number.connection in
    let is = found_there c.live.result NotLive (c.in_ok-number.number, k) (sym c.ok_or.ensures.value ∙ c.in_ok-number.was) in
    let number : c.in_ok-number.number.number ≡ c.args.number =
    subst (λ (o : Option (ConnectionNumber × Connection)). IfSome o (λ l. l.0.number ≡ c.args.number)) is c.live.ensures.number in
    leaves_by _ _ _ _ _ _
    (ap (λ (o : Option Connection). if_some o (record { answer = Err NotLive; host = H; memory = m; device = x }) (λ l. served_on D c.args.number l H m x)) (sym c.live.ensures.value ∙ ap (option_map (λ (l : ConnectionNumber × Connection). l.1)) is)
    ∙ ap (λ i. served_on D i k H m x) (sym number))
    c.serve_live.ensures
