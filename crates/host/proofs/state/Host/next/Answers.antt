use Rattle.host.proofs.Steps.{kept_next}
use Rattle.host.proofs.state.Host.next.Goals as goal

pub returns : goal.returns
returns g c = kept_next g.B.Device.laws g.N.Device.laws c.next.ensures
