use Rattle.std.proofs.Common.{refl}
use Rattle.law.specs.Step.{step, proceeds}
use Rattle.host.proofs.Steps.{kept_by}
use Rattle.host.proofs.state.Host.end.Goals as goal

pub returns : goal.returns
unfolding step proceeds
returns g c = kept_by g.B.Device.laws g.N.Device.laws c.end.ensures refl
