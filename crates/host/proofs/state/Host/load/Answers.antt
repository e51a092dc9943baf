use Rattle.table_calls.proofs.Granting.{left_alone}
use Rattle.host.proofs.Steps.{kept_loaded}
use Rattle.host.proofs.state.Host.load.Goals as goal

pub returns : goal.returns
returns g c =
    let e = c.load.ensures in
    record {
      step = kept_loaded _ g.B.Device.laws g.N.Device.laws e.answer e.filled;
      untouched = left_alone _ _ _ _ _ _ e.answer e.filled;
    }
