use Rattle.std.proofs.Common.{◌^◌, ◌<◌, get_or, rules}
use Rattle.event.proofs.Bits.{picks}
use Rattle.event.proofs.pending.Events.pick.Goals as goal

pub returns : goal.returns
returns c =
    let w = get_or c.args.self.now.pending c.args.domain.id 0 in
    let fits : w < 2 ^ 32 = search rules in
    let p = picks w fits c.try_from.result c.ok.result c.ok.ensures.value c.try_from.ensures in
    record { value = p.0; pending = p.1 }
