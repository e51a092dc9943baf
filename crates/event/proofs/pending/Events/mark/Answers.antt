use Rattle.std.proofs.Common.{◌≡◌, length, rules}
use Rattle.event.proofs.Bits.{marking}
use Rattle.event.proofs.pending.Events.mark.Goals as goal

pub returns-clause-only : goal.returns-clause-only
returns-clause-only c =
    let size : length c.args.self.now.pending ≡ 8 = search rules in
    marking c.args.self.now.pending c.args.domain.id c.args.port.number size c.args.domain.below c.args.port.below
