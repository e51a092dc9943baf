use Rattle.std.proofs.Common.{◌≡◌, ◌*◌, ◌^◌, ◌≤◌, take}
use Rattle.grant.specs.Tables.{pins}
use Rattle.grant.proofs.maps.pins_of.Given as goal

abbrev pub invariant-loop-record : goal.invariant-loop-record
invariant-loop-record l = (l.sum ≡ pins (take l.record-index l.records) l.frame) × (l.sum ≤ l.record-index * 2 ^ 33)
