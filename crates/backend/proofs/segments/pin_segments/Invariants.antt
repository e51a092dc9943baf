use Rattle.std.proofs.Common.{◌≡◌, drop}
use Rattle.request.specs.Content.{listed}
use Rattle.backend.specs.Segments.{pin_all}
use Rattle.backend.proofs.segments.pin_segments.Given as goal

abbrev pub invariant-loop-span : goal.invariant-loop-span
invariant-loop-span l = (l.job.count ≡ l.span-index)
    × (pin_all l.frames l.guest l.job.count l.job l.grants (drop l.span-index l.span-items) ≡ pin_all l.frames l.guest 0 l.initial.job l.initial.grants (listed l.spans))
