-- A job that is handed over is the request's own.
use Rattle.std.proofs.Common.{◌≡◌, ℕ, ◌+◌, List, [], ◌∷◌, ap}
use Rattle.frame.specs.declared.owners.Frames.{Frames}
use Rattle.grant.specs.Map.{map_verdict}
use Rattle.grant.specs.Pin.{pin}
use Rattle.grant.specs.declared.tables.Grants.{Grants}
use Rattle.request.specs.declared.content.Span.{Span}
use Rattle.connection.specs.declared.tables.Job.{Job}
use Rattle.backend.specs.Look.{own_job}
use Rattle.backend.specs.Segments.{mode_for, part_in, with_segment, MappingDone, pin_all}
use Rattle.backend.specs.declared.consumed.Consumed.{Consumed}
use Rattle.law.proofs.Cases.{by_either}

-- mapping its segments leaves whose job it is
pub still_own : (t : Consumed) (F : Frames) (guest i : ℕ) (j : Job) (G : Grants) (ss : List Span)
    → own_job t j ≡ j → own_job t (pin_all F guest i j G ss).job ≡ (pin_all F guest i j G ss).job
still_own t F guest i j G [] own = own
still_own t F guest i j G (s ∷ ss) own =
    by_either (λ (m : MappingDone). own_job t m.job ≡ m.job) (map_verdict F G 0 guest s.reference (mode_for j.direction)) _ _
    (λ g _. still_own t F guest (i + 1) (with_segment i g.handle (part_in g.mapping.frame s) j) (pin 0 g.handle g.mapping G) ss
    (ap (with_segment i g.handle (part_in g.mapping.frame s)) own))
    (λ e _. own)
