use Rattle.std.proofs.Common.{◌≡◌}
use Rattle.connection.specs.Tables.{handles_of}
use Rattle.backend.specs.Segments.{released_all}
use Rattle.backend.proofs.segments.unpin_segments.Given as goal

abbrev pub invariant-loop-handle : goal.invariant-loop-handle
invariant-loop-handle l = released_all l.handle-iterator.iter.rest.now l.grants ≡ released_all (handles_of l.job) l.initial.grants
