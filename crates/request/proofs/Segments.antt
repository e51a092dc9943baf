-- The segments in turn, by the first that is bad.
use Rattle.std.proofs.Common.{◌≡◌, ℕ, ◌+◌, Bool, true, false, cond, List, [], ◌∷◌, Some, Ok, Err, Option, Result, sym, refl, ap, ◌∙◌}
use Rattle.std.specs.List.{position, position_from}
use Rattle.std.proofs.lemmas.Iterator.Adapters.{position_from-zero}
use Rattle.rules.specs.Refusal.{if_some}
use Rattle.blkif.specs.declared.block.Segment.{Segment}
use Rattle.ring.specs.declared.fault.RingFault.TheVariants.{BadSegment}
use Rattle.request.specs.Check.{miss, bad_segment, segment_verdict}
use Rattle.request.specs.declared.fields.Miss.{Miss}

abbrev met : Option ℕ → Result Unit Miss
met o = if_some o (Ok tt) (λ k. Err (miss BadSegment k))

one_more : (b : Bool) (i : ℕ) (o : Option ℕ) → cond b (Err (miss BadSegment i)) (met o) ≡ met (cond b (Some i) o)
one_more true i o = refl
one_more false i o = refl

met_from : (i : ℕ) (ss : List Segment) → segment_verdict i ss ≡ met (position_from bad_segment i ss)
met_from i [] = refl
met_from i (s ∷ ss) = ap (cond (bad_segment s) (Err (miss BadSegment i))) (met_from (i + 1) ss) ∙ one_more (bad_segment s) i (position_from bad_segment (i + 1) ss)

pub met_first : (ss : List Segment) → segment_verdict 0 ss ≡ met (position bad_segment ss)
met_first ss = met_from 0 ss ∙ sym (ap met (position_from-zero bad_segment ss))
