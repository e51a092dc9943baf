-- When a request is answered at once by its own fields.
use Rattle.std.specs.Prelude.{ℕ, ◌+◌, Bool, not, ◌||◌, List, [], ◌∷◌, take, Ok, Result, ◌==◌, nat_lt}
use Rattle.blkif.specs.Block.{most_segments}
use Rattle.blkif.specs.declared.block.Segment.{Segment}
use Rattle.rules.specs.Refusal.{Rule, refuse_first}
use Rattle.ringpage.specs.declared.slot.Request.{Request}
use Rattle.ringpage.specs.declared.slot.Request.TheVariants.{OfBlock, OfSend, OfReceive}
use Rattle.ring.specs.declared.fault.RingFault.{RingFault}
use Rattle.ring.specs.declared.fault.RingFault.TheVariants.{BadOperation, BadCount, BadSegment, BadSpan}
use Rattle.request.specs.declared.fields.Miss.{Miss}

-- a fault, and the segment at which it was met, or 0
abbrev pub miss : RingFault → ℕ → Miss
miss fault place = record { fault = fault; place = place }

-- a segment ends before it begins, or past its frame's eight sectors
abbrev pub bad_segment : Segment → Bool
bad_segment s = nat_lt s.last s.first || nat_lt 7 s.last

-- the segments in turn, from the number i on
abbrev pub segment_rules : ℕ → List Segment → List (Rule Miss)
segment_rules i [] = []
segment_rules i (s ∷ ss) = (bad_segment s, miss BadSegment i) ∷ segment_rules (i + 1) ss

abbrev pub segment_verdict : ℕ → List Segment → Result Unit Miss
segment_verdict i ss = refuse_first (segment_rules i ss) (Ok tt)

-- when a request is answered at once, in this order
abbrev pub request_rules : Request → List (Rule Miss)
request_rules (OfBlock q) =
    (nat_lt 1 q.operation, miss BadOperation 0)
    ∷ (q.count == 0 || nat_lt most_segments q.count, miss BadCount 0)
    ∷ segment_rules 0 (take q.count q.segments)
request_rules (OfSend q) = (not (q.flags == 0) || nat_lt 4096 (q.offset + q.size), miss BadSpan 0) ∷ []
request_rules (OfReceive q) = []

abbrev pub field_verdict : Request → Result Unit Miss
field_verdict q = refuse_first (request_rules q) (Ok tt)
