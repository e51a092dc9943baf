-- What a request asks for: which way, where on the device, and which parts of granted frames.
use Rattle.std.specs.Prelude.{ℕ, ◌+◌, ◌-◌, ◌*◌, cond, List, [], ◌∷◌, map, take, sum_by, ◌==◌}
use Rattle.blkif.specs.declared.block.Segment.{Segment}
use Rattle.device.specs.declared.orders.Direction.{Direction}
use Rattle.device.specs.declared.orders.Direction.TheVariants.{Inward, Outward}
use Rattle.ringpage.specs.declared.slot.Request.{Request}
use Rattle.ringpage.specs.declared.slot.Request.TheVariants.{OfBlock, OfSend, OfReceive}
use Rattle.request.specs.declared.content.Span.{Span}
use Rattle.request.specs.declared.table.Spans.{Spans}

-- sectors of 512 bytes, first to last, of the frame granted under the reference
abbrev pub segment_span : Segment → Span
segment_span s = record { reference = s.reference; start = 512 * s.first; length = 512 * (s.last + 1 - s.first) }

-- the spans in their order: those that a block request counts, or the one of a network request
abbrev pub spans_of : Request → List Span
spans_of (OfBlock q) = map segment_span (take q.count q.segments)
spans_of (OfSend q) = record { reference = q.reference; start = q.offset; length = q.size } ∷ []
spans_of (OfReceive q) = record { reference = q.reference; start = 0; length = 4096 } ∷ []

-- operation 0 reads, and so does a receive: the bytes go inward
abbrev pub direction_of : Request → Direction
direction_of (OfBlock q) = cond (q.operation == 0) Inward Outward
direction_of (OfSend q) = Outward
direction_of (OfReceive q) = Inward

-- the sector, or 0
abbrev pub place_of : Request → ℕ
place_of (OfBlock q) = q.sector
place_of (OfSend q) = 0
place_of (OfReceive q) = 0

-- the bytes of all spans together
abbrev pub length_of : Request → ℕ
length_of q = sum_by (λ s. s.length) (spans_of q)

abbrev pub id_of : Request → ℕ
id_of (OfBlock q) = q.id
id_of (OfSend q) = q.id
id_of (OfReceive q) = q.id

-- the operation, or 0
abbrev pub operation_of : Request → ℕ
operation_of (OfBlock q) = q.operation
operation_of (OfSend q) = 0
operation_of (OfReceive q) = 0

-- all of that together
pub record Asked : Type 0 where
  pub direction : Direction
  pub place : ℕ
  pub length : ℕ
  pub id : ℕ
  pub operation : ℕ
  pub spans : List Span

abbrev pub asked : Request → Asked
asked q = record { direction = direction_of q; place = place_of q; length = length_of q; id = id_of q; operation = operation_of q; spans = spans_of q }

-- the spans that a table holds
abbrev pub listed : Spans → List Span
listed p = take p.count p.table
