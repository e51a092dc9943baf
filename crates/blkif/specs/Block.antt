-- Block requests, with their segments, and block responses.
use Rattle.std.specs.Prelude.{ℕ, zero, suc, List, [], ◌∷◌, ◌++◌, drop, slice_index}
use Rattle.std.proofs.Common.{to_z, of_z}
use Rattle.std.specs.Int.{w16}
use Rattle.layout.specs.Layout.{Part, field, gap}
use Rattle.layout.specs.Message.{Message}
use Rattle.blkif.specs.declared.block.Segment.{Segment}
use Rattle.blkif.specs.declared.block.BlockRequest.{BlockRequest}
use Rattle.blkif.specs.declared.block.BlockResponse.{BlockResponse}

-- a block request has room for so many segments
abbrev pub most_segments : ℕ
most_segments = 11

-- a segment: a grant reference, and the first and last sector of its frame
abbrev pub segment_layout : List Part
segment_layout = field 4 ∷ field 1 ∷ field 1 ∷ gap 2 ∷ []

-- n segments, one behind the other
abbrev pub segment_layouts : ℕ → List Part
segment_layouts zero = []
segment_layouts (suc n) = segment_layout ++ segment_layouts n

-- the values of their fields, in that order
abbrev pub segment_values : List Segment → List ℕ
segment_values [] = []
segment_values (s ∷ ss) = s.reference ∷ s.first ∷ s.last ∷ segment_values ss

-- back from such values: one segment, and n of them
abbrev pub segment_of : List ℕ → Segment
segment_of vs = record { reference = slice_index vs 0; first = slice_index vs 1; last = slice_index vs 2 }

abbrev pub segments_of : ℕ → List ℕ → List Segment
segments_of zero vs = []
segments_of (suc n) vs = segment_of vs ∷ segments_of n (drop 3 vs)

-- a segment as a message of its own: each is decoded from its own eight bytes
abbrev pub segment : Message Segment
segment = record { layout = segment_layout; values = λ s. segment_values (s ∷ []); of = segment_of }

-- what stands before the segments: operation, count, id and sector
abbrev pub head_layout : List Part
head_layout = field 1 ∷ field 1 ∷ gap 6 ∷ field 8 ∷ field 8 ∷ []

abbrev pub head_values : BlockRequest → List ℕ
head_values m = m.operation ∷ m.count ∷ m.id ∷ m.sector ∷ []

-- a block request: the head, and all its segments
abbrev pub block_request : Message BlockRequest
block_request = record {
  layout = head_layout ++ segment_layouts most_segments;
  values = λ m. head_values m ++ segment_values m.segments;
  of = λ vs. record { operation = slice_index vs 0; count = slice_index vs 1; id = slice_index vs 2; sector = slice_index vs 3; segments = segments_of most_segments (drop 4 vs) };
}

-- a block response, with a signed status
abbrev pub block_response : Message BlockResponse
block_response = record {
  layout = field 8 ∷ field 1 ∷ gap 1 ∷ field 2 ∷ gap 4 ∷ [];
  values = λ m. m.id ∷ m.operation ∷ of_z w16 m.status ∷ [];
  of = λ vs. record { id = slice_index vs 0; operation = slice_index vs 1; status = to_z w16 (slice_index vs 2) };
}
