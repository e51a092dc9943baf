use Rattle.std.proofs.Common.{◌≡◌, ◌*◌, ◌≤◌, length, map, take, sum_by}
use Rattle.request.specs.Content.{segment_span}
use Rattle.request.proofs.table.block_spans.Given as goal

-- the spans so far stand in the table, and the length is theirs: a span has at most 131,072 bytes
abbrev pub invariant-loop-i : goal.invariant-loop-i
invariant-loop-i l =
    let done = map segment_span (take l.i l.segments) in
    (length l.table ≡ 11) × (take l.i l.table ≡ done) × (l.length ≡ sum_by (λ s. s.length) done) × (l.length ≤ l.i * 131072)
