-- The spans of a request that passed its checks.
use Rattle.std.proofs.Common.{◌≡◌, ℕ, zero, suc, ◌+◌, ◌<◌, ◌≤◌, not, eqb, ltb, List, [], ◌∷◌, map, length, get_or, take, Ok, Err, Result, refl, arith}
use Rattle.std.proofs.lemmas.List.{length-map, length-take}
use Rattle.std.proofs.lemmas.Bool.{ltb-false, or_parts}
use Rattle.blkif.specs.declared.block.Segment.{Segment}
use Rattle.rules.specs.Refusal.{refuse_first, and_then}
use Rattle.rules.proofs.Refusals.{NoneHolds, none-held}
use Rattle.device.specs.Meaning.{Rules}
use Rattle.ringpage.specs.declared.slot.Request.{Request}
use Rattle.ringpage.specs.declared.slot.Request.TheVariants.{OfBlock, OfSend, OfReceive}
use Rattle.ring.specs.declared.fault.RingFault.TheVariants.{Unfit}
use Rattle.request.specs.Check.{miss, segment_rules, request_rules, field_verdict}
use Rattle.request.specs.Checked.{check_verdict}
use Rattle.request.specs.Content.{Asked, asked, segment_span, spans_of, direction_of, place_of, length_of}
use Rattle.request.specs.declared.content.Span.{Span}

abbrev pub no_span : Span
no_span = record { reference = 0; start = 0; length = 0 }

-- the span ends within its frame
abbrev pub InFrame : Span → Type 0
InFrame s = s.start + s.length ≤ 4096

-- where an answer stands after another, both stand
both_stand : {T U E : Type 0} (r : Result T E) (next : T → Result U E) (b : U) → and_then r next ≡ Ok b → (t : T) × ((r ≡ Ok t) × (next t ≡ Ok b))
both_stand (Ok t) next b e = (t, (refl, e))
both_stand (Err x) next b e = absurd (let z : ◌≡◌ {A = ℕ} 0 1 = cc in omega arith)

-- each segment that passed ends within its frame
segments_in_frame : (i : ℕ) (ss : List Segment) → NoneHolds (segment_rules i ss) → (n : ℕ) → n < length (map segment_span ss) → InFrame (get_or (map segment_span ss) n no_span)
segments_in_frame i [] h n l = omega arith
segments_in_frame i (s ∷ ss) h zero l =
    let o = or_parts (ltb s.last s.first) (ltb 7 s.last) h.0 in
    let first = ltb-false s.last s.first o.0 in
    let last = ltb-false 7 s.last o.1 in
    omega arith
segments_in_frame i (s ∷ ss) h (suc n) l = segments_in_frame (i + 1) ss h.1 n (omega arith)

-- the one span of a network request
one_in_frame : (s : Span) → InFrame s → (n : ℕ) → n < length (s ∷ []) → InFrame (get_or (s ∷ []) n no_span)
one_in_frame s h zero l = h
one_in_frame s h (suc n) l = absurd (omega arith)

-- no field rule holds: at most 11 spans, each within its frame
spans_in_frame : (q : Request) → NoneHolds (request_rules q) → (length (spans_of q) ≤ 11) × ((n : ℕ) → n < length (spans_of q) → InFrame (get_or (spans_of q) n no_span))
spans_in_frame (OfBlock q) h =
    let ss : List Segment = take q.count q.segments in
    let few = ltb-false 11 q.count (or_parts (eqb q.count 0) (ltb 11 q.count) h.1.0).1 in
    (omega (arith, length-map ss segment_span, length-take q.count q.segments), segments_in_frame 0 ss h.1.1)
spans_in_frame (OfSend q) h =
    let o = or_parts (not (eqb q.flags 0)) (ltb 4096 (q.offset + q.size)) h.0 in
    (omega arith, one_in_frame _ (ltb-false 4096 (q.offset + q.size) o.1))
spans_in_frame (OfReceive q) h = (omega arith, one_in_frame _ (omega arith))

-- a request that passed its checks: at most 11 spans, each within its frame
pub checked-spans : {X : Type 0} (D : Rules X) (x : X) (q : Request) (b : Asked) → check_verdict D x q ≡ Ok b
    → (b ≡ asked q) × (length b.spans ≤ 11) × (((n : ℕ) → n < length b.spans → (get_or b.spans n no_span).start + (get_or b.spans n no_span).length ≤ 4096))
checked-spans D x q b e =
    let fit = refuse_first ((not (D.fits x (direction_of q) (place_of q) (length_of q)), miss Unfit 0) ∷ []) (Ok (asked q)) in
    let s = both_stand (field_verdict q) (λ _. fit) b e in
    let g = none-held ((not (D.fits x (direction_of q) (place_of q) (length_of q)), miss Unfit 0) ∷ []) (Ok (asked q)) b s.1.1 in
    let same : b ≡ asked q = cc g.1 in
    let r = spans_in_frame q (none-held (request_rules q) (Ok tt) s.0 s.1.0).0 in
    rw same (refl, r.0, r.1)
