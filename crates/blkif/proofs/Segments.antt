-- The segments of a block request, one after the other.
use Rattle.std.proofs.Common.{◌≡◌, ℕ, zero, suc, ◌+◌, ◌*◌, ◌<◌, List, [], ◌∷◌, ◌++◌, length, get_or, take, sym, refl, ap, ◌∙◌, add-one, arith}
use Rattle.std.specs.List.{flat_map, AllByRecursion as All}
use Rattle.std.proofs.lemmas.List.{take_more, flat_map_more}
use Rattle.layout.specs.Layout.{Fit, written, read, read_at}
use Rattle.blkif.specs.Block.{segment_layout, segment_layouts, segment_values, segment_of, segments_of, head_layout, head_values, block_request}
use Rattle.blkif.specs.declared.block.Segment.{Segment}
use Rattle.blkif.specs.declared.block.BlockRequest.{BlockRequest}

-- the n segments from the byte k on
abbrev pub segments_at : ℕ → ℕ → List ℕ → List Segment
segments_at zero k bs = []
segments_at (suc n) k bs = segment_of (read_at k segment_layout bs) ∷ segments_at n (k + 8) bs

one_more : (n k : ℕ) (bs : List ℕ) → segments_at (suc n) k bs ≡ segments_at n k bs ++ segment_of (read_at (k + 8 * n) segment_layout bs) ∷ []
one_more zero k bs = ap (λ j. segment_of (read_at j segment_layout bs) ∷ []) (omega arith)
one_more (suc n) k bs =
    let e : k + 8 + 8 * n ≡ k + 8 * suc n = omega arith in
    ap (λ l. segment_of (read_at k segment_layout bs) ∷ l)
    (one_more n (k + 8) bs ∙ ap (λ j. segments_at n (k + 8) bs ++ segment_of (read_at j segment_layout bs) ∷ []) e)

pub segments_at_more : (n k : ℕ) (bs : List ℕ) → segments_at (n + 1) k bs ≡ segments_at n k bs ++ segment_of (read_at (k + 8 * n) segment_layout bs) ∷ []
segments_at_more n k bs = ap (λ m. segments_at m k bs) (add-one n) ∙ one_more n k bs

-- the eight bytes of a segment
abbrev pub bytes_of : Segment → List ℕ
bytes_of s = written segment_layout (segment_values (s ∷ []))

-- the bytes of some segments, as a layout of that many writes them
pub written_segments : (n : ℕ) (ss : List Segment) → length ss ≡ n → written (segment_layouts n) (segment_values ss) ≡ flat_map bytes_of ss
written_segments zero [] e = refl
written_segments zero (s ∷ ss) e = absurd (omega arith)
written_segments (suc n) [] e = absurd (omega arith)
written_segments (suc n) (s ∷ ss) e = ap (λ l. bytes_of s ++ l) (written_segments n ss (omega arith))

-- from their values come the segments
pub segments_back : (n : ℕ) (ss : List Segment) → length ss ≡ n → segments_of n (segment_values ss) ≡ ss
segments_back zero [] e = refl
segments_back zero (s ∷ ss) e = absurd (omega arith)
segments_back (suc n) [] e = absurd (omega arith)
segments_back (suc n) (s ∷ ss) e = ap (λ l. s ∷ l) (segments_back n ss (omega arith))

-- one more segment
pub joined-take_more : (ss : List Segment) (i : ℕ) (d : Segment) → i < length ss → flat_map bytes_of (take (i + 1) ss) ≡ flat_map bytes_of (take i ss) ++ bytes_of (get_or ss i d)
joined-take_more ss i d h = ap (flat_map bytes_of) (take_more ss i d h) ∙ sym (flat_map_more bytes_of [] (take i ss) (get_or ss i d))

-- a segment's values fit
abbrev pub Fits : Segment → Type 0
Fits s = Fit segment_layout (segment_values (s ∷ []))

pub fits_back : (s : Segment) → segment_of (read segment_layout (bytes_of s)) ≡ s → Fits s
fits_back s e =
    let r = ap (λ x. x.reference) e in
    let f = ap (λ x. x.first) e in
    let l = ap (λ x. x.last) e in
    (omega (arith, r), (omega (arith, f), (omega (arith, l), tt)))

pub fit_segments : (n : ℕ) (ss : List Segment) → length ss ≡ n → All Fits ss → Fit (segment_layouts n) (segment_values ss)
fit_segments zero [] e h = tt
fit_segments zero (s ∷ ss) e h = absurd (omega arith)
fit_segments (suc n) [] e h = absurd (omega arith)
fit_segments (suc n) (s ∷ ss) e h = (h.0.0, (h.0.1.0, (h.0.1.1.0, fit_segments n ss (omega arith) h.1)))

-- the bytes before the segments
abbrev pub head_of : BlockRequest → List ℕ
head_of m = written head_layout (head_values m)

-- the head and the segments are the whole
pub whole : (m : BlockRequest) → length m.segments ≡ 11 → written block_request.layout (block_request.values m) ≡ head_of m ++ flat_map bytes_of m.segments
whole m l = ap (λ x. head_of m ++ x) (written_segments 11 m.segments l)

-- from its values comes the request
pub block_back : (m : BlockRequest) → length m.segments ≡ 11 → block_request.of (block_request.values m) ≡ m
block_back m l = ap (λ ss. record { operation = m.operation; count = m.count; id = m.id; sector = m.sector; segments = ss }) (segments_back 11 m.segments l)
