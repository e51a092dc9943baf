-- Bytes in frames: what a write into one frame leaves of the others, and where a response stands.
use Rattle.std.proofs.Common.{◌≡◌, ℕ, ◌+◌, ◌*◌, ◌%◌, ◌^◌, ◌<◌, ◌≤◌, List, ◌++◌, length, take, drop, replicate, ℤ, Ok, Result, refl, ap, ◌∙◌, subst, inr, arith}
use Rattle.std.proofs.lemmas.List.{length-append, length-take-le, length-drop, length-replicate, drop_at, take_at}
use Rattle.std.proofs.lemmas.Bool.{le-ltb, cond-false}
use Rattle.abi.specs.Index.{shown}
use Rattle.abi.specs.Page.{slot_start, slot_size}
use Rattle.abi.specs.declared.page.Kind.{Kind}
use Rattle.abi.specs.declared.page.Kind.TheVariants.{Block, Send, Receive}
use Rattle.layout.specs.Layout.{le}
use Rattle.ringpage.specs.Slot.{request_at}
use Rattle.rules.specs.Refusal.{after_ok}
use Rattle.rules.proofs.Refusals.{by_verdict}
use Rattle.frame.specs.Memory.{bytes_at, placed, frame_bytes, zeroed, part_verdict}
use Rattle.frame.specs.declared.fault.FrameFault.{FrameFault}
use Rattle.frame.proofs.Placing.{placed_elsewhere, placed_in_frame, part_granted}
use Rattle.ring.specs.Page.{offset_of}
use Rattle.ring.specs.Total.{put_in, request_or_zeros}
use Rattle.ring.specs.Response.{response_bytes}
use Rattle.ring.specs.declared.page.Word.TheVariants.{RspProd}
use Rattle.ring.proofs.InPage.{slot_inside}
use Rattle.connection.specs.declared.tables.Connection.{Connection}
use Rattle.backend.specs.Look.{next_index}
use Rattle.backend.specs.Respond.{responded_memory}

-- a part of a frame that the memory has is granted
pub part_there : (size f offset n : ℕ) → 4096 * f + 4096 ≤ size → offset + n ≤ 4096 → part_verdict size f offset n ≡ Ok tt
part_there size f offset n there inside =
    cond-false _ _ _ (le-ltb size (4096 * f + 4096) there) ∙ cond-false _ _ _ (le-ltb 4096 (offset + n) inside)

-- a memory of so many frames has each of these
pub page_there : (count page : ℕ) (m : List ℕ) → length m ≡ 4096 * count → page < count → 4096 * page + 4096 ≤ length m
page_there count page m size below = omega arith

-- bytes placed within a memory leave its size
pub placed-size : (k : ℕ) (bs m : List ℕ) → k + length bs ≤ length m → length (placed k bs m) ≡ length m
placed-size k bs m within =
    let front : length (take k m) ≡ k = length-take-le k m (omega arith) in
    simp (length-append, length-drop) (omega arith)

-- a write into a page, done or refused, leaves the size
pub put_size : (m : List ℕ) (page offset : ℕ) (bs : List ℕ) → length (put_in m page offset bs) ≡ length m
put_size m page offset bs =
    by_verdict (λ (after : List ℕ). length after ≡ length m) (part_verdict (length m) page offset (length bs)) m (λ _. placed (4096 * page + offset) bs m) refl
    (λ t granted. let g = part_granted (length m) page offset (length bs) granted in placed-size (4096 * page + offset) bs m (omega (arith, g.0, g.1)))

-- and the other frames
pub put_others : (m : List ℕ) (page offset : ℕ) (bs : List ℕ) (g : ℕ) → (g ≡ page → ⊥) → frame_bytes g (put_in m page offset bs) ≡ frame_bytes g m
put_others m page offset bs g other =
    by_verdict (λ (after : List ℕ). frame_bytes g after ≡ frame_bytes g m) (part_verdict (length m) page offset (length bs)) m (λ _. placed (4096 * page + offset) bs m) refl
    (λ t granted. let p = part_granted (length m) page offset (length bs) granted in placed_in_frame page offset bs m p.1 p.0 g other)

-- a frame of zeros leaves the size
pub zeroed-size : (f : ℕ) (m : List ℕ) → 4096 * f + 4096 ≤ length m → length (zeroed f m) ≡ length m
zeroed-size f m there =
    let size : length {A = ℕ} (replicate 4096 0) ≡ 4096 = length-replicate {A = ℕ} 4096 0 in
    placed-size (4096 * f) (replicate 4096 0) m (omega arith)

-- and the other frames
pub zeroed-others : (f : ℕ) (m : List ℕ) (g : ℕ) → 4096 * f + 4096 ≤ length m → (g ≡ f → ⊥) → frame_bytes g (zeroed f m) ≡ frame_bytes g m
zeroed-others f m g there other =
    let size : length {A = ℕ} (replicate 4096 0) ≡ 4096 = length-replicate {A = ℕ} 4096 0 in
    let start : 4096 * f + 0 ≡ 4096 * f = omega arith in
    subst (λ (k : ℕ). frame_bytes g (placed k (replicate 4096 0) m) ≡ frame_bytes g m) start (placed_in_frame f 0 (replicate 4096 0) m (omega arith) there g other)

-- a response leaves the size
pub responded-size : (k : Connection) (id operation : ℕ) (status : ℤ) (m : List ℕ) → length (responded_memory k id operation status m) ≡ length m
responded-size k id operation status m =
    let slot : ℕ = slot_start k.kind k.rsp_prod in
    let r : List ℕ = response_bytes k.kind id operation status in
    put_size (put_in m k.page slot r) k.page (offset_of RspProd) (le 4 (next_index k.rsp_prod)) ∙ put_size m k.page slot r

-- and every frame but the ring page
pub responded-others : (k : Connection) (id operation : ℕ) (status : ℤ) (m : List ℕ) (g : ℕ) → (g ≡ k.page → ⊥) → frame_bytes g (responded_memory k id operation status m) ≡ frame_bytes g m
responded-others k id operation status m g other =
    let slot : ℕ = slot_start k.kind k.rsp_prod in
    let r : List ℕ = response_bytes k.kind id operation status in
    put_others (put_in m k.page slot r) k.page (offset_of RspProd) (le 4 (next_index k.rsp_prod)) g other ∙ put_others m k.page slot r g other

-- bytes that were placed are there
pub placed_there : (k : ℕ) (bs m : List ℕ) → k + length bs ≤ length m → bytes_at k (length bs) (placed k bs m) ≡ bs
placed_there k bs m within =
    let rest : List ℕ = drop (k + length bs) m in
    ap (take (length bs)) (drop_at (take k m) (bs ++ rest) k (length-take-le k m (omega arith))) ∙ take_at bs rest (length bs) refl

-- a slot has room for a response of its kind
pub response_fits : (kind : Kind) (id operation : ℕ) (status : ℤ) → length (response_bytes kind id operation status) ≤ slot_size kind
response_fits Block id operation status = omega arith
response_fits Send id operation status = omega arith
response_fits Receive id operation status = omega arith

-- bytes written into a page that the memory has
pub put_there : (m : List ℕ) (page offset : ℕ) (bs : List ℕ) → 4096 * page + 4096 ≤ length m → offset + length bs ≤ 4096 → put_in m page offset bs ≡ placed (4096 * page + offset) bs m
put_there m page offset bs there inside = ap (λ (v : Result Unit FrameFault). after_ok v m (λ _. placed (4096 * page + offset) bs m)) (part_there (length m) page offset (length bs) there inside)

-- a later write into the page below some bytes leaves them
put_below : (m : List ℕ) (page offset : ℕ) (bs : List ℕ) (start n : ℕ) → offset + length bs ≤ start
    → bytes_at (4096 * page + start) n (put_in m page offset bs) ≡ bytes_at (4096 * page + start) n m
put_below m page offset bs start n below =
    by_verdict (λ (after : List ℕ). bytes_at (4096 * page + start) n after ≡ bytes_at (4096 * page + start) n m) (part_verdict (length m) page offset (length bs)) m (λ _. placed (4096 * page + offset) bs m) refl
    (λ t granted. let g = part_granted (length m) page offset (length bs) granted in
    placed_elsewhere (4096 * page + offset) bs m (omega (arith, g.0, g.1)) (4096 * page + start) n (inr (omega arith)))

-- bytes in the slot of a response, and then an index in the header: the bytes stand there
response_put : (k : Connection) (r header : List ℕ) (m : List ℕ) → length r ≤ slot_size k.kind → length header ≡ 4 → 4096 * k.page + 4096 ≤ length m
    → bytes_at (4096 * k.page + slot_start k.kind k.rsp_prod) (length r) (put_in (put_in m k.page (slot_start k.kind k.rsp_prod) r) k.page 8 header) ≡ r
response_put k r header m fits size there =
    let slot : ℕ = slot_start k.kind k.rsp_prod in
    let within = slot_inside k.kind k.rsp_prod in
    let first : put_in m k.page slot r ≡ placed (4096 * k.page + slot) r m = put_there m k.page slot r there (omega arith) in
    put_below (put_in m k.page slot r) k.page 8 header slot (length r) (omega arith)
    ∙ ap (bytes_at (4096 * k.page + slot) (length r)) first
    ∙ placed_there (4096 * k.page + slot) r m (omega arith)

-- a response stands in its slot
pub response_stands : (k : Connection) (id operation : ℕ) (status : ℤ) (m : List ℕ) → 4096 * k.page + 4096 ≤ length m
    → (let r : List ℕ = response_bytes k.kind id operation status in
    bytes_at (4096 * k.page + slot_start k.kind k.rsp_prod) (length r) (responded_memory k id operation status m) ≡ r)
response_stands k id operation status m there =
    response_put k (response_bytes k.kind id operation status) (le 4 (next_index k.rsp_prod)) m (response_fits k.kind id operation status) refl there

-- an index and the count that it shows use the same slot
pub slot-shown : (kind : Kind) (n : ℕ) → slot_start kind (shown n) ≡ slot_start kind n
slot-shown Block n = let same : n % 2 ^ 32 % 32 ≡ n % 32 = omega arith in ap (λ s. 64 + s * 112) same
slot-shown Send n = let same : n % 2 ^ 32 % 256 ≡ n % 256 = omega arith in ap (λ s. 64 + s * 12) same
slot-shown Receive n = let same : n % 2 ^ 32 % 256 ≡ n % 256 = omega arith in ap (λ s. 64 + s * 8) same

-- the copy of a slot, by where the slot starts
abbrev pub slot-bytes : List ℕ → ℕ → Kind → ℕ → List ℕ
slot-bytes m page kind start =
    after_ok (part_verdict (length m) page start (slot_size kind)) (replicate (slot_size kind) 0) (λ _. bytes_at (4096 * page + start) (slot_size kind) m)

-- and so the same request
pub request_shown : (m : List ℕ) (page : ℕ) (kind : Kind) (n : ℕ) → request_or_zeros m page kind (shown n) ≡ request_or_zeros m page kind n
request_shown m page kind n = ap (λ start. request_at kind 0 (slot-bytes m page kind start)) (slot-shown kind n)
