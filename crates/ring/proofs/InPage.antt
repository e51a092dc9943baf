-- A request in a page, and in the copy of a part of the memory.
use Rattle.std.proofs.Common.{◌≡◌, ℕ, ◌+◌, ◌-◌, ◌*◌, ◌≤◌, List, length, take, replicate, Ok, Err, Result, sym, ap, ◌∙◌, subst, arith}
use Rattle.std.proofs.lemmas.List.{drop-replicate, take-replicate}
use Rattle.std.specs.Result.{MatchResult}
use Rattle.layout.specs.Layout.{size}
use Rattle.layout.proofs.Codec.{read_at_cut}
use Rattle.abi.specs.Page.{slot_start, slot_size}
use Rattle.abi.specs.declared.page.Kind.{Kind}
use Rattle.abi.specs.declared.page.Kind.TheVariants.{Block, Send, Receive}
use Rattle.blkif.specs.Block.{block_request}
use Rattle.netif.specs.Send.{send_request}
use Rattle.netif.specs.Receive.{receive_request}
use Rattle.ringpage.specs.Slot.{request_at}
use Rattle.ringpage.specs.declared.slot.Request.{Request}
use Rattle.ringpage.specs.declared.slot.Request.TheVariants.{OfBlock, OfSend, OfReceive}
use Rattle.rules.specs.Refusal.{granting, after_ok}
use Rattle.frame.specs.Memory.{part_verdict, bytes_at}
use Rattle.frame.specs.declared.fault.FrameFault.{FrameFault}
use Rattle.ring.specs.Page.{request_in}
use Rattle.ring.specs.Total.{request_or_zeros}

-- a request in the copy of a part of the memory is the request in its place
request_cut : (kind : Kind) (k at n : ℕ) (m : List ℕ) → k + slot_size kind ≤ n → request_at kind k (bytes_at at n m) ≡ request_at kind (at + k) m
request_cut Block k at n m h = ap (λ vs. OfBlock (block_request.of vs)) (read_at_cut block_request.layout k at n m h)
request_cut Send k at n m h = ap (λ vs. OfSend (send_request.of vs)) (read_at_cut send_request.layout k at n m h)
request_cut Receive k at n m h = ap (λ vs. OfReceive (receive_request.of vs)) (read_at_cut receive_request.layout k at n m h)

-- every slot lies inside the page
pub slot_inside : (kind : Kind) (index : ℕ) → slot_start kind index + slot_size kind ≤ 4096
slot_inside Block index = omega arith
slot_inside Send index = omega arith
slot_inside Receive index = omega arith

-- a part of zeros has zeros
zeros_cut : (at n size : ℕ) → at + n ≤ size → bytes_at at n (replicate size 0) ≡ replicate n 0
zeros_cut at n size h = ap (take n) (drop-replicate at size 0) ∙ take-replicate n (size - at) 0 (omega arith)

-- the request in a slot of zeros
zero_request : (kind : Kind) (index : ℕ) → request_at kind (slot_start kind index) (replicate 4096 0) ≡ request_at kind 0 (replicate (slot_size kind) 0)
zero_request kind index =
    let at = slot_start kind index in
    let n = slot_size kind in
    let zero : at ≡ at + 0 = omega arith in
    ap (λ k. request_at kind k (replicate 4096 0)) zero
    ∙ sym (request_cut kind 0 at n (replicate 4096 0) (omega arith))
    ∙ ap (request_at kind 0) (zeros_cut at n 4096 (slot_inside kind index))

either : (kind : Kind) (x z r : Request) (zs bs : List ℕ) (v : Result Unit FrameFault) → x ≡ request_at kind 0 bs → z ≡ request_at kind 0 zs
    → MatchResult (granting (λ _. x) v) (λ y. r ≡ y) (λ e. r ≡ z) → r ≡ request_at kind 0 (after_ok v zs (λ _. bs))
either kind x z r zs bs (Ok t) e f h = h ∙ e
either kind x z r zs bs (Err t) e f h = h ∙ f

-- the request in a slot, or that in a slot of zeros where the memory does not have the page
pub request_copied : (kind : Kind) (m : List ℕ) (page index : ℕ) (o : Result Request FrameFault) (r : Request) → o ≡ request_in m page kind index
    → MatchResult o (λ y. r ≡ y) (λ e. r ≡ request_at kind (slot_start kind index) (replicate 4096 0)) → r ≡ request_or_zeros m page kind index
request_copied kind m page index o r e h =
    let at = 4096 * page + slot_start kind index in
    let n = slot_size kind in
    let zero : at ≡ at + 0 = omega arith in
    either kind _ _ r (replicate n 0) (bytes_at at n m) (part_verdict (length m) page (slot_start kind index) n)
    (ap (λ k. request_at kind k m) zero ∙ sym (request_cut kind 0 at n m (omega arith))) (zero_request kind index)
    (subst (λ q. MatchResult q (λ y. r ≡ y) (λ e. r ≡ request_at kind (slot_start kind index) (replicate 4096 0))) e h)
