-- What is written into a page, by the part of memory that it is.
use Rattle.std.proofs.Common.{◌≡◌, ℕ, List, ℤ, Result, sym, ap, ◌∙◌, subst}
use Rattle.abi.specs.Page.{slot_start}
use Rattle.abi.specs.declared.page.Kind.{Kind}
use Rattle.frame.specs.Memory.{Written}
use Rattle.frame.specs.declared.fault.FrameFault.{FrameFault}
use Rattle.ring.specs.Response.{response_bytes}

-- a response that was written into a slot, by the kind and the place that are known of it
pub response_written : (kind known : Kind) (m m' bytes : List ℕ) (page start index id operation : ℕ) (status : ℤ) (r : Result Unit FrameFault)
    → kind ≡ known → start ≡ slot_start kind index → bytes ≡ response_bytes known id operation status
    → Written m page start bytes r m' → Written m page (slot_start kind index) (response_bytes kind id operation status) r m'
response_written kind known m m' bytes page start index id operation status r k s b w =
    subst (λ st. Written m page st (response_bytes kind id operation status) r m') s
    (subst (λ bs. Written m page start bs r m') (b ∙ ap (λ (kd : Kind). response_bytes kd id operation status) (sym k)) w)
