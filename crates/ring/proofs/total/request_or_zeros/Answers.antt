use Rattle.std.proofs.Common.{◌≡◌, replicate, rules}
use Rattle.std.specs.Result.{MatchResult}
use Rattle.abi.specs.Page.{slot_start}
use Rattle.ringpage.specs.Slot.{request_at}
use Rattle.ring.proofs.InPage.{request_copied}
use Rattle.ring.proofs.total.request_or_zeros.Goals as goal

pub returns : goal.returns
returns c =
    let a = c.args in
    let h : MatchResult c.copy_request.result (λ y. c.unwrap_or_else.result ≡ y) (λ e. c.unwrap_or_else.result ≡ request_at a.kind (slot_start a.kind a.index) (replicate 4096 0)) = search rules in
    request_copied a.kind a.memory.now a.page a.index c.copy_request.result c.unwrap_or_else.result c.copy_request.ensures h
