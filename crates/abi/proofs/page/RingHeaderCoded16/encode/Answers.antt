use Rattle.std.proofs.Common.{◌≡◌, refl, rules}
use Rattle.layout.specs.Layout.{le}
use Rattle.abi.specs.Page.{ring_header}
use Rattle.layout.proofs.Codec.{encodes}
use Rattle.abi.proofs.page.RingHeaderCoded16.encode.Goals as goal

pub returns : goal.returns
returns c =
    let m = c.args.self.now in
    let q : c.to_le_bytes.result ≡ le 4 m.req_prod = search rules in
    let e : c.to_le_bytes-2.result ≡ le 4 m.req_event = search rules in
    let s : c.to_le_bytes-3.result ≡ le 4 m.rsp_prod = search rules in
    let v : c.to_le_bytes-4.result ≡ le 4 m.rsp_event = search rules in
    encodes ring_header m _ (simp (q, e, s, v)) (search rules) refl
