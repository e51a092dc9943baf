use Rattle.std.proofs.Common.{ℕ, ◌%◌, ◌^◌, List, ℤ, ap, ◌∙◌, w16, SFits, to_z, of_z, rules}
use Rattle.std.proofs.lemmas.Nat.{and_mask}
use Rattle.std.proofs.lemmas.Int.{to_z-of_z}
use Rattle.layout.specs.Layout.{written}
use Rattle.blkif.specs.Block.{block_response}
use Rattle.netif.specs.Send.{send_response}
use Rattle.netif.specs.Receive.{receive_response}
use Rattle.ring.proofs.Pages.{response_written}
use Rattle.ring.proofs.response.write_response.Goals as goal

-- the bytes of each response, by its id and status
abbrev block_bytes : ℕ → ℤ → ℕ → List ℕ
block_bytes operation status id = written block_response.layout (block_response.values (record { id = id; operation = operation; status = status }))

abbrev send_bytes : ℤ → ℕ → List ℕ
send_bytes status id = written send_response.layout (send_response.values (record { id = id; status = status }))

abbrev receive_bytes : ℤ → ℕ → List ℕ
receive_bytes status id = written receive_response.layout (receive_response.values (record { id = id; offset = 0; flags = 0; status = status }))

pub returns-in-Block : goal.returns-in-Block
returns-in-Block c =
    let q = c.args.reply in
    let f : SFits w16 q.status = search rules in
    response_written c.args.kind _ _ _ _ c.args.page c.slot_start-start.result c.args.index q.id q.operation q.status _
    c.in-Block.is c.slot_start-start.ensures.value
    (c.encode.ensures.value ∙ ap (λ z. block_bytes q.operation z q.id) (to_z-of_z w16 q.status f)) c.write_part.ensures

pub returns-in-Send : goal.returns-in-Send
returns-in-Send c =
    let q = c.args.reply in
    let f : SFits w16 q.status = search rules in
    response_written c.args.kind _ _ _ _ c.args.page c.slot_start-start.result c.args.index q.id q.operation q.status _
    c.in-Send.is c.slot_start-start.ensures.value
    (c.encode-in-Send.ensures.value ∙ ap (send_bytes (to_z w16 (of_z w16 q.status))) (and_mask q.id 16) ∙ ap (λ z. send_bytes z (q.id % 2 ^ 16)) (to_z-of_z w16 q.status f)) c.write_part-in-Send.ensures

pub returns-in-Receive : goal.returns-in-Receive
returns-in-Receive c =
    let q = c.args.reply in
    let f : SFits w16 q.status = search rules in
    response_written c.args.kind _ _ _ _ c.args.page c.slot_start-start.result c.args.index q.id q.operation q.status _
    c.in-Receive.is c.slot_start-start.ensures.value
    (c.encode-in-Receive.ensures.value ∙ ap (receive_bytes (to_z w16 (of_z w16 q.status))) (and_mask q.id 16) ∙ ap (λ z. receive_bytes z (q.id % 2 ^ 16)) (to_z-of_z w16 q.status f)) c.write_part-in-Receive.ensures
