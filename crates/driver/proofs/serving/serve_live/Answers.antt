use Rattle.std.proofs.Common.{true, false, ◌||◌, is_none, Some, None, Ok, Err, sym, refl, ap, ◌∙◌, ap₂}
use Rattle.std.proofs.lemmas.List.{get_or-set_same}
use Rattle.std.proofs.lemmas.Result.{err_from_is_err_and}
use Rattle.device.specs.Meaning.{is_full}
use Rattle.ring.specs.Producer.{ahead}
use Rattle.ring.specs.Total.{word_or_zero}
use Rattle.ring.specs.declared.page.Word.TheVariants.{ReqProd}
use Rattle.ringpage.specs.declared.slot.Request.{Request}
use Rattle.connection.specs.Tables.{connection_at, next_ticket, has_two_jobs}
use Rattle.connection.specs.declared.tables.Rings.{Rings}
use Rattle.backend.specs.Look.{look, consumed, consumed_on}
use Rattle.backend.specs.declared.consumed.Consumed.{Consumed}
use Rattle.law.specs.World.{with_rings}
use Rattle.law.specs.Serve.{Outcome, spent}
use Rattle.law.proofs.Tickets.{taken_inside}
use Rattle.driver.proofs.Leaving.{ticket_free, none_free, found_ticket, found_fault, found_none, leaves_by, looked_at}
use Rattle.driver.proofs.serving.serve_live.Goals as goal

pub spend-requires : goal.spend-requires
spend-requires g c =
    let n = c.args.number.number in
    let C = c.args.tables.now.rings in
    let k = c.args.connection.now in
    let o = c.ticket_if_room-ticket.result in
    let busy = is_full g.D.Device.rules (g.D.Device.meaning c.args.device.now) || has_two_jobs C.jobs n in
    let rings = c.consume.ensures.rings in
    let token = c.consume.ensures.token in
    let found = found_ticket o (look (is_none o) k c.args.memory.now) c.in-Some.ticket (ap Ok (sym c.in-Some.is) ∙ sym c.in_ok-ticket.was ∙ c.look.ensures) in
    let free = ticket_free busy (next_ticket C.jobs n) c.in-Some.ticket (sym c.ticket_if_room-ticket.ensures ∙ found.1) in
    record {
      live = ap₂ (λ (K : Rings) (t : Consumed). connection_at K t.connection) rings token
          ∙ get_or-set_same C.connections n (Some (consumed k)) None (taken_inside C.connections n k c.requires);
      ticket = free.1 ∙ sym (ap₂ (λ (K : Rings) (t : Consumed). next_ticket K.jobs t.connection) rings token);
    }

pub returns-in_default : goal.returns-in_default
returns-in_default g c =
    let D = g.D.Device.rules in
    let x = g.D.Device.meaning c.args.device.now in
    let n = c.args.number.number in
    let H = c.args.tables.now in
    let m = c.args.memory.now in
    let k = c.args.connection.now in
    let o = c.ticket_if_room-ticket.result in
    let busy = is_full D x || has_two_jobs H.rings.jobs n in
    let same = ap is_none c.ticket_if_room-ticket.ensures ∙ none_free busy (next_ticket H.rings.jobs n) in
    let none = found_none o (ahead k.kind k.req_cons k.rsp_prod (word_or_zero m k.page ReqProd)) (ap Ok (sym c.in_default.is) ∙ sym c.in_ok-ticket.was ∙ c.look.ensures) in
    leaves_by _ _ _ _ _ _ (looked_at D n k H m x (Ok false) (ap (λ b. look b k m) (sym same) ∙ none))
    (record { answer = refl; tables = refl; memory = c.ask_event.ensures.after; device = refl })

pub returns-in_err-ticket : goal.returns-in_err-ticket
returns-in_err-ticket g c =
    let D = g.D.Device.rules in
    let x = g.D.Device.meaning c.args.device.now in
    let n = c.args.number.number in
    let H = c.args.tables.now in
    let m = c.args.memory.now in
    let k = c.args.connection.now in
    let o = c.ticket_if_room-ticket.result in
    let e = c.in_err-ticket.field-0.0 in
    let busy = is_full D x || has_two_jobs H.rings.jobs n in
    let same = ap is_none c.ticket_if_room-ticket.ensures ∙ none_free busy (next_ticket H.rings.jobs n) in
    let fault = found_fault o (look (is_none o) k m) e (sym c.in_err-ticket.was ∙ c.look.ensures) in
    let p = err_from_is_err_and c.from_residual.result c.from_residual.ensures.1 in
    leaves_by _ _ _ _ _ _ (looked_at D n k H m x (Err e) (ap (λ b. look b k m) (sym same) ∙ fault))
    (record { answer = p.1 ∙ ap Err p.2; tables = refl; memory = refl; device = refl })

pub returns : goal.returns
returns g c =
    let D = g.D.Device.rules in
    let x = g.D.Device.meaning c.args.device.now in
    let n = c.args.number.number in
    let H = c.args.tables.now in
    let m = c.args.memory.now in
    let k = c.args.connection.now in
    let o = c.ticket_if_room-ticket.result in
    let busy = is_full D x || has_two_jobs H.rings.jobs n in
    let same = ap is_none c.ticket_if_room-ticket.ensures ∙ none_free busy (next_ticket H.rings.jobs n) in
    let found = found_ticket o (look (is_none o) k m) c.in-Some.ticket (ap Ok (sym c.in-Some.is) ∙ sym c.in_ok-ticket.was ∙ c.look.ensures) in
    let on : Request → Rings → Consumed → Outcome g.D.Device.Meaning = λ q C t. spent D t.connection (consumed k) q (with_rings C H) m x in
    leaves_by _ _ _ _ _ _
    (looked_at D n k H m x (Ok true) (ap (λ b. look b k m) (sym same) ∙ found.0)
    ∙ ap (λ q. on q (consumed_on n k H.rings) (record { connection = n; id = 0; operation = 0; sealed = tt })) (sym c.next_request-request.ensures)
    ∙ ap₂ (on c.next_request-request.result) (sym c.consume.ensures.rings) (sym c.consume.ensures.token))
    c.spend.ensures
