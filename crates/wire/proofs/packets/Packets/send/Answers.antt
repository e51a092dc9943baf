use Rattle.std.proofs.Common.{◌≡◌, [], ◌∷◌, ◌++◌, map, length, take, ap, ◌∙◌, arith}
use Rattle.std.proofs.lemmas.List.{length-map, map_push}
use Rattle.std.proofs.lemmas.Bool.{ne_eqb, cond-false}
use Rattle.queue.specs.Line.{items}
use Rattle.wire.specs.Packet.{packet_bytes}
use Rattle.wire.specs.Waiting.{waiting_of, holding_of}
use Rattle.wire.proofs.packets.Packets.send.Goals as goal

pub returns : goal.returns
returns c =
    let q = c.args.self.now.line in
    let p = c.push_from.ensures in
    let room = ne_eqb _ _ (λ (e : length (items q) ≡ length q.slots.now). omega (arith, e, length-map (items q) packet_bytes, c.requires)) in
    let more : map packet_bytes (items c.push_from.new.self) ≡ waiting_of c.args.self.now ++ take c.args.size (holding_of c.args.self.now) ∷ [] = ap (map packet_bytes) (p.holds ∙ cond-false _ _ _ room) ∙ map_push packet_bytes (items q) _ in
    cc (more, p.size)
