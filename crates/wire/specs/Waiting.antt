-- What waits on a wire, and what is held for the next packet.
use Rattle.std.specs.Prelude.{ℕ, List, map, length}
use Rattle.queue.specs.Line.{items, slots_of}
use Rattle.wire.specs.declared.packets.Packets.{Packets}
use Rattle.wire.specs.Packet.{packet_bytes}

-- the packets that wait, the oldest first
abbrev pub waiting_of : Packets → List (List ℕ)
waiting_of p = map packet_bytes (items p.line)

-- the holding area
abbrev pub holding_of : Packets → List ℕ
holding_of p = p.holding.bytes

-- how many packets may wait
abbrev pub room_of : Packets → ℕ
room_of p = length (slots_of p.line)

-- the three together
pub record Contents : Type 0 where
  pub waiting : List (List ℕ)
  pub holding : List ℕ
  pub room : ℕ

abbrev pub contents_of : Packets → Contents
contents_of p = record { waiting = waiting_of p; holding = holding_of p; room = room_of p }
