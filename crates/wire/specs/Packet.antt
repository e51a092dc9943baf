-- What a packet is, and the longest.
use Rattle.std.specs.Prelude.{ℕ, List, [], ◌∷◌, take, replicate}
use Rattle.wire.specs.declared.packet.Packet.{Packet}

-- bytes in the longest packet
abbrev pub longest : ℕ
longest = 1514

-- a holding area with nothing in it
abbrev pub zeros : List ℕ
zeros = replicate longest 0

-- a packet of no bytes
abbrev pub blank : Packet
blank = record { length = 0; bytes = zeros }

-- the bytes of a packet
abbrev pub packet_bytes : Packet → List ℕ
packet_bytes p = take p.length p.bytes

-- the oldest of the packets, or no bytes
abbrev pub oldest : List (List ℕ) → List ℕ
oldest [] = []
oldest (p ∷ ps) = p
