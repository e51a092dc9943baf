-- What a wire means, and that it keeps what every device keeps.
use Rattle.std.proofs.Common.{lit<}
use Rattle.std.specs.Prelude.{ℕ, Bool, List, [], ◌∷◌, ◌++◌, length, take, drop, ℤ, pos, nat_lt, refl}
use Rattle.std.proofs.lemmas.List.Edits.{sets}
use Rattle.device.specs.declared.orders.Direction.{Direction}
use Rattle.device.specs.declared.orders.Direction.TheVariants.{Inward, Outward}
use Rattle.device.specs.declared.orders.Order.{Order}
use Rattle.device.specs.Meaning.{Rules, others}
use Rattle.device.specs.Laws.{Laws}
use Rattle.device.specs.Row.{row_at}
use Rattle.device.proofs.Rows.{length_row}
use Rattle.wire.specs.declared.wiring.Wire.{Wire}
use Rattle.wire.specs.Fit.{wire_fits}
use Rattle.wire.specs.Hand.{most_orders, orders_of, open_way}
use Rattle.wire.specs.Packet.{zeros, oldest}
use Rattle.wire.specs.Waiting.{waiting_of, holding_of, room_of}

-- the packets that wait, the oldest first; the holding area; the orders in hand; how many may wait
pub record State : Type 0 where
  pub waiting : List (List ℕ)
  pub holding : List ℕ
  pub orders : List Order
  pub room : ℕ

-- what a wire's packets and orders mean
abbrev pub state : Wire → State
state w = record { waiting = waiting_of w.packets; holding = holding_of w.packets; orders = orders_of w.hand; room = room_of w.packets }

-- a wire as it is made over so many slots
abbrev pub new_wire : ℕ → State
new_wire slots = record { waiting = []; holding = zeros; orders = []; room = slots }

-- an inward order is ready while a packet waits, an outward one while there is room for one more
abbrev pub wire_ready : State → Order → Bool
wire_ready m o = open_way (nat_lt 0 (length m.waiting)) (nat_lt (length m.waiting) m.room) o.direction

-- inward the packet's length, outward 0
abbrev pub wire_status : Direction → List (List ℕ) → ℤ
wire_status Inward waiting = pos (length (oldest waiting))
wire_status Outward waiting = pos 0

-- what waits when an order is done: inward the oldest packet goes, outward one of the order's length
-- comes, made of what is held
abbrev pub waiting_after : Direction → ℕ → List (List ℕ) → List ℕ → List (List ℕ)
waiting_after Inward size waiting holding = drop 1 waiting
waiting_after Outward size waiting holding = waiting ++ take size holding ∷ []

-- outward, zeros are held again
abbrev pub holding_after : Direction → List ℕ → List ℕ
holding_after Inward holding = holding
holding_after Outward holding = zeros

-- sixteen orders at most; an inward one is given the oldest packet; what is drained is held
abbrev pub wire_rules : Rules State
wire_rules = record {
  capacity = λ m. most_orders;
  orders = λ m. m.orders;
  fits = λ m d place size. wire_fits d place size;
  is_ready = λ m o. wire_ready m o;
  contents = λ m. m.holding ∷ m.waiting;
  bytes = λ m o at n. row_at (oldest m.waiting) at n;
  status = λ m o. wire_status o.direction m.waiting;
  with_order = λ m o. record { waiting = m.waiting; holding = m.holding; orders = m.orders ++ o ∷ []; room = m.room };
  with_bytes = λ m o at part. record { waiting = m.waiting; holding = sets m.holding at part; orders = m.orders; room = m.room };
  without = λ m o. record { waiting = waiting_after o.direction o.length m.waiting m.holding; holding = holding_after o.direction m.holding; orders = others o.ticket m.orders; room = m.room };
}

-- a ghost member of the impl, so the proof stands here
pub wire_laws : Laws wire_rules
wire_laws = record {
  capacity_some = λ m. lit< tt;
  bytes_length = λ m o k n. length_row (oldest m.waiting) k n;
  accept_orders = λ m o h. refl;
  accept_ready = λ m o h. refl;
  accept_bytes = λ m o h p apart k n. refl;
  accept_status = λ m o h. refl;
  accept_contents = λ m o h. refl;
  accept_capacity = λ m o h. refl;
  accept_fits = λ m o h d p n. refl;
  drain_orders = λ m o t k part h. refl;
  drain_ready = λ m o t k part h. refl;
  drain_capacity = λ m o t k part h. refl;
  drain_fits = λ m o t k part h d p n. refl;
  done_orders = λ m o t h. refl;
  done_capacity = λ m o t h. refl;
  done_fits = λ m o t h d p n. refl;
}
