-- What a device means, and what each of its calls makes of that.
use Rattle.std.specs.Prelude.{◌≡◌, ℕ, ◌+◌, Bool, true, false, cond, not, List, [], ◌∷◌, length, ℤ, Some, None, Ok, Err, Option, Result, ◌==◌, nat_lt}
use Rattle.std.specs.List.{list_any, find}
use Rattle.std.specs.Option.{option_map}
use Rattle.rules.specs.Refusal.{refuse_first, after_ok, granting}
use Rattle.device.specs.declared.orders.Direction.{Direction}
use Rattle.device.specs.declared.orders.Direction.TheVariants.{Inward, Outward}
use Rattle.device.specs.declared.orders.Order.{Order}
use Rattle.device.specs.declared.fault.DeviceFault.{DeviceFault}
use Rattle.device.specs.declared.fault.DeviceFault.TheVariants.{NoFit, TicketInHand, Full, BadTicket}

-- A device, told by functions of its meaning M.
pub record Rules (M : Type 0) : Type 0 where
  -- how many orders it takes in hand at most
  pub capacity : M → ℕ
  -- the orders in hand, in order of acceptance
  pub orders : M → List Order
  -- whether it takes an order of this direction, place and length at all
  pub fits : M → Direction → ℕ → ℕ → Bool
  -- whether an order in hand is ready
  pub is_ready : M → Order → Bool
  -- what it holds beside the orders
  pub contents : M → List (List ℕ)
  -- the bytes that it will give for an order: from a place in the order on, so many
  pub bytes : M → Order → ℕ → ℕ → List ℕ
  -- the status that it will give of an order
  pub status : M → Order → ℤ
  -- what becomes of it: an order more, bytes taken for an order from a place in it on, an order less
  pub with_order : M → Order → M
  pub with_bytes : M → Order → ℕ → List ℕ → M
  pub without : M → Order → M

-- whether one of the orders has the ticket t
abbrev pub in_hand : ℕ → List Order → Bool
in_hand t os = list_any (λ o. o.ticket == t) os

-- the orders but for the first under the ticket t
abbrev pub others : ℕ → List Order → List Order
others t [] = []
others t (o ∷ os) = cond (o.ticket == t) os (o ∷ others t os)

-- the first order that passes a test
abbrev pub first_of : (Order → Bool) → List Order → Option Order
first_of p os = find p os

-- the two directions are the same
abbrev pub same_way : Direction → Direction → Bool
same_way Inward Inward = true
same_way Inward Outward = false
same_way Outward Inward = false
same_way Outward Outward = true

-- the order whose turn it is, if it is the one under the ticket t
abbrev pub on_turn : Option Order → ℕ → Result Order DeviceFault
on_turn None t = Err BadTicket
on_turn (Some o) t = cond (o.ticket == t) (Ok o) (Err BadTicket)

-- that order, if it goes this way and reaches so far
abbrev pub in_part : Result Order DeviceFault → Direction → ℕ → Result Order DeviceFault
in_part (Err e) d end = Err e
in_part (Ok o) d end = refuse_first ((not (same_way o.direction d), NoFit) ∷ (nat_lt o.length end, NoFit) ∷ []) (Ok o)

module _ {M : Type 0} (R : Rules M) where
  -- as many orders are in hand as there may be
  abbrev pub is_full : M → Bool
  is_full m = length (R.orders m) == R.capacity m

  -- the order whose turn it is: the first in hand that is ready
  abbrev pub next_order : M → Option Order
  next_order m = first_of (R.is_ready m) (R.orders m)

  -- its ticket, which ready answers
  abbrev pub ready_ticket : M → Option ℕ
  ready_ticket m = option_map (λ o. o.ticket) (next_order m)

  -- accept: the refusals in their order
  abbrev pub accepting : M → Order → Result Unit DeviceFault
  accepting m o = refuse_first
      ((not (R.fits m o.direction o.place o.length), NoFit)
      ∷ (in_hand o.ticket (R.orders m), TicketInHand)
      ∷ (is_full m, Full)
      ∷ []) (Ok tt)

  -- fill and drain: the order that a part up to the byte `end` is of
  abbrev pub serving : M → ℕ → Direction → ℕ → Result Order DeviceFault
  serving m t d end = in_part (on_turn (next_order m) t) d end

  -- done: the order that ends
  abbrev pub finishing : M → ℕ → Result Order DeviceFault
  finishing m t = on_turn (next_order m) t

  -- accept
  pub record Accepted (m : M) (o : Order) (r : Result Unit DeviceFault) (m' : M) : Type 0 where
    pub answer : r ≡ accepting m o
    pub after : m' ≡ after_ok (accepting m o) m (λ _. R.with_order m o)

  -- fill: the part takes the order's bytes, and nothing else changes
  pub record Filled (m : M) (t at : ℕ) (part : List ℕ) (r : Result Unit DeviceFault) (m' : M) (part' : List ℕ) : Type 0 where
    pub answer : r ≡ granting (λ _. tt) (serving m t Inward (at + length part))
    pub after : m' ≡ m
    pub filled : part' ≡ after_ok (serving m t Inward (at + length part)) part (λ o. R.bytes m o at (length part))

  -- drain
  pub record Drained (m : M) (t at : ℕ) (part : List ℕ) (r : Result Unit DeviceFault) (m' : M) : Type 0 where
    pub answer : r ≡ granting (λ _. tt) (serving m t Outward (at + length part))
    pub after : m' ≡ after_ok (serving m t Outward (at + length part)) m (λ o. R.with_bytes m o at part)

  -- done
  pub record Finished (m : M) (t : ℕ) (r : Result ℤ DeviceFault) (m' : M) : Type 0 where
    pub answer : r ≡ granting (R.status m) (finishing m t)
    pub after : m' ≡ after_ok (finishing m t) m (λ o. R.without m o)
