-- What is known of an order that was found.
use Rattle.std.proofs.Common.{◌≡◌, Bool, true, false, cond, ◌⊎◌, Some, Option, refl, inl, inr}
use Rattle.device.specs.declared.orders.Order.{Order}

-- either the first order passes, or the rest is looked at
pub first_if : (b : Bool) (p o : Order) (rest : Option Order) → cond b (Some p) rest ≡ Some o → ((b ≡ true) × (p ≡ o)) ⊎ (rest ≡ Some o)
first_if true p o rest e = inl (refl, cc)
first_if false p o rest e = inr e
