-- What every device keeps to, whatever it is.
use Rattle.std.specs.Prelude.{◌≡◌, ℕ, ◌+◌, ◌<◌, List, [], ◌∷◌, ◌++◌, map, length, Ok, ◌≢◌}
use Rattle.device.specs.Meaning.{Rules, others, accepting, serving, finishing}
use Rattle.device.specs.declared.orders.Direction.{Direction}
use Rattle.device.specs.declared.orders.Direction.TheVariants.{Outward}
use Rattle.device.specs.declared.orders.Order.{Order}

module _ {M : Type 0} (R : Rules M) where
  pub record Laws : Type 0 where
    -- there is room for an order
    pub capacity_some : (m : M) → 0 < R.capacity m
    -- it gives as many bytes as it is asked for
    pub bytes_length : (m : M) (o : Order) (k n : ℕ) → length (R.bytes m o k n) ≡ n
    -- an accepted order goes to the end, and the rest is as before: also the bytes that it would give for orders to come
    pub accept_orders : (m : M) (o : Order) → accepting R m o ≡ Ok tt → R.orders (R.with_order m o) ≡ R.orders m ++ o ∷ []
    pub accept_ready : (m : M) (o : Order) → accepting R m o ≡ Ok tt → map (R.is_ready (R.with_order m o)) (R.orders m) ≡ map (R.is_ready m) (R.orders m)
    pub accept_bytes : (m : M) (o : Order) → accepting R m o ≡ Ok tt → (p : Order) → p.ticket ≢ o.ticket → (k n : ℕ) → R.bytes (R.with_order m o) p k n ≡ R.bytes m p k n
    pub accept_status : (m : M) (o : Order) → accepting R m o ≡ Ok tt → map (R.status (R.with_order m o)) (R.orders m) ≡ map (R.status m) (R.orders m)
    pub accept_contents : (m : M) (o : Order) → accepting R m o ≡ Ok tt → R.contents (R.with_order m o) ≡ R.contents m
    pub accept_capacity : (m : M) (o : Order) → accepting R m o ≡ Ok tt → R.capacity (R.with_order m o) ≡ R.capacity m
    pub accept_fits : (m : M) (o : Order) → accepting R m o ≡ Ok tt → (d : Direction) (p n : ℕ) → R.fits (R.with_order m o) d p n ≡ R.fits m d p n
    -- a drain alters neither what is in hand nor what is ready
    pub drain_orders : (m : M) (o : Order) (t k : ℕ) (part : List ℕ) → serving R m t Outward (k + length part) ≡ Ok o → R.orders (R.with_bytes m o k part) ≡ R.orders m
    pub drain_ready : (m : M) (o : Order) (t k : ℕ) (part : List ℕ) → serving R m t Outward (k + length part) ≡ Ok o → map (R.is_ready (R.with_bytes m o k part)) (R.orders m) ≡ map (R.is_ready m) (R.orders m)
    pub drain_capacity : (m : M) (o : Order) (t k : ℕ) (part : List ℕ) → serving R m t Outward (k + length part) ≡ Ok o → R.capacity (R.with_bytes m o k part) ≡ R.capacity m
    pub drain_fits : (m : M) (o : Order) (t k : ℕ) (part : List ℕ) → serving R m t Outward (k + length part) ≡ Ok o → (d : Direction) (p n : ℕ) → R.fits (R.with_bytes m o k part) d p n ≡ R.fits m d p n
    -- the order that is done leaves, and no other
    pub done_orders : (m : M) (o : Order) (t : ℕ) → finishing R m t ≡ Ok o → R.orders (R.without m o) ≡ others o.ticket (R.orders m)
    pub done_capacity : (m : M) (o : Order) (t : ℕ) → finishing R m t ≡ Ok o → R.capacity (R.without m o) ≡ R.capacity m
    pub done_fits : (m : M) (o : Order) (t : ℕ) → finishing R m t ≡ Ok o → (d : Direction) (p n : ℕ) → R.fits (R.without m o) d p n ≡ R.fits m d p n
