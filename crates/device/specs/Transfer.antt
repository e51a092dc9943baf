-- Parts of a memory that are handed to a device.
use Rattle.std.specs.Prelude.{◌≡◌, ℕ, ◌+◌, ◌^◌, List, [], ◌∷◌, ◌++◌, length, take, drop, Ok, Result, nat_le, nat_lt}
use Rattle.std.specs.List.{between}
use Rattle.rules.specs.Refusal.{Rule, refuse_first, after_ok, granting, and_then}
use Rattle.device.specs.Meaning.{Rules, serving}
use Rattle.device.specs.declared.orders.Direction.{Direction}
use Rattle.device.specs.declared.orders.Direction.TheVariants.{Inward, Outward}
use Rattle.device.specs.declared.orders.Order.{Order}
use Rattle.device.specs.declared.fault.DeviceFault.{DeviceFault}
use Rattle.device.specs.declared.fault.DeviceFault.TheVariants.{NoFit}
use Rattle.device.specs.declared.transfer.Part.{Part}

-- where the part ends in the memory
abbrev pub end_of : Part → ℕ
end_of p = p.start + p.length

-- before the device is asked: the part lies inside a memory of n bytes, and the bytes of the order
-- from `at` on that it takes end where 32 bits still count them
abbrev pub part_rules : ℕ → ℕ → Part → List (Rule DeviceFault)
part_rules n at p = (nat_lt n (end_of p), NoFit) ∷ (nat_le (2 ^ 32) (at + p.length), NoFit) ∷ []

-- the part's bytes in the memory
abbrev pub bytes_in : Part → List ℕ → List ℕ
bytes_in p xs = between p.start (end_of p) xs

-- the memory with other bytes in the part, and the rest as it was
abbrev pub overwritten : Part → List ℕ → List ℕ → List ℕ
overwritten p ys xs = take p.start xs ++ (ys ++ drop (end_of p) xs)

module _ {M : Type 0} (R : Rules M) where
  -- the order of which a part of a memory of n bytes is filled or drained
  abbrev pub handing : M → ℕ → Direction → ℕ → Part → ℕ → Result Order DeviceFault
  handing m t d at p n = refuse_first (part_rules n at p) (serving R m t d (at + p.length))

  -- the memory after a part was handed to fill
  abbrev pub filled_part : M → ℕ → ℕ → Part → List ℕ → List ℕ
  filled_part m t at p xs = after_ok (handing m t Inward at p (length xs)) xs (λ o. overwritten p (R.bytes m o at p.length) xs)

  -- parts in turn, each going on in the order where the one before ended: the first that is refused
  -- refuses the whole
  abbrev pub filling_parts : M → ℕ → ℕ → List Part → ℕ → Result Unit DeviceFault
  filling_parts m t at [] n = Ok tt
  filling_parts m t at (p ∷ ps) n = and_then (handing m t Inward at p n) (λ _. filling_parts m t (at + p.length) ps n)

  -- the memory after that: parts before the one that was refused are filled, no other byte changes
  abbrev pub filled_parts : M → ℕ → ℕ → List Part → List ℕ → List ℕ
  filled_parts m t at [] xs = xs
  filled_parts m t at (p ∷ ps) xs = after_ok (handing m t Inward at p (length xs)) xs (λ o. filled_parts m t (at + p.length) ps (overwritten p (R.bytes m o at p.length) xs))

  -- the device after a part was handed to drain
  abbrev pub drained_part : M → ℕ → ℕ → Part → List ℕ → M
  drained_part m t at p xs = after_ok (handing m t Outward at p (length xs)) m (λ o. R.with_bytes m o at (bytes_in p xs))

  -- parts in turn, likewise
  abbrev pub draining_parts : M → ℕ → ℕ → List Part → List ℕ → Result Unit DeviceFault
  draining_parts m t at [] xs = Ok tt
  draining_parts m t at (p ∷ ps) xs = and_then (handing m t Outward at p (length xs)) (λ o. draining_parts (R.with_bytes m o at (bytes_in p xs)) t (at + p.length) ps xs)

  -- the device after that: parts before the one that was refused are drained
  abbrev pub drained_parts : M → ℕ → ℕ → List Part → List ℕ → M
  drained_parts m t at [] xs = m
  drained_parts m t at (p ∷ ps) xs = after_ok (handing m t Outward at p (length xs)) m (λ o. drained_parts (R.with_bytes m o at (bytes_in p xs)) t (at + p.length) ps xs)

  -- a fill of one part: exactly its bytes change, or none, and the device does not
  pub record PartFilled (m : M) (t at : ℕ) (p : Part) (xs : List ℕ) (r : Result Unit DeviceFault) (m' : M) (xs' : List ℕ) : Type 0 where
    pub answer : r ≡ granting (λ _. tt) (handing m t Inward at p (length xs))
    pub after : m' ≡ m
    pub memory : xs' ≡ filled_part m t at p xs

  -- a drain of one part
  pub record PartDrained (m : M) (t at : ℕ) (p : Part) (xs : List ℕ) (r : Result Unit DeviceFault) (m' : M) : Type 0 where
    pub answer : r ≡ granting (λ _. tt) (handing m t Outward at p (length xs))
    pub after : m' ≡ drained_part m t at p xs

  -- a fill of parts in turn
  pub record PartsFilled (m : M) (t at : ℕ) (ps : List Part) (xs : List ℕ) (r : Result Unit DeviceFault) (m' : M) (xs' : List ℕ) : Type 0 where
    pub answer : r ≡ filling_parts m t at ps (length xs)
    pub after : m' ≡ m
    pub memory : xs' ≡ filled_parts m t at ps xs

  -- a drain of parts in turn
  pub record PartsDrained (m : M) (t at : ℕ) (ps : List Part) (xs : List ℕ) (r : Result Unit DeviceFault) (m' : M) : Type 0 where
    pub answer : r ≡ draining_parts m t at ps xs
    pub after : m' ≡ drained_parts m t at ps xs
