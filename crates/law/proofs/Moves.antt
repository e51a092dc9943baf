-- The bytes of a job are moved: what stays of the device and of the memory, and that nothing of it is refused.
use Rattle.std.proofs.Common.{◌≡◌, ℕ, suc, ◌+◌, ◌-◌, ◌^◌, ◌<◌, ◌≤◌, Bool, false, cond, not, List, [], ◌∷◌, map, length, get_or, Some, Ok, sum_by, Option, refl, ap, ◌∙◌, subst, arith}
use Rattle.std.proofs.lemmas.List.Edits.{length-between}
use Rattle.std.proofs.lemmas.List.Sums.{sum_by-cons}
use Rattle.std.proofs.lemmas.Bool.{ltb-false, le-ltb, lt-leb, eq-eqb, cond-true, cond-false}
use Rattle.rules.specs.Refusal.{and_then}
use Rattle.rules.proofs.Refusals.{none-held, by_verdict}
use Rattle.device.specs.Meaning.{Rules, first_of, same_way, on_turn, in_part, next_order, serving, finishing}
use Rattle.device.specs.Laws.{Laws}
use Rattle.device.specs.Transfer.{end_of, part_rules, bytes_in, overwritten, handing, filling_parts, filled_parts, draining_parts, drained_parts}
use Rattle.device.specs.declared.orders.Direction.{Direction}
use Rattle.device.specs.declared.orders.Direction.TheVariants.{Inward, Outward}
use Rattle.device.specs.declared.orders.Order.{Order}
use Rattle.device.specs.declared.transfer.Part.{Part}
use Rattle.backend.specs.Move.{moving, moved_memory, moved_device}
use Rattle.law.proofs.Inv.{no_part}
use Rattle.law.proofs.Bytes.{placed-size}
use Rattle.law.proofs.Altered.{overwritten_is}

-- tests that say the same of each order give the same first order
first_same_if : (a b : Bool) (o : Order) (x y : Option Order) → a ≡ b → x ≡ y → cond a (Some o) x ≡ cond b (Some o) y
first_same_if a b o x y e f = cc

pub first_same : (p q : Order → Bool) (os : List Order) → map p os ≡ map q os → first_of p os ≡ first_of q os
first_same p q [] e = refl
first_same p q (o ∷ os) e =
    let here : p o ≡ q o = cc in
    let rest : map p os ≡ map q os = cc in
    first_same_if (p o) (q o) o (first_of p os) (first_of q os) here (first_same p q os rest)

-- the device x' has the orders in hand of x, and of them the same are ready
pub record SameHand {X : Type 0} (D : Rules X) (x x' : X) : Type 0 where
  pub orders : D.orders x' ≡ D.orders x
  pub ready : map (D.is_ready x') (D.orders x) ≡ map (D.is_ready x) (D.orders x)

-- so the turn is the same order's
pub same_turn : {X : Type 0} (D : Rules X) (x x' : X) → SameHand D x x' → next_order D x' ≡ next_order D x
same_turn D x x' h = ap (first_of (D.is_ready x')) h.orders ∙ first_same (D.is_ready x') (D.is_ready x) (D.orders x) h.ready

-- a part that lies in the memory has its own length
pub part_size : (p : Part) (m : List ℕ) → end_of p ≤ length m → length (bytes_in p m) ≡ p.length
part_size p m le = length-between m p.start (end_of p) le ∙ (let e : (p.start + p.length) - p.start ≡ p.length = omega arith in e)

-- and bytes put in its place leave the memory's
pub overwritten-size : (p : Part) (ys m : List ℕ) → end_of p ≤ length m → length ys ≡ p.length → length (overwritten p ys m) ≡ length m
overwritten-size p ys m le size = ap length (overwritten_is p ys m size) ∙ placed-size p.start ys m (omega arith)

module _ {X : Type 0} (D : Rules X) (laws : Laws D) (t : ℕ) where
  -- a part that is handed over lies in the memory, and the device serves it
  pub handed_over : (x : X) (way : Direction) (k : ℕ) (p : Part) (n : ℕ) (o : Order) → handing D x t way k p n ≡ Ok o → (end_of p ≤ n) × (serving D x t way (k + p.length) ≡ Ok o)
  handed_over x way k p n o e =
      let h = none-held (part_rules n k p) (serving D x t way (k + p.length)) o e in
      (ltb-false n (end_of p) h.0.0, h.1)

  -- one drain leaves what is in hand
  drain-same : (x : X) (k : ℕ) (p : Part) (m : List ℕ) (o : Order) → handing D x t Outward k p (length m) ≡ Ok o → SameHand D x (D.with_bytes x o k (bytes_in p m))
  drain-same x k p m o e =
      let h = handed_over x Outward k p (length m) o e in
      let served : serving D x t Outward (k + length (bytes_in p m)) ≡ Ok o = ap (λ n. serving D x t Outward (k + n)) (part_size p m h.0) ∙ h.1 in
      record { orders = laws.drain_orders x o t k (bytes_in p m) served; ready = laws.drain_ready x o t k (bytes_in p m) served }

  same_then : (x y z : X) → SameHand D x y → SameHand D y z → SameHand D x z
  same_then x y z h g =
      record {
        orders = g.orders ∙ h.orders;
        ready = subst (λ os. map (D.is_ready z) os ≡ map (D.is_ready y) os) h.orders g.ready ∙ h.ready;
      }

  -- and so do drains in turn, also where one of them is refused
  pub drained_same : (k : ℕ) (ps : List Part) (m : List ℕ) (x : X) → SameHand D x (drained_parts D x t k ps m)
  drained_same k [] m x = record { orders = refl; ready = refl }
  drained_same k (p ∷ ps) m x =
      by_verdict (SameHand D x) (handing D x t Outward k p (length m)) x (λ o. drained_parts D (D.with_bytes x o k (bytes_in p m)) t (k + p.length) ps m)
      (record { orders = refl; ready = refl })
      (λ o e. same_then x (D.with_bytes x o k (bytes_in p m)) _ (drain-same x k p m o e) (drained_same (k + p.length) ps m (D.with_bytes x o k (bytes_in p m))))

  -- fills in turn leave the memory's size
  pub filled-size : (k : ℕ) (ps : List Part) (m : List ℕ) (x : X) → length (filled_parts D x t k ps m) ≡ length m
  filled-size k [] m x = refl
  filled-size k (p ∷ ps) m x =
      by_verdict (λ ys. length ys ≡ length m) (handing D x t Inward k p (length m)) m (λ o. filled_parts D x t (k + p.length) ps (overwritten p (D.bytes x o k p.length) m))
      refl
      (λ o e. filled-size (k + p.length) ps (overwritten p (D.bytes x o k p.length) m) x
      ∙ overwritten-size p (D.bytes x o k p.length) m (handed_over x Inward k p (length m) o e).0 (laws.bytes_length x o k p.length))

  -- moving the bytes leaves what is in hand
  pub moved_same : (way : Direction) (ps : List Part) (m : List ℕ) (x : X) → SameHand D x (moved_device D way t ps m x)
  moved_same Inward ps m x = record { orders = refl; ready = refl }
  moved_same Outward ps m x = drained_same 0 ps m x

-- the orders in hand stay
pub moved_orders : {X : Type 0} (D : Rules X) → Laws D → (way : Direction) (t : ℕ) (ps : List Part) (m : List ℕ) (x : X) → D.orders (moved_device D way t ps m x) ≡ D.orders x
moved_orders D laws way t ps m x = (moved_same D laws t way ps m x).orders

-- the turn stays
pub moved_turn : {X : Type 0} (D : Rules X) → Laws D → (way : Direction) (t : ℕ) (ps : List Part) (m : List ℕ) (x : X) → next_order D (moved_device D way t ps m x) ≡ next_order D x
moved_turn D laws way t ps m x = same_turn D x (moved_device D way t ps m x) (moved_same D laws t way ps m x)

-- the order that has the turn is the one under its ticket
pub on_turn-own : (next : Option Order) (o : Order) (t : ℕ) → next ≡ Some o → o.ticket ≡ t → on_turn next t ≡ Ok o
on_turn-own next o t e own = ap (λ n. on_turn n t) e ∙ cond-true _ _ _ (eq-eqb o.ticket t own)

pub same_way-own : (a b : Direction) → a ≡ b → not (same_way a b) ≡ false
same_way-own Inward b e = subst (λ d. not (same_way Inward d) ≡ false) e refl
same_way-own Outward b e = subst (λ d. not (same_way Outward d) ≡ false) e refl

-- a part of the order that has the turn is served, that way and up to its length
pub handing-granted : {X : Type 0} (D : Rules X) (x : X) (t : ℕ) (way : Direction) (k : ℕ) (p : Part) (n : ℕ) (o : Order)
    → next_order D x ≡ Some o → o.ticket ≡ t → o.direction ≡ way → end_of p ≤ n → k + p.length ≤ o.length → o.length < 2 ^ 32
    → handing D x t way k p n ≡ Ok o
handing-granted D x t way k p n o turn own dir inside within low =
    cond-false _ _ _ (le-ltb n (end_of p) inside)
    ∙ cond-false _ _ _ (lt-leb (2 ^ 32) (k + p.length) (omega arith))
    ∙ ap (λ r. in_part r way (k + p.length)) (on_turn-own (next_order D x) o t turn own)
    ∙ cond-false _ _ _ (same_way-own o.direction way dir)
    ∙ cond-false _ _ _ (le-ltb o.length (k + p.length) within)

-- the parts lie inside a memory of n bytes
abbrev pub PartsInside : ℕ → List Part → Type 0
PartsInside n ps = (i : ℕ) → i < length ps → (get_or ps i no_part).start + (get_or ps i no_part).length ≤ n

rest_inside : (n : ℕ) (p : Part) (ps : List Part) → PartsInside n (p ∷ ps) → PartsInside n ps
rest_inside n p ps h i lt = h (suc i) (omega arith)

first_inside : (n : ℕ) (p : Part) (ps : List Part) → PartsInside n (p ∷ ps) → end_of p ≤ n
first_inside n p ps h = h 0 (omega arith)

-- no fill is refused, where the parts take no more than the rest of the order
pub fills-granted : {X : Type 0} (D : Rules X) (x : X) (t : ℕ) (o : Order) (k : ℕ) (ps : List Part) (n : ℕ)
    → next_order D x ≡ Some o → o.ticket ≡ t → o.direction ≡ Inward → k + sum_by (λ (p : Part). p.length) ps ≤ o.length → o.length < 2 ^ 32 → PartsInside n ps
    → filling_parts D x t k ps n ≡ Ok tt
fills-granted D x t o k [] n turn own dir sum low inside = refl
fills-granted D x t o k (p ∷ ps) n turn own dir sum low inside =
    let cons : sum_by (λ (q : Part). q.length) (p ∷ ps) ≡ p.length + sum_by (λ (q : Part). q.length) ps = sum_by-cons (λ (q : Part). q.length) p ps in
    ap (λ r. and_then r (λ _. filling_parts D x t (k + p.length) ps n)) (handing-granted D x t Inward k p n o turn own dir (first_inside n p ps inside) (omega arith) low)
    ∙ fills-granted D x t o (k + p.length) ps n turn own dir (omega arith) low (rest_inside n p ps inside)

-- and no drain
pub drains_granted : {X : Type 0} (D : Rules X) → Laws D → (x : X) (t : ℕ) (o : Order) (k : ℕ) (ps : List Part) (m : List ℕ)
    → next_order D x ≡ Some o → o.ticket ≡ t → o.direction ≡ Outward → k + sum_by (λ (p : Part). p.length) ps ≤ o.length → o.length < 2 ^ 32 → PartsInside (length m) ps
    → draining_parts D x t k ps m ≡ Ok tt
drains_granted D laws x t o k [] m turn own dir sum low inside = refl
drains_granted D laws x t o k (p ∷ ps) m turn own dir sum low inside =
    let cons : sum_by (λ (q : Part). q.length) (p ∷ ps) ≡ p.length + sum_by (λ (q : Part). q.length) ps = sum_by-cons (λ (q : Part). q.length) p ps in
    let granted : handing D x t Outward k p (length m) ≡ Ok o = handing-granted D x t Outward k p (length m) o turn own dir (first_inside (length m) p ps inside) (omega arith) low in
    let y = D.with_bytes x o k (bytes_in p m) in
    ap (λ r. and_then r (λ q. draining_parts D (D.with_bytes x q k (bytes_in p m)) t (k + p.length) ps m)) granted
    ∙ drains_granted D laws y t o (k + p.length) ps m (same_turn D x y (drain-same D laws t x k p m o granted) ∙ turn) own dir (omega arith) low (rest_inside (length m) p ps inside)

-- the whole move is granted where the order that has the turn is the job's
pub moves_granted : {X : Type 0} (D : Rules X) → Laws D → (x : X) (t : ℕ) (o : Order) (way : Direction) (ps : List Part) (m : List ℕ)
    → next_order D x ≡ Some o → o.ticket ≡ t → o.direction ≡ way → o.length ≡ sum_by (λ (p : Part). p.length) ps → o.length < 2 ^ 32
    → ((i : ℕ) → i < length ps → (get_or ps i no_part).start + (get_or ps i no_part).length ≤ length m)
    → moving D way t ps m x ≡ Ok tt
moves_granted D laws x t o Inward ps m turn own dir sum low inside = fills-granted D x t o 0 ps (length m) turn own dir (omega arith) low inside
moves_granted D laws x t o Outward ps m turn own dir sum low inside = drains_granted D laws x t o 0 ps m turn own dir (omega arith) low inside

-- and so is done after it
pub done_granted : {X : Type 0} (D : Rules X) → Laws D → (x : X) (t : ℕ) (o : Order) (way : Direction) (ps : List Part) (m : List ℕ)
    → next_order D x ≡ Some o → o.ticket ≡ t → finishing D (moved_device D way t ps m x) t ≡ Ok o
done_granted D laws x t o way ps m turn own = on_turn-own (next_order D (moved_device D way t ps m x)) o t (moved_turn D laws way t ps m x ∙ turn) own

-- moving the bytes keeps the size of the memory
pub moved_size : {X : Type 0} (D : Rules X) → Laws D → (way : Direction) (t : ℕ) (ps : List Part) (m : List ℕ) (x : X) → length (moved_memory D way t ps m x) ≡ length m
moved_size D laws Inward t ps m x = filled-size D laws t 0 ps m x
moved_size D laws Outward t ps m x = refl
