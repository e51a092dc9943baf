-- A device's orders in hand stay those of its jobs: where an order is accepted, where one is done, and where the job
-- is one of the other bay.
use Rattle.std.proofs.Common.{◌≡◌, ℕ, ◌<◌, ◌≤◌, Bool, true, false, cond, eqb, ◌⊎◌, List, [], ◌∷◌, ◌++◌, length, drop, set, Some, None, Ok, Err, Option, sym, refl, ap, ◌∙◌, inl, inr, ⊎_elim, arith}
use Rattle.std.specs.Option.{option_map}
use Rattle.std.proofs.lemmas.List.{append-nil, get_or-set_same, get_or-set_other, set_past}
use Rattle.std.proofs.lemmas.List.Elements.{filter-append}
use Rattle.std.proofs.lemmas.Bool.{cases_eq, cases_lt, cases_Bool, eq-eqb, ne_eqb, eqb-true, cond-true, cond-false}
use Rattle.rules.specs.Tables.{at}
use Rattle.device.specs.Meaning.{Rules, others, first_of, on_turn, next_order, ready_ticket, accepting, finishing}
use Rattle.device.specs.Laws.{Laws}
use Rattle.device.specs.declared.orders.Order.{Order}
use Rattle.device.specs.declared.fault.DeviceFault.TheVariants.{BadTicket}
use Rattle.device.proofs.Served.{first_if}
use Rattle.connection.specs.Tables.{bay_of, same_bay}
use Rattle.connection.specs.declared.kinds.Bay.{Bay}
use Rattle.law.specs.Account.{JobNote}
use Rattle.law.specs.Keeps.{under_ticket, handed}
use Rattle.law.proofs.Inv.{BayHeld}

-- an order alone is under its own ticket, and under no other
pub under-own : (o : Order) → under_ticket o.ticket (o ∷ []) ≡ o ∷ []
under-own o = cond-true _ _ _ (eq-eqb o.ticket o.ticket refl)

pub under_none : (t : ℕ) (o : Order) → (t ≡ o.ticket → ⊥) → under_ticket t (o ∷ []) ≡ []
under_none t o h = cond-false _ _ _ (ne_eqb o.ticket t (λ e. h (sym e)))

-- without the first order under a ticket, that ticket has one order less
others-own_if : (b : Bool) (t : ℕ) (o : Order) (os : List Order) → eqb o.ticket t ≡ b → under_ticket t (others t os) ≡ drop 1 (under_ticket t os)
    → under_ticket t (cond b os (o ∷ others t os)) ≡ drop 1 (cond b (o ∷ under_ticket t os) (under_ticket t os))
others-own_if true t o os e h = refl
others-own_if false t o os e h = cond-false _ _ _ e ∙ h

pub others-own : (t : ℕ) (os : List Order) → under_ticket t (others t os) ≡ drop 1 (under_ticket t os)
others-own t [] = refl
others-own t (o ∷ os) = others-own_if (eqb o.ticket t) t o os refl (others-own t os)

-- and every other ticket has its orders
others_apart_if : (b : Bool) (s t : ℕ) (o : Order) (os : List Order) → (s ≡ t → ⊥) → eqb o.ticket t ≡ b → under_ticket s (others t os) ≡ under_ticket s os
    → under_ticket s (cond b os (o ∷ others t os)) ≡ under_ticket s (o ∷ os)
others_apart_if true s t o os d e h =
    let here : o.ticket ≡ t = eqb-true o.ticket t e in
    sym (cond-false _ _ _ (ne_eqb o.ticket s (λ q. d (sym q ∙ here))))
others_apart_if false s t o os d e h = ap (λ qs. cond (eqb o.ticket s) (o ∷ qs) qs) h

pub others_apart : (s t : ℕ) (os : List Order) → (s ≡ t → ⊥) → under_ticket s (others t os) ≡ under_ticket s os
others_apart s t [] d = refl
others_apart s t (o ∷ os) d = others_apart_if (eqb o.ticket t) s t o os d refl (others_apart s t os d)

-- the order that is done is under the ticket that was named
turn_ticket_if : (b : Bool) (p o : Order) (t : ℕ) → eqb p.ticket t ≡ b → cond b (Ok p) (Err BadTicket) ≡ Ok o → o.ticket ≡ t
turn_ticket_if true p o t e h = let s : p ≡ o = cc in ap (λ q. q.ticket) (sym s) ∙ eqb-true p.ticket t e
turn_ticket_if false p o t e h = absurd (let z : ◌≡◌ {A = ℕ} 0 1 = cc in omega arith)

pub turn_ticket : (next : Option Order) (t : ℕ) (o : Order) → on_turn next t ≡ Ok o → o.ticket ≡ t
turn_ticket None t o e = absurd (let z : ◌≡◌ {A = ℕ} 0 1 = cc in omega arith)
turn_ticket (Some p) t o e = turn_ticket_if (eqb p.ticket t) p o t refl e

-- an accepted order is that of a new job of its ticket
pub under-accepted : {X : Type 0} (D : Rules X) → Laws D → (x : X) (o : Order) (b : Bay) (jobs : List (Option JobNote)) (n : JobNote)
    → accepting D x o ≡ Ok tt → o.ticket < length jobs → at jobs o.ticket ≡ None → n.order ≡ o → same_bay (bay_of n.kind) b ≡ true
    → BayHeld D x b jobs → BayHeld D (D.with_order x o) b (set jobs o.ticket (Some n))
under-accepted D laws x o b jobs n ok lt free order bay held = λ t.
    let split : under_ticket t (D.orders (D.with_order x o)) ≡ under_ticket t (D.orders x) ++ under_ticket t (o ∷ []) = ap (under_ticket t) (laws.accept_orders x o ok) ∙ filter-append (λ p. eqb p.ticket t) (D.orders x) (o ∷ []) in
    ⊎_elim
    (λ (e : t ≡ o.ticket).
    let nothing : under_ticket t (D.orders x) ≡ [] = held t ∙ ap (λ s. handed b (at jobs s)) e ∙ ap (handed b) free in
    let new : under_ticket t (o ∷ []) ≡ n.order ∷ [] = ap (λ s. under_ticket s (o ∷ [])) e ∙ under-own o ∙ ap (λ p. p ∷ []) (sym order) in
    let there : at (set jobs o.ticket (Some n)) t ≡ Some n = ap (at (set jobs o.ticket (Some n))) e ∙ get_or-set_same jobs o.ticket (Some n) None lt in
    split ∙ ap (λ os. os ++ under_ticket t (o ∷ [])) nothing ∙ new ∙ sym (cond-true _ _ _ bay) ∙ sym (ap (handed b) there))
    (λ (d : t ≡ o.ticket → ⊥).
    split ∙ ap (λ os. under_ticket t (D.orders x) ++ os) (under_none t o d) ∙ append-nil (under_ticket t (D.orders x)) ∙ held t
    ∙ sym (ap (handed b) (get_or-set_other jobs o.ticket t (Some n) None d)))
    (cases_eq t o.ticket)

-- what a bay has of the places of a row does not change where a place gets something of which the bay has the same
pub handed_same : (b : Bay) (jobs : List (Option JobNote)) (t : ℕ) (y : Option JobNote) → handed b y ≡ handed b (at jobs t) → (s : ℕ) → handed b (at (set jobs t y) s) ≡ handed b (at jobs s)
handed_same b jobs t y same s =
    ⊎_elim
    (λ (e : s ≡ t).
    ap (λ k. handed b (at (set jobs t y) k)) e
    ∙ ⊎_elim
    (λ (lt : t < length jobs). ap (handed b) (get_or-set_same jobs t y None lt) ∙ same)
    (λ (le : length jobs ≤ t). ap (λ xs. handed b (at xs t)) (set_past jobs t y le))
    (cases_lt t (length jobs))
    ∙ sym (ap (λ k. handed b (at jobs k)) e))
    (λ (d : s ≡ t → ⊥). ap (handed b) (get_or-set_other jobs t s y None d))
    (cases_eq s t)

-- the device of the other bay is as it was, and has its orders
pub under_other : {X : Type 0} (D : Rules X) (x : X) (b : Bay) (jobs : List (Option JobNote)) (t : ℕ) (n : JobNote)
    → at jobs t ≡ None → same_bay (bay_of n.kind) b ≡ false → BayHeld D x b jobs → BayHeld D x b (set jobs t (Some n))
under_other D x b jobs t n free bay held = λ s. held s ∙ sym (handed_same b jobs t (Some n) (cond-false _ _ _ bay ∙ sym (ap (handed b) free)) s)

-- the order that is done is that of the job of its ticket
pub under_done : {X : Type 0} (D : Rules X) → Laws D → (x : X) (o : Order) (t : ℕ) (b : Bay) (jobs : List (Option JobNote)) (n : JobNote)
    → finishing D x t ≡ Ok o → t < length jobs → at jobs t ≡ Some n → same_bay (bay_of n.kind) b ≡ true
    → BayHeld D x b jobs → BayHeld D (D.without x o) b (set jobs t None)
under_done D laws x o t b jobs n ok lt taken bay held = λ s.
    let own : o.ticket ≡ t = turn_ticket (next_order D x) t o ok in
    let left : D.orders (D.without x o) ≡ others t (D.orders x) = laws.done_orders x o t ok ∙ ap (λ k. others k (D.orders x)) own in
    let was : under_ticket t (D.orders x) ≡ n.order ∷ [] = held t ∙ ap (handed b) taken ∙ cond-true _ _ _ bay in
    ap (under_ticket s) left
    ∙ ⊎_elim
    (λ (e : s ≡ t).
    ap (λ k. under_ticket k (others t (D.orders x))) e ∙ others-own t (D.orders x) ∙ ap (drop 1) was
    ∙ sym (ap (handed b) (get_or-set_same jobs t None None lt)) ∙ sym (ap (λ k. handed b (at (set jobs t None) k)) e))
    (λ (d : s ≡ t → ⊥).
    others_apart s t (D.orders x) d ∙ held s ∙ sym (ap (handed b) (get_or-set_other jobs t s None None d)))
    (cases_eq s t)

pub under_other_done : {X : Type 0} (D : Rules X) (x : X) (b : Bay) (jobs : List (Option JobNote)) (t : ℕ) (n : JobNote)
    → at jobs t ≡ Some n → same_bay (bay_of n.kind) b ≡ false → BayHeld D x b jobs → BayHeld D x b (set jobs t None)
under_other_done D x b jobs t n taken bay held = λ s. held s ∙ sym (handed_same b jobs t None (sym (ap (handed b) taken ∙ cond-false _ _ _ bay)) s)

-- the first order that passes a test is one of those under its ticket
first-under_if : (test : Order → Bool) (p : Order) (os : List Order) (o : Order) → ((test p ≡ true) × (p ≡ o)) ⊎ (first_of test os ≡ Some o)
    → (first_of test os ≡ Some o → under_ticket o.ticket os ≡ [] → ⊥) → under_ticket o.ticket (p ∷ os) ≡ [] → ⊥
first-under_if test p os o (inl h) rest e =
    let own : eqb p.ticket o.ticket ≡ true = eq-eqb _ _ (ap (λ q. q.ticket) h.1) in
    let clash : p ∷ under_ticket o.ticket os ≡ [] = sym (cond-true _ _ _ own) ∙ e in
    (let z : ◌≡◌ {A = ℕ} 0 1 = cc in omega arith)
first-under_if test p os o (inr h) rest e =
    ⊎_elim
    (λ (own : eqb p.ticket o.ticket ≡ true).
    let clash : p ∷ under_ticket o.ticket os ≡ [] = sym (cond-true _ _ _ own) ∙ e in
    absurd (let z : ◌≡◌ {A = ℕ} 0 1 = cc in omega arith))
    (λ (apart : eqb p.ticket o.ticket ≡ false). rest h (sym (cond-false _ _ _ apart) ∙ e))
    (cases_Bool (eqb p.ticket o.ticket))

first_under : (test : Order → Bool) (os : List Order) (o : Order) → first_of test os ≡ Some o → under_ticket o.ticket os ≡ [] → ⊥
first_under test [] o e u = absurd (let z : ◌≡◌ {A = ℕ} 0 1 = cc in omega arith)
first_under test (p ∷ os) o e u = first-under_if test p os o (first_if (test p) p o (first_of test os) e) (first_under test os o) u

-- where one order alone is under the ticket, it is that one
first_alone : (test : Order → Bool) (os : List Order) (o q : Order) → first_of test os ≡ Some o → under_ticket o.ticket os ≡ q ∷ [] → o ≡ q
first_alone test [] o q e u = absurd (let z : ◌≡◌ {A = ℕ} 0 1 = cc in omega arith)
first_alone test (p ∷ os) o q e u =
    ⊎_elim
    (λ (h : (test p ≡ true) × (p ≡ o)).
    let own : eqb p.ticket o.ticket ≡ true = eq-eqb _ _ (ap (λ r. r.ticket) h.1) in
    let first : p ∷ under_ticket o.ticket os ≡ q ∷ [] = sym (cond-true _ _ _ own) ∙ u in
    let same : p ≡ q = cc in
    sym h.1 ∙ same)
    (λ (h : first_of test os ≡ Some o).
    ⊎_elim
    (λ (own : eqb p.ticket o.ticket ≡ true).
    let first : p ∷ under_ticket o.ticket os ≡ q ∷ [] = sym (cond-true _ _ _ own) ∙ u in
    let none : under_ticket o.ticket os ≡ [] = cc in
    absurd (first_under test os o h none))
    (λ (apart : eqb p.ticket o.ticket ≡ false). first_alone test os o q h (sym (cond-false _ _ _ apart) ∙ u))
    (cases_Bool (eqb p.ticket o.ticket)))
    (first_if (test p) p o (first_of test os) e)

turn_order-of : (test : Order → Bool) (os : List Order) (next : Option Order) (t : ℕ) (q : Order)
    → first_of test os ≡ next → option_map (λ o. o.ticket) next ≡ Some t → under_ticket t os ≡ q ∷ [] → next ≡ Some q
turn_order-of test os None t q f e u = absurd (let z : ◌≡◌ {A = ℕ} 0 1 = cc in omega arith)
turn_order-of test os (Some o) t q f e u =
    let own : o.ticket ≡ t = cc in
    ap Some (first_alone test os o q f (ap (λ k. under_ticket k os) own ∙ u))

-- the order of the turn is the one that serve handed over
pub turn_order : {X : Type 0} (D : Rules X) (x : X) (t : ℕ) (b : Bay) (jobs : List (Option JobNote)) (n : JobNote)
    → ready_ticket D x ≡ Some t → at jobs t ≡ Some n → same_bay (bay_of n.kind) b ≡ true → BayHeld D x b jobs → next_order D x ≡ Some n.order
turn_order D x t b jobs n ready taken bay held =
    turn_order-of (D.is_ready x) (D.orders x) (next_order D x) t n.order refl ready (held t ∙ ap (handed b) taken ∙ cond-true _ _ _ bay)
