-- The orders in hand: taking one out, and what fits.
use Rattle.std.proofs.Common.{◌≡◌, ℕ, suc, ◌+◌, Bool, true, false, cond, not, ◌&&◌, eqb, ltb, List, [], ◌∷◌, length, Some, None, Option, IfSome, refl, ap, ◌∙◌, arith}
use Rattle.std.specs.List.{position, position_or_len, remove}
use Rattle.std.proofs.lemmas.Bool.{and_parts, and_from, lt-ltb, le-ltb, cond-true, cond-false}
use Rattle.std.proofs.lemmas.Bool.Decides.{nat_tests}
use Rattle.rules.specs.Refusal.{if_some}
use Rattle.device.specs.Meaning.{others, first_of}
use Rattle.device.specs.declared.orders.Order.{Order}
use Rattle.wire.specs.Fit.{wire_fits, all_fit}

others-step : (b c : Bool) (i : ℕ) (o : Order) (os rest : List Order) → ltb i (length os) ≡ c → cond c (remove os i) os ≡ rest
    → cond (ltb (cond (not b) (1 + i) 0) (suc (length os))) (remove (o ∷ os) (cond (not b) (1 + i) 0)) (o ∷ os) ≡ cond b os (o ∷ rest)
others-step true c i o os rest e h = cond-true _ _ _ (lt-ltb 0 (suc (length os)) (omega arith))
others-step false true i o os rest e h = cond-true _ _ _ (lt-ltb (1 + i) (suc (length os)) (grind (arith, nat_tests))) ∙ (let next : 1 + i ≡ suc i = omega arith in ap (remove (o ∷ os)) next) ∙ ap (λ qs. o ∷ qs) h
others-step false false i o os rest e h = cond-false _ _ _ (le-ltb (1 + i) (suc (length os)) (grind (arith, nat_tests))) ∙ ap (λ qs. o ∷ qs) h

others-taken : (t : ℕ) (os : List Order) → let i = position_or_len (λ o. eqb o.ticket t) os in cond (ltb i (length os)) (remove os i) os ≡ others t os
others-taken t [] = refl
others-taken t (o ∷ os) = others-step (eqb o.ticket t) _ _ o os (others t os) refl (others-taken t os)

there : {X Y : Type 0} (b : Bool) (i : X) (y : Y) (f : X → Y) → if_some (cond b (Some i) None) y f ≡ cond b (f i) y
there true i y f = refl
there false i y f = refl

-- the orders but for the one at the place that `position` finds
pub others-position : (t : ℕ) (os : List Order) → if_some (position (λ o. eqb o.ticket t) os) os (remove os) ≡ others t os
others-position t os = there _ _ os (remove os) ∙ others-taken t os

fit_rest : (b : Bool) (o : Order) (os rest : List Order) → all_fit rest ≡ true → (wire_fits o.direction o.place o.length && all_fit os) ≡ true → all_fit (cond b os (o ∷ rest)) ≡ true
fit_rest true o os rest h e = (and_parts _ _ e).1
fit_rest false o os rest h e = and_from _ _ (and_parts _ _ e).0 h

pub fit_others : (t : ℕ) (os : List Order) → all_fit os ≡ true → all_fit (others t os) ≡ true
fit_others t [] h = refl
fit_others t (o ∷ os) h = fit_rest (eqb o.ticket t) o os (others t os) (fit_others t os (and_parts _ _ h).1) h

found_if : (b : Bool) (P : Order → Type 0) (o : Order) (rest : Option Order) → (b ≡ true → P o) → IfSome rest P → IfSome (cond b (Some o) rest) P
found_if true P o rest h k = h refl
found_if false P o rest h k = k

-- an order that is found passed the test, and fits
pub found_fits : (test : Order → Bool) (os : List Order) → all_fit os ≡ true → IfSome (first_of test os) (λ o. (test o ≡ true) × (wire_fits o.direction o.place o.length ≡ true))
found_fits test [] h = tt
found_fits test (o ∷ os) h = found_if (test o) _ o (first_of test os) (λ t. (t, (and_parts _ _ h).0)) (found_fits test os (and_parts _ _ h).1)
