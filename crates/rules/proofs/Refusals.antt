-- What a list of rules says, once for all lists.
use Rattle.std.proofs.Common.{◌≡◌, ℕ, Bool, true, false, cond, List, [], ◌∷◌, Ok, Err, Result, refl, arith}
use Rattle.rules.specs.Refusal.{Rule, refuse_first, after_ok}

-- no rule of the list holds
abbrev pub NoneHolds : {E : Type 0} → List (Rule E) → Type 0
NoneHolds [] = Unit {0}
NoneHolds (r ∷ rs) = (r.0 ≡ false) × NoneHolds rs

go_on : {T E : Type 0} (b : Bool) (e : E) (rest : Result T E) (y : T) → cond b (Err e) rest ≡ Ok y → (b ≡ false) × (rest ≡ Ok y)
go_on true e rest y q = absurd (let z : ◌≡◌ {A = ℕ} 0 1 = cc in omega arith)
go_on false e rest y q = (refl, q)

-- an answer that stands: no rule holds
pub none-held : {T E : Type 0} (rs : List (Rule E)) (ok : Result T E) (y : T) → refuse_first rs ok ≡ Ok y → NoneHolds rs × (ok ≡ Ok y)
none-held [] ok y q = (tt, q)
none-held (r ∷ rs) ok y q =
    let g = go_on r.0 r.1 (refuse_first rs ok) y q in
    let h = none-held rs ok y g.1 in
    ((g.0, h.0), h.1)

-- what holds before an answer, and after what it grants, holds after it
pub by_verdict : {X T E : Type 0} (P : X → Type 0) (r : Result T E) (old : X) (new : T → X) → P old → ((t : T) → r ≡ Ok t → P (new t)) → P (after_ok r old new)
by_verdict P (Ok t) old new p q = q t refl
by_verdict P (Err e) old new p q = p
