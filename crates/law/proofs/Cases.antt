-- What holds however an answer falls out.
use Rattle.std.proofs.Common.{◌≡◌, Ok, Err, Result, refl}
use Rattle.rules.specs.Refusal.{either_of}

-- what holds of both ways that a verdict may go holds of the one that it goes
pub by_either : {T E Y : Type 0} (P : Y → Type 0) (r : Result T E) (f : T → Y) (g : E → Y) → ((t : T) → r ≡ Ok t → P (f t)) → ((e : E) → r ≡ Err e → P (g e)) → P (either_of r f g)
by_either P (Ok t) f g p q = p t refl
by_either P (Err e) f g p q = q e refl

-- an answer grants one thing
pub ok_same : {T E : Type 0} (x y : T) → ◌≡◌ {A = Result T E} (Ok x) (Ok y) → x ≡ y
ok_same x y e = cc
