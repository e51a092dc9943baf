-- A call is refused by the first of its rules that holds.
use Rattle.std.specs.Prelude.{Bool, cond, List, [], ◌∷◌, Some, None, Ok, Err, Option, Result}

-- a test, and the fault where it holds
abbrev pub Rule : Type 0 → Type 0
Rule E = Bool × E

-- the first rule that holds refuses, and where none does the answer stands
abbrev pub refuse_first : {T E : Type 0} → List (Rule E) → Result T E → Result T E
refuse_first [] ok = ok
refuse_first (r ∷ rs) ok = cond r.0 (Err r.1) (refuse_first rs ok)

-- what stands after an answer: the new state, made of what the answer grants, or the old one
abbrev pub after_ok : {X T E : Type 0} → Result T E → X → (T → X) → X
after_ok (Ok t) old new = new t
after_ok (Err e) old new = old

-- the answer with something else in the place of what it grants
abbrev pub granting : {T U E : Type 0} → (T → U) → Result T E → Result U E
granting f (Ok t) = Ok (f t)
granting f (Err e) = Err e

-- the next answer, if this one grants
abbrev pub and_then : {T U E : Type 0} → Result T E → (T → Result U E) → Result U E
and_then (Ok t) next = next t
and_then (Err e) next = Err e

-- an answer of a layer below, passed up with its fault whole
abbrev pub passed : {T E G : Type 0} → (E → G) → Result T E → Result T G
passed g (Ok t) = Ok t
passed g (Err e) = Err (g e)

-- f of what is granted, g of the fault
abbrev pub either_of : {T E Y : Type 0} → Result T E → (T → Y) → (E → Y) → Y
either_of (Ok t) f g = f t
either_of (Err e) f g = g e

-- f of what is there, or y
abbrev pub if_some : {X Y : Type 0} → Option X → Y → (X → Y) → Y
if_some None y f = y
if_some (Some x) y f = f x
