-- Tables of places that are free or taken.
use Rattle.std.specs.Prelude.{ℕ, ◌+◌, Bool, cond, List, [], ◌∷◌, is_some, Some, None, Option, slice_index_or}
use Rattle.std.specs.List.{list_any}

-- the place k of a table; beyond its end every place is free
abbrev pub at : {X : Type 0} → List (Option X) → ℕ → Option X
at xs k = slice_index_or xs k None

-- the number of the first free place of a table whose first place has the number k
abbrev pub first_free : {X : Type 0} → ℕ → List (Option X) → Option ℕ
first_free k [] = None
first_free k (x ∷ xs) = cond (is_some x) (first_free (k + 1) xs) (Some k)

-- some element passes the test p
abbrev pub some_of : {X : Type 0} → (X → Bool) → List X → Bool
some_of p xs = list_any p xs
