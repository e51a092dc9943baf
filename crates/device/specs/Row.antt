-- Bytes out of a row.
use Rattle.std.specs.Prelude.{ℕ, List, ◌++◌, take, drop, replicate}

-- n bytes from a place on, and zeros past the end
abbrev pub row_at : List ℕ → ℕ → ℕ → List ℕ
row_at xs i n = take n (drop i xs ++ replicate n 0)
