-- Free-running ring indices: a count of requests or responses, shown modulo 2 ^ 32.
use Rattle.std.specs.Prelude.{◌≡◌, ℕ, ◌+◌, ◌-◌, ◌%◌, ◌^◌, ◌<◌, ◌≤◌}

-- the index by which an unbounded count shows
abbrev pub shown : ℕ → ℕ
shown n = n % 2 ^ 32

-- how many steps lead from one index to another, round the circle of 2 ^ 32 indices
abbrev pub distance : ℕ → ℕ → ℕ
distance from to = (to + (2 ^ 32 - from)) % 2 ^ 32

-- d is the difference of any two counts that show as these indices and lie less than a whole turn apart
abbrev pub Difference : ℕ → ℕ → ℕ → Type 0
Difference from to d = (behind ahead : ℕ) → behind ≤ ahead → ahead - behind < 2 ^ 32 → shown behind ≡ from → shown ahead ≡ to → d ≡ ahead - behind

-- i shows any count that shows as index, and then counts by more
abbrev pub Advanced : ℕ → ℕ → ℕ → Type 0
Advanced index by i = (n : ℕ) → shown n ≡ index → i ≡ shown (n + by)
