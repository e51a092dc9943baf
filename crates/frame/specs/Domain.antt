-- The domains of a host: 0 to 7.
use Rattle.std.specs.Prelude.{ℕ, Bool, nat_lt}

-- no domain has the number
abbrev pub no_domain : ℕ → Bool
no_domain n = nat_lt 7 n
