-- Pending ports: bit p of a domain's word is its port p.
use Rattle.std.specs.Prelude.{◌≡◌, ℕ, ◌-◌, ◌/◌, ◌%◌, ◌^◌, ◌<◌, cond, replicate, Some, None, Option, ◌==◌, ◌≢◌, bit_and, bit_or, slice_index, slice_set}
use Rattle.std.specs.Int.Count.{count_trailing_zeros}
use Rattle.event.specs.declared.pending.Events.{Events}

-- nothing is pending
abbrev pub new_events : Events
new_events = record { pending = replicate 8 0 }

-- the word of the domain d
abbrev pub word : Events → ℕ → ℕ
word E d = slice_index E.pending d

-- the words with another one of the domain d
abbrev pub with_word : ℕ → ℕ → Events → Events
with_word d w E = record { pending = slice_set E.pending d w }

-- bit p of a word: 1 where the port p is pending
abbrev pub bit : ℕ → ℕ → ℕ
bit w p = w / 2 ^ p % 2

-- the word with the port p pending, and with it pending no more
abbrev pub marked_word : ℕ → ℕ → ℕ
marked_word w p = bit_or w (2 ^ p)

abbrev pub dropped_word : ℕ → ℕ → ℕ
dropped_word w p = bit_and w (4294967295 - 2 ^ p)

-- the port p of the domain d becomes pending, or is pending no more
abbrev pub marked : ℕ → ℕ → Events → Events
marked d p E = with_word d (marked_word (word E d) p) E

abbrev pub dropped : ℕ → ℕ → Events → Events
dropped d p E = with_word d (dropped_word (word E d) p) E

-- the bit of the port p became b, and every other port is as it was
pub record Only (p b old new : ℕ) : Type 0 where
  pub here : bit new p ≡ b
  pub others : (q : ℕ) → q < 32 → (q ≢ p) → bit new q ≡ bit old q

-- The port that is picked of a word: the lowest. The law asks only that it was pending (`Picks`); another choice changes
-- this, its lemmas and what unfolds it.
unfoldable pub pick : ℕ → ℕ
pick w = count_trailing_zeros 32 w

-- the word alone decides: none where nothing is pending
abbrev pub picked : ℕ → Option ℕ
picked w = cond (w == 0) None (Some (pick w))

-- what was picked of the word w was pending
abbrev pub Picked : ℕ → Option ℕ → Type 0
Picked w None = w ≡ 0
Picked w (Some p) = (p < 32) × (bit w p ≡ 1)
