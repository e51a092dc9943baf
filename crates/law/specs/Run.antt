-- Whole runs, and the law over them.
use Rattle.std.specs.Prelude.{◌≡◌, ℕ, List, [], ◌∷◌, ◌++◌, Ok}
use Rattle.device.specs.Meaning.{Rules}
use Rattle.answer.specs.Parts.{answer_parts}
use Rattle.law.specs.World.{World}
use Rattle.law.specs.Call.{Call, Reply}
use Rattle.law.specs.Step.{step, started}
use Rattle.law.specs.Account.{Account, nothing_yet, noted}
use Rattle.law.specs.Keeps.{Step, Keeps}

-- the steps so far, the last first
abbrev pub History : Type 0 → Type 0 → Type 0
History M N = List (Step M N)

module _ {M N : Type 0} (R : Rules M) (S : Rules N) where
  -- a host that start has just made over this memory, and devices that have nothing in hand
  pub record Starts (w : World M N) : Type 0 where
    pub count : ℕ
    pub new : started count w.memory ≡ Ok w.host
    pub idle0 : R.orders w.bay0 ≡ []
    pub idle1 : S.orders w.bay1 ≡ []

  -- what may happen from u to w between two calls: guests write their frames, the next call is given memory of another
  -- length, which is refused, and devices go on with the orders that they have in hand
  pub record Meanwhile (u w : World M N) : Type 0 where
    pub host : w.host ≡ u.host
    pub orders0 : R.orders w.bay0 ≡ R.orders u.bay0
    pub orders1 : S.orders w.bay1 ≡ S.orders u.bay1

  -- what the account holds after a run
  unfoldable pub account : History M N → Account
  account [] = nothing_yet
  account (s ∷ h) = noted R S (account h) s.call s.answered s.found.memory s.found.bay0 s.found.bay1

module _ {M N : Type 0} (R : Rules M) (S : Rules N) (pick : ℕ → ℕ) where
  -- the call c, made at the world w, answers r and leaves v: its step
  pub record Does (w : World M N) (c : Call) (r : Reply) (v : World M N) : Type 0 where
    pub answers : r ≡ (step R S pick w c).answer
    pub parts : answer_parts r.result ≡ answer_parts (step R S pick w c).answer.result
    pub leaves : v ≡ (step R S pick w c).world

  -- h is a run that has led to w: each call found what the one before it left, or what came of that meanwhile
  unfoldable pub Reaches : History M N → World M N → Type 0
  Reaches [] w = (u : World M N) × (Starts R S u × Meanwhile R S u w)
  Reaches (s ∷ h) w = Reaches h s.found × Does s.found s.call s.answered s.left × Meanwhile R S s.left w

  -- every step of the run keeps the law
  unfoldable pub Lawful : History M N → Type 0
  Lawful [] = Unit {0}
  Lawful (s ∷ h) = Keeps R S pick (account R S h) (account R S (s ∷ h)) s × Lawful h

  -- what a public call promises: it takes its step, and whatever run led to it, the run with it is one too, and lawful
  pub record Kept (w : World M N) (c : Call) (r : Reply) (v : World M N) : Type 0 where
    pub does : Does w c r v
    pub runs : (h : History M N) → Reaches h w → Reaches (record { found = w; call = c; answered = r; left = v } ∷ h) v
    pub lawful : (h : History M N) → Reaches h w → Lawful (record { found = w; call = c; answered = r; left = v } ∷ h)

  -- the world that the calls' steps leave, made one after the other from w on
  unfoldable pub after_calls : World M N → List Call → World M N
  after_calls w [] = w
  after_calls w (c ∷ cs) = after_calls (step R S pick w c).world cs

  -- the calls of a run, the first first
  unfoldable pub calls_of : History M N → List Call
  calls_of [] = []
  calls_of (s ∷ h) = calls_of h ++ (s.call ∷ [])

  -- the steps h have led from the world u to w, and nothing came between: not before the first, and not behind the last
  unfoldable pub AtOnce : World M N → History M N → World M N → Type 0
  AtOnce u [] w = w ≡ u
  AtOnce u (s ∷ h) w = AtOnce u h s.found × (w ≡ s.left)

  -- the calls cs, made one after the other from u on, where a host has just started, have led to w, and lawfully
  pub record Ran (u : World M N) (cs : List Call) (w : World M N) : Type 0 where
    pub history : History M N
    pub made : calls_of history ≡ cs
    pub starts : Starts R S u
    pub at_once : AtOnce u history w
    pub reached : Reaches history w
    pub lawful : Lawful history
