-- Runs, call by call.
use Rattle.std.proofs.Common.{◌≡◌, ℕ, List, [], ◌∷◌, ◌++◌, Ok, sym, refl, ap, ◌∙◌}
use Rattle.rules.proofs.Refusals.{none-held}
use Rattle.device.specs.Meaning.{Rules}
use Rattle.backend.specs.declared.tables.Tables.{Tables}
use Rattle.law.specs.World.{World, new_host}
use Rattle.law.specs.Call.{Call, Reply}
use Rattle.law.specs.Step.{step, started, start_rules}
use Rattle.law.specs.Run.{Starts, Reaches, Lawful, Kept, Ran, AtOnce, after_calls, calls_of}
use Rattle.law.proofs.Kept.{at_once}

-- the tables that start gives are a new host's
pub is_new : (n : ℕ) (m : List ℕ) (H : Tables) → started n m ≡ Ok H → H ≡ new_host n
unfolding started
is_new n m H e = let same = (none-held (start_rules n m) (Ok (new_host n)) H e).1 in cc

module _ {M N : Type 0} (R : Rules M) (S : Rules N) (pick : ℕ → ℕ) where
  -- no call was made yet
  pub ran_none : (u w : World M N) → Starts R S u → w ≡ u → Ran R S pick u [] w
  unfolding Reaches Lawful AtOnce calls_of
  ran_none u w starts same = rw same (record { history = []; made = refl; starts = starts; at_once = refl; reached = (u, (starts, at_once R S u)); lawful = tt })

  -- the steps of one call more
  after_last : (u : World M N) (cs : List Call) (c : Call) → after_calls R S pick u (cs ++ c ∷ []) ≡ (step R S pick (after_calls R S pick u cs) c).world
  unfolding after_calls
  after_last u [] c = refl
  after_last u (d ∷ ds) c = after_last (step R S pick u d).world ds c

  pub after_more : (u : World M N) (cs : List Call) (w : World M N) (c : Call) (r : Reply) (v : World M N) → w ≡ after_calls R S pick u cs → Kept R S pick w c r v → v ≡ after_calls R S pick u (cs ++ c ∷ [])
  after_more u cs w c r v same kept = kept.does.leaves ∙ ap (λ x. (step R S pick x c).world) same ∙ sym (after_last u cs c)

  -- one call more
  pub ran_more : (u : World M N) (cs : List Call) (w : World M N) (c : Call) (r : Reply) (v : World M N) → Ran R S pick u cs w → Kept R S pick w c r v → Ran R S pick u (cs ++ c ∷ []) v
  unfolding calls_of AtOnce
  ran_more u cs w c r v ran step = record {
    history = record { found = w; call = c; answered = r; left = v } ∷ ran.history;
    made = ap (λ (xs : List Call). xs ++ c ∷ []) ran.made;
    starts = ran.starts;
    at_once = (ran.at_once, refl);
    reached = step.runs ran.history ran.reached;
    lawful = step.lawful ran.history ran.reached;
  }
