-- A call that takes its step keeps the law, whatever run led to it.
use Rattle.std.proofs.Common.{ℕ, ◌∷◌, refl}
use Rattle.device.specs.Meaning.{Rules}
use Rattle.device.specs.Laws.{Laws}
use Rattle.law.specs.World.{World}
use Rattle.law.specs.Call.{Call, Reply}
use Rattle.law.specs.Run.{Meanwhile, Does, Reaches, Kept}
use Rattle.law.specs.Law.{Picks}
use Rattle.law.proofs.Isolated.{isolation}

module _ {M N : Type 0} (R : Rules M) (S : Rules N) where
  -- nothing happened
  pub at_once : (w : World M N) → Meanwhile R S w w
  at_once w = record { host = refl; orders0 = refl; orders1 = refl }

  pub kept : Laws R → Laws S → (pick : ℕ → ℕ) → Picks pick → (w : World M N) (c : Call) (r : Reply) (v : World M N) → Does R S pick w c r v → Kept R S pick w c r v
  unfolding Reaches
  kept lr ls pick p w c r v d = record {
    does = d;
    runs = λ h reached. (reached, d, at_once v);
    lawful = λ h reached. isolation R S lr ls pick p (record { found = w; call = c; answered = r; left = v } ∷ h) v (reached, d, at_once v);
  }
