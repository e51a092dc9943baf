-- Isolation over any run: every run of any calls, over any two devices that keep the device meaning, is lawful.
use Rattle.std.specs.Prelude.{◌≡◌, ℕ, ◌^◌, ◌<◌}
use Rattle.device.specs.Meaning.{Rules}
use Rattle.device.specs.Laws.{Laws}
use Rattle.event.specs.Pending.{bit}
use Rattle.law.specs.World.{World}
use Rattle.law.specs.Run.{History, Reaches, Lawful}

-- what decides the port that next answers: a function of the domain's marks alone, that picks a marked one
pub record Picks (pick : ℕ → ℕ) : Type 0 where
  pub marked_one : (w : ℕ) → 0 < w → w < 2 ^ 32 → bit w (pick w) ≡ 1

-- every run over devices with these rules is lawful, whatever decides the port that next answers
abbrev pub EveryRunLawful : {M N : Type 0} → Rules M → Rules N → Type 0
EveryRunLawful {M} {N} R S = (pick : ℕ → ℕ) → Picks pick → (h : History M N) (w : World M N) → Reaches R S pick h w → Lawful R S pick h

-- and that is so of all devices that keep the laws
abbrev pub Isolation : {M N : Type 0} → Rules M → Rules N → Type 0
Isolation R S = Laws R → Laws S → EveryRunLawful R S
