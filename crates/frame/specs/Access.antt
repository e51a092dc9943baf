-- When a domain may load or store a part of a frame.
use Rattle.std.specs.Prelude.{ℕ, Bool, not, ◌||◌, List, [], ◌∷◌}
use Rattle.rules.specs.Refusal.{Rule}
use Rattle.frame.specs.Memory.{past_frame}
use Rattle.frame.specs.Owners.{is_frame, owns}
use Rattle.frame.specs.declared.owners.Frames.{Frames}
use Rattle.frame.specs.declared.fault.FrameFault.{FrameFault}
use Rattle.frame.specs.declared.fault.FrameFault.TheVariants.{NoFrame, OutOfFrame, NoAccess}

-- `held` says whether the domain has a mapping of the frame that does for what it wants
abbrev pub access_rules : Frames → Bool → ℕ → ℕ → ℕ → ℕ → List (Rule FrameFault)
access_rules F held d f offset n =
    (not (is_frame F f), NoFrame)
    ∷ (past_frame offset n, OutOfFrame)
    ∷ (not (owns F d f || held), NoAccess)
    ∷ []
