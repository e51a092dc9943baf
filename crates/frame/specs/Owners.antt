-- Who owns which frame.
use Rattle.std.specs.Prelude.{ℕ, Bool, false, not, ◌&&◌, List, [], ◌∷◌, replicate, is_some, Some, None, Option, ◌==◌, nat_lt, slice_set}
use Rattle.rules.specs.Refusal.{Rule}
use Rattle.rules.specs.Tables.{at}
use Rattle.frame.specs.declared.owners.Frames.{Frames}
use Rattle.frame.specs.declared.fault.FrameFault.{FrameFault}
use Rattle.frame.specs.declared.fault.FrameFault.TheVariants.{NoFrame, Owned, NotOwner, Pinned}

-- frames that nobody owns
abbrev pub new_frames : ℕ → Frames
new_frames n = record { count = n; owners = replicate 256 None }

-- the owner of the frame f, if it has one
abbrev pub owner_of : Frames → ℕ → Option ℕ
owner_of F f = at F.owners f

-- the domain d is there
abbrev pub is_domain : ℕ → Option ℕ → Bool
is_domain d None = false
is_domain d (Some x) = x == d

-- the frame f exists
abbrev pub is_frame : Frames → ℕ → Bool
is_frame F f = nat_lt f F.count

-- the frame f exists, and the domain d owns it
abbrev pub owns : Frames → ℕ → ℕ → Bool
owns F d f = is_frame F f && is_domain d (owner_of F f)

-- when a frame cannot be taken
abbrev pub take_rules : Frames → ℕ → List (Rule FrameFault)
take_rules F f = (not (is_frame F f), NoFrame) ∷ (is_some (owner_of F f), Owned) ∷ []

-- when a frame with so many pins cannot be given back
abbrev pub give_rules : Frames → ℕ → ℕ → ℕ → List (Rule FrameFault)
give_rules F pins d f = (not (owns F d f), NotOwner) ∷ (nat_lt 0 pins, Pinned) ∷ []

-- the frames with another owner of f, or none
abbrev pub with_owner : ℕ → Option ℕ → Frames → Frames
with_owner f o F = record { count = F.count; owners = slice_set F.owners f o }
