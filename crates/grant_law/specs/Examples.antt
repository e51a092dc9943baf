-- Worked examples of maps and unmaps.
use Rattle.std.specs.Prelude.{◌≡◌, ℕ, Some}
use Rattle.rules.specs.Refusal.{after_ok}
use Rattle.frame.specs.Owners.{new_frames, with_owner}
use Rattle.frame.specs.declared.owners.Frames.{Frames}
use Rattle.grant.specs.Tables.{new_grants, place, entry_at, pins}
use Rattle.grant.specs.Entries.{with_entry}
use Rattle.grant.specs.Map.{map_verdict}
use Rattle.grant.specs.Pin.{pin, released}
use Rattle.grant.specs.declared.tables.Grants.{Grants}

-- domain 1 owns frame 3, and grants it to domain 2 by its entry 0, with flags 1
abbrev pub frames : Frames
frames = with_owner 3 (Some 1) (new_frames 8)

abbrev pub granted : Grants
granted = with_entry (place 1 0) (record { flags = 1; domid = 2; frame = 3 }) new_grants

-- domain 2 maps it, for reading (0) or writing (1), if it may
abbrev pub mapped : ℕ → Grants → Grants
mapped mode G = after_ok (map_verdict frames G 2 1 0 mode) G (λ g. pin 2 g.handle g.mapping G)

abbrev pub flags : Grants → ℕ
flags G = (entry_at G (place 1 0)).flags

-- two maps for reading, then the first unmapped, then the second
abbrev pub twice : Grants
twice = mapped 0 (mapped 0 granted)

abbrev pub once : Grants
once = released 2 0 twice

abbrev pub never : Grants
never = released 2 1 once

pub record Worked : Type 0 where
  -- flags 1 become 9 by a read map, 25 by a write map
  pub read_map : flags (mapped 0 granted) ≡ 9
  pub write_map : flags (mapped 1 granted) ≡ 25
  -- of two read maps one is unmapped: flags are 9, and the frame has a pin
  pub one_left_flags : flags once ≡ 9
  pub one_left_pins : pins once.records 3 ≡ 1
  -- both are unmapped: flags are 1, and it has none
  pub none_left_flags : flags never ≡ 1
  pub none_left_pins : pins never.records 3 ≡ 0
