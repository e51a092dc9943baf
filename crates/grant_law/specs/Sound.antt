-- What holds of the grant tables at all times.
use Rattle.std.specs.Prelude.{◌≡◌, ℕ, ◌^◌, ◌<◌, Bool, true, false, ◌&&◌, length, Some, None, Ok, count_by, Option, ◌==◌, nat_lt}
use Rattle.abi.specs.declared.entry.GrantEntry.{GrantEntry}
use Rattle.rules.specs.Tables.{at}
use Rattle.frame.specs.Owners.{owns, owner_of, with_owner}
use Rattle.frame.specs.declared.owners.Frames.{Frames}
use Rattle.grant.specs.Tables.{new_grants, place, key, record_at, pinned, pins, of_frame}
use Rattle.grant.specs.Entries.{with_entry}
use Rattle.grant.specs.Map.{Grant, map_verdict}
use Rattle.grant.specs.Pin.{pin, released}
use Rattle.grant.specs.declared.tables.Record.{Record}
use Rattle.grant.specs.declared.tables.Mapping.{Mapping}
use Rattle.grant.specs.declared.tables.Mode.{Mode}
use Rattle.grant.specs.declared.tables.Mode.TheVariants.{Read, Write}
use Rattle.grant.specs.declared.tables.Grants.{Grants}

abbrev pub same_mode : Mode → Mode → Bool
same_mode Read Read = true
same_mode Read Write = false
same_mode Write Read = false
same_mode Write Write = true

-- where the entry stands that a mapping goes through
abbrev pub place_of : Mapping → ℕ
place_of p = place p.owner p.reference

-- the handle maps through the entry at i in the mode m
abbrev pub through : ℕ → Mode → Option Mapping → Bool
through i m None = false
through i m (Some p) = place_of p == i && same_mode p.mode m

-- a record's readers, or its writers
abbrev pub count_of : Mode → Record → ℕ
count_of Read r = r.readers
count_of Write r = r.writers

-- a handle in use names an entry that there is
abbrev pub placed : Option Mapping → Bool
placed None = true
placed (Some p) = nat_lt p.owner 8 && nat_lt p.reference 32

pub record Sound (F : Frames) (G : Grants) : Type 0 where
  pub owners_size : length F.owners ≡ 256
  pub entries_size : length G.entries ≡ 256
  pub records_size : length G.records ≡ 256
  pub handles_size : length G.handles ≡ 512
  pub all_placed : (k : ℕ) → placed (at G.handles k) ≡ true
  -- each record's readers are the handles that name it for reading, its writers those for writing
  pub counts : (m : Mode) (i : ℕ) → i < 256 → count_of m (record_at G i) ≡ count_by (through i m) G.handles
  -- these handles have the record's frame and are its mapper's
  pub told : (d h : ℕ) (p : Mapping) → d < 8 → h < 64 → at G.handles (key d h) ≡ Some p
      → ((record_at G (place_of p)).frame ≡ p.frame) × ((record_at G (place_of p)).mapper ≡ d)
  -- a pinned record's frame belongs to the entry's domain
  pub owned : (d n : ℕ) → d < 8 → n < 32 → pinned (record_at G (place d n)) ≡ true → owns F d (record_at G (place d n)).frame ≡ true
  -- a frame's pins are the handles in use on it
  pub frame_pins : (f : ℕ) → pins G.records f ≡ count_by (of_frame false f) G.handles

-- each step keeps the tables sound
pub record StaysSound : Type 0 where
  pub at_first : (F : Frames) → length F.owners ≡ 256 → Sound F new_grants
  pub entry_written : (F : Frames) (G : Grants) (i : ℕ) (e : GrantEntry) → Sound F G → Sound F (with_entry i e G)
  -- a frame that nobody owns is settled
  pub settled : (F : Frames) (G : Grants) (f d : ℕ) → owner_of F f ≡ None → Sound F G → Sound (with_owner f (Some d) F) G
  -- a frame that has no pins is released
  pub let_go : (F : Frames) (G : Grants) (f : ℕ) → pins G.records f ≡ 0 → Sound F G → Sound (with_owner f None F) G
  -- a map that is accepted begins
  pub pinning : (F : Frames) (G : Grants) (d owner reference mode : ℕ) (g : Grant) → d < 8
      → map_verdict F G d owner reference mode ≡ Ok g → Sound F G → Sound F (pin d g.handle g.mapping G)
  -- a handle is freed
  pub unpinning : (F : Frames) (G : Grants) (d h : ℕ) → d < 8 → Sound F G → Sound F (released d h G)
  -- no count comes near its 32 bits
  pub bounded : (F : Frames) (G : Grants) (m : Mode) (i : ℕ) → i < 256 → Sound F G → count_of m (record_at G i) < 2 ^ 10
