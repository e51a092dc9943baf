-- What a host, its memory and its two devices hold between calls.
use Rattle.std.specs.Prelude.{ℕ, List}
use Rattle.frame.specs.declared.owners.Frames.{Frames}
use Rattle.grant.specs.declared.tables.Grants.{Grants}
use Rattle.event.specs.declared.pending.Events.{Events}
use Rattle.connection.specs.declared.tables.Rings.{Rings}
use Rattle.backend.specs.Tables.{new_tables}
use Rattle.backend.specs.declared.tables.Tables.{Tables}

-- the devices by their meanings: the block device is in bay 0, the network device in bay 1
pub record World (M N : Type 0) : Type 0 where
  pub host : Tables
  pub memory : List ℕ
  pub bay0 : M
  pub bay1 : N

-- a new host of n frames
unfoldable pub new_host : ℕ → Tables
new_host n = new_tables n

-- a host with other tables of one sort
abbrev pub with_frames : Frames → Tables → Tables
with_frames F H = record { frames = F; grants = H.grants; events = H.events; rings = H.rings }

abbrev pub with_grants : Grants → Tables → Tables
with_grants G H = record { frames = H.frames; grants = G; events = H.events; rings = H.rings }

abbrev pub with_events : Events → Tables → Tables
with_events E H = record { frames = H.frames; grants = H.grants; events = E; rings = H.rings }

abbrev pub with_rings : Rings → Tables → Tables
with_rings C H = record { frames = H.frames; grants = H.grants; events = H.events; rings = C }

module _ {M N : Type 0} where
  abbrev pub with_host : Tables → World M N → World M N
  with_host H w = record { host = H; memory = w.memory; bay0 = w.bay0; bay1 = w.bay1 }

  abbrev pub with_memory : List ℕ → World M N → World M N
  with_memory m w = record { host = w.host; memory = m; bay0 = w.bay0; bay1 = w.bay1 }
