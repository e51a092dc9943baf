-- The tables of a new host.
use Rattle.std.specs.Prelude.{ℕ}
use Rattle.connection.specs.Tables.{new_rings}
use Rattle.event.specs.Pending.{new_events}
use Rattle.frame.specs.Owners.{new_frames}
use Rattle.grant.specs.Tables.{new_grants}
use Rattle.backend.specs.declared.tables.Tables.{Tables}

-- n frames that nobody owns, nothing granted, nothing pending, no connection
abbrev pub new_tables : ℕ → Tables
new_tables n = record { frames = new_frames n; grants = new_grants; events = new_events; rings = new_rings }
