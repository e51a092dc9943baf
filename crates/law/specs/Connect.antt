-- connect and disconnect.
use Rattle.std.specs.Prelude.{ℕ, not, List, [], ◌∷◌, is_some, Some, None, Ok, Err, Result}
use Rattle.std.specs.Option.{unwrap_or}
use Rattle.abi.specs.declared.page.Kind.TheVariants.{Block}
use Rattle.rules.specs.Refusal.{Rule, refuse_first, passed, if_some}
use Rattle.grant.specs.Map.{mode_number, Grant, map_verdict}
use Rattle.grant.specs.Pin.{pin, released}
use Rattle.grant.specs.declared.tables.Mode.TheVariants.{Write}
use Rattle.event.specs.Pending.{dropped}
use Rattle.ring.specs.Page.{fresh_header}
use Rattle.ring.specs.Total.{put_in}
use Rattle.ring.specs.declared.fault.RingFault.{RingFault}
use Rattle.ring.specs.declared.fault.RingFault.TheVariants.{BadKind, NoConnection, NotLive, HasJobs, OfGrant}
use Rattle.connection.specs.Tables.{kind_numbered, connection_at, free_connection, has_jobs, with_connection}
use Rattle.connection.specs.declared.tables.Connection.{Connection}
use Rattle.backend.specs.Respond.{port_of}
use Rattle.backend.specs.declared.tables.Tables.{Tables}
use Rattle.law.specs.World.{with_grants, with_events, with_rings}

-- connect: the kind, then a free connection, then domain 0's map of the ring page for writing
abbrev pub connect_rules : Tables → ℕ → List (Rule RingFault)
connect_rules H kind =
    (not (is_some (kind_numbered kind)), BadKind)
    ∷ (not (is_some (free_connection H.rings.connections)), NoConnection)
    ∷ []

abbrev pub connect_verdict : Tables → ℕ → ℕ → ℕ → Result Grant RingFault
connect_verdict H d kind reference = refuse_first (connect_rules H kind) (passed OfGrant (map_verdict H.frames H.grants 0 d reference (mode_number Write)))

-- the connection that goes out: the lowest free one
abbrev pub new_number : Tables → ℕ
new_number H = unwrap_or (free_connection H.rings.connections) 0

-- the new connection of the guest d: it counts from 0
abbrev pub new_connection : ℕ → ℕ → Grant → Connection
new_connection d kind g =
    record { kind = unwrap_or (kind_numbered kind) Block; guest = d; page = g.mapping.frame; handle = g.handle; req_cons = 0; rsp_prod = 0 }

abbrev pub connected : ℕ → ℕ → Grant → Tables → Tables
connected d kind g H =
    with_rings (with_connection (new_number H) (Some (new_connection d kind g)) H.rings)
    (with_grants (pin 0 g.handle g.mapping H.grants) H)

-- the page has a fresh header
abbrev pub connected_memory : Grant → List ℕ → List ℕ
connected_memory g m = put_in m g.mapping.frame 0 fresh_header

-- disconnect: not while the connection has jobs
abbrev pub disconnect_verdict : Tables → ℕ → Result Connection RingFault
disconnect_verdict H c =
    if_some (connection_at H.rings c) (Err NotLive) (λ k.
    refuse_first ((has_jobs H.rings.jobs c, HasJobs) ∷ []) (Ok k))

-- the ring is unmapped, both ends' marks are dropped, and the connection is free
abbrev pub disconnected : ℕ → Connection → Tables → Tables
disconnected c k H =
    with_rings (with_connection c None H.rings)
    (with_events (dropped 0 (port_of c) (dropped k.guest (port_of c) H.events))
    (with_grants (released 0 k.handle H.grants) H))
