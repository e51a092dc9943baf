-- What is true of one call of a run, sentence by sentence.
use Rattle.std.specs.Prelude.{◌≡◌, ℕ, ◌+◌, ◌*◌, ◌<◌, ◌≤◌, Bool, true, false, cond, ◌⊎◌, List, [], ◌∷◌, map, length, ℤ, Some, None, Ok, Err, count_by, Option, ◌==◌, ◌≢◌, slice_index}
use Rattle.std.specs.List.{filter}
use Rattle.std.specs.Option.{option_map}
use Rattle.abi.specs.Index.{shown}
use Rattle.abi.specs.Page.{slot_start}
use Rattle.abi.specs.declared.page.Kind.{Kind}
use Rattle.rules.specs.Refusal.{if_some}
use Rattle.rules.specs.Tables.{at}
use Rattle.device.specs.Meaning.{Rules}
use Rattle.device.specs.declared.orders.Direction.{Direction}
use Rattle.device.specs.declared.orders.Order.{Order}
use Rattle.device.specs.declared.transfer.Part.{Part}
use Rattle.device.specs.declared.fault.DeviceFault.{DeviceFault}
use Rattle.frame.specs.Memory.{frame_bytes, bytes_at}
use Rattle.grant.specs.Tables.{key, pins}
use Rattle.grant.specs.Map.{names}
use Rattle.grant.specs.declared.tables.Mode.TheVariants.{Write}
use Rattle.event.specs.Pending.{word, bit}
use Rattle.ringpage.specs.declared.slot.Request.{Request}
use Rattle.ring.specs.Response.{response_bytes}
use Rattle.ring.specs.declared.fault.RingFault.TheVariants.{OfDevice}
use Rattle.request.specs.Content.{id_of, operation_of}
use Rattle.connection.specs.Tables.{bay_of, same_bay, handles_of, parts_of}
use Rattle.connection.specs.declared.kinds.Bay.{Bay}
use Rattle.connection.specs.declared.kinds.Bay.TheVariants.{BlockBay, NetBay}
use Rattle.connection.specs.declared.tables.Connection.{Connection}
use Rattle.connection.specs.declared.tables.Job.{Job}
use Rattle.answer.specs.declared.fault.HostFault.{HostFault}
use Rattle.answer.specs.declared.fault.HostFault.TheVariants.{OfRing}
use Rattle.answer.specs.declared.reply.Answer.TheVariants.{Port, Connected}
use Rattle.law.specs.World.{World, with_memory}
use Rattle.law.specs.Call.{Call, Next, Connect, domain, Reply}
use Rattle.law.specs.Step.{step}
use Rattle.law.specs.Account.{Account, MappingNote, ConnectionNote, JobNote}

-- one step of a run: a call, its answer, what it found and what it left
pub record Step (M N : Type 0) : Type 0 where
  pub found : World M N
  pub call : Call
  pub answered : Reply
  pub left : World M N

-- the domain d owns the frame f
abbrev pub Owns : Account → ℕ → ℕ → Type 0
Owns a d f = at a.owners f ≡ Some d

-- the domain d has the frame f mapped, under a handle of its own
pub record Maps (a : Account) (d f : ℕ) : Type 0 where
  pub handle : ℕ
  pub note : MappingNote
  pub own : handle < 64
  pub in_force : at a.mappings (key d handle) ≡ Some note
  pub frame : note.mapping.frame ≡ f

-- and for writing
pub record Writes (a : Account) (d f : ℕ) : Type 0 where
  pub maps : Maps a d f
  pub mode : maps.note.mapping.mode ≡ Write

-- the mapping n by the domain d was accepted under an entry in which the frame's owner named d, and it is the owner still
pub record Granted (a : Account) (d : ℕ) (n : MappingNote) : Type 0 where
  pub named : names n.under d ≡ true
  pub frame : n.under.frame ≡ n.mapping.frame
  pub owner : Owns a n.mapping.owner n.mapping.frame

-- the element number k, if there is one
abbrev pub nth : {X : Type 0} → List X → ℕ → Option X
nth xs k = at (map Some xs) k

-- the slot of the response number j holds a response to the request q, with q's id
pub record InSlot (n : ConnectionNote) (j : ℕ) (q : Request) (m : List ℕ) : Type 0 where
  pub status : ℤ
  pub stands : (let r : List ℕ = response_bytes n.kind (id_of q) (operation_of q) status in
      bytes_at (4096 * n.page + slot_start n.kind j) (length r) m ≡ r)

-- how many responses the connection c has had
abbrev pub responses : Account → ℕ → ℕ
responses a c = if_some (at a.connections c) 0 (λ n. length n.answered)

-- the job is one of the connection c
abbrev pub on_connection : ℕ → Option JobNote → Bool
on_connection c None = false
on_connection c (Some j) = j.connection == c

-- the mapping is of the frame f
abbrev pub on_frame : ℕ → Option MappingNote → Bool
on_frame f None = false
on_frame f (Some n) = n.mapping.frame == f

-- the orders under the ticket t
abbrev pub under_ticket : ℕ → List Order → List Order
under_ticket t os = filter (λ o. o.ticket == t) os

-- the order that serve handed to the bay's device for this job, if it is a job of the bay
abbrev pub handed : Bay → Option JobNote → List Order
handed b None = []
handed b (Some j) = cond (same_bay (bay_of j.kind) b) (j.order ∷ []) []

-- the port p is the domain d's end of a live connection: port c + 1 of its guest, and of domain 0
pub record LiveEnd (conns : List (Option ConnectionNote)) (d p : ℕ) : Type 0 where
  pub number : ℕ
  pub note : ConnectionNote
  pub live : at conns number ≡ Some note
  pub port : p ≡ number + 1
  pub whose : (d ≡ 0) ⊎ (d ≡ note.guest)

-- what the host and the account both know of a live connection, and of a job
pub record Pairing : Type 0 where
  pub kind : Kind
  pub guest : ℕ
  pub page : ℕ
  pub handle : ℕ

pub record Work : Type 0 where
  pub connection : ℕ
  pub kind : Kind
  pub id : ℕ
  pub operation : ℕ
  pub direction : Direction
  pub handles : List ℕ
  pub parts : List Part

abbrev pub host_pairing : Connection → Pairing
host_pairing k = record { kind = k.kind; guest = k.guest; page = k.page; handle = k.handle }

abbrev pub noted_pairing : ConnectionNote → Pairing
noted_pairing n = record { kind = n.kind; guest = n.guest; page = n.page; handle = n.handle }

abbrev pub host_work : Job → Work
host_work j = record {
  connection = j.connection;
  kind = j.kind;
  id = j.id;
  operation = j.operation;
  direction = j.direction;
  handles = handles_of j;
  parts = parts_of j;
}

abbrev pub noted_work : JobNote → Work
noted_work n = record {
  connection = n.connection;
  kind = n.kind;
  id = n.id;
  operation = n.operation;
  direction = n.order.direction;
  handles = n.handles;
  parts = n.parts;
}

-- the private indices of a live connection are its counts, modulo 2 ^ 32
pub record Counted (k : Connection) (n : ConnectionNote) : Type 0 where
  pub consumed : k.req_cons ≡ shown (length n.requests)
  pub produced : k.rsp_prod ≡ shown (length n.answered)

-- the law of one step: a is the account before the call, b after it
pub record Keeps {M N : Type 0} (R : Rules M) (S : Rules N) (pick : ℕ → ℕ) (a b : Account) (s : Step M N) : Type 0 where
  -- the number of frames stays; the sentences about a frame are of those below it
  pub frames_stay : s.left.host.frames.count ≡ s.found.host.frames.count
  -- a frame's accepted maps less its accepted unmaps are its pins
  pub pins_are_maps_less_unmaps : (f : ℕ) → f < s.left.host.frames.count
      → pins s.left.host.grants.records f + slice_index b.unmaps f ≡ slice_index b.maps f
  -- a frame that had pins before the call keeps its owner
  pub pinned_keeps_owner : (f : ℕ) → f < s.left.host.frames.count
      → 0 < pins s.found.host.grants.records f → at b.owners f ≡ at a.owners f
  -- each mapping in force was accepted under an entry in which the frame's owner named the mapper, and it is the owner still
  pub mapped_as_granted : (d h : ℕ) (n : MappingNote) → h < 64 → at b.mappings (key d h) ≡ Some n → Granted b d n
  -- the call altered no frame that its domain neither owns now nor had mapped for writing before
  pub alters_only_its_own : (f : ℕ) → f < s.left.host.frames.count
      → (Owns b (domain s.call) f → ⊥) → (Writes a (domain s.call) f → ⊥)
      → frame_bytes f s.left.memory ≡ frame_bytes f s.found.memory
  -- other bytes in frames that its domain neither owned nor had mapped before would have changed neither its answer,
  -- filled bytes included, nor a device
  pub learns_only_its_own : (m : List ℕ) → length m ≡ length s.found.memory
      → ((f : ℕ) → f < s.left.host.frames.count → Owns a (domain s.call) f ⊎ Maps a (domain s.call) f → frame_bytes f m ≡ frame_bytes f s.found.memory)
      → ((step R S pick (with_memory m s.found) s.call).answer ≡ s.answered)
      × ((step R S pick (with_memory m s.found) s.call).world.bay0 ≡ s.left.bay0)
      × ((step R S pick (with_memory m s.found) s.call).world.bay1 ≡ s.left.bay1)
  -- a refusal alters nothing
  pub refusal_alters_nothing : (f : HostFault) → s.answered.result ≡ Err f → s.left ≡ s.found
  -- on each live connection, requests consumed = responses written + jobs in hand
  pub each_request_spent : (c : ℕ) (n : ConnectionNote) → at b.connections c ≡ Some n
      → length n.requests ≡ length n.answered + count_by (on_connection c) b.jobs
  -- each response answers one consumed request
  pub answers_a_request : (c j : ℕ) (n : ConnectionNote) → at b.connections c ≡ Some n
      → j < length n.answered → slice_index n.answered j < length n.requests
  -- a response written by this call stands in its slot as the call ends, with that request's id
  pub response_in_slot : (c j : ℕ) (n : ConnectionNote) (q : Request) → at b.connections c ≡ Some n
      → responses a c ≤ j → j < length n.answered → nth n.requests (slice_index n.answered j) ≡ Some q
      → InSlot n j q s.left.memory
  -- no request is answered twice
  pub answered_once : (c i j : ℕ) (n : ConnectionNote) → at b.connections c ≡ Some n
      → i < length n.answered → j < length n.answered → slice_index n.answered i ≡ slice_index n.answered j → i ≡ j
  -- a device's orders in hand are those that serve handed over for its jobs, each ticket once
  pub orders_are_jobs0 : (t : ℕ) → under_ticket t (R.orders s.left.bay0) ≡ handed BlockBay (at b.jobs t)
  pub orders_are_jobs1 : (t : ℕ) → under_ticket t (S.orders s.left.bay1) ≡ handed NetBay (at b.jobs t)
  -- so no fill, drain or done is refused
  pub never_broken_off : (e : DeviceFault) → s.answered.result ≢ Err (OfRing (OfDevice e))
  -- the host's owners, live connections and jobs are the account's
  pub owners_agree : s.left.host.frames.owners ≡ b.owners
  pub connections_agree : map (option_map host_pairing) s.left.host.rings.connections ≡ map (option_map noted_pairing) b.connections
  pub jobs_agree : map (option_map host_work) s.left.host.rings.jobs ≡ map (option_map noted_work) b.jobs
  -- its handles in use are the mappings in force, one each
  pub handles_agree : s.left.host.grants.handles ≡ map (option_map (λ n. n.mapping)) b.mappings
  -- and a frame's pins are their number on it
  pub pins_are_mappings : (f : ℕ) → f < s.left.host.frames.count
      → pins s.left.host.grants.records f ≡ count_by (on_frame f) b.mappings
  -- private req_cons and rsp_prod are the counts of requests consumed and responses written, modulo 2 ^ 32
  pub indices_agree : (c : ℕ) (k : Connection) (n : ConnectionNote) → at s.left.host.rings.connections c ≡ Some k → at b.connections c ≡ Some n
      → Counted k n
  -- a pending port is its domain's end of a live connection, and at connect neither end is pending
  pub pending_is_live : (d p : ℕ) → bit (word s.left.host.events d) p ≡ 1 → LiveEnd b.connections d p
  pub connect_unmarked : (d kind reference c : ℕ) → s.call ≡ Connect d kind reference → s.answered.result ≡ Ok (Connected c)
      → (e : ℕ) → bit (word s.left.host.events e) (c + 1) ≡ 0
  -- next answers a port that was pending, or 0 where none was
  pub next_was_pending : (d p : ℕ) → s.call ≡ Next d → s.answered.result ≡ Ok (Port p)
      → ((word s.found.host.events d ≡ 0) × (p ≡ 0)) ⊎ (bit (word s.found.host.events d) p ≡ 1)
