-- What holds between the calls of a run, of the account and the host. Each part names just what it speaks of, so that
-- a step passes on whole what it does not touch.
use Rattle.std.proofs.Common.{◌≡◌, ℕ, ◌+◌, ◌*◌, ◌%◌, ◌^◌, ◌<◌, ◌≤◌, Bool, true, false, cond, ◌&&◌, eqb, ltb, List, map, length, get_or, is_some, Some, None, sum_by, count_by, Option}
use Rattle.std.specs.Option.{option_map}
use Rattle.abi.specs.declared.entry.GrantEntry.{GrantEntry}
use Rattle.rules.specs.Tables.{at}
use Rattle.device.specs.Meaning.{Rules}
use Rattle.device.specs.declared.orders.Direction.{Direction}
use Rattle.device.specs.declared.transfer.Part.{Part}
use Rattle.frame.specs.declared.owners.Frames.{Frames}
use Rattle.grant.specs.Tables.{blank, key, entry_at}
use Rattle.grant.specs.Map.{names, mode_of}
use Rattle.grant.specs.declared.tables.Mapping.{Mapping}
use Rattle.grant.specs.declared.tables.Mode.TheVariants.{Write}
use Rattle.grant.specs.declared.tables.Grants.{Grants}
use Rattle.grant_law.specs.Sound.{Sound}
use Rattle.event.specs.Pending.{word, bit}
use Rattle.event.specs.declared.pending.Events.{Events}
use Rattle.ringpage.specs.declared.slot.Request.{Request}
use Rattle.request.specs.Content.{id_of, operation_of}
use Rattle.connection.specs.Tables.{handles_of, parts_of}
use Rattle.connection.specs.declared.kinds.Bay.{Bay}
use Rattle.connection.specs.declared.kinds.Bay.TheVariants.{BlockBay, NetBay}
use Rattle.connection.specs.declared.tables.Connection.{Connection}
use Rattle.connection.specs.declared.tables.Job.{Job}
use Rattle.connection.specs.declared.tables.Rings.{Rings}
use Rattle.backend.specs.Segments.{mode_for}
use Rattle.law.specs.World.{World}
use Rattle.law.specs.Account.{Account, MappingNote, ConnectionNote, JobNote}
use Rattle.law.specs.Keeps.{LiveEnd, nth, on_connection, on_frame, under_ticket, handed, host_pairing, noted_pairing, host_work, noted_work, Counted}

-- frames, entries and mappings: the tables are sound, and what the account has of them is theirs
pub record Books (F : Frames) (G : Grants) (owners : List (Option ℕ)) (entries : List GrantEntry) (mappings : List (Option MappingNote)) (maps unmaps : List ℕ) : Type 0 where
  pub sound : Sound F G
  pub owners_same : F.owners ≡ owners
  pub entries_size : length entries ≡ 256
  pub maps-size : length maps ≡ 256
  pub unmaps-size : length unmaps ≡ 256
  -- the host's entries grant what the account's do: only the bits 8 and 16 may differ
  pub type_same : (i : ℕ) → (entry_at G i).flags % 4 ≡ (get_or entries i blank).flags % 4
  pub domid_same : (i : ℕ) → (entry_at G i).domid ≡ (get_or entries i blank).domid
  pub frame_same : (i : ℕ) → (entry_at G i).frame ≡ (get_or entries i blank).frame
  pub handles_same : G.handles ≡ map (option_map (λ n. n.mapping)) mappings
  -- a mapping in force is of the frame that its entry named, for the domain that it named
  pub named : (d h : ℕ) (n : MappingNote) → h < 64 → at mappings (key d h) ≡ Some n → names n.under d ≡ true
  pub under : (d h : ℕ) (n : MappingNote) → h < 64 → at mappings (key d h) ≡ Some n → n.under.frame ≡ n.mapping.frame
  pub counted : (f : ℕ) → f < 256 → count_by (on_frame f) mappings + get_or unmaps f 0 ≡ get_or maps f 0

abbrev pub BooksOf : Frames → Grants → Account → Type 0
BooksOf F G a = Books F G a.owners a.entries a.mappings a.maps a.unmaps

-- how often domain 0's handle h is a ring's or a segment's
abbrev pub ring_has : ℕ → Option Connection → Bool
ring_has h None = false
ring_has h (Some k) = eqb k.handle h

abbrev pub segments_with : ℕ → Option Job → ℕ
segments_with h None = 0
segments_with h (Some j) = count_by (λ x. eqb x h) (handles_of j)

abbrev pub handle_uses : Rings → ℕ → ℕ
handle_uses C h = count_by (ring_has h) C.connections + sum_by (segments_with h) C.jobs

-- domain 0 has the ring page of the connection k mapped for writing
pub record PageMapped (hs : List (Option Mapping)) (k : Connection) : Type 0 where
  pub mapping : Mapping
  pub below : k.handle < 64
  pub there : at hs (key 0 k.handle) ≡ Some mapping
  pub frame : mapping.frame ≡ k.page
  pub mode : mapping.mode ≡ Write

-- the part p lies in the frame f
pub record PartIn (p : Part) (f : ℕ) : Type 0 where
  pub offset : ℕ
  pub start : p.start ≡ 4096 * f + offset
  pub inside : offset + p.length ≤ 4096

-- domain 0 has the part p mapped under the handle h, in the mode that the direction wants
pub record SegmentMapped (hs : List (Option Mapping)) (way : Direction) (h : ℕ) (p : Part) : Type 0 where
  pub mapping : Mapping
  pub below : h < 64
  pub there : at hs (key 0 h) ≡ Some mapping
  pub lies : PartIn p mapping.frame
  pub mode : mapping.mode ≡ mode_of (mode_for way)

abbrev pub no_part : Part
no_part = record { start = 0; length = 0 }

-- the job j under the ticket t: its connection is live, its ticket one of that connection's, its segments mapped
pub record JobHeld (hs : List (Option Mapping)) (C : Rings) (t : ℕ) (j : Job) : Type 0 where
  pub connection : Connection
  pub live : at C.connections j.connection ≡ Some connection
  pub kind : connection.kind ≡ j.kind
  pub low : 2 * j.connection ≤ t
  pub high : t ≤ 2 * j.connection + 1
  pub few : j.count ≤ 11
  pub handles_size : length j.handles ≡ 11
  pub parts_size : length j.parts ≡ 11
  pub segments : (i : ℕ) → i < j.count → SegmentMapped hs j.direction (get_or j.handles i 0) (get_or j.parts i no_part)

-- connections and jobs: the host's are the account's, and domain 0's handles are theirs, each of one
pub record Links (hs : List (Option Mapping)) (C : Rings) (conns : List (Option ConnectionNote)) (jobs : List (Option JobNote)) : Type 0 where
  pub connections-size : length C.connections ≡ 6
  pub jobs-size : length C.jobs ≡ 12
  pub connections_same : map (option_map host_pairing) C.connections ≡ map (option_map noted_pairing) conns
  pub jobs_same : map (option_map host_work) C.jobs ≡ map (option_map noted_work) jobs
  pub indices : (c : ℕ) (k : Connection) (n : ConnectionNote) → at C.connections c ≡ Some k → at conns c ≡ Some n → Counted k n
  pub own : (h : ℕ) → h < 64 → handle_uses C h ≡ cond (is_some (at hs (key 0 h))) 1 0
  pub page : (c : ℕ) (k : Connection) → at C.connections c ≡ Some k → PageMapped hs k
  pub job : (t : ℕ) (j : Job) → at C.jobs t ≡ Some j → JobHeld hs C t j

-- how often the request number i of the connection c is answered or in hand
abbrev pub job_has : ℕ → ℕ → Option JobNote → Bool
job_has c i None = false
job_has c i (Some j) = eqb j.connection c && eqb j.index i

abbrev pub request_uses : List (Option JobNote) → ℕ → ConnectionNote → ℕ → ℕ
request_uses jobs c n i = count_by (λ x. eqb x i) n.answered + count_by (job_has c i) jobs

-- the request of a job, by its note
pub record RequestHeld (j : Job) (x : JobNote) (n : ConnectionNote) : Type 0 where
  pub request : Request
  pub there : nth n.requests x.index ≡ Some request
  pub id : id_of request ≡ j.id
  pub operation : operation_of request ≡ j.operation

-- the order that the device was handed for the job
pub record OrderHeld (t : ℕ) (j : Job) (x : JobNote) : Type 0 where
  pub ticket : x.order.ticket ≡ t
  pub direction : x.order.direction ≡ j.direction
  pub length : x.order.length ≡ sum_by (λ (p : Part). p.length) (parts_of j)

-- each consumed request is answered or in hand, once
pub record Requests (held : List (Option Job)) (conns : List (Option ConnectionNote)) (jobs : List (Option JobNote)) : Type 0 where
  pub once : (c i : ℕ) (n : ConnectionNote) → at conns c ≡ Some n → request_uses jobs c n i ≡ cond (ltb i (length n.requests)) 1 0
  pub total : (c : ℕ) (n : ConnectionNote) → at conns c ≡ Some n → length n.requests ≡ length n.answered + count_by (on_connection c) jobs
  pub request : (t : ℕ) (j : Job) (x : JobNote) (n : ConnectionNote) → at held t ≡ Some j → at jobs t ≡ Some x → at conns x.connection ≡ Some n → RequestHeld j x n
  pub order : (t : ℕ) (j : Job) (x : JobNote) → at held t ≡ Some j → at jobs t ≡ Some x → OrderHeld t j x

-- a device's orders in hand are those of its jobs
abbrev pub BayHeld : {X : Type 0} → Rules X → X → Bay → List (Option JobNote) → Type 0
BayHeld D x b jobs = (t : ℕ) → under_ticket t (D.orders x) ≡ handed b (at jobs t)

-- a domain's marks are 32 bits, and each marked port is its end of a live connection
pub record Words (E : Events) (conns : List (Option ConnectionNote)) : Type 0 where
  pub small : (d : ℕ) → word E d < 2 ^ 32
  pub live : (d p : ℕ) → bit (word E d) p ≡ 1 → LiveEnd conns d p

-- what holds whatever memory the next call is given
pub record Standing {M N : Type 0} (R : Rules M) (S : Rules N) (a : Account) (w : World M N) : Type 0 where
  pub few : w.host.frames.count ≤ 256
  pub books : BooksOf w.host.frames w.host.grants a
  pub links : Links w.host.grants.handles w.host.rings a.connections a.jobs
  pub requests : Requests w.host.rings.jobs a.connections a.jobs
  pub bay0 : BayHeld R w.bay0 BlockBay a.jobs
  pub bay1 : BayHeld S w.bay1 NetBay a.jobs
  pub words : Words w.host.events a.connections

-- and with memory of the size that the host's frames have
pub record Inv {M N : Type 0} (R : Rules M) (S : Rules N) (a : Account) (w : World M N) : Type 0 where
  pub few : w.host.frames.count ≤ 256
  pub memory : length w.memory ≡ 4096 * w.host.frames.count
  pub books : BooksOf w.host.frames w.host.grants a
  pub links : Links w.host.grants.handles w.host.rings a.connections a.jobs
  pub requests : Requests w.host.rings.jobs a.connections a.jobs
  pub bay0 : BayHeld R w.bay0 BlockBay a.jobs
  pub bay1 : BayHeld S w.bay1 NetBay a.jobs
  pub words : Words w.host.events a.connections

module _ {M N : Type 0} (R : Rules M) (S : Rules N) (a : Account) (w : World M N) where
  pub standing : Inv R S a w → Standing R S a w
  standing i = record { few = i.few; books = i.books; links = i.links; requests = i.requests; bay0 = i.bay0; bay1 = i.bay1; words = i.words }

  pub with_size : Standing R S a w → length w.memory ≡ 4096 * w.host.frames.count → Inv R S a w
  with_size s size = record { few = s.few; memory = size; books = s.books; links = s.links; requests = s.requests; bay0 = s.bay0; bay1 = s.bay1; words = s.words }
