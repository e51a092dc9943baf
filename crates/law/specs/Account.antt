-- A bookkeeper beside the host. It is given each call, its answer, and the memory and the devices as the call found
-- them; it never sees the host.
use Rattle.std.specs.Prelude.{ℕ, ◌+◌, ◌*◌, List, [], ◌∷◌, ◌++◌, length, get_or, replicate, Some, None, Option, slice_index, slice_index_or, slice_set}
use Rattle.std.specs.Option.{unwrap_or}
use Rattle.abi.specs.declared.entry.GrantEntry.{GrantEntry}
use Rattle.abi.specs.declared.page.Kind.{Kind}
use Rattle.abi.specs.declared.page.Kind.TheVariants.{Block}
use Rattle.rules.specs.Refusal.{after_ok, if_some}
use Rattle.rules.specs.Tables.{at}
use Rattle.device.specs.Meaning.{Rules, ready_ticket}
use Rattle.device.specs.declared.orders.Order.{Order}
use Rattle.device.specs.declared.transfer.Part.{Part}
use Rattle.grant.specs.Tables.{blank, place, key, lowest}
use Rattle.grant.specs.Entries.{with_flags}
use Rattle.grant.specs.Map.{mode_of}
use Rattle.grant.specs.declared.tables.Mapping.{Mapping}
use Rattle.grant.specs.declared.tables.Mode.{Mode}
use Rattle.grant.specs.declared.tables.Mode.TheVariants.{Write}
use Rattle.ringpage.specs.declared.slot.Request.{Request}
use Rattle.ring.specs.Total.{request_or_zeros}
use Rattle.request.specs.Content.{asked, id_of, operation_of, spans_of, direction_of}
use Rattle.request.specs.declared.content.Span.{Span}
use Rattle.connection.specs.Tables.{kind_numbered, next_ticket}
use Rattle.connection.specs.declared.kinds.Bay.{Bay}
use Rattle.connection.specs.declared.kinds.Bay.TheVariants.{BlockBay, NetBay}
use Rattle.backend.specs.Segments.{mode_for, order_for}
use Rattle.answer.specs.declared.reply.Answer.{Answer}
use Rattle.answer.specs.declared.reply.Answer.TheVariants.{Done, Length, Handle, Port, Connected, Idle, HandedOver, AnsweredNow, Completed}
use Rattle.law.specs.Call.{Call, Take, Give, Load, Store, Entry, End, Map, Unmap, Send, Next, Connect, Serve, Complete, Disconnect, Reply}
use Rattle.law.specs.Step.{bay_numbered}

-- a mapping in force, and the entry under which it was accepted
pub record MappingNote : Type 0 where
  pub mapping : Mapping
  pub under : GrantEntry

-- a live connection: its guest, its ring page and domain 0's handle of that; the requests consumed, the first first;
-- and for each response written the number of the request that it answers
pub record ConnectionNote : Type 0 where
  pub kind : Kind
  pub guest : ℕ
  pub page : ℕ
  pub handle : ℕ
  pub requests : List Request
  pub answered : List ℕ

-- a job: the number of its request on its connection, with its id and operation; of each segment domain 0's handle, and
-- where it lies in memory; and the order that the device was handed
pub record JobNote : Type 0 where
  pub connection : ℕ
  pub kind : Kind
  pub index : ℕ
  pub id : ℕ
  pub operation : ℕ
  pub handles : List ℕ
  pub parts : List Part
  pub order : Order

pub record Account : Type 0 where
  -- by frame
  pub owners : List (Option ℕ)
  -- by 32 * domain + reference, as entry and end set them
  pub entries : List GrantEntry
  -- by 64 * mapper + handle
  pub mappings : List (Option MappingNote)
  -- by frame: how many maps of it, and unmaps, were accepted
  pub maps : List ℕ
  pub unmaps : List ℕ
  -- by number
  pub connections : List (Option ConnectionNote)
  -- by ticket
  pub jobs : List (Option JobNote)

unfoldable pub nothing_yet : Account
nothing_yet = record {
  owners = replicate 256 None;
  entries = replicate 256 blank;
  mappings = replicate 512 None;
  maps = replicate 256 0;
  unmaps = replicate 256 0;
  connections = replicate 6 None;
  jobs = replicate 12 None;
}

-- one more of the frame f
abbrev pub counted : ℕ → List ℕ → List ℕ
counted f xs = slice_set xs f (slice_index xs f + 1)

abbrev pub noted_owner : ℕ → Option ℕ → Account → Account
noted_owner f o a = record { owners = slice_set a.owners f o; entries = a.entries; mappings = a.mappings; maps = a.maps; unmaps = a.unmaps; connections = a.connections; jobs = a.jobs }

abbrev pub noted_entry : ℕ → GrantEntry → Account → Account
noted_entry i e a = record { owners = a.owners; entries = slice_set a.entries i e; mappings = a.mappings; maps = a.maps; unmaps = a.unmaps; connections = a.connections; jobs = a.jobs }

abbrev pub noted_connection : ℕ → Option ConnectionNote → Account → Account
noted_connection c n a = record { owners = a.owners; entries = a.entries; mappings = a.mappings; maps = a.maps; unmaps = a.unmaps; connections = slice_set a.connections c n; jobs = a.jobs }

abbrev pub noted_job : ℕ → Option JobNote → Account → Account
noted_job t n a = record { owners = a.owners; entries = a.entries; mappings = a.mappings; maps = a.maps; unmaps = a.unmaps; connections = a.connections; jobs = slice_set a.jobs t n }

-- a mapping of the entry's frame is in force: by the mapper d, under the handle h
abbrev pub mapping_noted : ℕ → ℕ → ℕ → ℕ → Mode → Account → Account
mapping_noted d h owner reference mode a =
    let e : GrantEntry = get_or a.entries (place owner reference) blank in
    record {
      owners = a.owners;
      entries = a.entries;
      mappings = slice_set a.mappings (key d h) (Some (record { mapping = record { owner = owner; reference = reference; frame = e.frame; mode = mode }; under = e }));
      maps = counted e.frame a.maps;
      unmaps = a.unmaps;
      connections = a.connections;
      jobs = a.jobs;
    }

-- the mapper d's mapping under the handle h ends
abbrev pub mapping_ended : ℕ → ℕ → Account → Account
mapping_ended d h a =
    if_some (at a.mappings (key d h)) a (λ n. record {
      owners = a.owners;
      entries = a.entries;
      mappings = slice_set a.mappings (key d h) None;
      maps = a.maps;
      unmaps = counted n.mapping.frame a.unmaps;
      connections = a.connections;
      jobs = a.jobs;
    })

-- domain 0's mappings under these handles end, the last first
abbrev pub mappings_ended : List ℕ → Account → Account
mappings_ended [] a = a
mappings_ended (h ∷ hs) a = mapping_ended 0 h (mappings_ended hs a)

-- the handle of domain 0 that goes out next: the lowest that is free
abbrev pub next_handle : Account → ℕ
next_handle a = unwrap_or (lowest a.mappings 0) 0

-- where a span of the frame f lies in memory
abbrev pub part_of : ℕ → Span → Part
part_of f s = record { start = 4096 * f + s.start; length = s.length }

-- domain 0 maps a guest's spans in turn: the account after it, the handles, and where the spans lie, each behind those
-- that were there
pub record SpansNoted : Type 0 where
  pub account : Account
  pub handles : List ℕ
  pub parts : List Part

abbrev pub spans_noted : ℕ → Mode → List ℕ → List Part → Account → List Span → SpansNoted
spans_noted guest mode hs ps a [] = record { account = a; handles = hs; parts = ps }
spans_noted guest mode hs ps a (s ∷ ss) =
    let h : ℕ = next_handle a in
    let f : ℕ = (get_or a.entries (place guest s.reference) blank).frame in
    spans_noted guest mode (hs ++ h ∷ []) (ps ++ part_of f s ∷ []) (mapping_noted 0 h guest s.reference mode a) ss

-- the request whose number is the count so far, as the memory has it
abbrev pub next_noted : ConnectionNote → List ℕ → Request
next_noted n m = request_or_zeros m n.page n.kind (length n.requests)

abbrev pub with_request : Request → ConnectionNote → ConnectionNote
with_request q n = record { kind = n.kind; guest = n.guest; page = n.page; handle = n.handle; requests = n.requests ++ q ∷ []; answered = n.answered }

abbrev pub with_response : ℕ → ConnectionNote → ConnectionNote
with_response i n = record { kind = n.kind; guest = n.guest; page = n.page; handle = n.handle; requests = n.requests; answered = n.answered ++ i ∷ [] }

-- connect: the ring is mapped, and it counts from 0
abbrev pub connect_noted : ℕ → ℕ → ℕ → ℕ → Account → Account
connect_noted c d kind reference a =
    let h : ℕ = next_handle a in
    let page : ℕ = (get_or a.entries (place d reference) blank).frame in
    noted_connection c (Some (record { kind = unwrap_or (kind_numbered kind) Block; guest = d; page = page; handle = h; requests = []; answered = [] }))
    (mapping_noted 0 h d reference Write a)

-- a request was consumed and handed over: it is a job under the ticket that is serve's
abbrev pub job_noted : ℕ → ConnectionNote → Request → Account → Account
job_noted c n q a =
    let s : SpansNoted = spans_noted n.guest (mode_of (mode_for (direction_of q))) [] [] a (spans_of q) in
    let t : ℕ = next_ticket a.jobs c in
    noted_job t (Some (record {
      connection = c;
      kind = n.kind;
      index = length n.requests;
      id = id_of q;
      operation = operation_of q;
      handles = s.handles;
      parts = s.parts;
      order = order_for t (asked q);
    }))
    (noted_connection c (Some (with_request q n)) s.account)

-- a request was consumed and answered at once
abbrev pub answer_noted : ℕ → ConnectionNote → Request → Account → Account
answer_noted c n q a = noted_connection c (Some (with_response (length n.requests) (with_request q n))) a

-- the job under the ticket t is answered, and its mappings end
abbrev pub job_answered : ℕ → JobNote → Account → Account
job_answered t j a =
    noted_job t None
    (mappings_ended j.handles
    (if_some (at a.connections j.connection) a (λ n. noted_connection j.connection (Some (with_response j.index n)) a)))

abbrev pub ticket_answered : Option ℕ → Account → Account
ticket_answered o a = if_some o a (λ t. if_some (at a.jobs t) a (λ j. job_answered t j a))

-- serve: only its answers 1 and 2 are noted
abbrev pub serve_noted : ℕ → Answer → List ℕ → Account → Account
serve_noted c Done m a = a
serve_noted c (Length n) m a = a
serve_noted c (Handle h) m a = a
serve_noted c (Port p) m a = a
serve_noted c (Connected k) m a = a
serve_noted c Idle m a = a
serve_noted c HandedOver m a = if_some (at a.connections c) a (λ n. job_noted c n (next_noted n m) a)
serve_noted c (AnsweredNow f) m a = if_some (at a.connections c) a (λ n. answer_noted c n (next_noted n m) a)
serve_noted c Completed m a = a

-- complete: only its answer 1 is noted, by the ticket that ready answered
abbrev pub complete_noted : Answer → Option ℕ → Account → Account
complete_noted Done t a = a
complete_noted (Length n) t a = a
complete_noted (Handle h) t a = a
complete_noted (Port p) t a = a
complete_noted (Connected k) t a = a
complete_noted Idle t a = a
complete_noted HandedOver t a = a
complete_noted (AnsweredNow f) t a = a
complete_noted Completed t a = ticket_answered t a

-- disconnect: the ring's mapping ends
abbrev pub disconnect_noted : ℕ → Account → Account
disconnect_noted c a = if_some (at a.connections c) a (λ n. noted_connection c None (mapping_ended 0 n.handle a))

-- the number that an answer has: a handle, or a connection
abbrev pub number_in : Answer → ℕ
number_in Done = 0
number_in (Length n) = n
number_in (Handle h) = h
number_in (Port p) = p
number_in (Connected c) = c
number_in Idle = 0
number_in HandedOver = 1
number_in (AnsweredNow f) = 2
number_in Completed = 1

module _ {M N : Type 0} (R : Rules M) (S : Rules N) where
  -- the ticket that ready answers in a bay
  abbrev pub ready_in : Bay → M → N → Option ℕ
  ready_in BlockBay x y = ready_ticket R x
  ready_in NetBay x y = ready_ticket S y

  -- the account after a call that was accepted
  unfoldable pub accepted : Account → Call → Answer → List ℕ → M → N → Account
  accepted a (Take d f) r m x y = noted_owner f (Some d) a
  accepted a (Give d f) r m x y = noted_owner f None a
  accepted a (Load d f o n) r m x y = a
  accepted a (Store d f o bs) r m x y = a
  accepted a (Entry d n fl to f) r m x y = noted_entry (place d n) (record { flags = fl; domid = to; frame = f }) a
  accepted a (End d n) r m x y = noted_entry (place d n) (with_flags 0 (slice_index_or a.entries (place d n) blank)) a
  accepted a (Map d o n md) r m x y = mapping_noted d (number_in r) o n (mode_of md) a
  accepted a (Unmap d h) r m x y = mapping_ended d h a
  accepted a (Send d p) r m x y = a
  accepted a (Next d) r m x y = a
  accepted a (Connect d k n) r m x y = connect_noted (number_in r) d k n a
  accepted a (Serve c) r m x y = serve_noted c r m a
  accepted a (Complete b) r m x y = complete_noted r (ready_in (bay_numbered b) x y) a
  accepted a (Disconnect c) r m x y = disconnect_noted c a

  -- the account after a call and its answer; a refusal changes nothing
  unfoldable pub noted : Account → Call → Reply → List ℕ → M → N → Account
  noted a c r m x y = after_ok r.result a (λ answer. accepted a c answer m x y)
