-- Domain 0 maps what a request names, and unmaps it again.
use Rattle.std.specs.Prelude.{◌≡◌, ℕ, ◌+◌, ◌*◌, min, List, [], ◌∷◌, replicate, Some, None, Ok, Err, Option, Result, slice_set}
use Rattle.rules.specs.Refusal.{either_of, granting, after_ok, if_some}
use Rattle.frame.specs.declared.owners.Frames.{Frames}
use Rattle.grant.specs.Map.{mode_number, map_verdict}
use Rattle.grant.specs.Pin.{pin, released}
use Rattle.grant.specs.declared.tables.Mode.TheVariants.{Read, Write}
use Rattle.grant.specs.declared.tables.Grants.{Grants}
use Rattle.grant.specs.declared.fault.GrantFault.{GrantFault}
use Rattle.abi.specs.declared.page.Kind.{Kind}
use Rattle.blkif.specs.Block.{most_segments}
use Rattle.device.specs.declared.orders.Direction.{Direction}
use Rattle.device.specs.declared.orders.Direction.TheVariants.{Inward, Outward}
use Rattle.device.specs.declared.orders.Order.{Order}
use Rattle.device.specs.declared.transfer.Part.{Part}
use Rattle.ring.specs.declared.fault.RingFault.TheVariants.{OfGrant}
use Rattle.request.specs.Check.{miss}
use Rattle.request.specs.Content.{Asked}
use Rattle.request.specs.declared.content.Span.{Span}
use Rattle.request.specs.declared.fields.Miss.{Miss}
use Rattle.connection.specs.Tables.{handles_of}
use Rattle.connection.specs.declared.tables.Job.{Job}

-- bytes that go inward are written into the guest's frames, others read from them
abbrev pub mode_for : Direction → ℕ
mode_for Inward = mode_number Write
mode_for Outward = mode_number Read

-- domain 0's handles are freed, the last first
abbrev pub released_all : List ℕ → Grants → Grants
released_all [] G = G
released_all (h ∷ hs) G = released 0 h (released_all hs G)

-- where a span of this frame lies in the memory; a place that 32 bits do not count is past every host's memory
abbrev pub part_in : ℕ → Span → Part
part_in frame s = record { start = min (4096 * frame + s.start) 4294967295; length = s.length }

-- the job that a request of the connection c becomes, with nothing mapped yet
abbrev pub job_for : ℕ → Kind → Asked → Job
job_for c kind a = record {
  connection = c;
  kind = kind;
  direction = a.direction;
  id = a.id;
  operation = a.operation;
  count = 0;
  handles = replicate most_segments 0;
  parts = replicate most_segments (record { start = 0; length = 0 });
}

-- the job with its segment number i mapped, under the handle h
abbrev pub with_segment : ℕ → ℕ → Part → Job → Job
with_segment i h p j = record {
  connection = j.connection;
  kind = j.kind;
  direction = j.direction;
  id = j.id;
  operation = j.operation;
  count = i + 1;
  handles = slice_set j.handles i h;
  parts = slice_set j.parts i p;
}

-- the order that the request becomes, under the ticket t
abbrev pub order_for : ℕ → Asked → Order
order_for t a = record { ticket = t; direction = a.direction; place = a.place; length = a.length }

-- the tables, the job as far as it got, and why it got no further
pub record MappingDone : Type 0 where
  pub grants : Grants
  pub job : Job
  pub fault : Option Miss

-- domain 0 maps the guest's spans in turn, the next one being number i; where one is refused, those before it are
-- unmapped again
abbrev pub pin_all : Frames → ℕ → ℕ → Job → Grants → List Span → MappingDone
pin_all F guest i j G [] = record { grants = G; job = j; fault = None }
pin_all F guest i j G (s ∷ ss) =
    either_of (map_verdict F G 0 guest s.reference (mode_for j.direction))
    (λ g. pin_all F guest (i + 1) (with_segment i g.handle (part_in g.mapping.frame s) j) (pin 0 g.handle g.mapping G) ss)
    (λ e. record { grants = released_all (handles_of j) G; job = j; fault = Some (miss (OfGrant e) i) })

-- the job with no segment mapped: a fresh one is so already
abbrev pub emptied : Job → Job
emptied j = record {
  connection = j.connection;
  kind = j.kind;
  direction = j.direction;
  id = j.id;
  operation = j.operation;
  count = 0;
  handles = j.handles;
  parts = j.parts;
}

-- the guest's spans were mapped as the segments of the job, or what was mapped of them unmapped again
pub record Pinned (F : Frames) (guest : ℕ) (spans : List Span) (G : Grants) (j : Job) (r : Result Unit Miss) (G' : Grants) (j' : Job) : Type 0 where
  pub answer : r ≡ if_some (pin_all F guest 0 (emptied j) G spans).fault (Ok tt) (λ f. Err f)
  pub grants : G' ≡ (pin_all F guest 0 (emptied j) G spans).grants
  pub job : j' ≡ (pin_all F guest 0 (emptied j) G spans).job

-- one span more was mapped, as the next segment of the job, or refused
pub record SegmentPinned (F : Frames) (guest : ℕ) (s : Span) (G : Grants) (j : Job) (r : Result Unit GrantFault) (G' : Grants) (j' : Job) : Type 0 where
  pub answer : r ≡ granting (λ _. tt) (map_verdict F G 0 guest s.reference (mode_for j.direction))
  pub grants : G' ≡ after_ok (map_verdict F G 0 guest s.reference (mode_for j.direction)) G (λ g. pin 0 g.handle g.mapping G)
  pub job : j' ≡ after_ok (map_verdict F G 0 guest s.reference (mode_for j.direction)) j (λ g. with_segment j.count g.handle (part_in g.mapping.frame s) j)
