-- The ring as a back end finds it, and a request taken off it.
use Rattle.std.specs.Prelude.{ℕ, ◌+◌, ◌%◌, ◌^◌, Bool, true, false, cond, List, [], ◌∷◌, Some, Ok, Result, ◌==◌}
use Rattle.rules.specs.Refusal.{refuse_first, and_then}
use Rattle.ringpage.specs.declared.slot.Request.{Request}
use Rattle.ring.specs.Page.{offset_of}
use Rattle.ring.specs.Total.{word_or_zero, put_in, request_or_zeros}
use Rattle.ring.specs.Producer.{ahead}
use Rattle.ring.specs.declared.page.Word.TheVariants.{ReqProd, ReqEvent}
use Rattle.ring.specs.declared.fault.RingFault.{RingFault}
use Rattle.ring.specs.declared.fault.RingFault.TheVariants.{Busy}
use Rattle.layout.specs.Layout.{le}
use Rattle.connection.specs.Tables.{with_connection, with_req_cons}
use Rattle.connection.specs.declared.tables.Connection.{Connection}
use Rattle.connection.specs.declared.tables.Job.{Job}
use Rattle.connection.specs.declared.tables.Rings.{Rings}
use Rattle.backend.specs.declared.consumed.Consumed.{Consumed}

-- the next index, round the circle of 2 ^ 32
abbrev pub next_index : ℕ → ℕ
next_index i = (i + 1) % 2 ^ 32

-- whether a request is next: the guest's index is looked at first, then whether there is anything, then whether the
-- back end is busy
abbrev pub look : Bool → Connection → List ℕ → Result Bool RingFault
look busy k m =
    and_then (ahead k.kind k.req_cons k.rsp_prod (word_or_zero m k.page ReqProd)) (λ n.
    cond (n == 0) (Ok false) (refuse_first ((busy, Busy) ∷ []) (Ok true)))

-- the request that is next
abbrev pub next_request : Connection → List ℕ → Request
next_request k m = request_or_zeros m k.page k.kind k.req_cons

-- the guest is asked to tell of its next request
abbrev pub event_asked : Connection → List ℕ → List ℕ
event_asked k m = put_in m k.page (offset_of ReqEvent) (le 4 (next_index k.req_cons))

-- one request more is taken off the ring
abbrev pub consumed : Connection → Connection
consumed k = with_req_cons (next_index k.req_cons) k

abbrev pub consumed_on : ℕ → Connection → Rings → Rings
consumed_on c k C = with_connection c (Some (consumed k)) C

-- the job as that of the request that was taken off
abbrev pub own_job : Consumed → Job → Job
own_job t j = record j { connection = t.connection; id = t.id; operation = t.operation }
