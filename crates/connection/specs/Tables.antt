-- Connections by number, and jobs by ticket: two to a connection.
use Rattle.std.specs.Prelude.{ℕ, ◌+◌, ◌*◌, Bool, true, false, cond, ◌&&◌, ◌||◌, List, take, replicate, is_some, Some, None, Option, nat_lt, slice_set}
pub use Rattle.abi.specs.Kinds.{kind_numbered}
use Rattle.abi.specs.declared.page.Kind.{Kind}
use Rattle.abi.specs.declared.page.Kind.TheVariants.{Block, Send, Receive}
use Rattle.device.specs.declared.transfer.Part.{Part}
use Rattle.rules.specs.Tables.{at, first_free}
use Rattle.connection.specs.declared.kinds.Bay.{Bay}
use Rattle.connection.specs.declared.kinds.Bay.TheVariants.{BlockBay, NetBay}
use Rattle.connection.specs.declared.tables.Connection.{Connection}
use Rattle.connection.specs.declared.tables.Job.{Job}
use Rattle.connection.specs.declared.tables.Rings.{Rings}

-- bay 0 has the block device, bay 1 the network device
abbrev pub bay_number : Bay → ℕ
bay_number BlockBay = 0
bay_number NetBay = 1

-- the bay whose device serves rings of this kind
abbrev pub bay_of : Kind → Bay
bay_of Block = BlockBay
bay_of Send = NetBay
bay_of Receive = NetBay

abbrev pub same_bay : Bay → Bay → Bool
same_bay BlockBay BlockBay = true
same_bay BlockBay NetBay = false
same_bay NetBay BlockBay = false
same_bay NetBay NetBay = true

-- no connection, no job
abbrev pub new_rings : Rings
new_rings = record { connections = replicate 6 None; jobs = replicate 12 None }

-- the connection c, if it is live
abbrev pub connection_at : Rings → ℕ → Option Connection
connection_at C c = at C.connections c

-- the job under the ticket t, if there is one
abbrev pub job_at : Rings → ℕ → Option Job
job_at C t = at C.jobs t

-- that job, if the device of this bay has it in hand
abbrev pub in_bay : Bay → Option Job → Option Job
in_bay b None = None
in_bay b (Some j) = cond (same_bay (bay_of j.kind) b) (Some j) None

-- the lowest free connection
abbrev pub free_connection : {X : Type 0} → List (Option X) → Option ℕ
free_connection cs = first_free 0 cs

-- the two tickets of a connection, and the one that its next job gets
abbrev pub first_ticket : ℕ → ℕ
first_ticket c = 2 * c

abbrev pub second_ticket : ℕ → ℕ
second_ticket c = 2 * c + 1

abbrev pub next_ticket : {X : Type 0} → List (Option X) → ℕ → ℕ
next_ticket jobs c = cond (is_some (at jobs (first_ticket c))) (second_ticket c) (first_ticket c)

-- the connection has as many jobs as it may, and has any
abbrev pub has_two_jobs : {X : Type 0} → List (Option X) → ℕ → Bool
has_two_jobs jobs c = is_some (at jobs (first_ticket c)) && is_some (at jobs (second_ticket c))

abbrev pub has_jobs : {X : Type 0} → List (Option X) → ℕ → Bool
has_jobs jobs c = is_some (at jobs (first_ticket c)) || is_some (at jobs (second_ticket c))

-- the ticket that the connection's next job gets, if it may have one more
abbrev pub free_ticket : {X : Type 0} → List (Option X) → ℕ → Option ℕ
free_ticket jobs c = cond (nat_lt c 6) (cond (has_two_jobs jobs c) None (Some (next_ticket jobs c))) None

-- the tables with another connection at c, or another job at t
abbrev pub with_connection : ℕ → Option Connection → Rings → Rings
with_connection c k C = record { connections = slice_set C.connections c k; jobs = C.jobs }

abbrev pub with_job : ℕ → Option Job → Rings → Rings
with_job t j C = record { connections = C.connections; jobs = slice_set C.jobs t j }

-- the connection with another private index
abbrev pub with_req_cons : ℕ → Connection → Connection
with_req_cons x k = record { kind = k.kind; guest = k.guest; page = k.page; handle = k.handle; req_cons = x; rsp_prod = k.rsp_prod }

abbrev pub with_rsp_prod : ℕ → Connection → Connection
with_rsp_prod x k = record { kind = k.kind; guest = k.guest; page = k.page; handle = k.handle; req_cons = k.req_cons; rsp_prod = x }

-- domain 0's handles of a job's segments, and the parts of memory that these are
abbrev pub handles_of : Job → List ℕ
handles_of j = take j.count j.handles

abbrev pub parts_of : Job → List Part
parts_of j = take j.count j.parts
