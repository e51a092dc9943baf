-- The requests that are produced and not yet answered.
use Rattle.std.specs.Prelude.{◌≡◌, ℕ, ◌-◌, ◌^◌, ◌<◌, ◌≤◌, cond, Ok, Err, Result, nat_le}
use Rattle.abi.specs.Index.{distance, shown}
use Rattle.abi.specs.Page.{slots}
use Rattle.abi.specs.declared.page.Kind.{Kind}
use Rattle.abi.specs.declared.page.RingHeader.{RingHeader}
use Rattle.ringpage.specs.declared.requests.Outstanding.{Outstanding}
use Rattle.ringpage.specs.declared.requests.Overrun.{Overrun}

-- how many requests a header says are outstanding
abbrev pub claimed : RingHeader → ℕ
claimed h = distance h.rsp_prod h.req_prod

-- they are outstanding if the ring has room for so many
abbrev pub outstanding_on : Kind → RingHeader → Result Outstanding Overrun
outstanding_on k h =
    cond (nat_le (claimed h) (slots k))
    (Ok (record { first = h.rsp_prod; count = claimed h }))
    (Err (record { claimed = claimed h; slots = slots k }))

-- Of any ring whose counts of requests and responses, at most a turn apart, show as this header's:
-- the requests past the last response are as many as o counts, and the first of them is o's.
abbrev pub Unanswered : RingHeader → Outstanding → Type 0
Unanswered h o = (responses requests : ℕ) → responses ≤ requests → requests - responses < 2 ^ 32
    → shown responses ≡ h.rsp_prod → shown requests ≡ h.req_prod
    → (o.count ≡ requests - responses) × (o.first ≡ shown responses)
