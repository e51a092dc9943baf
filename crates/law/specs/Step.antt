-- Each call's step: what it answers and what it leaves.
use Rattle.std.specs.Prelude.{ℕ, ◌+◌, ◌-◌, ◌*◌, Bool, false, cond, not, ◌||◌, List, [], ◌∷◌, length, Some, None, Ok, Err, Option, Result, ◌==◌, nat_lt}
use Rattle.rules.specs.Refusal.{Rule, refuse_first, passed, granting, after_ok, either_of}
use Rattle.device.specs.Meaning.{Rules}
use Rattle.frame.specs.Domain.{no_domain}
use Rattle.frame.specs.Owners.{take_rules, give_rules, with_owner}
use Rattle.frame.specs.Access.{access_rules}
use Rattle.frame.specs.Memory.{bytes_at, placed, zeroed}
use Rattle.frame.specs.declared.fault.FrameFault.{FrameFault}
use Rattle.grant.specs.Tables.{place, entry_at, pins, maps_frame, writes_frame}
use Rattle.grant.specs.Entries.{entry_rules, end_rules, with_entry, with_flags}
use Rattle.grant.specs.Map.{map_verdict, unmap_verdict}
use Rattle.grant.specs.Pin.{pin, unpin}
use Rattle.event.specs.Pending.{word, marked, dropped}
use Rattle.event.specs.declared.fault.EventFault.{EventFault}
use Rattle.event.specs.declared.fault.EventFault.TheVariants.{BadPort}
use Rattle.ring.specs.declared.fault.RingFault.{RingFault}
use Rattle.ring.specs.declared.fault.RingFault.TheVariants.{BadBay}
use Rattle.connection.specs.Tables.{bay_of, connection_at}
use Rattle.connection.specs.declared.kinds.Bay.{Bay}
use Rattle.connection.specs.declared.kinds.Bay.TheVariants.{BlockBay, NetBay}
use Rattle.connection.specs.declared.tables.Connection.{Connection}
use Rattle.backend.specs.declared.tables.Tables.{Tables}
use Rattle.answer.specs.declared.fault.HostFault.{HostFault}
use Rattle.answer.specs.declared.fault.HostFault.TheVariants.{BadMemory, BadCaller, OfFrame, OfGrant, OfEvent, OfRing}
use Rattle.answer.specs.declared.reply.Answer.{Answer}
use Rattle.answer.specs.declared.reply.Answer.TheVariants.{Done, Length, Handle, Port, Connected}
use Rattle.law.specs.World.{World, new_host, with_frames, with_grants, with_events, with_host, with_memory}
use Rattle.law.specs.Call.{Call, Take, Give, Load, Store, Entry, End, Map, Unmap, Send, Next, Connect, Serve, Complete, Disconnect, Reply}
use Rattle.law.specs.Connect.{connect_verdict, new_number, connected, connected_memory, disconnect_verdict, disconnected}
use Rattle.law.specs.Serve.{Outcome, served}
use Rattle.law.specs.Complete.{completed}

-- what a call answers, and the world that it leaves
pub record Ends (M N : Type 0) : Type 0 where
  pub answer : Reply
  pub world : World M N

-- every call refuses memory of another size than the host's frames
abbrev pub wrong_memory : Tables → List ℕ → Bool
wrong_memory H m = not (length m == 4096 * H.frames.count)

abbrev pub memory_rules : Tables → List ℕ → List (Rule HostFault)
memory_rules H m = (wrong_memory H m, BadMemory) ∷ []

-- a guest's call then refuses a caller outside 1 to 7
abbrev pub guest_rules : Tables → List ℕ → ℕ → List (Rule HostFault)
guest_rules H m d = (wrong_memory H m, BadMemory) ∷ (d == 0 || no_domain d, BadCaller) ∷ []

-- next also takes domain 0
abbrev pub next_rules : Tables → List ℕ → ℕ → List (Rule HostFault)
next_rules H m d = (wrong_memory H m, BadMemory) ∷ (no_domain d, BadCaller) ∷ []

-- start: a new host of 1 to 256 frames, over memory of just that size
abbrev pub start_rules : ℕ → List ℕ → List (Rule HostFault)
start_rules n m = (n == 0 || nat_lt 256 n || not (length m == 4096 * n), BadMemory) ∷ []

unfoldable pub started : ℕ → List ℕ → Result Tables HostFault
started n m = refuse_first (start_rules n m) (Ok (new_host n))

-- the connection is live, and d is its guest
abbrev pub guests_end : ℕ → Option Connection → Bool
guests_end d None = false
guests_end d (Some k) = k.guest == d

abbrev pub send_rules : Tables → ℕ → ℕ → List (Rule EventFault)
send_rules H d p = (p == 0 || not (guests_end d (connection_at H.rings (p - 1))), BadPort) ∷ []

-- the port that next answers, 0 where none is pending
abbrev pub next_port : (ℕ → ℕ) → ℕ → ℕ
next_port pick w = cond (w == 0) 0 (pick w)

-- the bay with this number
abbrev pub bay_rules : ℕ → List (Rule RingFault)
bay_rules b = (nat_lt 1 b, BadBay) ∷ []

abbrev pub bay_numbered : ℕ → Bay
bay_numbered b = cond (b == 1) NetBay BlockBay

-- the bay that serves a connection; where none is live, serve refuses whatever the bay
abbrev pub serving_bay : Option Connection → Bay
serving_bay None = BlockBay
serving_bay (Some k) = bay_of k.kind

-- a result, and no bytes
abbrev pub told : Result Answer HostFault → Reply
told r = record { result = r; filled = [] }

module _ {M N : Type 0} where
  -- a call by rules: refused by the first that holds, with the world as it was, or done
  abbrev pub by_rules : {E : Type 0} → (E → HostFault) → List (Rule E) → World M N → Answer → World M N → Ends M N
  by_rules g rules w a v =
      record { answer = told (passed g (granting (λ _. a) (refuse_first {T = Unit} rules (Ok tt)))); world = after_ok (refuse_first {T = Unit} rules (Ok tt)) w (λ _. v) }

  -- a call by a verdict that grants something
  abbrev pub by_verdict : {T E : Type 0} → (E → HostFault) → Result T E → World M N → (T → Answer) → (T → World M N) → Ends M N
  by_verdict g r w f v = record { answer = told (passed g (granting f r)); world = after_ok r w v }

  -- what the device of a bay had part in
  abbrev pub by_bay0 : World M N → Outcome M → Ends M N
  by_bay0 w o = record { answer = told (passed OfRing o.answer); world = record { host = o.host; memory = o.memory; bay0 = o.device; bay1 = w.bay1 } }

  abbrev pub by_bay1 : World M N → Outcome N → Ends M N
  by_bay1 w o = record { answer = told (passed OfRing o.answer); world = record { host = o.host; memory = o.memory; bay0 = w.bay0; bay1 = o.device } }

module _ {M N : Type 0} (R : Rules M) (S : Rules N) where
  abbrev pub served_in : Bay → ℕ → World M N → Ends M N
  served_in BlockBay c w = by_bay0 w (served R c w.host w.memory w.bay0)
  served_in NetBay c w = by_bay1 w (served S c w.host w.memory w.bay1)

  abbrev pub completed_in : Bay → World M N → Ends M N
  completed_in BlockBay w = by_bay0 w (completed R BlockBay w.host w.memory w.bay0)
  completed_in NetBay w = by_bay1 w (completed S NetBay w.host w.memory w.bay1)

module _ {M N : Type 0} (R : Rules M) (S : Rules N) (pick : ℕ → ℕ) where
  -- the call at the world w, if the host itself does not refuse it; `pick` decides which pending port next answers
  unfoldable pub proceeds : World M N → Call → Ends M N
  proceeds w (Take d f) =
      by_rules OfFrame (take_rules w.host.frames f) w Done
      (with_memory (zeroed f w.memory) (with_host (with_frames (with_owner f (Some d) w.host.frames) w.host) w))
  proceeds w (Give d f) =
      by_rules OfFrame (give_rules w.host.frames (pins w.host.grants.records f) d f) w Done
      (with_host (with_frames (with_owner f None w.host.frames) w.host) w)
  proceeds w (Load d f o n) =
      let r : Result Unit FrameFault = refuse_first (access_rules w.host.frames (maps_frame w.host.grants d f) d f o n) (Ok tt) in
      record { answer = record { result = passed OfFrame (granting (λ _. Length n) r); filled = after_ok r [] (λ _. bytes_at (4096 * f + o) n w.memory) }; world = w }
  proceeds w (Store d f o bs) =
      by_rules OfFrame (access_rules w.host.frames (writes_frame w.host.grants d f) d f o (length bs)) w (Length (length bs))
      (with_memory (placed (4096 * f + o) bs w.memory) w)
  proceeds w (Entry d n fl to f) =
      by_rules OfGrant (entry_rules n) w Done
      (with_host (with_grants (with_entry (place d n) (record { flags = fl; domid = to; frame = f }) w.host.grants) w.host) w)
  proceeds w (End d n) =
      by_rules OfGrant (end_rules w.host.grants d n) w Done
      (with_host (with_grants (with_entry (place d n) (with_flags 0 (entry_at w.host.grants (place d n))) w.host.grants) w.host) w)
  proceeds w (Map d o n md) =
      by_verdict OfGrant (map_verdict w.host.frames w.host.grants d o n md) w (λ g. Handle g.handle)
      (λ g. with_host (with_grants (pin d g.handle g.mapping w.host.grants) w.host) w)
  proceeds w (Unmap d h) =
      by_verdict OfGrant (unmap_verdict w.host.grants d h) w (λ _. Done)
      (λ p. with_host (with_grants (unpin d h p w.host.grants) w.host) w)
  proceeds w (Send d p) =
      by_rules OfEvent (send_rules w.host d p) w Done
      (with_host (with_events (marked 0 p w.host.events) w.host) w)
  proceeds w (Next d) =
      let p : ℕ = next_port pick (word w.host.events d) in
      record { answer = told (Ok (Port p)); world = cond (word w.host.events d == 0) w (with_host (with_events (dropped d p w.host.events) w.host) w) }
  proceeds w (Connect d k n) =
      by_verdict OfRing (connect_verdict w.host d k n) w (λ _. Connected (new_number w.host))
      (λ g. with_memory (connected_memory g w.memory) (with_host (connected d k g w.host) w))
  proceeds w (Serve c) = served_in R S (serving_bay (connection_at w.host.rings c)) c w
  proceeds w (Complete b) =
      either_of (refuse_first {T = Unit} (bay_rules b) (Ok tt))
      (λ _. completed_in R S (bay_numbered b) w)
      (λ e. record { answer = told (Err (OfRing e)); world = w })
  proceeds w (Disconnect c) =
      by_verdict OfRing (disconnect_verdict w.host c) w (λ _. Done)
      (λ k. with_host (disconnected c k w.host) w)

  -- what the host itself refuses, before the call's own rules
  abbrev pub host_rules : World M N → Call → List (Rule HostFault)
  host_rules w (Take d f) = guest_rules w.host w.memory d
  host_rules w (Give d f) = guest_rules w.host w.memory d
  host_rules w (Load d f o n) = guest_rules w.host w.memory d
  host_rules w (Store d f o bs) = guest_rules w.host w.memory d
  host_rules w (Entry d n fl to f) = guest_rules w.host w.memory d
  host_rules w (End d n) = guest_rules w.host w.memory d
  host_rules w (Map d o n md) = guest_rules w.host w.memory d
  host_rules w (Unmap d h) = guest_rules w.host w.memory d
  host_rules w (Send d p) = guest_rules w.host w.memory d
  host_rules w (Next d) = next_rules w.host w.memory d
  host_rules w (Connect d k n) = guest_rules w.host w.memory d
  host_rules w (Serve c) = memory_rules w.host w.memory
  host_rules w (Complete b) = memory_rules w.host w.memory
  host_rules w (Disconnect c) = memory_rules w.host w.memory

  -- the step: what the call, made at the world w, answers and leaves
  unfoldable pub step : World M N → Call → Ends M N
  step w c = either_of (refuse_first {T = Unit} (host_rules w c) (Ok tt)) (λ _. proceeds w c) (λ f. record { answer = told (Err f); world = w })
