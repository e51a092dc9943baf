-- A response: into its slot, the index to the page, and word to the guest where it asked for that.
use Rattle.std.specs.Prelude.{◌≡◌, ℕ, ◌+◌, cond, List, ℤ, Some, ◌==◌}
use Rattle.layout.specs.Layout.{le}
use Rattle.abi.specs.Page.{slot_start}
use Rattle.rules.specs.Refusal.{if_some}
use Rattle.event.specs.Pending.{marked}
use Rattle.event.specs.declared.pending.Events.{Events}
use Rattle.ring.specs.Page.{offset_of}
use Rattle.ring.specs.Total.{word_or_zero, put_in}
use Rattle.ring.specs.Response.{response_bytes}
use Rattle.ring.specs.declared.page.Word.TheVariants.{RspProd, RspEvent}
use Rattle.connection.specs.Tables.{connection_at, with_connection, with_rsp_prod}
use Rattle.connection.specs.declared.tables.Connection.{Connection}
use Rattle.connection.specs.declared.tables.Rings.{Rings}
use Rattle.backend.specs.Look.{next_index}

-- the port of the connection c, at either end
abbrev pub port_of : ℕ → ℕ
port_of c = c + 1

-- the memory with the response in the slot that rsp_prod uses, and the raised index on the page
abbrev pub responded_memory : Connection → ℕ → ℕ → ℤ → List ℕ → List ℕ
responded_memory k id operation status m =
    put_in (put_in m k.page (slot_start k.kind k.rsp_prod) (response_bytes k.kind id operation status))
    k.page (offset_of RspProd) (le 4 (next_index k.rsp_prod))

abbrev pub responded_rings : ℕ → Connection → Rings → Rings
responded_rings c k C = with_connection c (Some (with_rsp_prod (next_index k.rsp_prod) k)) C

-- the guest's port becomes pending if the raised index is the one that the page, now m, asks to be told of
abbrev pub responded_events : ℕ → Connection → List ℕ → Events → Events
responded_events c k m E = cond (next_index k.rsp_prod == word_or_zero m k.page RspEvent) (marked k.guest (port_of c) E) E

-- a response on the connection c, if it is live: what holds afterwards
pub record Responded (c id operation : ℕ) (status : ℤ) (C : Rings) (E : Events) (m : List ℕ) (C' : Rings) (E' : Events) (m' : List ℕ) : Type 0 where
  pub memory : m' ≡ if_some (connection_at C c) m (λ k. responded_memory k id operation status m)
  pub rings : C' ≡ if_some (connection_at C c) C (λ k. responded_rings c k C)
  pub events : E' ≡ if_some (connection_at C c) E (λ k. responded_events c k (responded_memory k id operation status m) E)
