-- A ring page: its header, the three kinds of ring, and where their slots stand.
use Rattle.std.specs.Prelude.{◌≡◌, ℕ, ◌+◌, ◌*◌, ◌%◌, ◌≤◌, [], ◌∷◌, slice_index}
use Rattle.layout.specs.Layout.{field}
use Rattle.layout.specs.Message.{Message}
use Rattle.abi.specs.Index.{shown}
use Rattle.abi.specs.declared.page.RingHeader.{RingHeader}
use Rattle.abi.specs.declared.page.Kind.{Kind}
use Rattle.abi.specs.declared.page.Kind.TheVariants.{Block, Send, Receive}

abbrev pub ring_header : Message RingHeader
ring_header = record {
  layout = field 4 ∷ field 4 ∷ field 4 ∷ field 4 ∷ [];
  values = λ m. m.req_prod ∷ m.req_event ∷ m.rsp_prod ∷ m.rsp_event ∷ [];
  of = λ vs. record { req_prod = slice_index vs 0; req_event = slice_index vs 1; rsp_prod = slice_index vs 2; rsp_event = slice_index vs 3 };
}

-- how many slots a ring of this kind has
abbrev pub slots : Kind → ℕ
slots Block = 32
slots Send = 256
slots Receive = 256

-- and how many bytes each of them has
abbrev pub slot_size : Kind → ℕ
slot_size Block = 112
slot_size Send = 12
slot_size Receive = 8

-- the slot that an index uses
abbrev pub slot_of : Kind → ℕ → ℕ
slot_of k i = i % slots k

-- the byte of the page where that slot starts
abbrev pub slot_start : Kind → ℕ → ℕ
slot_start k i = 64 + slot_of k i * slot_size k

-- the slot, by any count that shows as the index
abbrev pub SlotOfCount : Kind → ℕ → ℕ → Type 0
SlotOfCount k index s = (n : ℕ) → shown n ≡ index → s ≡ n % slots k

-- a slot that starts at this byte lies inside the page, behind the header
pub record Inside (k : Kind) (start : ℕ) : Type 0 where
  pub behind : 64 ≤ start
  pub within : start + slot_size k ≤ 4096
