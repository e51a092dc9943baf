-- A ring page inside the memory, by its frame.
use Rattle.std.specs.Prelude.{ℕ, ◌+◌, ◌*◌, List, ◌++◌, length, replicate, Result}
use Rattle.layout.specs.Layout.{number, written}
use Rattle.abi.specs.Page.{ring_header, slot_start, slot_size}
use Rattle.abi.specs.declared.page.Kind.{Kind}
use Rattle.ringpage.specs.Slot.{request_at}
use Rattle.ringpage.specs.declared.slot.Request.{Request}
use Rattle.rules.specs.Refusal.{granting}
use Rattle.frame.specs.Memory.{part_verdict}
use Rattle.frame.specs.declared.fault.FrameFault.{FrameFault}
use Rattle.ring.specs.declared.page.Word.{Word}
use Rattle.ring.specs.declared.page.Word.TheVariants.{ReqProd, ReqEvent, RspProd, RspEvent}

-- where a word of the header stands in the page
abbrev pub offset_of : Word → ℕ
offset_of ReqProd = 0
offset_of ReqEvent = 4
offset_of RspProd = 8
offset_of RspEvent = 12

-- whether the memory has a word of the header, and what it says there
abbrev pub word_verdict : List ℕ → ℕ → Word → Result Unit FrameFault
word_verdict m page w = part_verdict (length m) page (offset_of w) 4

abbrev pub word_at : List ℕ → ℕ → Word → ℕ
word_at m page w = number 4 (4096 * page + offset_of w) m

-- the word, or why it cannot be read
abbrev pub word_in : List ℕ → ℕ → Word → Result ℕ FrameFault
word_in m page w = granting (λ _. word_at m page w) (word_verdict m page w)

-- whether the memory has the slot that an index uses, and where that starts
abbrev pub slot_verdict : List ℕ → ℕ → Kind → ℕ → Result Unit FrameFault
slot_verdict m page kind i = part_verdict (length m) page (slot_start kind i) (slot_size kind)

abbrev pub slot_place : ℕ → Kind → ℕ → ℕ
slot_place page kind i = 4096 * page + slot_start kind i

-- the request in the slot, or why it cannot be read
abbrev pub request_in : List ℕ → ℕ → Kind → ℕ → Result Request FrameFault
request_in m page kind i = granting (λ _. request_at kind (slot_place page kind i) m) (slot_verdict m page kind i)

-- a fresh header: 0, 1, 0, 1, and zeros up to the first slot
abbrev pub fresh_header : List ℕ
fresh_header = written ring_header.layout (ring_header.values (record { req_prod = 0; req_event = 1; rsp_prod = 0; rsp_event = 1 })) ++ replicate 48 0
