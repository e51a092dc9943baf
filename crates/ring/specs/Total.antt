-- Ring pages without a refusal: a page that the memory does not have reads as zeros, and takes no write.
use Rattle.std.specs.Prelude.{◌≡◌, ℕ, ◌+◌, ◌*◌, List, length, replicate}
use Rattle.abi.specs.Page.{slot_size}
use Rattle.abi.specs.declared.page.Kind.{Kind}
use Rattle.ringpage.specs.Slot.{request_at}
use Rattle.ringpage.specs.declared.slot.Request.{Request}
use Rattle.rules.specs.Refusal.{after_ok}
use Rattle.frame.specs.Memory.{part_verdict, bytes_at, placed, OthersKept}
use Rattle.ring.specs.Page.{word_verdict, word_at, slot_verdict, slot_place}
use Rattle.ring.specs.declared.page.Word.{Word}

-- a word of the header
abbrev pub word_or_zero : List ℕ → ℕ → Word → ℕ
word_or_zero m page w = after_ok (word_verdict m page w) 0 (λ _. word_at m page w)

-- the bytes of the slot that an index uses, copied once
abbrev pub slot_copy : List ℕ → ℕ → Kind → ℕ → List ℕ
slot_copy m page kind i = after_ok (slot_verdict m page kind i) (replicate (slot_size kind) 0) (λ _. bytes_at (slot_place page kind i) (slot_size kind) m)

-- the request in that slot, as the copy has it
abbrev pub request_or_zeros : List ℕ → ℕ → Kind → ℕ → Request
request_or_zeros m page kind i = request_at kind 0 (slot_copy m page kind i)

-- m with bytes written into a page
abbrev pub put_in : List ℕ → ℕ → ℕ → List ℕ → List ℕ
put_in m page offset bs = after_ok (part_verdict (length m) page offset (length bs)) m (λ _. placed (4096 * page + offset) bs m)

-- bytes were written into a page, and every other frame is as it was
pub record Put (m : List ℕ) (page offset : ℕ) (bs m' : List ℕ) : Type 0 where
  pub after : m' ≡ put_in m page offset bs
  pub others : OthersKept page m m'
