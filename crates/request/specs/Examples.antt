-- Worked examples of the checks.
use Rattle.std.specs.Prelude.{◌≡◌, ℕ, Ok, Err}
use Rattle.ringpage.specs.declared.slot.Request.{Request}
use Rattle.ringpage.specs.declared.slot.Request.TheVariants.{OfSend}
use Rattle.ring.specs.declared.fault.RingFault.TheVariants.{BadSpan}
use Rattle.request.specs.Check.{miss, field_verdict}

-- a send of 1,514 bytes at this offset
abbrev pub sent_at : ℕ → Request
sent_at offset = OfSend (record { reference = 0; offset = offset; flags = 0; id = 0; size = 1514 })

-- at 2,582 it ends with its frame, at 2,583 past it
pub record Worked : Type 0 where
  pub passes : field_verdict (sent_at 2582) ≡ Ok tt
  pub refused : field_verdict (sent_at 2583) ≡ Err (miss BadSpan 0)
