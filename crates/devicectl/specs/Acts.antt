-- What a line of the script does to the device, and what is answered.
use Rattle.std.specs.Prelude.{ℕ, ◌+◌, List, length, pos}
use Rattle.rules.specs.Refusal.{after_ok, either_of}
use Rattle.device.specs.Meaning.{Rules, is_full, ready_ticket, accepting, serving, finishing}
use Rattle.device.specs.Fault.{fault_number}
use Rattle.device.specs.declared.orders.Direction.TheVariants.{Inward, Outward}
use Rattle.devicectl.specs.declared.act.Command.{Command}
use Rattle.devicectl.specs.declared.act.Command.TheVariants.{Fits, Full, Accept, Ready, Fill, Drain, Done}
use Rattle.devicectl.specs.declared.act.Answer.{Answer}
use Rattle.devicectl.specs.declared.act.Answer.TheVariants.{Number, Flag, Ticket, Bytes}

module _ {M : Type 0} (R : Rules M) where
  -- the answer, of a device that means m; bytes are those to fill, or to drain
  abbrev pub answer_to : Command → M → List ℕ → Answer
  answer_to (Fits d place size) m bytes = Flag (R.fits m d place size)
  answer_to Full m bytes = Flag (is_full R m)
  answer_to (Accept o) m bytes = either_of (accepting R m o) (λ _. Number (pos 0)) (λ e. Number (fault_number e))
  answer_to Ready m bytes = Ticket (ready_ticket R m)
  answer_to (Fill t at) m bytes = either_of (serving R m t Inward (at + length bytes)) (λ _. Bytes) (λ e. Number (fault_number e))
  answer_to (Drain t at) m bytes = either_of (serving R m t Outward (at + length bytes)) (λ _. Number (pos 0)) (λ e. Number (fault_number e))
  answer_to (Done t) m bytes = either_of (finishing R m t) (λ o. Number (R.status m o)) (λ e. Number (fault_number e))

  -- the device then
  abbrev pub device_after : Command → M → List ℕ → M
  device_after (Fits d place size) m bytes = m
  device_after Full m bytes = m
  device_after (Accept o) m bytes = after_ok (accepting R m o) m (λ _. R.with_order m o)
  device_after Ready m bytes = m
  device_after (Fill t at) m bytes = m
  device_after (Drain t at) m bytes = after_ok (serving R m t Outward (at + length bytes)) m (λ o. R.with_bytes m o at bytes)
  device_after (Done t) m bytes = after_ok (finishing R m t) m (λ o. R.without m o)

  -- the bytes then
  abbrev pub bytes_after : Command → M → List ℕ → List ℕ
  bytes_after (Fits d place size) m bytes = bytes
  bytes_after Full m bytes = bytes
  bytes_after (Accept o) m bytes = bytes
  bytes_after Ready m bytes = bytes
  bytes_after (Fill t at) m bytes = after_ok (serving R m t Inward (at + length bytes)) bytes (λ o. R.bytes m o at (length bytes))
  bytes_after (Drain t at) m bytes = bytes
  bytes_after (Done t) m bytes = bytes
