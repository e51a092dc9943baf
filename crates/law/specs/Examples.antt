-- Worked examples, each over the definitions that the step uses.
use Rattle.std.specs.Prelude.{◌≡◌, ℕ, ◌*◌, true, false, List, [], ◌∷◌, replicate, ℤ, pos, negsuc, Ok, Err, Result}
use Rattle.layout.specs.Layout.{written}
use Rattle.abi.specs.Entry.{grant_entry}
use Rattle.abi.specs.Page.{slot_start}
use Rattle.abi.specs.declared.page.Kind.TheVariants.{Block}
use Rattle.device.specs.declared.orders.Direction.TheVariants.{Inward}
use Rattle.disk.specs.Fit.{sector}
use Rattle.disk.specs.State.{State, disk_rules, new_disk}
use Rattle.grant.specs.Tables.{place, entry_at}
use Rattle.ring.specs.Fault.{fault_number, status_of}
use Rattle.ring.specs.Producer.{ahead}
use Rattle.ring.specs.declared.fault.RingFault.{RingFault}
use Rattle.request.specs.Check.{field_verdict}
use Rattle.request.specs.Examples.{sent_at}
use Rattle.request.specs.declared.fields.Miss.{Miss}
use Rattle.answer.specs.Parts.{answer_parts}
use Rattle.law.specs.World.{World, new_host}
use Rattle.law.specs.Call.{Call, Take, Give, Entry, Map, Unmap}
use Rattle.law.specs.Step.{step}
use Rattle.law.specs.Run.{after_calls}

-- a disk of 32 sectors, with four slots for orders
abbrev pub small_disk : State
small_disk = new_disk (replicate (sector 32) 0) 4

-- a new host of four frames; no call below has to do with its devices, so two disks will do
unfoldable pub at_first : World State State
at_first = record { host = new_host 4; memory = replicate (4096 * 4) 0; bay0 = small_disk; bay1 = small_disk }

-- the first port; none of these calls asks for one
abbrev pub first_port : ℕ → ℕ
first_port marks = 0

-- the world after these calls, the first first
abbrev pub after : List Call → World State State
after cs = after_calls disk_rules disk_rules first_port at_first cs

-- the number that the call c answers after these
abbrev pub answers : List Call → Call → ℤ
answers cs c = (answer_parts (step disk_rules disk_rules first_port (after cs) c).answer.result).answer

-- the flags of domain 1's entry 0 after these calls
abbrev pub flags : List Call → ℕ
flags cs = (entry_at (after cs).host.grants (place 1 0)).flags

-- domain 1 takes frame 3 and grants it to domain 2 by its entry 0, with flags 1
abbrev pub granted : List Call → List Call
granted cs = Take 1 3 ∷ Entry 1 0 1 2 3 ∷ cs

-- domain 2 maps it, for reading or for writing
abbrev pub read_map : Call
read_map = Map 2 1 0 0

abbrev pub write_map : Call
write_map = Map 2 1 0 1

-- it maps it twice for reading and unmaps it once, or both times
abbrev pub one_left : List Call
one_left = granted (read_map ∷ read_map ∷ Unmap 2 0 ∷ [])

abbrev pub none_left : List Call
none_left = granted (read_map ∷ read_map ∷ Unmap 2 0 ∷ Unmap 2 1 ∷ [])

-- what the guest is told of a request by its own fields: 0 where they pass
abbrev pub status : Result Unit Miss → ℤ
status (Ok u) = pos 0
status (Err f) = status_of f.fault

-- how far ahead a guest is, or the number of the refusal
abbrev pub number_of : Result ℕ RingFault → ℤ
number_of (Ok n) = pos n
number_of (Err e) = fault_number e

pub record Worked : Type 0 where
  -- flags 1, domid 2, frame 3 is 01 00 02 00 03 00 00 00
  pub entry : written grant_entry.layout (grant_entry.values (record { flags = 1; domid = 2; frame = 3 })) ≡ 1 ∷ 0 ∷ 2 ∷ 0 ∷ 3 ∷ 0 ∷ 0 ∷ 0 ∷ []
  -- flags 1 become 9 by a read map and 25 by a write map
  pub not_mapped : flags (granted []) ≡ 1
  pub mapped_for_reading : flags (granted (read_map ∷ [])) ≡ 9
  pub mapped_for_writing : flags (granted (write_map ∷ [])) ≡ 25
  -- of two read maps one unmapped leaves flags 9, and give is refused with -41
  pub one_left_flags : flags one_left ≡ 9
  pub one_left_give : answers one_left (Give 1 3) ≡ negsuc 40
  -- both unmapped leave flags 1, and give is accepted
  pub none_left_flags : flags none_left ≡ 1
  pub none_left_give : answers none_left (Give 1 3) ≡ pos 0
  -- with private indices 0 and 32 slots req_prod 32 passes, and 33 gets -42
  pub produced_all : number_of (ahead Block 0 0 32) ≡ pos 32
  pub produced_more : number_of (ahead Block 0 0 33) ≡ negsuc 41
  -- with req_cons and rsp_prod 4,294,967,295 and req_prod 2 the request is 3 ahead
  pub past_the_turn : number_of (ahead Block 4294967295 4294967295 2) ≡ pos 3
  -- block slot 31 starts at byte 3,536
  pub last_slot : slot_start Block 31 ≡ 3536
  -- a send of 1,514 bytes at offset 2,582 passes, and at 2,583 gets -1
  pub send_to_the_end : status (field_verdict (sent_at 2582)) ≡ pos 0
  pub send_past_the_end : status (field_verdict (sent_at 2583)) ≡ negsuc 0
  -- on a disk of 32 sectors an order of 8 sectors fits at 24 and not at 25
  pub fits_at_the_end : disk_rules.fits small_disk Inward 24 (sector 8) ≡ true
  pub fits_past_the_end : disk_rules.fits small_disk Inward 25 (sector 8) ≡ false
