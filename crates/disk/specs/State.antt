-- What a disk means, and that it keeps what every device keeps.
use Rattle.std.proofs.Common.{ap, lit<}
use Rattle.std.specs.Prelude.{ℕ, ◌+◌, true, cond, List, [], ◌∷◌, ◌++◌, length, pos, is_ok, refl}
use Rattle.std.proofs.lemmas.List.Edits.{sets}
use Rattle.std.proofs.Math.Seq.{length-sets}
use Rattle.queue.specs.Line.{items}
use Rattle.device.specs.declared.orders.Order.{Order}
use Rattle.device.specs.Meaning.{Rules, others}
use Rattle.device.specs.Laws.{Laws}
use Rattle.device.specs.Row.{row_at}
use Rattle.device.proofs.Rows.{length_row}
use Rattle.disk.specs.declared.store.Disk.{Disk}
use Rattle.disk.specs.Fit.{most_orders, sector, fits_in, checked}

-- the bytes on the disk, and the orders in hand
pub record State : Type 0 where
  pub sectors : List ℕ
  pub orders : List Order

-- what a disk's memory and order slots mean
abbrev pub state : Disk → State
state d = record { sectors = d.sectors.bytes.now; orders = items d.orders }

-- a disk as it is made over memory and so many slots: what the check refuses gives no sector
abbrev pub new_disk : List ℕ → ℕ → State
new_disk memory slots = record { sectors = cond (is_ok (checked (length memory) slots)) memory []; orders = [] }

-- where the bytes of an order stand, from the byte `at` of the order on
abbrev pub start : Order → ℕ → ℕ
start o at = sector o.place + at

-- four orders at most, each ready at once; an order is of the sectors from its place on; its status is 0
abbrev pub disk_rules : Rules State
disk_rules = record {
  capacity = λ m. most_orders;
  orders = λ m. m.orders;
  fits = λ m d place size. fits_in (length m.sectors) place size;
  is_ready = λ m o. true;
  contents = λ m. m.sectors ∷ [];
  bytes = λ m o at n. row_at m.sectors (start o at) n;
  status = λ m o. pos 0;
  with_order = λ m o. record { sectors = m.sectors; orders = m.orders ++ o ∷ [] };
  with_bytes = λ m o at part. record { sectors = sets m.sectors (start o at) part; orders = m.orders };
  without = λ m o. record { sectors = m.sectors; orders = others o.ticket m.orders };
}

-- a ghost member of the impl, so the proof stands here
pub disk_laws : Laws disk_rules
disk_laws = record {
  capacity_some = λ m. lit< tt;
  bytes_length = λ m o k n. length_row m.sectors _ n;
  accept_orders = λ m o h. refl;
  accept_ready = λ m o h. refl;
  accept_bytes = λ m o h p apart k n. refl;
  accept_status = λ m o h. refl;
  accept_contents = λ m o h. refl;
  accept_capacity = λ m o h. refl;
  accept_fits = λ m o h d p n. refl;
  drain_orders = λ m o t k part h. refl;
  drain_ready = λ m o t k part h. refl;
  drain_capacity = λ m o t k part h. refl;
  drain_fits = λ m o t k part h d p n. ap (λ z. fits_in z p n) (length-sets m.sectors (start o k) part);
  done_orders = λ m o t h. refl;
  done_capacity = λ m o t h. refl;
  done_fits = λ m o t h d p n. refl;
}
