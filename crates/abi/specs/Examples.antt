-- Worked examples of the formats.
use Rattle.std.specs.Prelude.{◌≡◌, ℕ, List, [], ◌∷◌}
use Rattle.layout.specs.Layout.{written}
use Rattle.abi.specs.Entry.{grant_entry}
use Rattle.abi.specs.Index.{distance}
use Rattle.abi.specs.Page.{slot_start}
use Rattle.abi.specs.declared.page.Kind.TheVariants.{Block}
use Rattle.abi.specs.declared.examples.Examples.{Examples}

-- flags 1, domid 2, frame 3 is 01 00 02 00 03 00 00 00
abbrev pub entry_bytes : List ℕ
entry_bytes = 1 ∷ 0 ∷ 2 ∷ 0 ∷ 3 ∷ 0 ∷ 0 ∷ 0 ∷ []

-- each holds of the definitions, and r has it as the code answers
pub record Worked (r : Examples) : Type 0 where
  pub entry : written grant_entry.layout (grant_entry.values (record { flags = 1; domid = 2; frame = 3 })) ≡ entry_bytes
  pub entry_answer : r.entry ≡ entry_bytes
  -- from 4,294,967,295 to 2 the distance is 3
  pub wrap : distance 4294967295 2 ≡ 3
  pub wrap_answer : r.wrap ≡ 3
  -- block slot 31 starts at byte 3,536
  pub slot : slot_start Block 31 ≡ 3536
  pub slot_answer : r.slot ≡ 3536
