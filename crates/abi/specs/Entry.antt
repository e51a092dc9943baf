-- A grant entry: eight bytes by which a domain lends one of its frames.
use Rattle.std.specs.Prelude.{ℕ, ◌/◌, ◌%◌, Bool, [], ◌∷◌, ◌==◌, slice_index}
use Rattle.layout.specs.Layout.{field}
use Rattle.layout.specs.Message.{Message}
use Rattle.abi.specs.declared.entry.GrantEntry.{GrantEntry}

abbrev pub grant_entry : Message GrantEntry
grant_entry = record {
  layout = field 2 ∷ field 2 ∷ field 4 ∷ [];
  values = λ m. m.flags ∷ m.domid ∷ m.frame ∷ [];
  of = λ vs. record { flags = slice_index vs 0; domid = slice_index vs 1; frame = slice_index vs 2 };
}

-- the type, in the two low bits, permits access
abbrev pub permits : ℕ → Bool
permits flags = flags % 4 == 1

-- the flags 4, 8 and 16: the grant is for reading only, is mapped, is mapped for writing
abbrev pub read_only : ℕ → Bool
read_only flags = flags / 4 % 2 == 1

abbrev pub reading : ℕ → Bool
reading flags = flags / 8 % 2 == 1

abbrev pub writing : ℕ → Bool
writing flags = flags / 16 % 2 == 1
