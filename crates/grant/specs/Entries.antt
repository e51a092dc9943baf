-- Writing an entry, and ending it.
use Rattle.std.specs.Prelude.{ℕ, Bool, ◌||◌, List, [], ◌∷◌, nat_lt, slice_set}
use Rattle.abi.specs.Entry.{reading, writing}
use Rattle.abi.specs.declared.entry.GrantEntry.{GrantEntry}
use Rattle.rules.specs.Refusal.{Rule}
use Rattle.grant.specs.Tables.{place, entry_at}
use Rattle.grant.specs.declared.tables.Grants.{Grants}
use Rattle.grant.specs.declared.fault.GrantFault.{GrantFault}
use Rattle.grant.specs.declared.fault.GrantFault.TheVariants.{NoReference, InUse}

-- no entry has the number
abbrev pub no_reference : ℕ → Bool
no_reference reference = nat_lt 31 reference

-- when the domain cannot write its entry, and when it cannot end it
abbrev pub entry_rules : ℕ → List (Rule GrantFault)
entry_rules reference = (no_reference reference, NoReference) ∷ []

abbrev pub end_rules : Grants → ℕ → ℕ → List (Rule GrantFault)
end_rules G d reference =
    let e : GrantEntry = entry_at G (place d reference) in
    (no_reference reference, NoReference) ∷ (reading e.flags || writing e.flags, InUse) ∷ []

-- the tables with another entry at i
abbrev pub with_entry : ℕ → GrantEntry → Grants → Grants
with_entry i e G = record { entries = slice_set G.entries i e; records = G.records; handles = G.handles }

-- the entry with other flags
abbrev pub with_flags : ℕ → GrantEntry → GrantEntry
with_flags flags e = record { flags = flags; domid = e.domid; frame = e.frame }
