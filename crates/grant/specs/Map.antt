-- Whether a domain may map what an entry grants.
use Rattle.std.specs.Prelude.{ℕ, Bool, cond, not, ◌&&◌, ◌||◌, List, [], ◌∷◌, is_some, Ok, Err, Result, ◌==◌, nat_lt}
use Rattle.std.specs.Option.{unwrap_or}
use Rattle.abi.specs.Entry.{permits, read_only}
use Rattle.abi.specs.declared.entry.GrantEntry.{GrantEntry}
use Rattle.rules.specs.Refusal.{Rule, refuse_first, if_some}
use Rattle.frame.specs.Domain.{no_domain}
use Rattle.frame.specs.Owners.{owns}
use Rattle.frame.specs.declared.owners.Frames.{Frames}
use Rattle.grant.specs.Entries.{no_reference}
use Rattle.grant.specs.Tables.{place, entry_at, record_at, lowest, pinned, in_use, writes}
use Rattle.grant.specs.declared.tables.Record.{Record}
use Rattle.grant.specs.declared.tables.Mapping.{Mapping}
use Rattle.grant.specs.declared.tables.Mode.{Mode}
use Rattle.grant.specs.declared.tables.Mode.TheVariants.{Read, Write}
use Rattle.grant.specs.declared.tables.Grants.{Grants}
use Rattle.grant.specs.declared.mapping.Granted.{Granted}
use Rattle.grant.specs.declared.fault.GrantFault.{GrantFault}
use Rattle.grant.specs.declared.fault.GrantFault.TheVariants.{NoReference, BadMode, BadOwner, NoHandle, NotGranted, NotOwners, ReadOnly, PinnedOtherwise, NoMapping}

-- the entry permits access, and names the domain d
abbrev pub names : GrantEntry → ℕ → Bool
names e d = permits e.flags && e.domid == d

-- mode 0 reads, mode 1 writes
abbrev pub mode_of : ℕ → Mode
mode_of n = cond (n == 1) Write Read

-- the number of a mode, as a map's caller writes it
abbrev pub mode_number : Mode → ℕ
mode_number Read = 0
mode_number Write = 1

-- no mode has the number
abbrev pub no_mode : ℕ → Bool
no_mode mode = nat_lt 1 mode

-- no domain but d has the number
abbrev pub no_other_domain : ℕ → ℕ → Bool
no_other_domain d owner = no_domain owner || (owner == d)

-- when a number is no mode, and when it is no other domain than d
abbrev pub mode_rules : ℕ → List (Rule GrantFault)
mode_rules mode = (no_mode mode, BadMode) ∷ []

abbrev pub owner_rules : ℕ → ℕ → List (Rule GrantFault)
owner_rules d owner = (no_other_domain d owner, BadOwner) ∷ []

-- when an entry grants the domain d nothing of its owner's
abbrev pub entry_says : Frames → ℕ → ℕ → GrantEntry → List (Rule GrantFault)
entry_says F d owner e = (not (names e d), NotGranted) ∷ (not (owns F owner e.frame), NotOwners) ∷ []

-- in this order: when the domain d's map is refused, and why
abbrev pub map_rules : Frames → Grants → ℕ → ℕ → ℕ → ℕ → List (Rule GrantFault)
map_rules F G d owner reference mode =
    let e : GrantEntry = entry_at G (place owner reference) in
    let r : Record = record_at G (place owner reference) in
    (no_mode mode, BadMode)
    ∷ (no_other_domain d owner, BadOwner)
    ∷ (not (is_some (lowest G.handles d)), NoHandle)
    ∷ (no_reference reference, NoReference)
    ∷ (not (names e d), NotGranted)
    ∷ (not (owns F owner e.frame), NotOwners)
    ∷ (writes (mode_of mode) && read_only e.flags, ReadOnly)
    ∷ (pinned r && (not (r.mapper == d) || not (r.frame == e.frame)), PinnedOtherwise)
    ∷ []

-- the mapping that an accepted map makes: the entry is read here, once
abbrev pub mapping_of : Grants → ℕ → ℕ → Mode → Mapping
mapping_of G owner reference mode = record { owner = owner; reference = reference; frame = (entry_at G (place owner reference)).frame; mode = mode }

-- what is granted: that mapping, under the lowest free handle
pub record Grant : Type 0 where
  pub handle : ℕ
  pub mapping : Mapping

-- whether the map is accepted, and with what
abbrev pub map_verdict : Frames → Grants → ℕ → ℕ → ℕ → ℕ → Result Grant GrantFault
map_verdict F G d owner reference mode =
    refuse_first (map_rules F G d owner reference mode)
    (Ok (record { handle = unwrap_or (lowest G.handles d) 0; mapping = mapping_of G owner reference (mode_of mode) }))

-- what the code's value says
abbrev pub grant_of : Granted → Grant
grant_of g = record { handle = g.handle; mapping = g.mapping }

-- the mapping that an unmap ends
abbrev pub unmap_verdict : Grants → ℕ → ℕ → Result Mapping GrantFault
unmap_verdict G d handle = if_some (in_use G d handle) (Err NoMapping) (λ p. Ok p)
