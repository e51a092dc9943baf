-- Entries, the records beside them, and handles: 32 entries and 64 handles to a domain.
use Rattle.std.specs.Prelude.{ℕ, ◌+◌, ◌*◌, Bool, true, false, cond, not, ◌&&◌, ◌||◌, List, replicate, Some, None, sum_by, Option, ◌==◌, nat_lt, slice_index_or}
use Rattle.std.specs.List.{between}
use Rattle.abi.specs.declared.entry.GrantEntry.{GrantEntry}
use Rattle.rules.specs.Tables.{at, first_free, some_of}
use Rattle.grant.specs.declared.tables.Record.{Record}
use Rattle.grant.specs.declared.tables.Mapping.{Mapping}
use Rattle.grant.specs.declared.tables.Mode.{Mode}
use Rattle.grant.specs.declared.tables.Mode.TheVariants.{Read, Write}
use Rattle.grant.specs.declared.tables.Grants.{Grants}

-- an entry that grants nothing, and a record that nobody maps through
abbrev pub blank : GrantEntry
blank = record { flags = 0; domid = 0; frame = 0 }

abbrev pub fresh : Record
fresh = record { readers = 0; writers = 0; frame = 0; mapper = 0 }

-- nothing is granted and nothing mapped
abbrev pub new_grants : Grants
new_grants = record { entries = replicate 256 blank; records = replicate 256 fresh; handles = replicate 512 None }

-- where the entry of a domain and its record stand
abbrev pub place : ℕ → ℕ → ℕ
place owner reference = 32 * owner + reference

-- where a handle of a domain stands
abbrev pub key : ℕ → ℕ → ℕ
key mapper handle = 64 * mapper + handle

-- the entry and the record at i
abbrev pub entry_at : Grants → ℕ → GrantEntry
entry_at G i = slice_index_or G.entries i blank

abbrev pub record_at : Grants → ℕ → Record
record_at G i = slice_index_or G.records i fresh

-- the handles of the domain d
abbrev pub handles_of : {X : Type 0} → ℕ → List (Option X) → List (Option X)
handles_of d hs = between (64 * d) (64 * d + 64) hs

-- the lowest free handle of the domain d
abbrev pub lowest : {X : Type 0} → List (Option X) → ℕ → Option ℕ
lowest hs d = first_free 0 (handles_of d hs)

-- the handle of the domain d, if it is in use
abbrev pub in_use : Grants → ℕ → ℕ → Option Mapping
in_use G d handle = cond (nat_lt 63 handle) None (at G.handles (key d handle))

-- somebody maps through the record
abbrev pub pinned : Record → Bool
pinned r = not (r.readers == 0) || not (r.writers == 0)

-- how often a record pins the frame f
abbrev pub weight : ℕ → Record → ℕ
weight f r = cond (r.frame == f) (r.readers + r.writers) 0

-- the pins of the frame f: the readers and writers of all records on it
abbrev pub pins : List Record → ℕ → ℕ
pins rs f = sum_by (weight f) rs

-- the mode is for writing
abbrev pub writes : Mode → Bool
writes Read = false
writes Write = true

-- the handle maps the frame f, and for writing if that is asked
abbrev pub of_frame : Bool → ℕ → Option Mapping → Bool
of_frame writing f None = false
of_frame writing f (Some p) = p.frame == f && (not writing || writes p.mode)

-- the domain d has the frame f mapped, and for writing
abbrev pub maps_frame : Grants → ℕ → ℕ → Bool
maps_frame G d f = some_of (of_frame false f) (handles_of d G.handles)

abbrev pub writes_frame : Grants → ℕ → ℕ → Bool
writes_frame G d f = some_of (of_frame true f) (handles_of d G.handles)
