-- A mapping begins, and ends.
use Rattle.std.specs.Prelude.{ℕ, ◌+◌, ◌-◌, ◌%◌, ◌^◌, cond, Some, None, ◌==◌, bit_and, bit_or, nat_lt, slice_set}
use Rattle.rules.specs.Refusal.{if_some}
use Rattle.grant.specs.Tables.{place, key, entry_at, record_at, pinned, in_use}
use Rattle.grant.specs.Entries.{with_flags}
use Rattle.grant.specs.declared.tables.Record.{Record}
use Rattle.grant.specs.declared.tables.Mapping.{Mapping}
use Rattle.grant.specs.declared.tables.Mode.{Mode}
use Rattle.grant.specs.declared.tables.Mode.TheVariants.{Read, Write}
use Rattle.grant.specs.declared.tables.Grants.{Grants}

-- the flags of an entry that is mapped once more: 8 is reading, 16 writing
abbrev pub flagged : Mode → ℕ → ℕ
flagged Read flags = bit_or flags 8
flagged Write flags = bit_or (bit_or flags 8) 16

-- 16 goes when no writer is left, 8 when nobody is; r is the record then
abbrev pub unwritten : Record → ℕ → ℕ
unwritten r flags = cond (r.writers == 0) (bit_and flags 65519) flags

abbrev pub unflagged : Record → ℕ → ℕ
unflagged r flags = cond (pinned r) (unwritten r flags) (bit_and (unwritten r flags) 65527)

-- a count of 32 bits goes up or down by one. It never wraps: a count is a number of handles
abbrev pub up : ℕ → ℕ
up n = (n + 1) % 2 ^ 32

abbrev pub down : ℕ → ℕ
down n = (n + (2 ^ 32 - 1)) % 2 ^ 32

-- the record with one more reader or writer, and with one less
abbrev pub added : Mode → Record → Record
added Read r = record { readers = up r.readers; writers = r.writers; frame = r.frame; mapper = r.mapper }
added Write r = record { readers = r.readers; writers = up r.writers; frame = r.frame; mapper = r.mapper }

abbrev pub removed : Mode → Record → Record
removed Read r = record { readers = down r.readers; writers = r.writers; frame = r.frame; mapper = r.mapper }
removed Write r = record { readers = r.readers; writers = down r.writers; frame = r.frame; mapper = r.mapper }

-- the record of a frame and of who maps it
abbrev pub recorded : ℕ → ℕ → Record → Record
recorded frame mapper r = record { readers = r.readers; writers = r.writers; frame = frame; mapper = mapper }

-- the mapping p of the domain d begins, under this handle
abbrev pub pin : ℕ → ℕ → Mapping → Grants → Grants
pin d handle p G =
    let i : ℕ = place p.owner p.reference in
    record {
      entries = slice_set G.entries i (with_flags (flagged p.mode (entry_at G i).flags) (entry_at G i));
      records = slice_set G.records i (added p.mode (recorded p.frame d (record_at G i)));
      handles = slice_set G.handles (key d handle) (Some p);
    }

-- the tables with one use less of the entry at i
abbrev pub unused : ℕ → Mode → Grants → Grants
unused i mode G =
    let r : Record = removed mode (record_at G i) in
    record {
      entries = slice_set G.entries i (with_flags (unflagged r (entry_at G i).flags) (entry_at G i));
      records = slice_set G.records i r;
      handles = G.handles;
    }

-- the handle at k is free
abbrev pub freed : ℕ → Grants → Grants
freed k G = record { entries = G.entries; records = G.records; handles = slice_set G.handles k None }

-- the mapping p of the domain d, under this handle, ends
abbrev pub unpin : ℕ → ℕ → Mapping → Grants → Grants
unpin d handle p G =
    let i : ℕ = place p.owner p.reference in
    freed (key d handle) (cond (nat_lt i 256) (unused i p.mode G) G)

-- the handle of the domain d is freed, if it is in use
abbrev pub released : ℕ → ℕ → Grants → Grants
released d handle G = if_some (in_use G d handle) G (λ p. unpin d handle p G)
