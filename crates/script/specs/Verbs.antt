-- The first words of lines, and how many words may follow each.
use Rattle.std.specs.Prelude.{ℕ, Bool, ◌||◌, List, codes, ◌==◌}
use Rattle.script.specs.declared.verb.Verb.{Verb}
use Rattle.script.specs.declared.verb.Verb.TheVariants.{Disk, Start, Take, Give, Load, Store, Entry, End, Map, Unmap, Send, Next, Connect, Serve, Complete, Disconnect}

abbrev pub verb_name : Verb → List ℕ
verb_name Disk = codes "disk"
verb_name Start = codes "start"
verb_name Take = codes "take"
verb_name Give = codes "give"
verb_name Load = codes "load"
verb_name Store = codes "store"
verb_name Entry = codes "entry"
verb_name End = codes "end"
verb_name Map = codes "map"
verb_name Unmap = codes "unmap"
verb_name Send = codes "send"
verb_name Next = codes "next"
verb_name Connect = codes "connect"
verb_name Serve = codes "serve"
verb_name Complete = codes "complete"
verb_name Disconnect = codes "disconnect"

-- a store's bytes may be absent
abbrev pub takes : Verb → ℕ → Bool
takes Disk n = n == 1
takes Start n = n == 1
takes Take n = n == 2
takes Give n = n == 2
takes Load n = n == 4
takes Store n = n == 3 || n == 4
takes Entry n = n == 5
takes End n = n == 2
takes Map n = n == 4
takes Unmap n = n == 2
takes Send n = n == 2
takes Next n = n == 1
takes Connect n = n == 3
takes Serve n = n == 1
takes Complete n = n == 1
takes Disconnect n = n == 1
