-- Kinds of rings by their names, and by their numbers.
use Rattle.std.specs.Prelude.{ℕ, List, codes, cond, ◌==◌, Some, None, Option}
use Rattle.abi.specs.declared.page.Kind.{Kind}
use Rattle.abi.specs.declared.page.Kind.TheVariants.{Block, Send, Receive}

abbrev pub kind_name : Kind → List ℕ
kind_name Block = codes "block"
kind_name Send = codes "send"
kind_name Receive = codes "receive"

-- kind 0 is block, 1 send, 2 receive
abbrev pub kind_numbered : ℕ → Option Kind
kind_numbered n = cond (n == 0) (Some Block) (cond (n == 1) (Some Send) (cond (n == 2) (Some Receive) None))
