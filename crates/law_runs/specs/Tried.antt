-- A host with a disk and a wire to try calls on, and what they answer.
use Rattle.std.specs.Prelude.{List, [], ◌∷◌, ◌++◌, map, ℕ, ◌*◌, replicate, negsuc}
use Rattle.layout.specs.Layout.{le}
use Rattle.event.specs.Pending.{pick}
use Rattle.disk.specs.Fit.{sector}
use Rattle.disk.specs.State.{State as DiskState, disk_rules, new_disk}
use Rattle.wire.specs.State.{State as WireState, wire_rules, new_wire}
use Rattle.answer.specs.Parts.{answer_parts}
use Rattle.answer.specs.declared.parts.Layer.{Layer}
use Rattle.answer.specs.declared.parts.AnswerParts.{AnswerParts}
use Rattle.law.specs.World.{World, new_host}
use Rattle.law.specs.Call.{Call, Reply}
use Rattle.law.specs.Step.{Ends, step}

-- a new host of n frames of zeros, a disk of four sectors that hold nines, and a wire on which nothing waits
unfoldable pub begun : ℕ → World DiskState WireState
begun n = record { host = new_host n; memory = replicate (4096 * n) 0; bay0 = new_disk (replicate (sector 4) 9) 4; bay1 = new_wire 8 }

-- what calls give back, made one after the other, the first first
unfoldable pub replies : World DiskState WireState → List Call → List Reply
replies w [] = []
replies w (c ∷ cs) =
    let e : Ends DiskState WireState = step disk_rules wire_rules pick w c in
    e.answer ∷ replies e.world cs

-- the four parts of each answer
abbrev pub answers : ℕ → List Call → List AnswerParts
answers n cs = map (λ r. answer_parts r.result) (replies (begun n) cs)

-- the bytes that the loads among the calls gave, one load after the other
abbrev pub joined : List Reply → List ℕ
joined [] = []
joined (r ∷ rs) = r.filled ++ joined rs

abbrev pub loaded : ℕ → List Call → List ℕ
loaded n cs = joined (replies (begun n) cs)

-- refused in a layer, with the number -(n + 1)
abbrev pub refused : Layer → ℕ → AnswerParts
refused l n = record { answer = negsuc n; layer = l; detail = negsuc n; place = 0 }

-- a segment of a block request: reference, first and last sector
abbrev pub segment : ℕ → ℕ → ℕ → List ℕ
segment reference first last = le 4 reference ++ first ∷ last ∷ 0 ∷ 0 ∷ []

-- the head of a block request, as its slot begins: operation, count, id, sector
abbrev pub head : ℕ → ℕ → ℕ → ℕ → List ℕ
head operation count id sector = operation ∷ count ∷ (replicate 6 0 ++ le 8 id ++ le 8 sector)
