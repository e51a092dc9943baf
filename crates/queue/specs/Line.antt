-- What a line holds, and what pushing and popping make of it.
use Rattle.std.specs.Prelude.{◌≡◌, ℕ, ◌+◌, ◌-◌, ◌<◌, Bool, true, cond, List, [], ◌∷◌, ◌++◌, length, take, drop, Some, None, Ok, Err, Option, Result, ◌==◌, nat_lt}
use Rattle.std.specs.List.{slice_get}
use Rattle.queue.specs.declared.line.Queue.{Queue}
use Rattle.queue.specs.declared.fault.QueueFault.{QueueFault}
use Rattle.queue.specs.declared.fault.QueueFault.TheVariants.{Full}

-- the place `step` slots after `head`, round a ring of n slots
abbrev pub along : ℕ → ℕ → ℕ → ℕ
along head step n = cond (nat_lt step (n - head)) (head + step) (step - (n - head))

-- the slots of a ring from `head` on, round to those before it
abbrev pub turned : {T : Type 0} → ℕ → List T → List T
turned head xs = drop head xs ++ take head xs

-- every lent slot, taken or free
abbrev pub slots_of : {T : Type 0} → Queue T → List T
slots_of q = q.slots.now

-- what a line holds, the oldest first
abbrev pub items : {T : Type 0} → Queue T → List T
items q = take q.len (turned q.head (slots_of q))

-- every slot is taken
abbrev pub is_full : {T : Type 0} → Queue T → Bool
is_full q = length (items q) == length (slots_of q)

-- the oldest item, if there is one
abbrev pub first : {T : Type 0} → List T → Option T
first [] = None
first (x ∷ xs) = Some x

-- the items behind it
abbrev pub rest : {T : Type 0} → List T → List T
rest [] = []
rest (x ∷ xs) = xs

-- what a line of n slots holds after a push: the item comes last, unless every slot is taken
abbrev pub with_last : {T : Type 0} → ℕ → List T → T → List T
with_last n xs x = cond (length xs == n) xs (xs ++ x ∷ [])

-- the index of the slot in which the oldest item stands, if there is one
abbrev pub StandsFirst : {T : Type 0} → Queue T → Option ℕ → Type 0
StandsFirst q None = items q ≡ []
StandsFirst q (Some i) = (i < length (slots_of q)) × (slice_get (slots_of q) i ≡ first (items q))

-- a push: a full line refuses it, and is as it was, slots and all; the slots stay those that were lent
pub record Pushed {T : Type 0} (before : Queue T) (x : T) (r : Result Unit QueueFault) (after : Queue T) : Type 0 where
  pub answer : r ≡ cond (is_full before) (Err Full) (Ok tt)
  pub holds : items after ≡ with_last (length (slots_of before)) (items before) x
  pub size : length (slots_of after) ≡ length (slots_of before)
  pub refused : is_full before ≡ true → after ≡ before
  pub lent : after.slots.ghost_name ≡ before.slots.ghost_name

-- a pop: the oldest item leaves, the others stay, and no slot is written; an empty line is as it was
pub record Popped {T : Type 0} (before after : Queue T) : Type 0 where
  pub holds : items after ≡ rest (items before)
  pub slots : slots_of after ≡ slots_of before
  pub none : items before ≡ [] → after ≡ before
  pub lent : after.slots.ghost_name ≡ before.slots.ghost_name
