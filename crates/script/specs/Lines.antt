-- What a command says, and what a line of words may be read as.
use Rattle.std.specs.Prelude.{◌≡◌, ℕ, ◌-◌, ◌<◌, true, false, ◌⊎◌, List, [], ◌∷◌, ◌++◌, length, map, take, drop, Some, None, Ok, Err, Option, Result, MatchResult, ◌≢◌, vec_items}
use Rattle.std.specs.Borrow.{Bor}
use Rattle.std.specs.Char.{is_whitespace, is_not_whitespace}
use Rattle.std.specs.Str.{NoCharPasses, EmptyOrStartsWithPassing}
use Rattle.script.specs.Hex.{hex_on}
use Rattle.script.specs.Numbers.{read_on, Decimal}
use Rattle.script.specs.Verbs.{verb_name, takes}
use Rattle.script.specs.declared.verb.Verb.{Verb}
use Rattle.script.specs.declared.verb.Verb.TheVariants as verbs
use Rattle.script.specs.declared.error.LineError.{LineError}
use Rattle.script.specs.declared.error.LineError.TheVariants.{NoSuchCall, WrongWords, NotNumber, NotHalf, NotHex, NoMemory}
use Rattle.script.specs.declared.command.Command.{Command}
use Rattle.script.specs.declared.command.Command.TheVariants.{Disk, Start, Call, Store as StoreRead}
use Rattle.host.specs.declared.call.Call.{Call as HostCall}
use Rattle.host.specs.declared.call.Call.TheVariants.{Take, Give, Load, Store, Entry, End, Map, Unmap, Send, Next, Connect, Serve, Complete, Disconnect}

-- white space alone, or nothing
abbrev pub IsBlank : List ℕ → Type 0
IsBlank = NoCharPasses is_not_whitespace

-- all words of a text, in order: white space alone stands before each and after the last, and each goes on to white space or to the end
abbrev pub AreWords : List ℕ → List (Bor (List ℕ)) → Type 0
AreWords text [] = IsBlank text
AreWords text (w ∷ ws) = (gap : List ℕ) × (rest : List ℕ) × (text ≡ gap ++ (w.now ++ rest)) × IsBlank gap
    × (0 < length w.now) × NoCharPasses is_whitespace w.now × ((more : List ℕ) × EmptyOrStartsWithPassing is_whitespace rest more) × AreWords rest ws

-- the verb of a call
abbrev pub verb_of_call : HostCall → Verb
verb_of_call (Take c f) = verbs.Take
verb_of_call (Give c f) = verbs.Give
verb_of_call (Load c f o n) = verbs.Load
verb_of_call (Store c f o bs) = verbs.Store
verb_of_call (Entry c r b d f) = verbs.Entry
verb_of_call (End c r) = verbs.End
verb_of_call (Map c o r m) = verbs.Map
verb_of_call (Unmap c h) = verbs.Unmap
verb_of_call (Send c p) = verbs.Send
verb_of_call (Next c) = verbs.Next
verb_of_call (Connect c k r) = verbs.Connect
verb_of_call (Serve n) = verbs.Serve
verb_of_call (Complete b) = verbs.Complete
verb_of_call (Disconnect n) = verbs.Disconnect

-- the verb of its line
abbrev pub verb_of : Command → Verb
verb_of (Disk n) = verbs.Disk
verb_of (Start n) = verbs.Start
verb_of (Call c) = verb_of_call c
verb_of (StoreRead c f o bs) = verbs.Store

-- the numbers of a call, in the order of the line
abbrev pub numbers_of_call : HostCall → List ℕ
numbers_of_call (Take c f) = c ∷ f ∷ []
numbers_of_call (Give c f) = c ∷ f ∷ []
numbers_of_call (Load c f o n) = c ∷ f ∷ o ∷ n ∷ []
numbers_of_call (Store c f o bs) = c ∷ f ∷ o ∷ []
numbers_of_call (Entry c r b d f) = c ∷ r ∷ b ∷ d ∷ f ∷ []
numbers_of_call (End c r) = c ∷ r ∷ []
numbers_of_call (Map c o r m) = c ∷ o ∷ r ∷ m ∷ []
numbers_of_call (Unmap c h) = c ∷ h ∷ []
numbers_of_call (Send c p) = c ∷ p ∷ []
numbers_of_call (Next c) = c ∷ []
numbers_of_call (Connect c k r) = c ∷ k ∷ r ∷ []
numbers_of_call (Serve n) = n ∷ []
numbers_of_call (Complete b) = b ∷ []
numbers_of_call (Disconnect n) = n ∷ []

-- its numbers, in the order of the line
abbrev pub numbers_of : Command → List ℕ
numbers_of (Disk n) = n ∷ []
numbers_of (Start n) = n ∷ []
numbers_of (Call c) = numbers_of_call c
numbers_of (StoreRead c f o bs) = c ∷ f ∷ o ∷ []

-- the bytes of a call that stores any
abbrev pub bytes_of_call : HostCall → List ℕ
bytes_of_call (Take c f) = []
bytes_of_call (Give c f) = []
bytes_of_call (Load c f o n) = []
bytes_of_call (Store c f o bs) = bs.now
bytes_of_call (Entry c r b d f) = []
bytes_of_call (End c r) = []
bytes_of_call (Map c o r m) = []
bytes_of_call (Unmap c h) = []
bytes_of_call (Send c p) = []
bytes_of_call (Next c) = []
bytes_of_call (Connect c k r) = []
bytes_of_call (Serve n) = []
bytes_of_call (Complete b) = []
bytes_of_call (Disconnect n) = []

-- the bytes that it stores
abbrev pub bytes_of : Command → List ℕ
bytes_of (Disk n) = []
bytes_of (Start n) = []
bytes_of (Call c) = bytes_of_call c
bytes_of (StoreRead c f o bs) = vec_items bs

-- the bytes that the words behind the numbers write: none where there is no word, and those of one word's digits
abbrev pub bytes_in : List (Bor (List ℕ)) → Option (List ℕ)
bytes_in [] = Some []
bytes_in (w ∷ []) = hex_on [] w.now
bytes_in (w ∷ v ∷ ws) = None

-- the numbers of a command, and the bytes behind them, are those of the words
abbrev pub NumbersIn : List (Bor (List ℕ)) → Command → Type 0
NumbersIn ws c = numbers_of c ≡ map (λ w. read_on 0 w.now) (take (length (numbers_of c)) ws)

abbrev pub BytesIn : List (Bor (List ℕ)) → Command → Type 0
BytesIn ws c = bytes_in (drop (length (numbers_of c)) ws) ≡ Some (bytes_of c)

-- the words behind a verb that are numbers of 16 bits: an entry's flags and domid
abbrev pub half_words : {X : Type 0} → Verb → List X → List X
half_words verbs.Entry ws = take 2 (drop 2 ws)
half_words _ ws = []

-- and those that are numbers of 32: all others but a store's bytes
abbrev pub number_words : {X : Type 0} → Verb → List X → List X
number_words verbs.Store ws = take 3 ws
number_words verbs.Entry ws = take 2 ws ++ drop 4 ws
number_words _ ws = ws

-- one of the words is no decimal number of so many bits
abbrev pub SomeNot : ℕ → List (Bor (List ℕ)) → Type 0
SomeNot k [] = ⊥
SomeNot k (w ∷ ws) = (Decimal k w.now → ⊥) ⊎ SomeNot k ws

-- what is wrong with the words behind a verb
abbrev pub WrongBehind : Verb → List (Bor (List ℕ)) → LineError → Type 0
WrongBehind verb ws NoSuchCall = ⊥
WrongBehind verb ws (WrongWords v) = (v ≡ verb) × (takes verb (length ws) ≡ false)
WrongBehind verb ws NotNumber = SomeNot 32 (number_words verb ws)
WrongBehind verb ws NotHalf = SomeNot 16 (half_words verb ws)
WrongBehind verb ws NotHex = (verb ≡ verbs.Store) × (length ws ≡ 4) × (bytes_in (drop 3 ws) ≡ None)
WrongBehind verb ws NoMemory = (verb ≡ verbs.Store) × (length ws ≡ 4)

-- why a line of words is refused
abbrev pub Refused : List (Bor (List ℕ)) → LineError → Type 0
Refused [] e = ⊥
Refused (name ∷ ws) NoSuchCall = (v : Verb) → name.now ≢ verb_name v
Refused (name ∷ ws) (WrongWords v) = (name.now ≡ verb_name v) × (takes v (length ws) ≡ false)
Refused (name ∷ ws) NotNumber = (v : Verb) × (name.now ≡ verb_name v) × SomeNot 32 (number_words v ws)
Refused (name ∷ ws) NotHalf = (v : Verb) × (name.now ≡ verb_name v) × SomeNot 16 (half_words v ws)
Refused (name ∷ ws) NotHex = (name.now ≡ verb_name verbs.Store) × (length ws ≡ 4) × (bytes_in (drop 3 ws) ≡ None)
Refused (name ∷ ws) NoMemory = (name.now ≡ verb_name verbs.Store) × (length ws ≡ 4)

-- the verb of that name, or no verb has it
abbrev pub IsVerb : List ℕ → Result Verb LineError → Type 0
IsVerb name r = MatchResult r (λ v. name ≡ verb_name v) (λ e. (e ≡ NoSuchCall) × ((v : Verb) → name ≢ verb_name v))

-- the command of a verb and the words behind it, or what is wrong with these
abbrev pub ReadAs : Verb → List (Bor (List ℕ)) → Result Command LineError → Type 0
ReadAs verb ws r = MatchResult r (λ c. (verb_of c ≡ verb) × (takes verb (length ws) ≡ true) × NumbersIn ws c × BytesIn ws c) (WrongBehind verb ws)

-- the command that words write: its name, then its numbers in the order of the line, and then the bytes of a store
abbrev pub Writes : List (Bor (List ℕ)) → Command → Type 0
Writes [] c = ⊥
Writes (name ∷ ws) c = (name.now ≡ verb_name (verb_of c)) × NumbersIn ws c × BytesIn ws c

-- just a line with no words asks for nothing
abbrev pub Asks : ℕ → Result (Option Command) LineError → Type 0
Asks n (Ok None) = n ≡ 0
Asks n (Ok (Some c)) = (0 < n) × (takes (verb_of c) (n - 1) ≡ true)
Asks n (Err e) = 0 < n
