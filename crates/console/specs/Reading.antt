-- The script, read line by line.
use Rattle.std.specs.Prelude.{◌≡◌, ℕ, zero, suc, ◌+◌, ◌-◌, ◌^◌, ◌<◌, min, List, [], length, Option, None, Some, Result, Ok, MatchOption, IfOk, IfSome}
use Rattle.std.specs.Io.BufRead.{first_line, drop_through}
use Rattle.std.specs.Io.Iter.{lines_left, lines_known_bytes}
use Rattle.console.specs.declared.script.Script.{Script}

-- one more for each of k lines, as far as 64 bits go
abbrev pub counted : ℕ → ℕ → ℕ
counted zero n = n
counted (suc k) n = min (counted k n + 1) (2 ^ 64 - 1)

-- what is left of bytes behind so many lines
abbrev pub behind_lines : ℕ → List ℕ → List ℕ
behind_lines zero bytes = bytes
behind_lines (suc k) bytes = drop_through 10 (behind_lines k bytes)

module _ {T R : Type 0} where
  -- the most lines that may still come
  abbrev pub lines_ahead : Script T R → ℕ
  lines_ahead s = lines_left s.lines

  -- the bytes that the reader has left, where they are known
  abbrev pub known_bytes : (R → Option (List ℕ)) → Script T R → Option (List ℕ)
  known_bytes remaining s = lines_known_bytes remaining s.lines

module _ {T E : Type 0} (reads : List ℕ → Result (Option T) E → Type 0) where
  -- the first k lines of the bytes are there, and none asks for anything
  abbrev pub AskNothing : ℕ → List ℕ → Type 0
  AskNothing k bytes = (i : ℕ) → i < k → (0 < length (behind_lines i bytes)) × reads (first_line (behind_lines i bytes)) (Ok None)

  -- no answer only where no bytes are left, and else what the first line of the bytes asks for; of an error nothing is said
  abbrev pub AsksFor : List ℕ → Option (Result T E) → Option (List ℕ) → Type 0
  AsksFor bytes r left = MatchOption r (bytes ≡ []) (λ asked. IfOk asked (λ x. (0 < length bytes) × reads (first_line bytes) (Ok (Some x)) × (left ≡ Some (drop_through 10 bytes))))

  -- where the bytes are known (not those of standard input): k lines that ask for nothing are passed, and then one is answered
  abbrev pub AnswersNext : ℕ → Option (List ℕ) → Option (Result T E) → Option (List ℕ) → Type 0
  AnswersNext k known r left = IfSome known (λ bytes. AskNothing k bytes × AsksFor (behind_lines k bytes) r left)

-- k lines that are passed, and the one that is answered, if there is one
abbrev pub with_answered : {X : Type 0} → Option X → ℕ → ℕ
with_answered None k = k
with_answered (Some x) k = suc k

module _ {T R E : Type 0} (remaining : R → Option (List ℕ)) (reads : List ℕ → Result (Option T) E → Type 0) where
  -- some lines are passed, and one is answered unless none is left; just these are counted
  abbrev pub ReadsOn : Script T R → Option (Result T E) → Script T R → Type 0
  ReadsOn s r t = (k : ℕ) × (t.came ≡ counted (with_answered r k) s.came) × AnswersNext reads k (known_bytes remaining s) r (known_bytes remaining t)
