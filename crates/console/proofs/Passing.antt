-- Lines that ask for nothing, and the line behind them.
use Rattle.std.proofs.Common.{◌≡◌, ℕ, suc, ◌+◌, ◌-◌, ◌^◌, ◌<◌, min, List, length, Option, None, Some, Result, Ok, Err, refl, subst, ap, ◌∙◌, arith}
use borrow.Author.Count.{below_none, below_more}
use Rattle.std.specs.Prelude.{IfSome}
use Rattle.std.specs.Result.{result_transpose}
use Rattle.std.specs.Io.BufRead.{first_line, DropsThrough}
use Rattle.std.specs.Io.KnownBytes.{IsAtEnd}
use Rattle.console.specs.Reading.{counted, with_answered, behind_lines, AskNothing, AnswersNext}

-- the text is the first line of bytes, if these are known
abbrev pub IsLine : Option (List ℕ) → List ℕ → Type 0
IsLine known text = IfSome known (λ bytes. (0 < length bytes) × (text ≡ first_line bytes))

-- a line more is counted
abbrev pub OneMore : ℕ → ℕ → Type 0
OneMore m after = after ≡ min (m + 1) (2 ^ 64 - 1)

counted_more : (n m after k : ℕ) → m ≡ counted k n → OneMore m after → after ≡ counted (suc k) n
counted_more n m after k same more = more ∙ ap (λ j. min (j + 1) (2 ^ 64 - 1)) same

module _ {T E : Type 0} (reads : List ℕ → Result (Option T) E → Type 0) where
  -- a line there that asks for nothing
  abbrev Nothing : List ℕ → ℕ → Type 0
  Nothing bytes i = (0 < length (behind_lines i bytes)) × reads (first_line (behind_lines i bytes)) (Ok None)

  -- k lines were passed that ask for nothing, if the bytes are known
  abbrev Behind : ℕ → Option (List ℕ) → Option (List ℕ) → Type 0
  Behind k before now = IfSome before (λ bytes. AskNothing reads k bytes × (now ≡ Some (behind_lines k bytes)))

  -- some lines were passed, and counted
  abbrev pub Passed : ℕ → ℕ → Option (List ℕ) → Option (List ℕ) → Type 0
  Passed n m before now = (k : ℕ) × (m ≡ counted k n) × Behind k before now

  -- the answer to what comes next, and its line is counted
  abbrev pub Answers : ℕ → ℕ → Option (List ℕ) → Option (Result T E) → Option (List ℕ) → Type 0
  Answers n after before r left = (k : ℕ) × (after ≡ counted (with_answered r k) n) × AnswersNext reads k before r left

  none_behind : (before : Option (List ℕ)) → Behind 0 before before
  none_behind None = tt
  none_behind (Some bytes) = (below_none (Nothing bytes), refl)

  pub none_passed : (n : ℕ) (before : Option (List ℕ)) → Passed n n before before
  none_passed n before = (0, refl, none_behind before)

  more_behind : (k : ℕ) (before now left : Option (List ℕ)) (text : List ℕ) → Behind k before now → IsLine now text → DropsThrough now left 10 → reads text (Ok None) → Behind (suc k) before left
  more_behind k None now left text passed is rest h = tt
  more_behind k (Some bytes) now left text (below, same) is rest h =
      let line = subst (λ (o : Option (List ℕ)). IsLine o text) same is in
      let gone = subst (λ (o : Option (List ℕ)). DropsThrough o left 10) same rest in
      let here : Nothing bytes k = (line.0, subst (λ (l : List ℕ). reads l (Ok None)) line.1 h) in
      (λ i lt. below_more (Nothing bytes) k below here i (omega (arith, lt)), gone)

  -- a line more
  pub one_more : (n m after : ℕ) (before now left : Option (List ℕ)) (text : List ℕ) → Passed n m before now → OneMore m after → IsLine now text → DropsThrough now left 10 → reads text (Ok None) → Passed n after before left
  one_more n m after before now left text (k, same, behind) more is rest h =
      (suc k, counted_more n m after k same more, more_behind k before now left text behind is rest h)

  end_behind : (k : ℕ) (before now left : Option (List ℕ)) → Behind k before now → IsAtEnd now → AnswersNext reads k before None left
  end_behind k None now left passed end = tt
  end_behind k (Some bytes) now left (below, same) end = (below, subst IsAtEnd same end)

  -- the end
  pub at_end : (n m : ℕ) (before now left : Option (List ℕ)) → Passed n m before now → IsAtEnd now → Answers n m before None left
  at_end n m before now left (k, same, behind) end = (k, same, end_behind k before now left behind end)

  fault_behind : (k : ℕ) (before now left : Option (List ℕ)) (e : E) → Behind k before now → AnswersNext reads k before (Some (Err e)) left
  fault_behind k None now left e passed = tt
  fault_behind k (Some bytes) now left e (below, same) = (below, tt)

  -- a line that cannot be read
  pub failed : (n m after : ℕ) (before now left : Option (List ℕ)) (e : E) → Passed n m before now → OneMore m after → Answers n after before (Some (Err e)) left
  failed n m after before now left e (k, same, behind) more = (k, counted_more n m after k same more, fault_behind k before now left e behind)

  answer_behind : (k : ℕ) (before now left : Option (List ℕ)) (text : List ℕ) (r : Result (Option T) E) (asked : Result T E) → Behind k before now → IsLine now text → DropsThrough now left 10 → reads text r → result_transpose r ≡ Some asked → AnswersNext reads k before (Some asked) left
  answer_behind k None now left text r asked passed is rest h same_asked = tt
  answer_behind k (Some bytes) now left text r (Err e) (below, same) is rest h asks = (below, tt)
  answer_behind k (Some bytes) now left text (Ok None) (Ok x) (below, same) is rest h asks = cc asks
  answer_behind k (Some bytes) now left text (Err e) (Ok x) (below, same) is rest h asks = cc asks
  answer_behind k (Some bytes) now left text (Ok (Some y)) (Ok x) (below, same) is rest h asks =
      let e : y ≡ x = cc asks in
      let line = subst (λ (o : Option (List ℕ)). IsLine o text) same is in
      let gone = subst (λ (o : Option (List ℕ)). DropsThrough o left 10) same rest in
      let read = subst (λ (l : List ℕ). reads l (Ok (Some y))) line.1 h in
      (below, (line.0, subst (λ (z : T). reads (first_line (behind_lines k bytes)) (Ok (Some z))) e read, gone))

  -- a line that asks for something
  pub answered : (n m after : ℕ) (before now left : Option (List ℕ)) (text : List ℕ) (r : Result (Option T) E) (asked : Result T E) → Passed n m before now → OneMore m after → IsLine now text → DropsThrough now left 10 → reads text r → result_transpose r ≡ Some asked → Answers n after before (Some asked) left
  answered n m after before now left text r asked (k, same, behind) more is rest h asks =
      (k, counted_more n m after k same more, answer_behind k before now left text r asked behind is rest h asks)

  -- a line that asks for nothing
  pub nothing_asked : (text : List ℕ) (r : Result (Option T) E) → result_transpose r ≡ None → reads text r → reads text (Ok None)
  nothing_asked text (Ok None) same h = h
  nothing_asked text (Ok (Some x)) same h = cc same
  nothing_asked text (Err e) same h = cc same
