-- What a line has seen: what left and what it holds is what came.
use Rattle.std.proofs.Common.{◌≡◌, ℕ, Bool, true, false, cond, eqb, List, [], ◌∷◌, ◌++◌, length, sym, ap, ◌∙◌}
use Rattle.std.proofs.lemmas.List.{append_assoc, append-nil}
use Rattle.std.specs.Option.{option_to_list}
use Rattle.queue.specs.Line.{first, rest}
use Rattle.queue.specs.Order.{Action, push, pop, Seen, seen, seen_after}

module _ {T : Type 0} where
  abbrev InOrder : Seen T → Type 0
  InOrder s = s.left ++ s.held ≡ s.came

  push-in-order : (b : Bool) (came left held : List T) (x : T) → left ++ held ≡ came → left ++ cond b held (held ++ x ∷ []) ≡ cond b came (came ++ x ∷ [])
  push-in-order true came left held x e = e
  push-in-order false came left held x e = sym (append_assoc left held (x ∷ [])) ∙ ap (λ xs. xs ++ x ∷ []) e

  pop-in-order : (came left held : List T) → left ++ held ≡ came → (left ++ option_to_list (first held)) ++ rest held ≡ came
  pop-in-order came left [] e = ap (λ xs. xs ++ []) (append-nil left) ∙ e
  pop-in-order came left (x ∷ xs) e = append_assoc left (x ∷ []) xs ∙ e

  step-in-order : (n : ℕ) (s : Seen T) (a : Action T) → InOrder s → InOrder (seen_after n s a)
  step-in-order n s (push x) e = push-in-order (eqb (length s.held) n) s.came s.left s.held x e
  step-in-order n s pop e = pop-in-order s.came s.left s.held e

  -- whatever is done to a line whose items came and left in order
  pub in_order : (n : ℕ) (steps : List (Action T)) (s : Seen T) → InOrder s → InOrder (seen n s steps)
  in_order n [] s e = e
  in_order n (a ∷ more) s e = in_order n more (seen_after n s a) (step-in-order n s a e)
