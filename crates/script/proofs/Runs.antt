-- The words that split_whitespace gives until it ends are the words of its text.
use Rattle.std.proofs.Common.{◌≡◌, ℕ, List, [], ◌∷◌, None, Bor, sym, subst}
use Rattle.std.specs.Iterator.{Yields, DrainsIf}
use Rattle.std.specs.declared.str.SplitWhitespace.{SplitWhitespace}
use Rattle.std.specs.Str.Iter.{split_whitespace_steps, split_whitespace_rest}
use Rattle.script.specs.Lines.{IsBlank, AreWords}

of_run : (s t u : SplitWhitespace) (ws : List (Bor (List ℕ))) → Yields split_whitespace_steps s ws t → split_whitespace_steps t None u → AreWords (split_whitespace_rest s) ws
of_run s t u [] same last = subst (λ (r : SplitWhitespace). IsBlank (split_whitespace_rest r)) (sym same) last.1
of_run s t u (w ∷ ws) (j, (gap, laid, long, blank, solid, ends), on) last = (gap, split_whitespace_rest j, laid, blank, long, solid, ends, of_run j t u ws on last)

pub collected : {W : Type 0} (text : List ℕ) (ws : List (Bor (List ℕ))) (s : SplitWhitespace) (xs : List (Bor (List ℕ))) → DrainsIf split_whitespace_steps W s xs → W → ws ≡ xs → split_whitespace_rest s ≡ text → AreWords text ws
collected text ws s xs (t, on, ends) w same e =
    let last = ends w in
    let all = of_run s t last.0 xs on last.1 in
    subst (λ (r : List ℕ). AreWords r ws) e (subst (λ (ys : List (Bor (List ℕ))). AreWords (split_whitespace_rest s) ys) (sym same) all)
