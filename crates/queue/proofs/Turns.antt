-- What a ring of slots holds after a write, and one place further on.
use Rattle.std.proofs.Common.{◌≡◌, ℕ, zero, suc, ◌+◌, ◌-◌, ◌<◌, ◌≤◌, min, List, [], ◌∷◌, ◌++◌, length, get_or, take, drop, set, Some, sym, refl, ap, ◌∙◌, ⊎_elim, add-zero, arith}
use native.Mathlib.Nat.{zero-sub}
use lib.Seq.{take-set-lt, take-append-add}
use Rattle.std.proofs.lemmas.List.{length-take, length-drop, length-append, append_assoc, append-nil, drop-set-add, drop-set-lt, take-set-le, set-append_left, set-append_right, take-append-le, take_more_set, take_more, drop_more, take_all, drop_all, take-take}
use Rattle.std.proofs.lemmas.Bool.{cases_lt, lt-ltb, le-ltb, cond-true, cond-false}
use Rattle.std.specs.List.{slice_get}
use Rattle.queue.specs.Line.{along, turned, first}

pub along_low : (h step n : ℕ) → step < n - h → along h step n ≡ h + step
along_low h step n lt = cond-true _ _ _ (lt-ltb step (n - h) lt)

pub along_high : (h step n : ℕ) → n - h ≤ step → along h step n ≡ step - (n - h)
along_high h step n le = cond-false _ _ _ (le-ltb step (n - h) le)

module _ {T : Type 0} where
  pub length-turned : (h : ℕ) (xs : List T) → h ≤ length xs → length (turned h xs) ≡ length xs
  length-turned h xs le = simp (length-append, length-drop, length-take) (omega arith)

  set-low : (h n : ℕ) (xs : List T) (x : T) → h ≤ length xs → n < length xs - h → turned h (set xs (h + n) x) ≡ set (turned h xs) n x
  set-low h n xs x hl lt =
      let le : h ≤ h + n = omega arith in
      let within : n < length (drop h xs) = simp length-drop (omega arith) in
      simp (drop-set-add h xs n x, take-set-le h xs (h + n) x le, set-append_left (drop h xs) (take h xs) n x within)

  set-high : (h n : ℕ) (xs : List T) (x : T) → h ≤ length xs → length xs - h ≤ n → n < length xs → turned h (set xs (n - (length xs - h)) x) ≡ set (turned h xs) n x
  set-high h n xs x hl le lt =
      let i : ℕ = n - (length xs - h) in
      let below : n - (length xs - h) < h = omega arith in
      simp (drop-set-lt h xs (n - (length xs - h)) x below, take-set-lt h xs (n - (length xs - h)) x below, set-append_right (drop h xs) (take h xs) (length xs - h) n x (length-drop h xs) le)

  pub set-turned : (h n : ℕ) (xs : List T) (x : T) → h ≤ length xs → n < length xs → turned h (set xs (along h n (length xs)) x) ≡ set (turned h xs) n x
  set-turned h n xs x hl lt =
      ⊎_elim
      (λ low. ap (λ i. turned h (set xs i x)) (along_low h n (length xs) low) ∙ set-low h n xs x hl low)
      (λ high. ap (λ i. turned h (set xs i x)) (along_high h n (length xs) high) ∙ set-high h n xs x hl high lt)
      (cases_lt n (length xs - h))

  -- a write at the first free place is one item more at the end
  pub items_push : (h n i : ℕ) (xs : List T) (x : T) → h ≤ length xs → n < length xs → i ≡ along h n (length xs) → take (n + 1) (turned h (set xs i x)) ≡ take n (turned h xs) ++ x ∷ []
  items_push h n i xs x hl lt e =
      let le : n < length (turned h xs) = omega (arith, length-turned h xs hl) in
      ap (λ j. take (n + 1) (turned h (set xs j x))) e ∙ ap (take (n + 1)) (set-turned h n xs x hl lt) ∙ take_more_set (turned h xs) n x le

  turned-here : (i : ℕ) (xs : List T) (x : T) → i < length xs → x ≡ get_or xs i x → turned i xs ≡ x ∷ (drop (i + 1) xs ++ take i xs)
  turned-here i xs x lt read = ap (λ ys. ys ++ take i xs) (drop_more xs i x lt ∙ ap (λ y. y ∷ drop (i + 1) xs) (sym read))

  turned-next : (i m : ℕ) (xs : List T) (x : T) → i < length xs → x ≡ get_or xs i x → m < length xs → take m (turned (i + 1) xs) ≡ take m (drop (i + 1) xs ++ take i xs)
  turned-next i m xs x lt read ml =
      let more : take (i + 1) xs ≡ take i xs ++ x ∷ [] = take_more xs i x lt ∙ ap (λ y. take i xs ++ y ∷ []) (sym read) in
      let le : m ≤ length (drop (i + 1) xs ++ take i xs) = simp (length-append, length-drop, length-take) (omega arith) in
      ap (λ ys. take m (drop (i + 1) xs ++ ys)) more ∙ ap (take m) (sym (append_assoc (drop (i + 1) xs) (take i xs) (x ∷ []))) ∙ take-append-le m (drop (i + 1) xs ++ take i xs) (x ∷ []) le

  -- the end of the places is their start
  pub turned_end : (h : ℕ) (xs : List T) → length xs ≤ h → turned h xs ≡ turned 0 xs
  turned_end h xs le = ap (λ ys. ys ++ take h xs) (drop_all h xs le) ∙ take_all h xs le ∙ sym (append-nil xs)

  turned-from : (h : ℕ) (xs : List T) → h ≤ length xs → turned h xs ≡ turned (along h 0 (length xs)) xs
  turned-from h xs hl =
      ⊎_elim
      (λ low. ap (λ j. turned j xs) (sym (along_low h 0 (length xs) low ∙ add-zero h)))
      (λ high. let z : along h 0 (length xs) ≡ 0 = along_high h 0 (length xs) high ∙ zero-sub (length xs - h) in turned_end h xs (omega arith) ∙ ap (λ j. turned j xs) (sym z))
      (cases_lt 0 (length xs - h))

  -- the first item stands at the first place, and the others from the next on
  pub items_pop : (h n i : ℕ) (xs : List T) (x : T) → h ≤ length xs → 0 < n → n ≤ length xs → i < length xs → i ≡ along h 0 (length xs) → x ≡ get_or xs i x → take n (turned h xs) ≡ x ∷ take (n - 1) (turned (i + 1) xs)
  items_pop h n i xs x hl pos nl lt e read =
      let one : n ≡ suc (n - 1) = omega arith in
      let below : n - 1 < length xs = omega arith in
      ap (λ k. take k (turned h xs)) one ∙ ap (take (suc (n - 1))) (turned-from h xs hl ∙ ap (λ j. turned j xs) (sym e) ∙ turned-here i xs x lt read) ∙ ap (λ ys. x ∷ ys) (sym (turned-next i (n - 1) xs x lt read below))

  take-length-take : (n : ℕ) (ys : List T) → take n ys ≡ take (length (take n ys)) ys
  take-length-take zero ys = refl
  take-length-take (suc n) [] = refl
  take-length-take (suc n) (y ∷ ys) = ap (λ zs. y ∷ zs) (take-length-take n ys)

  -- what is taken, by how much of it there is
  pub take_counted : (n m : ℕ) (ys : List T) → m ≡ length (take n ys) → take n ys ≡ take m ys
  take_counted n m ys e = take-length-take n ys ∙ ap (λ j. take j ys) (sym e)

  -- and from another start of the same turn
  pub take_own : (n h k m : ℕ) (xs : List T) → m ≡ length (take n (turned h xs)) → turned h xs ≡ turned k xs → take n (turned h xs) ≡ take m (turned k xs)
  take_own n h k m xs e same = take_counted n m (turned h xs) e ∙ ap (take m) same

  -- the items up to the last place, and those from the first place on
  pub items_two : (h n f e k : ℕ) (xs : List T) → h ≤ length xs → n ≤ length xs → f ≡ min n (length xs - h) → e ≡ f → k ≡ n - f → take e (drop h xs) ++ take k xs ≡ take n (turned h xs)
  items_two h n f e k xs hl nl fe ee ke =
      let size : length (drop h xs) ≡ length xs - h = length-drop h xs in
      ⊎_elim
      (λ (few : n < length xs - h).
      let all : e ≡ n = omega arith in
      let none : k ≡ 0 = omega arith in
      let le : n ≤ length (drop h xs) = omega arith in
      ap (λ i. take i (drop h xs) ++ take k xs) all ∙ ap (λ i. take n (drop h xs) ++ take i xs) none ∙ append-nil (take n (drop h xs)) ∙ sym (take-append-le n (drop h xs) (take h xs) le))
      (λ (many : length xs - h ≤ n).
      let all : length (drop h xs) ≤ e = omega arith in
      let sum : length (drop h xs) + k ≡ n = omega arith in
      let le : k ≤ h = omega arith in
      ap (λ ys. ys ++ take k xs) (take_all e (drop h xs) all) ∙ ap (λ ys. drop h xs ++ ys) (sym (take-take k h xs le)) ∙ sym (take-append-add (drop h xs) (take h xs) k) ∙ ap (λ i. take i (turned h xs)) sum)
      (cases_lt n (length xs - h))

  -- what stands at a place that there is
  pub nth_default : (xs : List T) (i : ℕ) → i < length xs → (x : T) × (slice_get xs i ≡ Some x) × (x ≡ get_or xs i x)
  nth_default [] i lt = absurd (omega arith)
  nth_default (x ∷ xs) zero lt = (x, refl, refl)
  nth_default (x ∷ xs) (suc i) lt = nth_default xs i (omega arith)

  -- what stands at the first place is the first item
  pub items-first : (h n i : ℕ) (xs : List T) → h ≤ length xs → 0 < n → n ≤ length xs → i < length xs → i ≡ along h 0 (length xs) → slice_get xs i ≡ first (take n (turned h xs))
  items-first h n i xs hl pos nl lt e =
      let (x, here, read) = nth_default xs i lt in
      here ∙ sym (ap first (items_pop h n i xs x hl pos nl lt e read))
