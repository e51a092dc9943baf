-- Tables of places that are free or taken, and the tickets of a connection.
use Rattle.std.proofs.Common.{◌≡◌, ℕ, suc, ◌+◌, ◌*◌, ◌<◌, ◌≤◌, Bool, true, false, cond, ◌&&◌, ◌⊎◌, List, [], ◌∷◌, map, length, get_or, set, is_some, Some, None, sum_by, count_by, Option, sym, refl, ap, ◌∙◌, subst, inl, inr, arith}
use Rattle.std.specs.Option.{option_map}
use lib.ListN.{get_or-map}
use Rattle.std.proofs.lemmas.Option.{none-some, cond_some}
use Rattle.std.proofs.lemmas.List.{get_or-set_same, get_or-set_other, get_or_past, set_past, length-set, map-set}
use Rattle.std.proofs.lemmas.List.Sums.{sum_by-set, sum_by-cons, get_or-le-sum_by}
use Rattle.std.proofs.lemmas.Bool.{cases_eq, cases_lt}
use Rattle.rules.specs.Tables.{at}
use Rattle.connection.specs.Tables.{bay_of, same_bay, in_bay, next_ticket, has_two_jobs}
use Rattle.connection.specs.declared.kinds.Bay.{Bay}
use Rattle.connection.specs.declared.tables.Job.{Job}

-- nothing is not something
pub none_some : {X : Type 0} {P : Type 0} (o : Option X) (x : X) → o ≡ None → o ≡ Some x → P
none_some o x e f = absurd (let z : ◌≡◌ {A = ℕ} 0 1 = cc in omega arith)

-- the same place holds one thing
pub same_some : {X : Type 0} (o : Option X) (x y : X) → o ≡ Some x → o ≡ Some y → x ≡ y
same_some o x y e f = cc

-- beyond the end every place is free, so a place that is taken lies inside
pub taken_inside : {X : Type 0} (xs : List (Option X)) (k : ℕ) (x : X) → at xs k ≡ Some x → k < length xs
taken_inside xs k x e = elim (cases_lt k (length xs)) [
  | inl l ↦ l
  | inr l ↦ none_some (at xs k) x (get_or_past xs k None l) e
]

-- what a table holds after one place of it was set
pub at_set : {X : Type 0} (xs : List (Option X)) (i k : ℕ) (v : Option X) (x : X) → at (set xs i v) k ≡ Some x
    → ((k ≡ i) × (v ≡ Some x)) ⊎ ((k ≡ i → ⊥) × (at xs k ≡ Some x))
at_set {X} xs i k v x e = elim (cases_eq k i) [
  | inl q ↦ elim (cases_lt i (length xs)) [
    | inl l ↦ inl (q, sym (get_or-set_same xs i v None l) ∙ rw q at e)
    | inr l ↦ none_some (at (set xs i v) k) x (ap (λ (ys : List (Option X)). at ys k) (set_past xs i v l) ∙ get_or_past xs k None (omega arith)) e
  ]
  | inr n ↦ inr (n, sym (get_or-set_other xs i k v None n) ∙ e)
]

-- a place that was taken holds what it is set to
pub set_taken : {X : Type 0} (xs : List (Option X)) (i : ℕ) (v : Option X) (x : X) → at xs i ≡ Some x → at (set xs i v) i ≡ v
set_taken xs i v x e = get_or-set_same xs i v None (taken_inside xs i x e)

-- of two places that show the same, if one is taken, so is the other
pub mapped_too : {X Y Z : Type 0} (f : X → Z) (g : Y → Z) (o : Option X) (p : Option Y) (x : X) → option_map f o ≡ option_map g p → o ≡ Some x
    → (y : Y) × ((p ≡ Some y) × (g y ≡ f x))
mapped_too f g None p x e q = none_some None x refl q
mapped_too f g (Some w) None x e q = absurd (let z : ◌≡◌ {A = ℕ} 0 1 = cc in omega arith)
mapped_too f g (Some w) (Some y) x e q = (y, (refl, cc))

-- two tables that show the same do so at each place
pub same_places : {X Y Z : Type 0} (f : X → Z) (g : Y → Z) (xs : List (Option X)) (ys : List (Option Y)) → map (option_map f) xs ≡ map (option_map g) ys
    → (k : ℕ) → option_map f (at xs k) ≡ option_map g (at ys k)
same_places {Z = Z} f g xs ys e k = sym (get_or-map (option_map f) xs k None) ∙ ap (λ (zs : List (Option Z)). at zs k) e ∙ get_or-map (option_map g) ys k None

-- and if one is free, so is the other
pub free_too : {X Y Z : Type 0} (f : X → Z) (g : Y → Z) (o : Option X) (p : Option Y) → option_map f o ≡ option_map g p → o ≡ None → p ≡ None
free_too f g None None e q = refl
free_too f g None (Some y) e q = absurd (let z : ◌≡◌ {A = ℕ} 0 1 = cc in omega arith)
free_too f g (Some x) p e q = none_some (Some x) x q refl

-- two places that show the same are both taken or both free
pub same_some_ness : {X Y Z : Type 0} (f : X → Z) (g : Y → Z) (o : Option X) (p : Option Y) → option_map f o ≡ option_map g p → is_some o ≡ is_some p
same_some_ness f g None None e = refl
same_some_ness f g None (Some y) e = absurd (let z : ◌≡◌ {A = ℕ} 0 1 = cc in omega arith)
same_some_ness f g (Some x) None e = absurd (let z : ◌≡◌ {A = ℕ} 0 1 = cc in omega arith)
same_some_ness f g (Some x) (Some y) e = refl

-- a place is free, or something is there
pub free_or_taken : {X : Type 0} (o : Option X) → (o ≡ None) ⊎ ((x : X) × (o ≡ Some x))
free_or_taken None = inl refl
free_or_taken (Some x) = inr (x, refl)

-- a place that is not taken is free
pub none_unless : {X : Type 0} (o : Option X) → is_some o ≡ false → o ≡ None
none_unless None e = refl
none_unless (Some x) e = absurd (let z : ◌≡◌ {A = ℕ} 0 1 = cc in omega arith)

-- of two places the first that is free, where not both are taken
free_of_two : {X : Type 0} (o p : Option X) → (is_some o && is_some p) ≡ false → ((is_some o ≡ true) × (p ≡ None)) ⊎ ((is_some o ≡ false) × (o ≡ None))
free_of_two None p e = inr (refl, refl)
free_of_two (Some x) p e = inl (refl, none_unless p e)

-- the job in a bay is the one of the place, and of that bay
pub in_bay_is : (b : Bay) (o : Option Job) (j : Job) → in_bay b o ≡ Some j → (o ≡ Some j) × (same_bay (bay_of j.kind) b ≡ true)
in_bay_is b None j e = absurd (none-some j e)
in_bay_is b (Some i) j e =
    let w = cond_some (same_bay (bay_of i.kind) b) i j e in
    (ap Some w.1, subst (λ (x : Job). same_bay (bay_of x.kind) b ≡ true) w.1 w.0)

-- the ticket of a connection's next job is free
pub free_ticket : {X : Type 0} (jobs : List (Option X)) (c : ℕ) → has_two_jobs jobs c ≡ false → at jobs (next_ticket jobs c) ≡ None
free_ticket jobs c e = elim (free_of_two (at jobs (2 * c)) (at jobs (2 * c + 1)) e) [
  | inl b ↦ rw b.0 b.1
  | inr b ↦ rw b.0 b.1
]

-- it is one of the connection's two
either_of_two : (b : Bool) (n : ℕ) → (n ≤ cond b (n + 1) n) × (cond b (n + 1) n ≤ n + 1)
either_of_two true n = (omega arith, omega arith)
either_of_two false n = (omega arith, omega arith)

pub ticket_range : {X : Type 0} (jobs : List (Option X)) (c : ℕ) → (2 * c ≤ next_ticket jobs c) × (next_ticket jobs c ≤ 2 * c + 1)
ticket_range jobs c = either_of_two (is_some (at jobs (2 * c))) (2 * c)

-- a sum has at least what any two places of the list add
pub two_in_sum : {X : Type 0} (f : X → ℕ) (xs : List X) (i j : ℕ) (d y : X) → f y ≡ 0 → i < length xs → j < length xs → (j ≡ i → ⊥)
    → f (get_or xs i d) + f (get_or xs j d) ≤ sum_by f xs
two_in_sum f xs i j d y z l m n =
    let s = sum_by-set f xs i y d l in
    let inside : j < length (set xs i y) = rw length-set m in
    let g : f (get_or xs j d) ≤ sum_by f (set xs i y) = rw (get_or-set_other xs i j y d n) at (get_or-le-sum_by f (set xs i y) j d inside) in
    omega arith

-- where no element passes, none is counted
pub none_pass : {X : Type 0} (p : X → Bool) (xs : List X) (d : X) → ((k : ℕ) → k < length xs → p (get_or xs k d) ≡ false) → count_by p xs ≡ 0
none_pass p [] d e = refl
none_pass p (x ∷ xs) d e =
    let here : ◌≡◌ {A = ℕ} (cond (p x) 1 0) 0 = ap (λ (b : Bool). cond {A = ℕ} b 1 0) (e 0 (omega arith)) in
    omega (arith, sum_by-cons (λ y. cond {A = ℕ} (p y) 1 0) x xs, none_pass p xs d (λ k l. e (suc k) (omega arith)))

-- two tables that are the same stay so where both are set alike
pub same_set : {X Y Z : Type 0} (f : X → Z) (g : Y → Z) (xs : List (Option X)) (ys : List (Option Y)) (i : ℕ) (x : Option X) (y : Option Y)
    → map (option_map f) xs ≡ map (option_map g) ys → option_map f x ≡ option_map g y → map (option_map f) (set xs i x) ≡ map (option_map g) (set ys i y)
same_set {Z = Z} f g xs ys i x y e q =
    map-set (option_map f) xs i x ∙ ap (λ (zs : List (Option Z)). set zs i (option_map f x)) e ∙ ap (λ (z : Option Z). set (map (option_map g) ys) i z) q ∙ sym (map-set (option_map g) ys i y)
