-- The laws of a layout, for every width: what is written is read again, and what is read is written again.
use Rattle.std.proofs.Common.{◌≡◌, ℕ, zero, suc, ◌+◌, ◌*◌, ◌/◌, ◌%◌, ◌^◌, ◌<◌, ◌≤◌, List, [], ◌∷◌, ◌++◌, length, get_or, take, drop, replicate, sym, refl, ap, ◌∙◌, subst, ap₂, pow-suc, arith}
use Rattle.std.proofs.lemmas.List.{append_assoc, get_or_at, get_or-take, get_or-drop, drop_more, length_push, length-append, length-replicate}
use Rattle.layout.specs.Message.{Message, Decoded, Encoded}
use Rattle.layout.specs.Layout.{le, bytes_from, number, Part, field, gap, written, read_at, covered_at, read, covered, Fit, size}

length-le : (w x : ℕ) → length (le w x) ≡ w
length-le zero x = refl
length-le (suc w) x = ap suc (length-le w (x / 256))

-- a field that was written after p is read there again
pub number-le : (w x : ℕ) (p q : List ℕ) (k : ℕ) → length p ≡ k → x < 256 ^ w → number w k (p ++ (le w x ++ q)) ≡ x
number-le zero x p q k e h = omega arith
number-le (suc w) x p q k e h =
    let b : x < 256 ^ w * 256 = subst (λ n. x < n) (pow-suc 256 w) h in
    let here : get_or (p ++ (le (suc w) x ++ q)) k 0 ≡ x % 256 = get_or_at p (x % 256) (le w (x / 256) ++ q) 0 k e in
    let rest = number-le w (x / 256) (p ++ x % 256 ∷ []) q (k + 1) (length_push p (x % 256) ∙ ap (λ n. n + 1) e) (omega arith) in
    let same : number w (k + 1) (p ++ (le (suc w) x ++ q)) ≡ x / 256 =
    subst (λ l. number w (k + 1) l ≡ x / 256) (append_assoc p (x % 256 ∷ []) (le w (x / 256) ++ q)) rest in
    omega arith

-- the bytes of a field are written again
pub le-number : (w k : ℕ) (bs : List ℕ) → ((i : ℕ) → get_or bs i 0 < 256) → le w (number w k bs) ≡ bytes_from w k bs
le-number zero k bs h = refl
le-number (suc w) k bs h =
    let n = number w (k + 1) bs in
    let b = h k in
    let low : (get_or bs k 0 + 256 * n) % 256 ≡ get_or bs k 0 = omega arith in
    let high : (get_or bs k 0 + 256 * n) / 256 ≡ n = omega arith in
    ap₂ (λ x y. x ∷ y) low (ap (le w) high ∙ le-number w (k + 1) bs h)

-- what is written is read again
read_at-written : (ps : List Part) (vs p : List ℕ) (k : ℕ) → length p ≡ k → Fit ps vs → read_at k ps (p ++ written ps vs) ≡ vs
read_at-written [] [] p k e h = refl
read_at-written [] (v ∷ vs) p k e h = absurd h
read_at-written (gap w ∷ ps) vs p k e h =
    subst (λ l. read_at (k + w) ps l ≡ vs) (append_assoc p (replicate w 0) (written ps vs))
    (read_at-written ps vs (p ++ replicate w 0) (k + w) (length-append p (replicate w 0) ∙ ap₂ (λ a b. a + b) e (length-replicate w 0)) h)
read_at-written (field w ∷ ps) [] p k e h = absurd h
read_at-written (field w ∷ ps) (v ∷ vs) p k e h =
    ap₂ (λ x y. x ∷ y) (number-le w v p (written ps vs) k e h.0)
    (subst (λ l. read_at (k + w) ps l ≡ vs) (append_assoc p (le w v) (written ps vs))
    (read_at-written ps vs (p ++ le w v) (k + w) (length-append p (le w v) ∙ ap₂ (λ a b. a + b) e (length-le w v)) h.1))

pub read-written : (ps : List Part) (vs : List ℕ) → Fit ps vs → read ps (written ps vs) ≡ vs
read-written ps vs h = read_at-written ps vs [] 0 refl h

-- what is read is written again, with 0 where no field stands
written-read_at : (k : ℕ) (ps : List Part) (bs : List ℕ) → ((i : ℕ) → get_or bs i 0 < 256) → written ps (read_at k ps bs) ≡ covered_at k ps bs
written-read_at k [] bs h = refl
written-read_at k (gap w ∷ ps) bs h = ap (λ x. replicate w 0 ++ x) (written-read_at (k + w) ps bs h)
written-read_at k (field w ∷ ps) bs h = ap₂ (λ x y. x ++ y) (le-number w k bs h) (written-read_at (k + w) ps bs h)

pub written_read : (ps : List Part) (bs : List ℕ) → ((i : ℕ) → get_or bs i 0 < 256) → written ps (read ps bs) ≡ covered ps bs
written_read ps bs h = written-read_at 0 ps bs h

-- a message is read from a part of a page as from the page
pub number_cut : (w k at n : ℕ) (bs : List ℕ) → k + w ≤ n → number w k (take n (drop at bs)) ≡ number w (at + k) bs
number_cut zero k at n bs h = refl
number_cut (suc w) k at n bs h =
    let here : get_or (take n (drop at bs)) k 0 ≡ get_or bs (at + k) 0 = get_or-take n (drop at bs) k 0 (omega arith) ∙ get_or-drop at bs k 0 in
    let next : at + (k + 1) ≡ at + k + 1 = omega arith in
    ap₂ (λ a b. a + 256 * b) here (number_cut w (k + 1) at n bs (omega arith) ∙ ap (λ j. number w j bs) next)

pub read_at_cut : (ps : List Part) (k at n : ℕ) (bs : List ℕ) → k + size ps ≤ n → read_at k ps (take n (drop at bs)) ≡ read_at (at + k) ps bs
read_at_cut [] k at n bs h = refl
read_at_cut (gap w ∷ ps) k at n bs h =
    let next : at + (k + w) ≡ at + k + w = omega arith in
    read_at_cut ps (k + w) at n bs (omega arith) ∙ ap (λ j. read_at j ps bs) next
read_at_cut (field w ∷ ps) k at n bs h =
    let next : at + (k + w) ≡ at + k + w = omega arith in
    ap₂ (λ x y. x ∷ y) (number_cut w k at n bs (omega arith)) (read_at_cut ps (k + w) at n bs (omega arith) ∙ ap (λ j. read_at j ps bs) next)

-- bytes that lie within a list, as a part of it
pub bytes_from_is : (w k : ℕ) (bs : List ℕ) → k + w ≤ length bs → bytes_from w k bs ≡ take w (drop k bs)
bytes_from_is zero k bs h = refl
bytes_from_is (suc w) k bs h =
    ap (λ l. get_or bs k 0 ∷ l) (bytes_from_is w (k + 1) bs (omega arith))
    ∙ ap (take (suc w)) (sym (drop_more bs k 0 (omega arith)))

-- What is decoded keeps its promise, where no field's value is lost in the message.
pub decodes : {T : Type 0} (M : Message T) (bs : List ℕ) (m : T) → ((i : ℕ) → get_or bs i 0 < 256)
    → m ≡ M.of (read M.layout bs)
    → M.values (M.of (read M.layout bs)) ≡ read M.layout bs
    → Decoded M bs m
decodes M bs m h e v = record {
  value = e;
  again = ap (λ x. written M.layout (M.values x)) e ∙ ap (written M.layout) v ∙ written_read M.layout bs h;
}

-- What is encoded keeps its promise, where every field's value fits and the values give the message back.
pub encodes : {T : Type 0} (M : Message T) (m : T) (bs : List ℕ)
    → bs ≡ written M.layout (M.values m)
    → Fit M.layout (M.values m)
    → M.of (M.values m) ≡ m
    → Encoded M m bs
encodes M m bs e f b = record {
  value = e;
  back = ap (λ x. M.of (read M.layout x)) e ∙ ap M.of (read-written M.layout (M.values m) f) ∙ b;
}

-- A message in the copy of a part is the message in its place.
pub in_place : {T : Type 0} (M : Message T) (m : T) (copy bytes : List ℕ) (at n start : ℕ) → size M.layout ≤ n → at ≡ start
    → copy ≡ take n (drop at bytes) → m ≡ M.of (read M.layout copy) → m ≡ M.of (read_at start M.layout bytes)
in_place M m copy bytes at n start h s e v =
    let zero : at + 0 ≡ start = omega arith in
    v ∙ ap (λ l. M.of (read M.layout l)) e ∙ ap M.of (read_at_cut M.layout 0 at n bytes (omega arith))
    ∙ ap (λ k. M.of (read_at k M.layout bytes)) zero
