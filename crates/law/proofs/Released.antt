-- Domain 0's handles are freed one by one, in the tables and in the account.
use Rattle.std.proofs.Common.{◌≡◌, ℕ, zero, suc, ◌<◌, Bool, true, false, cond, eqb, ltb, List, [], ◌∷◌, length, get_or, set, Some, None, count_by, Option, sym, refl, ap, ◌∙◌, inl, inr, arith}
use Rattle.std.proofs.lemmas.List.{get_or-set_same, get_or-set_other, set-get_or}
use Rattle.std.proofs.lemmas.List.Sums.{get_or-le-sum_by}
use Rattle.std.proofs.lemmas.Bool.{cases_eq, eq-eqb, le-ltb}
use Rattle.rules.specs.Refusal.{if_some}
use Rattle.rules.specs.Tables.{at}
use Rattle.frame.specs.declared.owners.Frames.{Frames}
use Rattle.grant.specs.Tables.{key, place}
use Rattle.grant.specs.Pin.{released, unpin, unused}
use Rattle.grant.specs.declared.tables.Mapping.{Mapping}
use Rattle.grant.specs.declared.tables.Grants.{Grants}
use Rattle.backend.specs.Segments.{released_all}
use Rattle.law.specs.Account.{Account, MappingNote, counted, mapping_ended, mappings_ended}
use Rattle.law.proofs.Inv.{BooksOf}
use Rattle.law.proofs.Books.{books_unpinned}

-- a handle that does not count in a list stands nowhere in it
pub uncounted : (hs : List ℕ) (h i : ℕ) → count_by (λ y. eqb y h) hs ≡ 0 → i < length hs → get_or hs i 0 ≡ h → ⊥
uncounted hs h i z l e =
    let one : ◌≡◌ {A = ℕ} (cond (eqb (get_or hs i 0) h) 1 0) 1 = ap (λ (b : Bool). cond {A = ℕ} b 1 0) (eq-eqb (get_or hs i 0) h e) in
    omega (arith, one, get_or-le-sum_by (λ y. cond {A = ℕ} (eqb y h) 1 0) hs i 0 l)

-- one use less of an entry leaves the handles
unused-handles : (p : Mapping) (G : Grants) (b : Bool) → (cond b (unused (place p.owner p.reference) p.mode G) G).handles ≡ G.handles
unused-handles p G true = refl
unused-handles p G false = refl

-- freeing a handle frees its place, and it alone
handles-without : (d h : ℕ) (G : Grants) (o : Option Mapping) → at G.handles (key d h) ≡ o → (if_some o G (λ p. unpin d h p G)).handles ≡ set G.handles (key d h) None
handles-without d h G None e = sym (set-get_or G.handles (key d h) None) ∙ ap (set G.handles (key d h)) e
handles-without d h G (Some p) e = ap (λ l. set l (key d h) None) (unused-handles p G (ltb (place p.owner p.reference) 256))

pub released-handles : (d h : ℕ) (G : Grants) → h < 64 → (released d h G).handles ≡ set G.handles (key d h) None
released-handles d h G l = rw (le-ltb 63 h (omega arith)) (handles-without d h G (at G.handles (key d h)) refl)

-- the two accounts have the same frames, entries, connections and jobs
pub record OnlyMappings (a a' : Account) : Type 0 where
  pub owners : a'.owners ≡ a.owners
  pub entries : a'.entries ≡ a.entries
  pub connections : a'.connections ≡ a.connections
  pub jobs : a'.jobs ≡ a.jobs

-- the account where the mapping of the note o, under the key k, ended
abbrev ended_as : ℕ → Account → Option MappingNote → Account
ended_as k a o =
    if_some o a (λ n. record {
      owners = a.owners;
      entries = a.entries;
      mappings = set a.mappings k None;
      maps = a.maps;
      unmaps = counted n.mapping.frame a.unmaps;
      connections = a.connections;
      jobs = a.jobs;
    })

-- the end of a mapping leaves the rest of the account
ended_as_rest : (k : ℕ) (a : Account) (o : Option MappingNote) → OnlyMappings a (ended_as k a o)
ended_as_rest k a None = record { owners = refl; entries = refl; connections = refl; jobs = refl }
ended_as_rest k a (Some n) = record { owners = refl; entries = refl; connections = refl; jobs = refl }

pub ended_rest : (d h : ℕ) (a : Account) → OnlyMappings a (mapping_ended d h a)
ended_rest d h a = ended_as_rest (key d h) a (at a.mappings (key d h))

-- and frees its place among the mappings
ended_as_mappings : (k : ℕ) (a : Account) (o : Option MappingNote) → at a.mappings k ≡ o → (ended_as k a o).mappings ≡ set a.mappings k None
ended_as_mappings k a None e = sym (set-get_or a.mappings k None) ∙ ap (set a.mappings k) e
ended_as_mappings k a (Some n) e = refl

pub ended_mappings : (d h : ℕ) (a : Account) → (mapping_ended d h a).mappings ≡ set a.mappings (key d h) None
ended_mappings d h a = ended_as_mappings (key d h) a (at a.mappings (key d h)) refl

-- a job's segments are unmapped
pub record AllReleased (F : Frames) (G G' : Grants) (a a' : Account) (hs : List ℕ) : Type 0 where
  pub books : BooksOf F G' a'
  pub connections : a'.connections ≡ a.connections
  pub jobs : a'.jobs ≡ a.jobs
  pub owners : a'.owners ≡ a.owners
  pub others : (k : ℕ) → ((i : ℕ) → i < length hs → k ≡ key 0 (get_or hs i 0) → ⊥) → at G'.handles k ≡ at G.handles k
  pub free : (i : ℕ) → i < length hs → at G'.handles (key 0 (get_or hs i 0)) ≡ None

-- after the handle h is freed its place is free, and the others are as they were
freed-here : (F : Frames) (G : Grants) (a : Account) (h : ℕ) → h < 64 → BooksOf F G a → at (released 0 h G).handles (key 0 h) ≡ None
freed-here F G a h l k =
    let inside : key 0 h < length G.handles = omega (arith, k.sound.handles_size) in
    ap (λ (t : List (Option Mapping)). at t (key 0 h)) (released-handles 0 h G l) ∙ get_or-set_same G.handles (key 0 h) None None inside

pub freed_other : (G : Grants) (d h m : ℕ) → h < 64 → (m ≡ key d h → ⊥) → at (released d h G).handles m ≡ at G.handles m
freed_other G d h m l n = ap (λ (t : List (Option Mapping)). at t m) (released-handles d h G l) ∙ get_or-set_other G.handles (key d h) m None None n

-- with those of the list free, all of them and h are
freed_all : (F : Frames) (G : Grants) (a : Account) (h : ℕ) (hs : List ℕ) → h < 64 → BooksOf F G a
    → ((i : ℕ) → i < length hs → at G.handles (key 0 (get_or hs i 0)) ≡ None)
    → (i : ℕ) → i < length (h ∷ hs) → at (released 0 h G).handles (key 0 (get_or (h ∷ hs) i 0)) ≡ None
freed_all F G a h hs l k f zero b = freed-here F G a h l k
freed_all F G a h hs l k f (suc i) b = elim (cases_eq (key 0 (get_or hs i 0)) (key 0 h)) [
  | inl e ↦ ap (at (released 0 h G).handles) e ∙ freed-here F G a h l k
  | inr n ↦ freed_other G 0 h (key 0 (get_or hs i 0)) l n ∙ f i (omega arith)
]

-- in the tables and in the account
pub segments_released : (F : Frames) (G : Grants) (a : Account) (hs : List ℕ) → BooksOf F G a → ((i : ℕ) → i < length hs → get_or hs i 0 < 64)
    → AllReleased F G (released_all hs G) a (mappings_ended hs a) hs
segments_released F G a [] k l = record { books = k; connections = refl; jobs = refl; owners = refl; others = λ m n. refl; free = λ i b. absurd (omega arith) }
segments_released F G a (h ∷ hs) k l =
    let r = segments_released F G a hs k (λ i b. l (suc i) (omega arith)) in
    let G1 : Grants = released_all hs G in
    let a1 : Account = mappings_ended hs a in
    let below : h < 64 = l 0 (omega arith) in
    let o = ended_rest 0 h a1 in
    record {
      books = books_unpinned F G1 a1 0 h (omega arith) below r.books;
      connections = o.connections ∙ r.connections;
      jobs = o.jobs ∙ r.jobs;
      owners = o.owners ∙ r.owners;
      others = λ m n. freed_other G1 0 h m below (n 0 (omega arith)) ∙ r.others m (λ i b. n (suc i) (omega arith));
      free = freed_all F G1 a1 h hs below r.books r.free;
    }
