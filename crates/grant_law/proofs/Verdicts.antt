-- What an accepted map says, each by its rule.
use Rattle.std.proofs.Common.{◌≡◌, ℕ, ◌+◌, ◌*◌, ◌<◌, true, false, eqb, ltb, List, length, is_some, Some, None, Ok, Option, unwrap_or, sym, refl, ap, ◌∙◌, subst, arith}
use Rattle.std.specs.List.{between}
use Rattle.std.proofs.lemmas.List.Edits.{length-between, get_or-between}
use Rattle.std.proofs.lemmas.Bool.{ltb-false, or_parts, not-false, both_ways}
use Rattle.std.proofs.lemmas.Bool.Decides.{nat_tests}
use Rattle.rules.specs.Tables.{at}
use Rattle.rules.proofs.Refusals.{none-held}
use Rattle.rules.proofs.Free.{first_free_is}
use Rattle.frame.specs.Owners.{owns}
use Rattle.frame.specs.declared.owners.Frames.{Frames}
use Rattle.grant.specs.Tables.{place, key, entry_at, record_at, lowest, in_use, pinned}
use Rattle.grant.specs.Map.{names, map_rules, mapping_of, mode_of, Grant, map_verdict}
use Rattle.grant.specs.declared.tables.Mapping.{Mapping}
use Rattle.grant.specs.declared.tables.Grants.{Grants}

-- the handle that goes out is one of the domain's, and was free
lowest_is_free : (hs : List (Option Mapping)) (d h : ℕ) → d < 8 → length hs ≡ 512 → lowest hs d ≡ Some h → (h < 64) × (at hs (key d h) ≡ None)
lowest_is_free hs d h b n e =
    let i = first_free_is (between (64 * d) (64 * d + 64) hs) 0 h e in
    let l = length-between hs (64 * d) (64 * d + 64) (omega arith) in
    let q : i.0 ≡ h = omega (arith, i.1) in
    let m : h < 64 = omega (arith, i.2, l, q) in
    (m, sym (get_or-between hs (64 * d) (64 * d + 64) h None (omega arith)) ∙ rw q at i.3)

-- what is there, by its value
pub some_value : {X : Type 0} (o : Option X) (d x : X) → is_some o ≡ true → unwrap_or o d ≡ x → o ≡ Some x
some_value (Some y) d x p q = ap Some q
some_value None d x p q = absurd (both_ways false refl p)

pub record Accepted (F : Frames) (G : Grants) (d owner reference mode : ℕ) (g : Grant) : Type 0 where
  pub domain : owner < 8
  pub within : reference < 32
  pub lowest_is : lowest G.handles d ≡ Some g.handle
  pub handle : g.handle < 64
  pub free : at G.handles (key d g.handle) ≡ None
  pub granted : names (entry_at G (place owner reference)) d ≡ true
  pub owned : owns F owner g.mapping.frame ≡ true
  pub same : pinned (record_at G (place owner reference)) ≡ true
      → ((record_at G (place owner reference)).mapper ≡ d) × ((record_at G (place owner reference)).frame ≡ (entry_at G (place owner reference)).frame)
  pub made : g.mapping ≡ mapping_of G owner reference (mode_of mode)

pub map_accepted : (F : Frames) (G : Grants) (d owner reference mode : ℕ) (g : Grant) → d < 8 → length G.handles ≡ 512 → map_verdict F G d owner reference mode ≡ Ok g
    → Accepted F G d owner reference mode g
map_accepted F G d owner reference mode g b size q =
    let l = lowest G.handles d in
    let u : Grant = record { handle = unwrap_or l 0; mapping = mapping_of G owner reference (mode_of mode) } in
    let w = none-held (map_rules F G d owner reference mode) (Ok u) g q in
    let n = w.0 in
    let same-grant : u ≡ g = cc w.1 in
    let o = ltb-false 7 owner (or_parts (ltb 7 owner) (eqb owner d) n.1.0).0 in
    let r = ltb-false 31 reference n.1.1.1.0 in
    let s = n.1.1.1.1.1.1.1.0 in
    let first : l ≡ Some g.handle = some_value l 0 g.handle (not-false (is_some l) n.1.1.0) (ap (λ (x : Grant). x.handle) same-grant) in
    let place-free = lowest_is_free G.handles d g.handle b size first in
    let made : g.mapping ≡ mapping_of G owner reference (mode_of mode) = sym (ap (λ (x : Grant). x.mapping) same-grant) in
    record {
      domain = omega arith;
      within = omega arith;
      lowest_is = first;
      handle = place-free.0;
      free = place-free.1;
      granted = not-false (names (entry_at G (place owner reference)) d) n.1.1.1.1.0;
      owned = subst (λ (p : Mapping). owns F owner p.frame ≡ true) (sym made) (not-false (owns F owner (entry_at G (place owner reference)).frame) n.1.1.1.1.1.0);
      same = λ p. (grind (arith, nat_tests), grind (arith, nat_tests));
      made = made;
    }

-- a handle in use is one of the domain's 64
pub in_use_is : (G : Grants) (d h : ℕ) (p : Mapping) → in_use G d h ≡ Some p → (h < 64) × (at G.handles (key d h) ≡ Some p)
in_use_is G d h p q = (grind (arith, nat_tests), grind (arith, nat_tests))
