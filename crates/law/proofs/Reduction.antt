-- The law follows from three facts about the invariant: it holds at the start, each step keeps it, and it gives the law
-- of each step.
use Rattle.std.proofs.Common.{ℕ, ◌≤◌, [], ◌∷◌, sym, ap, ◌∙◌, subst}
use Rattle.device.specs.Meaning.{Rules}
use Rattle.device.specs.Laws.{Laws}
use Rattle.backend.specs.declared.tables.Tables.{Tables}
use Rattle.law.specs.World.{World}
use Rattle.law.specs.Account.{Account, nothing_yet, noted}
use Rattle.law.specs.Keeps.{Step, Keeps, under_ticket}
use Rattle.law.specs.Run.{History, Starts, Meanwhile, Does, Reaches, Lawful, account}
use Rattle.law.specs.Law.{Picks, Isolation}
use Rattle.law.proofs.Inv.{Standing, BooksOf, Links, Requests, Words}

module _ {M N : Type 0} (R : Rules M) (S : Rules N) (pick : ℕ → ℕ) where
  -- the account after a step
  abbrev pub then : Account → Step M N → Account
  then a s = noted R S a s.call s.answered s.found.memory s.found.bay0 s.found.bay1

  pub record StepsKeep : Type 0 where
    pub at-start : (w : World M N) → Starts R S w → Standing R S nothing_yet w
    pub stays : (a : Account) (s : Step M N) → Does R S pick s.found s.call s.answered s.left → Standing R S a s.found → Standing R S (then a s) s.left
    pub keeps : (a : Account) (s : Step M N) → Does R S pick s.found s.call s.answered s.left → Standing R S a s.found → Keeps R S pick a (then a s) s

  -- what happens meanwhile leaves the invariant
  pub meanwhile_keeps : (a : Account) (u w : World M N) → Meanwhile R S u w → Standing R S a u → Standing R S a w
  meanwhile_keeps a u w k i =
      let h = sym k.host in
      record {
        few = subst (λ (H : Tables). H.frames.count ≤ 256) h i.few;
        books = subst (λ (H : Tables). BooksOf H.frames H.grants a) h i.books;
        links = subst (λ (H : Tables). Links H.grants.handles H.rings a.connections a.jobs) h i.links;
        requests = subst (λ (H : Tables). Requests H.rings.jobs a.connections a.jobs) h i.requests;
        bay0 = λ t. ap (under_ticket t) k.orders0 ∙ i.bay0 t;
        bay1 = λ t. ap (under_ticket t) k.orders1 ∙ i.bay1 t;
        words = subst (λ (H : Tables). Words H.events a.connections) h i.words;
      }

  along : StepsKeep → (h : History M N) (w : World M N) → Reaches R S pick h w → Standing R S (account R S h) w × Lawful R S pick h
  unfolding Reaches Lawful account
  along p [] w r = (meanwhile_keeps nothing_yet r.0 w r.1.1 (p.at-start r.0 r.1.0), tt)
  along p (s ∷ h) w r =
      let before = along p h s.found r.0 in (
        meanwhile_keeps (then (account R S h) s) s.left w r.2 (p.stays (account R S h) s r.1 before.0),
        (p.keeps (account R S h) s r.1 before.0, before.1),
      )

pub isolation_from : {M N : Type 0} (R : Rules M) (S : Rules N) → (Laws R → Laws S → (pick : ℕ → ℕ) → Picks pick → StepsKeep R S pick) → Isolation R S
isolation_from R S p lr ls pick k h w r = (along R S pick (p lr ls pick k) h w r).1
