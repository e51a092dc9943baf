-- Segments that are mapped one after the other, and unmapped again.
use Rattle.std.proofs.Common.{◌≡◌, ℕ, ◌+◌, List, [], ◌∷◌, ◌++◌, Some, Ok, Err, Result, sym, refl, ap, ◌∙◌, ap₂, arith}
use Rattle.rules.specs.Refusal.{either_of, granting, after_ok, if_some}
use Rattle.frame.specs.declared.owners.Frames.{Frames}
use Rattle.grant.specs.Map.{Grant, map_verdict}
use Rattle.grant.specs.Pin.{pin, released}
use Rattle.grant.specs.declared.tables.Grants.{Grants}
use Rattle.grant.specs.declared.fault.GrantFault.{GrantFault}
use Rattle.ring.specs.declared.fault.RingFault.TheVariants.{OfGrant}
use Rattle.request.specs.Check.{miss}
use Rattle.request.specs.declared.content.Span.{Span}
use Rattle.request.specs.declared.fields.Miss.{Miss}
use Rattle.connection.specs.Tables.{handles_of}
use Rattle.connection.specs.declared.tables.Job.{Job}
use Rattle.backend.specs.Segments.{mode_for, released_all, part_in, with_segment, pin_all, emptied, MappingDone, Pinned, SegmentPinned}

-- the last of the handles is freed first
pub released_push : (hs : List ℕ) (h : ℕ) (G : Grants) → released_all (hs ++ h ∷ []) G ≡ released_all hs (released 0 h G)
released_push [] h G = refl
released_push (x ∷ hs) h G = ap (released 0 x) (released_push hs h G)

-- a verdict that granted, or refused, by the answer that was made of it
granted : {T E X Y Z : Type 0} (v : Result T E) (r : Result Unit E) (x x' : X) (y y' : Y) (f : T → X) (g : T → Y) (next : X → Y → Z) (other : E → Z)
    → r ≡ granting (λ _. tt) v → x' ≡ after_ok v x f → y' ≡ after_ok v y g → r ≡ Ok tt → either_of v (λ t. next (f t) (g t)) other ≡ next x' y'
granted (Ok t) r x x' y y' f g next other a p q e = ap₂ next (sym p) (sym q)
granted (Err e) r x x' y y' f g next other a p q o = absurd (let z : ◌≡◌ {A = ℕ} 0 1 = cc in omega arith)

refused : {T E Y Z : Type 0} (v : Result T E) (r : Result Unit E) (y y' : Y) (g : T → Y) (next : T → Z) (other : E → Z) (e : E)
    → r ≡ granting (λ _. tt) v → y' ≡ after_ok v y g → r ≡ Err e → (either_of v next other ≡ other e) × (y' ≡ y)
refused (Ok t) r y y' g next other e a q o = absurd (let z : ◌≡◌ {A = ℕ} 0 1 = cc in omega arith)
refused (Err d) r y y' g next other e a q o = (let same : d ≡ e = cc in ap other same, q)

-- what is granted carries a number that the answer's value has
count_of : {T E Y : Type 0} (v : Result T E) (r : Result Unit E) (y y' : Y) (g : T → Y) (count : Y → ℕ) (n : ℕ) → ((t : T) → count (g t) ≡ n)
    → r ≡ granting (λ _. tt) v → y' ≡ after_ok v y g → r ≡ Ok tt → count y' ≡ n
count_of (Ok t) r y y' g count n h a q o = ap count q ∙ h t
count_of (Err e) r y y' g count n h a q o = absurd (let z : ◌≡◌ {A = ℕ} 0 1 = cc in omega arith)

module _ (F : Frames) (guest : ℕ) (s : Span) (G : Grants) (j : Job) (r : Result Unit GrantFault) (G' : Grants) (j' : Job) (h : SegmentPinned F guest s G j r G' j') where
  abbrev verdict : Result Grant GrantFault
  verdict = map_verdict F G 0 guest s.reference (mode_for j.direction)

  abbrev longer : Grant → Job
  longer g = with_segment j.count g.handle (part_in g.mapping.frame s) j

  abbrev stopped : GrantFault → MappingDone
  stopped e = record { grants = released_all (handles_of j) G; job = j; fault = Some (miss (OfGrant e) j.count) }

  -- a span that was mapped leads to the rest
  pub pin_more : (ss : List Span) → r ≡ Ok tt → pin_all F guest j.count j G (s ∷ ss) ≡ pin_all F guest (j.count + 1) j' G' ss
  pin_more ss e =
      granted verdict r j j' G G' longer (λ g. pin 0 g.handle g.mapping G) (λ k H. pin_all F guest (j.count + 1) k H ss) stopped
      h.answer h.job h.grants e

  pub count_more : r ≡ Ok tt → j'.count ≡ j.count + 1
  count_more e = count_of verdict r j j' longer (λ (k : Job). k.count) (j.count + 1) (λ g. refl) h.answer h.job e

  -- one that is refused ends it, and nothing is changed by it
  pub pin-refused : (ss : List Span) (e : GrantFault) → r ≡ Err e → (pin_all F guest j.count j G (s ∷ ss) ≡ stopped e) × (j' ≡ j) × (G' ≡ G)
  pin-refused ss e o =
      let next : Grant → MappingDone = λ g. pin_all F guest (j.count + 1) (longer g) (pin 0 g.handle g.mapping G) ss in
      let a = refused verdict r j j' longer next stopped e h.answer h.job o in
      let b = refused verdict r G G' (λ g. pin 0 g.handle g.mapping G) next stopped e h.answer h.grants o in
      (a.0, a.1, b.1)

-- what was done, by the parts that the call leaves
pub pinned_by : (F : Frames) (guest : ℕ) (spans : List Span) (G : Grants) (j : Job) (p : MappingDone) (r : Result Unit Miss) (G' : Grants) (j' : Job)
    → pin_all F guest 0 (emptied j) G spans ≡ p → r ≡ if_some p.fault (Ok tt) (λ f. Err f) → G' ≡ p.grants → j' ≡ p.job → Pinned F guest spans G j r G' j'
pinned_by F guest spans G j p r G' j' e answer grants job = record {
  answer = answer ∙ sym (ap (λ (q : MappingDone). if_some q.fault (Ok tt) (λ f. Err f)) e);
  grants = grants ∙ sym (ap (λ (q : MappingDone). q.grants) e);
  job = job ∙ sym (ap (λ (q : MappingDone). q.job) e);
}
