-- A step is good: it keeps the invariant, and does what the law says of it. The law of one step follows.
use Rattle.std.proofs.Common.{◌≡◌, ℕ, ◌+◌, ◌<◌, ◌≤◌, ◌⊎◌, List, length, get_or, Some, Ok, Err, Option, Result, sym, refl, ap, ◌∙◌, subst, arith}
use Rattle.rules.specs.Tables.{at}
use Rattle.rules.specs.Refusal.{if_some}
use Rattle.device.specs.Meaning.{Rules}
use Rattle.device.specs.declared.fault.DeviceFault.{DeviceFault}
use Rattle.frame.specs.Memory.{frame_bytes}
use Rattle.grant.specs.Tables.{pins}
use Rattle.event.specs.Pending.{word, bit}
use Rattle.ringpage.specs.declared.slot.Request.{Request}
use Rattle.ring.specs.declared.fault.RingFault.TheVariants.{OfDevice}
use Rattle.answer.specs.declared.fault.HostFault.{HostFault}
use Rattle.answer.specs.declared.fault.HostFault.TheVariants.{OfRing}
use Rattle.answer.specs.declared.reply.Answer.{Answer}
use Rattle.answer.specs.declared.reply.Answer.TheVariants.{Port, Connected}
use Rattle.law.specs.World.{World, with_memory}
use Rattle.law.specs.Call.{Call, Next, Connect, domain, Reply}
use Rattle.law.specs.Step.{Ends, step, told, by_verdict}
use Rattle.law.specs.Account.{Account, ConnectionNote, accepted, noted}
use Rattle.law.specs.Keeps.{Keeps, Owns, Maps, Writes, InSlot, nth, responses}
use Rattle.law.proofs.Inv.{Standing, Inv}
use Rattle.law.proofs.Books.{granted, pins-mappings, pins-counted}
use Rattle.law.proofs.Requested.{answers_one, answers-once}

-- the fault is not one of a device
abbrev pub Unbroken : HostFault → Type 0
Unbroken f = (x : DeviceFault) → f ≡ OfRing (OfDevice x) → ⊥

-- no response was written where a connection's answers are as before
pub no_answer : {X : Type 0} (a : Account) (c j : ℕ) (old n : ConnectionNote) → at a.connections c ≡ Some old → n.answered ≡ old.answered → responses a c ≤ j → j < length n.answered → X
no_answer a c j old n there same low high =
    let many : responses a c ≡ length old.answered = ap (λ (o : Option ConnectionNote). if_some {Y = ℕ} o 0 (λ x. length x.answered)) there in
    let long : length n.answered ≡ length old.answered = ap length same in
    absurd (omega arith)

-- nor where the connections' notes are
pub no_response : {X : Type 0} (a b : Account) → b.connections ≡ a.connections → (k j : ℕ) (n : ConnectionNote) → at b.connections k ≡ Some n
    → responses a k ≤ j → j < length n.answered → X
no_response a b e k j n h low high = no_answer a k j n n (ap (λ cs. at cs k) (sym e) ∙ h) refl low high

module _ {M N : Type 0} (R : Rules M) (S : Rules N) (pick : ℕ → ℕ) where
  -- the account after the call and its reply
  abbrev pub after : Account → World M N → Call → Reply → Account
  after a w c r = noted R S a c r w.memory w.bay0 w.bay1

  -- what the step does, where I holds after it
  pub record GoodWith (I : Type 0) (a b : Account) (w : World M N) (c : Call) (e : Ends M N) : Type 0 where
    pub inv : I
    pub count : e.world.host.frames.count ≡ w.host.frames.count
    pub owner : (f : ℕ) → 0 < pins w.host.grants.records f → at b.owners f ≡ at a.owners f
    pub alters : (f : ℕ) → f < w.host.frames.count → (Owns b (domain c) f → ⊥) → (Writes a (domain c) f → ⊥)
        → frame_bytes f e.world.memory ≡ frame_bytes f w.memory
    pub response : (k j : ℕ) (n : ConnectionNote) (q : Request) → at b.connections k ≡ Some n
        → responses a k ≤ j → j < length n.answered → nth n.requests (get_or n.answered j 0) ≡ Some q → InSlot n j q e.world.memory
    pub unbroken : (x : DeviceFault) → e.answer.result ≡ Err (OfRing (OfDevice x)) → ⊥
    pub pending : (d p : ℕ) → c ≡ Next d → e.answer.result ≡ Ok (Port p)
        → ((word w.host.events d ≡ 0) × (p ≡ 0)) ⊎ (bit (word w.host.events d) p ≡ 1)
    pub unmarked : (d kind reference n : ℕ) → c ≡ Connect d kind reference → e.answer.result ≡ Ok (Connected n)
        → (g : ℕ) → bit (word e.world.host.events g) (n + 1) ≡ 0
    pub refused : (f : HostFault) → e.answer.result ≡ Err f → e.world ≡ w

  -- a step that leaves memory of the host's size, and one that leaves any
  abbrev pub Good : Account → Account → World M N → Call → Ends M N → Type 0
  Good a b w c e = GoodWith (Inv R S b e.world) a b w c e

  abbrev pub StandsGood : Account → Account → World M N → Call → Ends M N → Type 0
  StandsGood a b w c e = GoodWith (Standing R S b e.world) a b w c e

  pub stands_good : {I : Type 0} (a b : Account) (w : World M N) (c : Call) (e : Ends M N) → (I → Standing R S b e.world) → GoodWith I a b w c e → StandsGood a b w c e
  stands_good a b w c e f g = record { inv = f g.inv; count = g.count; owner = g.owner; alters = g.alters; response = g.response; unbroken = g.unbroken; pending = g.pending; unmarked = g.unmarked; refused = g.refused }

  -- other bytes where the call's domain may not look would have changed nothing
  abbrev pub Learns : Account → World M N → Call → Type 0
  Learns a w c = (m : List ℕ) → length m ≡ length w.memory
      → ((f : ℕ) → f < w.host.frames.count → Owns a (domain c) f ⊎ Maps a (domain c) f → frame_bytes f m ≡ frame_bytes f w.memory)
      → ((step R S pick (with_memory m w) c).answer ≡ (step R S pick w c).answer)
      × ((step R S pick (with_memory m w) c).world.bay0 ≡ (step R S pick w c).world.bay0)
      × ((step R S pick (with_memory m w) c).world.bay1 ≡ (step R S pick w c).world.bay1)

  -- the law of one step
  pub law_of-step : (a b : Account) (w : World M N) (c : Call) → StandsGood a b w c (step R S pick w c) → Learns a w c
      → Keeps R S pick a b (record { found = w; call = c; answered = (step R S pick w c).answer; left = (step R S pick w c).world })
  law_of-step a b w c g learns =
      let H = (step R S pick w c).world.host in
      let i = g.inv in
      let below : (f : ℕ) → f < H.frames.count → f < w.host.frames.count = λ f h. subst (λ n. f < n) g.count h in
      let above : (f : ℕ) → f < w.host.frames.count → f < H.frames.count = λ f h. subst (λ n. f < n) (sym g.count) h in
      record {
        frames_stay = g.count;
        pins_are_maps_less_unmaps = λ f h. pins-counted H.frames H.grants b i.books f (omega (arith, i.few, h));
        pinned_keeps_owner = λ f h p. g.owner f p;
        mapped_as_granted = λ d h n l e. granted H.frames H.grants b i.books d h n l e;
        alters_only_its_own = λ f h. g.alters f (below f h);
        learns_only_its_own = λ m l same. learns m l (λ f h. same f (above f h));
        refusal_alters_nothing = g.refused;
        each_request_spent = i.requests.total;
        answers_a_request = answers_one H.rings.jobs b.connections b.jobs i.requests;
        response_in_slot = g.response;
        answered_once = answers-once H.rings.jobs b.connections b.jobs i.requests;
        orders_are_jobs0 = i.bay0;
        orders_are_jobs1 = i.bay1;
        never_broken_off = g.unbroken;
        owners_agree = i.books.owners_same;
        connections_agree = i.links.connections_same;
        jobs_agree = i.links.jobs_same;
        handles_agree = i.books.handles_same;
        pins_are_mappings = λ f h. pins-mappings H.frames H.grants b i.books f;
        indices_agree = i.links.indices;
        pending_is_live = i.words.live;
        connect_unmarked = g.unmarked;
        next_was_pending = g.pending;
      }

  -- a call that changes nothing, and the account neither
  pub good_same : {I : Type 0} (a : Account) (w : World M N) (c : Call) (r : Reply) → I
      → ((x : DeviceFault) → r.result ≡ Err (OfRing (OfDevice x)) → ⊥)
      → ((d p : ℕ) → c ≡ Next d → r.result ≡ Ok (Port p) → ((word w.host.events d ≡ 0) × (p ≡ 0)) ⊎ (bit (word w.host.events d) p ≡ 1))
      → ((n : ℕ) → r.result ≡ Ok (Connected n) → ⊥)
      → GoodWith I a a w c (record { answer = r; world = w })
  good_same a w c r i u p o = record {
    inv = i;
    count = refl;
    owner = λ f h. refl;
    alters = λ f h mine wr. refl;
    response = λ k j n q e low high at-index. no_response a a refl k j n e low high;
    unbroken = u;
    pending = p;
    unmarked = λ d k n' n e z. absurd (o n z);
    refused = λ f e. refl;
  }

  -- a refusal, which the account does not note
  refused-same : {I : Type 0} (a : Account) (w : World M N) (c : Call) (f : HostFault) → I → Unbroken f → GoodWith I a a w c (record { answer = told (Err f); world = w })
  refused-same a w c f i u =
      good_same a w c (told (Err f)) i (λ x e. u x (let z : f ≡ OfRing (OfDevice x) = cc in z)) (λ d p q e. absurd (let z : ◌≡◌ {A = ℕ} 0 1 = cc in omega arith)) (λ n e. let z : ◌≡◌ {A = ℕ} 0 1 = cc in omega arith)

  pub good_refused : (a : Account) (w : World M N) (c : Call) (f : HostFault) → Inv R S a w → Unbroken f → Good a (after a w c (told (Err f))) w c (record { answer = told (Err f); world = w })
  unfolding noted
  good_refused a w c f i u = refused-same a w c f i u

  -- and so whatever memory the call was given
  pub stands_refused : (a : Account) (w : World M N) (c : Call) (f : HostFault) → Standing R S a w → Unbroken f → StandsGood a (after a w c (told (Err f))) w c (record { answer = told (Err f); world = w })
  unfolding noted
  stands_refused a w c f i u = refused-same a w c f i u

  -- a call by a verdict: refused, or good where it is granted
  pub good_by : {T E : Type 0} (a : Account) (w : World M N) (c : Call) (g : E → HostFault) (r : Result T E) (f : T → Answer) (v : T → World M N) → Inv R S a w
      → ((t : T) → r ≡ Ok t → Good a (accepted R S a c (f t) w.memory w.bay0 w.bay1) w c (record { answer = told (Ok (f t)); world = v t }))
      → ((e : E) → r ≡ Err e → Unbroken (g e))
      → Good a (after a w c (by_verdict g r w f v).answer) w c (by_verdict g r w f v)
  unfolding noted
  good_by a w c g (Ok t) f v i p u = p t refl
  good_by a w c g (Err e) f v i p u = good_refused a w c (g e) i (u e refl)

  -- a call that leaves memory, owners and connections as they were
  pub good_quiet : (a b : Account) (w v : World M N) (c : Call) (x : Answer) → Inv R S b v → v.host.frames.count ≡ w.host.frames.count → v.memory ≡ w.memory
      → b.owners ≡ a.owners → b.connections ≡ a.connections → ((p : ℕ) → (x ≡ Port p → ⊥) × (x ≡ Connected p → ⊥))
      → Good a b w c (record { answer = told (Ok x); world = v })
  good_quiet a b w v c x i n m o k p = record {
    inv = i;
    count = n;
    owner = λ f h. ap (λ os. at os f) o;
    alters = λ f h mine wr. ap (frame_bytes f) m;
    response = λ k' j n q e low high at-index. no_response a b k k' j n e low high;
    unbroken = λ f e. let z : ◌≡◌ {A = ℕ} 0 1 = cc in omega arith;
    pending = λ d q e z. absurd ((p q).0 (let y : x ≡ Port q = cc in y));
    unmarked = λ d q r n e z. absurd ((p n).1 (let y : x ≡ Connected n = cc in y));
    refused = λ f e. absurd (let z : ◌≡◌ {A = ℕ} 0 1 = cc in omega arith);
  }
