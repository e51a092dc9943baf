-- Isolation over any run: each call, accepted or refused, keeps the invariant and the law.
use Rattle.std.proofs.Common.{◌≡◌, ℕ, ◌*◌, ◌<◌, ◌≤◌, Bool, true, false, ◌||◌, eqb, ltb, List, [], ◌∷◌, length, Some, None, Ok, Err, Result, sym, refl, ap, ◌∙◌, subst, arith}
use Rattle.std.proofs.lemmas.Bool.{or_parts, ltb-false, eqb-false, eqb-true, not-false}
use Rattle.rules.specs.Refusal.{Rule, refuse_first, either_of}
use Rattle.rules.specs.Tables.{at}
use Rattle.rules.proofs.Refusals.{none-held}
use Rattle.device.specs.Meaning.{Rules, ready_ticket}
use Rattle.device.specs.Laws.{Laws}
use Rattle.ring.specs.declared.fault.RingFault.TheVariants.{BadBay}
use Rattle.connection.specs.Tables.{bay_of, same_bay, connection_at}
use Rattle.connection.specs.declared.kinds.Bay.{Bay}
use Rattle.connection.specs.declared.kinds.Bay.TheVariants.{BlockBay, NetBay}
use Rattle.connection.specs.declared.tables.Connection.{Connection}
use Rattle.backend.specs.declared.tables.Tables.{Tables}
use Rattle.answer.specs.declared.fault.HostFault.{HostFault}
use Rattle.answer.specs.declared.fault.HostFault.TheVariants.{BadMemory, BadCaller, OfRing}
use Rattle.law.specs.World.{World, new_host}
use Rattle.law.specs.Call.{Call, Take, Give, Load, Store, Entry, End, Map, Unmap, Send, Next, Connect, Serve, Complete, Disconnect}
use Rattle.law.specs.Step.{step, proceeds, wrong_memory, host_rules, guest_rules, start_rules, started, told, served_in, completed_in, serving_bay, bay_numbered}
use Rattle.law.specs.Serve.{served}
use Rattle.law.specs.Complete.{completed}
use Rattle.law.specs.Account.{Account, nothing_yet, noted, accepted, serve_noted, complete_noted, ready_in}
use Rattle.law.specs.Keeps.{Step, Keeps, under_ticket, handed}
use Rattle.law.specs.Run.{Starts, Does}
use Rattle.law.specs.Law.{Picks, Isolation}
use Rattle.law.proofs.Inv.{Standing, Inv, BooksOf, Links, Requests, Words, standing, with_size}
use Rattle.law.proofs.Books.{books_start}
use Rattle.law.proofs.Links.{links_start}
use Rattle.law.proofs.Requested.{requests-start}
use Rattle.law.proofs.Marks.{words_start}
use Rattle.grant_law.proofs.Places.{at-replicate}
use Rattle.law.proofs.Cases.{ok_same}
use Rattle.law.proofs.Good.{Good, StandsGood, Learns, Unbroken, after, good_refused, stands_good, stands_refused, law_of-step}
use Rattle.law.proofs.Simple.{good_take, good_give, good_load, good_store, good_entry, good_end, good_map, good_unmap, good_send, good_next}
use Rattle.law.proofs.Connecting.{good_connect, good_disconnect}
use Rattle.law.proofs.Outcomes.{host_inv, good_bay0, good_bay1, ring_noted}
use Rattle.law.proofs.Serving.{served_good}
use Rattle.law.proofs.Completing.{completed_good}
use Rattle.law.proofs.Learns.{learns, learns_refused}
use Rattle.law.proofs.Reduction.{then, StepsKeep, isolation_from}

-- what the host itself refuses is no device's fault
guest_unbroken : (p q : Bool) (f : HostFault) → refuse_first {T = Unit} ((p, BadMemory) ∷ (q, BadCaller) ∷ []) (Ok tt) ≡ Err f → Unbroken f
guest_unbroken true q f e x z = let y : ◌≡◌ {A = ℕ} 0 1 = cc in omega arith
guest_unbroken false true f e x z = let y : ◌≡◌ {A = ℕ} 0 1 = cc in omega arith
guest_unbroken false false f e x z = let y : ◌≡◌ {A = ℕ} 0 1 = cc in omega arith

module _ {M N : Type 0} (R : Rules M) (S : Rules N) (pick : ℕ → ℕ) where
  host-unbroken : (w : World M N) (c : Call) (f : HostFault) → refuse_first {T = Unit} (host_rules R S pick w c) (Ok tt) ≡ Err f → Unbroken f
  host-unbroken w (Take d f) e q = guest_unbroken (wrong_memory w.host w.memory) (eqb d 0 || ltb 7 d) e q
  host-unbroken w (Give d f) e q = guest_unbroken (wrong_memory w.host w.memory) (eqb d 0 || ltb 7 d) e q
  host-unbroken w (Load d f o n) e q = guest_unbroken (wrong_memory w.host w.memory) (eqb d 0 || ltb 7 d) e q
  host-unbroken w (Store d f o bs) e q = guest_unbroken (wrong_memory w.host w.memory) (eqb d 0 || ltb 7 d) e q
  host-unbroken w (Entry d n fl to f) e q = guest_unbroken (wrong_memory w.host w.memory) (eqb d 0 || ltb 7 d) e q
  host-unbroken w (End d n) e q = guest_unbroken (wrong_memory w.host w.memory) (eqb d 0 || ltb 7 d) e q
  host-unbroken w (Map d o n md) e q = guest_unbroken (wrong_memory w.host w.memory) (eqb d 0 || ltb 7 d) e q
  host-unbroken w (Unmap d h) e q = guest_unbroken (wrong_memory w.host w.memory) (eqb d 0 || ltb 7 d) e q
  host-unbroken w (Send d p) e q = guest_unbroken (wrong_memory w.host w.memory) (eqb d 0 || ltb 7 d) e q
  host-unbroken w (Next d) e q = guest_unbroken (wrong_memory w.host w.memory) (ltb 7 d) e q
  host-unbroken w (Connect d k n) e q = guest_unbroken (wrong_memory w.host w.memory) (eqb d 0 || ltb 7 d) e q
  host-unbroken w (Serve c) e q = guest_unbroken (wrong_memory w.host w.memory) false e q
  host-unbroken w (Complete b) e q = guest_unbroken (wrong_memory w.host w.memory) false e q
  host-unbroken w (Disconnect c) e q = guest_unbroken (wrong_memory w.host w.memory) false e q

  -- a caller that is a guest
  guest : (w : World M N) (d : ℕ) → refuse_first {T = Unit} (guest_rules w.host w.memory d) (Ok tt) ≡ Ok tt → (0 < d) × (d < 8)
  guest w d q =
      let none = or_parts (eqb d 0) (ltb 7 d) (none-held (guest_rules w.host w.memory d) (Ok tt) tt q).0.1.0 in
      let low : 0 < d = grind (arith, eqb-false d 0 none.0) in
      let high = ltb-false 7 d none.1 in
      (low, omega arith)

  module _ (lr : Laws R) (ls : Laws S) (pk : Picks pick) (a : Account) (w : World M N) (i : Inv R S a w) where
    -- serve, by the bay of its connection
    good-serve : (c : ℕ) → Good R S pick a (after R S pick a w (Serve c) (proceeds R S pick w (Serve c)).answer) w (Serve c) (proceeds R S pick w (Serve c))
    unfolding proceeds accepted
    good-serve c = by (serving_bay (connection_at w.host.rings c)) refl
      where
        here : (b : Bay) → serving_bay (connection_at w.host.rings c) ≡ b → (k : Connection) → at w.host.rings.connections c ≡ Some k → same_bay (bay_of k.kind) b ≡ true
        here b e k live = subst (λ (x : Bay). same_bay (bay_of k.kind) x ≡ true) (sym (ap serving_bay live) ∙ e) (own (bay_of k.kind))
          where
            own : (x : Bay) → same_bay x x ≡ true
            own BlockBay = refl
            own NetBay = refl

        by : (b : Bay) → serving_bay (connection_at w.host.rings c) ≡ b → Good R S pick a (after R S pick a w (Serve c) (served_in R S b c w).answer) w (Serve c) (served_in R S b c w)
        by BlockBay e = subst (λ (z : Account). Good R S pick a z w (Serve c) (served_in R S BlockBay c w))
            (sym (ring_noted R S a (Serve c) (served R c w.host w.memory w.bay0).answer w.memory w.bay0 w.bay1 (λ z. serve_noted c z w.memory a) (λ z. refl)))
            (good_bay0 R S pick a w i (Serve c) refl (λ d q. let y : ◌≡◌ {A = ℕ} 0 1 = cc in omega arith) (λ d k n q. let y : ◌≡◌ {A = ℕ} 0 1 = cc in omega arith) _ (served R c w.host w.memory w.bay0) (served_good R lr BlockBay a w.host w.memory w.bay0 (host_inv R S a w i) i.bay0 c (here BlockBay e)))
        by NetBay e = subst (λ (z : Account). Good R S pick a z w (Serve c) (served_in R S NetBay c w))
            (sym (ring_noted R S a (Serve c) (served S c w.host w.memory w.bay1).answer w.memory w.bay0 w.bay1 (λ z. serve_noted c z w.memory a) (λ z. refl)))
            (good_bay1 R S pick a w i (Serve c) refl (λ d q. let y : ◌≡◌ {A = ℕ} 0 1 = cc in omega arith) (λ d k n q. let y : ◌≡◌ {A = ℕ} 0 1 = cc in omega arith) _ (served S c w.host w.memory w.bay1) (served_good S ls NetBay a w.host w.memory w.bay1 (host_inv R S a w i) i.bay1 c (here NetBay e)))

    -- complete, in either bay
    complete-in : (n : ℕ) (b : Bay) → bay_numbered n ≡ b → Good R S pick a (after R S pick a w (Complete n) (completed_in R S b w).answer) w (Complete n) (completed_in R S b w)
    unfolding accepted
    complete-in n BlockBay e = subst (λ (z : Account). Good R S pick a z w (Complete n) (completed_in R S BlockBay w))
        (sym (ring_noted R S a (Complete n) (completed R BlockBay w.host w.memory w.bay0).answer w.memory w.bay0 w.bay1 (λ z. complete_noted z (ready_ticket R w.bay0) a) (λ z. ap (λ (b : Bay). complete_noted z (ready_in R S b w.bay0 w.bay1) a) e)))
        (good_bay0 R S pick a w i (Complete n) refl (λ d q. let y : ◌≡◌ {A = ℕ} 0 1 = cc in omega arith) (λ d k n q. let y : ◌≡◌ {A = ℕ} 0 1 = cc in omega arith) _ (completed R BlockBay w.host w.memory w.bay0) (completed_good R lr BlockBay a w.host w.memory w.bay0 (host_inv R S a w i) i.bay0))
    complete-in n NetBay e = subst (λ (z : Account). Good R S pick a z w (Complete n) (completed_in R S NetBay w))
        (sym (ring_noted R S a (Complete n) (completed S NetBay w.host w.memory w.bay1).answer w.memory w.bay0 w.bay1 (λ z. complete_noted z (ready_ticket S w.bay1) a) (λ z. ap (λ (b : Bay). complete_noted z (ready_in R S b w.bay0 w.bay1) a) e)))
        (good_bay1 R S pick a w i (Complete n) refl (λ d q. let y : ◌≡◌ {A = ℕ} 0 1 = cc in omega arith) (λ d k n q. let y : ◌≡◌ {A = ℕ} 0 1 = cc in omega arith) _ (completed S NetBay w.host w.memory w.bay1) (completed_good S ls NetBay a w.host w.memory w.bay1 (host_inv R S a w i) i.bay1))

    good-complete : (b : ℕ) → Good R S pick a (after R S pick a w (Complete b) (proceeds R S pick w (Complete b)).answer) w (Complete b) (proceeds R S pick w (Complete b))
    unfolding proceeds
    good-complete b = by (ltb 1 b)
      where
        by : (v : Bool) → Good R S pick a
            (after R S pick a w (Complete b) (either_of (refuse_first {T = Unit} ((v, BadBay) ∷ []) (Ok tt)) (λ _. completed_in R S (bay_numbered b) w) (λ e. record { answer = told (Err (OfRing e)); world = w })).answer) w (Complete b)
            (either_of (refuse_first {T = Unit} ((v, BadBay) ∷ []) (Ok tt)) (λ _. completed_in R S (bay_numbered b) w) (λ e. record { answer = told (Err (OfRing e)); world = w }))
        by true = good_refused R S pick a w (Complete b) (OfRing BadBay) i (λ x z. let y : ◌≡◌ {A = ℕ} 0 1 = cc in omega arith)
        by false = complete-in b (bay_numbered b) refl

    -- every call that the host does not refuse
    good-call : (c : Call) → refuse_first {T = Unit} (host_rules R S pick w c) (Ok tt) ≡ Ok tt → Good R S pick a (after R S pick a w c (proceeds R S pick w c).answer) w c (proceeds R S pick w c)
    good-call (Take d f) q = good_take R S pick pk a w i d f
    good-call (Give d f) q = good_give R S pick pk a w i d f
    good-call (Load d f o n) q = good_load R S pick pk a w i d f o n
    good-call (Store d f o bs) q = good_store R S pick pk a w i d f o bs
    good-call (Entry d n fl to f) q = good_entry R S pick pk a w i d n fl to f
    good-call (End d n) q = good_end R S pick pk a w i d n
    good-call (Map d o n md) q = let g = guest w d q in good_map R S pick pk a w i d o n md g.0 g.1
    good-call (Unmap d h) q = let g = guest w d q in good_unmap R S pick pk a w i d h g.0 g.1
    good-call (Send d p) q = good_send R S pick pk a w i d p
    good-call (Next d) q = good_next R S pick pk a w i d
    good-call (Connect d k n) q = let g = guest w d q in good_connect R S pick a w i d k n g.0 g.1
    good-call (Serve c) q = good-serve c
    good-call (Complete b) q = good-complete b
    good-call (Disconnect c) q = good_disconnect R S pick a w i c

  -- a call that the host does not refuse was given memory of its size
  sized-by : (w : World M N) (rest : List (Rule HostFault)) → refuse_first {T = Unit} ((wrong_memory w.host w.memory, BadMemory) ∷ rest) (Ok tt) ≡ Ok tt → length w.memory ≡ 4096 * w.host.frames.count
  sized-by w rest q = eqb-true (length w.memory) (4096 * w.host.frames.count) (not-false _ (none-held ((wrong_memory w.host w.memory, BadMemory) ∷ rest) (Ok tt) tt q).0.0)

  sized : (w : World M N) (c : Call) → refuse_first {T = Unit} (host_rules R S pick w c) (Ok tt) ≡ Ok tt → length w.memory ≡ 4096 * w.host.frames.count
  sized w (Take d f) q = sized-by w ((eqb d 0 || ltb 7 d, BadCaller) ∷ []) q
  sized w (Give d f) q = sized-by w ((eqb d 0 || ltb 7 d, BadCaller) ∷ []) q
  sized w (Load d f o n) q = sized-by w ((eqb d 0 || ltb 7 d, BadCaller) ∷ []) q
  sized w (Store d f o bs) q = sized-by w ((eqb d 0 || ltb 7 d, BadCaller) ∷ []) q
  sized w (Entry d n fl to f) q = sized-by w ((eqb d 0 || ltb 7 d, BadCaller) ∷ []) q
  sized w (End d n) q = sized-by w ((eqb d 0 || ltb 7 d, BadCaller) ∷ []) q
  sized w (Map d o n md) q = sized-by w ((eqb d 0 || ltb 7 d, BadCaller) ∷ []) q
  sized w (Unmap d h) q = sized-by w ((eqb d 0 || ltb 7 d, BadCaller) ∷ []) q
  sized w (Send d p) q = sized-by w ((eqb d 0 || ltb 7 d, BadCaller) ∷ []) q
  sized w (Next d) q = sized-by w ((ltb 7 d, BadCaller) ∷ []) q
  sized w (Connect d k n) q = sized-by w ((eqb d 0 || ltb 7 d, BadCaller) ∷ []) q
  sized w (Serve c) q = sized-by w [] q
  sized w (Complete b) q = sized-by w [] q
  sized w (Disconnect c) q = sized-by w [] q

  module _ (lr : Laws R) (ls : Laws S) (pk : Picks pick) (a : Account) (w : World M N) (s : Standing R S a w) where
    -- every call
    good-step : (c : Call) → StandsGood R S pick a (after R S pick a w c (step R S pick w c).answer) w c (step R S pick w c)
    unfolding step
    good-step c = by (refuse_first (host_rules R S pick w c) (Ok tt)) refl
      where
        by : (r : Result Unit HostFault) → refuse_first (host_rules R S pick w c) (Ok tt) ≡ r
            → StandsGood R S pick a (after R S pick a w c (either_of r (λ _. proceeds R S pick w c) (λ f. record { answer = told (Err f); world = w })).answer) w c (either_of r (λ _. proceeds R S pick w c) (λ f. record { answer = told (Err f); world = w }))
        by (Ok t) e = stands_good R S pick a _ w c (proceeds R S pick w c) (standing R S _ _) (good-call lr ls pk a w (with_size R S a w s (sized w c e)) c e)
        by (Err f) e = stands_refused R S pick a w c f s (host-unbroken w c f e)

    learns-step : (c : Call) → Learns R S pick a w c
    learns-step c = by (refuse_first (host_rules R S pick w c) (Ok tt)) refl
      where
        by : (r : Result Unit HostFault) → refuse_first (host_rules R S pick w c) (Ok tt) ≡ r → Learns R S pick a w c
        by (Ok t) e = learns R S pick a w (with_size R S a w s (sized w c e)) c
        by (Err f) e = learns_refused R S pick a w c f e

  -- a new host over idle devices
  start-inv : (w : World M N) → Starts R S w → Inv R S nothing_yet w
  unfolding started new_host nothing_yet
  start-inv w s =
      let none = none-held (start_rules s.count w.memory) (Ok (new_host s.count)) w.host s.new in
      let host : new_host s.count ≡ w.host = ok_same _ _ none.1 in
      let parts = or_parts _ _ none.0.0 in
      let few : s.count ≤ 256 = ltb-false 256 s.count (or_parts _ _ parts.0).1 in
      let size : length w.memory ≡ 4096 * s.count = eqb-true (length w.memory) (4096 * s.count) (not-false _ parts.1) in
      record {
        few = subst (λ (H : Tables). H.frames.count ≤ 256) host few;
        memory = subst (λ (H : Tables). length w.memory ≡ 4096 * H.frames.count) host size;
        books = subst (λ (H : Tables). BooksOf H.frames H.grants nothing_yet) host (books_start s.count);
        links = subst (λ (H : Tables). Links H.grants.handles H.rings nothing_yet.connections nothing_yet.jobs) host links_start;
        requests = subst (λ (H : Tables). Requests H.rings.jobs nothing_yet.connections nothing_yet.jobs) host requests-start;
        bay0 = λ t. ap (under_ticket t) s.idle0 ∙ sym (ap (handed BlockBay) (at-replicate 12 t None));
        bay1 = λ t. ap (under_ticket t) s.idle1 ∙ sym (ap (handed NetBay) (at-replicate 12 t None));
        words = subst (λ (H : Tables). Words H.events nothing_yet.connections) host (words_start nothing_yet.connections);
      }

  -- each step keeps the invariant, and the law
  steps-keep : Laws R → Laws S → Picks pick → StepsKeep R S pick
  steps-keep lr ls pk = record {
    at-start = λ w s. standing R S nothing_yet w (start-inv w s);
    stays = λ a s d i.
        subst (λ v. Standing R S (then R S pick a s) v) (sym d.leaves)
        (subst (λ r. Standing R S (noted R S a s.call r s.found.memory s.found.bay0 s.found.bay1) (step R S pick s.found s.call).world) (sym d.answers)
        (good-step lr ls pk a s.found i s.call).inv);
    keeps = λ a s d i. kept_step lr ls pk a s d i;
  }
    where
      kept_step : Laws R → Laws S → Picks pick → (a : Account) (s : Step M N) → Does R S pick s.found s.call s.answered s.left → Standing R S a s.found → Keeps R S pick a (then R S pick a s) s
      kept_step lr ls pk a s d i =
          subst (λ v. Keeps R S pick a (then R S pick a s) (record { found = s.found; call = s.call; answered = s.answered; left = v })) (sym d.leaves)
          (subst (λ r. Keeps R S pick a (noted R S a s.call r s.found.memory s.found.bay0 s.found.bay1) (record { found = s.found; call = s.call; answered = r; left = (step R S pick s.found s.call).world })) (sym d.answers)
          (law_of-step R S pick a _ s.found s.call (good-step lr ls pk a s.found i s.call) (learns-step lr ls pk a s.found i s.call)))

pub isolation : {M N : Type 0} (R : Rules M) (S : Rules N) → Isolation R S
isolation R S = isolation_from R S (λ lr ls pick pk. steps-keep R S pick lr ls pk)
