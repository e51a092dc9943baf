-- Other bytes where a call's domain may not look would have changed neither its answer nor a device.
use Rattle.std.proofs.Common.{◌≡◌, ℕ, ◌+◌, ◌*◌, ◌<◌, ◌≤◌, Bool, true, false, cond, not, ◌||◌, eqb, ltb, ◌⊎◌, List, [], ◌∷◌, length, get_or, Some, None, Ok, Err, Result, sym, refl, ap, ◌∙◌, subst, inl, inr, arith}
use Rattle.std.proofs.lemmas.Bool.{not-false, ltb-true, ltb-false, or_cases}
use Rattle.rules.specs.Tables.{at}
use Rattle.rules.specs.Refusal.{Rule, refuse_first, passed, granting, after_ok, either_of}
use Rattle.rules.proofs.Refusals.{none-held}
use Rattle.device.specs.Meaning.{Rules}
use Rattle.frame.specs.Access.{access_rules}
use Rattle.frame.specs.Memory.{frame_bytes, bytes_at, placed, zeroed}
use Rattle.frame.specs.declared.fault.FrameFault.{FrameFault}
use Rattle.frame.specs.Owners.{owns, take_rules, give_rules, with_owner}
use Rattle.grant.specs.Tables.{place, entry_at, pins, maps_frame, writes_frame}
use Rattle.grant.specs.Entries.{entry_rules, end_rules, with_entry, with_flags}
use Rattle.grant.specs.Map.{map_verdict, unmap_verdict}
use Rattle.grant.specs.Pin.{pin, unpin}
use Rattle.event.specs.Pending.{word, marked, dropped}
use Rattle.ring.specs.declared.fault.RingFault.{RingFault}
use Rattle.connection.specs.Tables.{connection_at, parts_of}
use Rattle.connection.specs.declared.kinds.Bay.{Bay}
use Rattle.connection.specs.declared.kinds.Bay.TheVariants.{BlockBay, NetBay}
use Rattle.connection.specs.declared.tables.Connection.{Connection}
use Rattle.connection.specs.declared.tables.Job.{Job}
use Rattle.answer.specs.declared.fault.HostFault.{HostFault}
use Rattle.answer.specs.declared.fault.HostFault.TheVariants.{BadMemory, BadCaller, OfFrame, OfGrant, OfEvent, OfRing}
use Rattle.answer.specs.declared.reply.Answer.{Answer}
use Rattle.answer.specs.declared.reply.Answer.TheVariants.{Done, Length, Handle, Port, Connected}
use Rattle.law.specs.World.{World, with_frames, with_grants, with_events, with_host, with_memory}
use Rattle.law.specs.Call.{Call, Take, Give, Load, Store, Entry, End, Map, Unmap, Send, Next, Connect, Serve, Complete, Disconnect, domain, Reply}
use Rattle.law.specs.Connect.{connect_verdict, new_number, connected, connected_memory, disconnect_verdict, disconnected}
use Rattle.law.specs.Step.{Ends, step, proceeds, by_verdict, send_rules, next_port, host_rules, told, served_in, completed_in, serving_bay, bay_rules, bay_numbered}
use Rattle.law.specs.Account.{Account}
use Rattle.law.specs.Keeps.{Owns, Maps}
use Rattle.law.proofs.Inv.{Inv, PartIn, no_part}
use Rattle.law.proofs.Books.{owns_parts, maps_from}
use Rattle.law.proofs.Learned.{bytes_from-frame, served_learns, completed_learns}
use Rattle.law.proofs.Good.{Learns}
use Rattle.law.proofs.Outcomes.{host_inv, page-written, page_exists}
use Rattle.law.proofs.Completing.{segment_facts}

-- what is refused goes by the size of the memory alone
pub rules_same : {M N : Type 0} (R : Rules M) (S : Rules N) (pick : ℕ → ℕ) (w : World M N) (m : List ℕ) → length m ≡ length w.memory → (c : Call) → host_rules R S pick (with_memory m w) c ≡ host_rules R S pick w c
rules_same R S pick w m e (Take d f) = ap (λ n. (not (eqb n (4096 * w.host.frames.count)), BadMemory) ∷ (eqb d 0 || ltb 7 d, BadCaller) ∷ []) e
rules_same R S pick w m e (Give d f) = ap (λ n. (not (eqb n (4096 * w.host.frames.count)), BadMemory) ∷ (eqb d 0 || ltb 7 d, BadCaller) ∷ []) e
rules_same R S pick w m e (Load d f o n) = ap (λ n. (not (eqb n (4096 * w.host.frames.count)), BadMemory) ∷ (eqb d 0 || ltb 7 d, BadCaller) ∷ []) e
rules_same R S pick w m e (Store d f o bs) = ap (λ n. (not (eqb n (4096 * w.host.frames.count)), BadMemory) ∷ (eqb d 0 || ltb 7 d, BadCaller) ∷ []) e
rules_same R S pick w m e (Entry d n fl to f) = ap (λ n. (not (eqb n (4096 * w.host.frames.count)), BadMemory) ∷ (eqb d 0 || ltb 7 d, BadCaller) ∷ []) e
rules_same R S pick w m e (End d n) = ap (λ n. (not (eqb n (4096 * w.host.frames.count)), BadMemory) ∷ (eqb d 0 || ltb 7 d, BadCaller) ∷ []) e
rules_same R S pick w m e (Map d o n md) = ap (λ n. (not (eqb n (4096 * w.host.frames.count)), BadMemory) ∷ (eqb d 0 || ltb 7 d, BadCaller) ∷ []) e
rules_same R S pick w m e (Unmap d h) = ap (λ n. (not (eqb n (4096 * w.host.frames.count)), BadMemory) ∷ (eqb d 0 || ltb 7 d, BadCaller) ∷ []) e
rules_same R S pick w m e (Send d p) = ap (λ n. (not (eqb n (4096 * w.host.frames.count)), BadMemory) ∷ (eqb d 0 || ltb 7 d, BadCaller) ∷ []) e
rules_same R S pick w m e (Next d) = ap (λ n. (not (eqb n (4096 * w.host.frames.count)), BadMemory) ∷ (ltb 7 d, BadCaller) ∷ []) e
rules_same R S pick w m e (Connect d k n) = ap (λ n. (not (eqb n (4096 * w.host.frames.count)), BadMemory) ∷ (eqb d 0 || ltb 7 d, BadCaller) ∷ []) e
rules_same R S pick w m e (Serve c) = ap (λ n. (not (eqb n (4096 * w.host.frames.count)), BadMemory) ∷ []) e
rules_same R S pick w m e (Complete b) = ap (λ n. (not (eqb n (4096 * w.host.frames.count)), BadMemory) ∷ []) e
rules_same R S pick w m e (Disconnect c) = ap (λ n. (not (eqb n (4096 * w.host.frames.count)), BadMemory) ∷ []) e

module _ {M N : Type 0} where
  -- two ends with the same answer and the same devices
  abbrev pub Alike : Ends M N → Ends M N → Type 0
  Alike e f = (e.answer ≡ f.answer) × (e.world.bay0 ≡ f.world.bay0) × (e.world.bay1 ≡ f.world.bay1)

  -- a call by a verdict that memory has no part in, and that leaves the devices
  alike-by : {T E : Type 0} (g : E → HostFault) (r : Result T E) (f : T → Answer) (v : World M N → T → World M N) (w : World M N) (m : List ℕ)
      → ((u : World M N) (t : T) → (v u t).bay0 ≡ u.bay0) → ((u : World M N) (t : T) → (v u t).bay1 ≡ u.bay1)
      → Alike (by_verdict g r (with_memory m w) f (v (with_memory m w))) (by_verdict g r w f (v w))
  alike-by g (Ok t) f v w m p q = (refl, p (with_memory m w) t ∙ sym (p w t), q (with_memory m w) t ∙ sym (q w t))
  alike-by g (Err e) f v w m p q = (refl, refl, refl)

  alike-cond : (b : Bool) (y : Reply) (w w' v v' : World M N) → w'.bay0 ≡ w.bay0 → w'.bay1 ≡ w.bay1 → v'.bay0 ≡ v.bay0 → v'.bay1 ≡ v.bay1
      → Alike (record { answer = y; world = cond b w' v' }) (record { answer = y; world = cond b w v })
  alike-cond true y w w' v v' p q s u = (refl, p, q)
  alike-cond false y w w' v v' p q s u = (refl, s, u)

module _ {M N : Type 0} (R : Rules M) (S : Rules N) (pick : ℕ → ℕ) (a : Account) (w : World M N) where
  -- a step is alike where what it proceeds to is, if the host does not refuse it
  step-if : (c : Call) (m : List ℕ) → length m ≡ length w.memory
      → (refuse_first {T = Unit} (host_rules R S pick w c) (Ok tt) ≡ Ok tt → Alike (proceeds R S pick (with_memory m w) c) (proceeds R S pick w c)) → Alike (step R S pick (with_memory m w) c) (step R S pick w c)
  unfolding step
  step-if c m size p =
      subst (λ (rs : List (Rule HostFault)). Alike (either_of (refuse_first {T = Unit} rs (Ok tt)) (λ _. proceeds R S pick (with_memory m w) c) (λ f. record { answer = told (Err f); world = with_memory m w })) (either_of (refuse_first {T = Unit} (host_rules R S pick w c) (Ok tt)) (λ _. proceeds R S pick w c) (λ f. record { answer = told (Err f); world = w })))
      (sym (rules_same R S pick w m size c)) (by (refuse_first (host_rules R S pick w c) (Ok tt)) refl)
    where
      by : (r : Result Unit HostFault) → refuse_first {T = Unit} (host_rules R S pick w c) (Ok tt) ≡ r → Alike (either_of r (λ _. proceeds R S pick (with_memory m w) c) (λ f. record { answer = told (Err f); world = with_memory m w })) (either_of r (λ _. proceeds R S pick w c) (λ f. record { answer = told (Err f); world = w }))
      by (Ok t) e = p e
      by (Err f) e = (refl, refl, refl)

  -- what the host itself refuses it refuses with any bytes
  pub learns_refused : (c : Call) (f : HostFault) → refuse_first {T = Unit} (host_rules R S pick w c) (Ok tt) ≡ Err f → Learns R S pick a w c
  learns_refused c f q m size same = step-if c m size (λ e. absurd (let y : ◌≡◌ {A = ℕ} 0 1 = cc in omega arith))

module _ {M N : Type 0} (R : Rules M) (S : Rules N) (pick : ℕ → ℕ) (a : Account) (w : World M N) (i : Inv R S a w) where
  step-alike : (c : Call) (m : List ℕ) → length m ≡ length w.memory
      → Alike (proceeds R S pick (with_memory m w) c) (proceeds R S pick w c) → Alike (step R S pick (with_memory m w) c) (step R S pick w c)
  step-alike c m size p = step-if R S pick a w c m size (λ e. p)

  -- the frames that a domain may look at are the same in both memories
  abbrev SeenSame : Call → List ℕ → Type 0
  SeenSame c m = (f : ℕ) → f < w.host.frames.count → Owns a (domain c) f ⊎ Maps a (domain c) f → frame_bytes f m ≡ frame_bytes f w.memory

  load-alike : (d f o n : ℕ) (m : List ℕ) → SeenSame (Load d f o n) m → Alike (proceeds R S pick (with_memory m w) (Load d f o n)) (proceeds R S pick w (Load d f o n))
  unfolding proceeds
  load-alike d f o n m same = by (refuse_first (access_rules w.host.frames (maps_frame w.host.grants d f) d f o n) (Ok tt)) refl
    where
      by : (r : Result Unit FrameFault) → refuse_first (access_rules w.host.frames (maps_frame w.host.grants d f) d f o n) (Ok tt) ≡ r
          → Alike {M = M} {N = N} (record { answer = record { result = passed OfFrame (granting (λ _. Length n) r); filled = after_ok r [] (λ _. bytes_at (4096 * f + o) n m) }; world = with_memory m w })
          (record { answer = record { result = passed OfFrame (granting (λ _. Length n) r); filled = after_ok r [] (λ _. bytes_at (4096 * f + o) n w.memory) }; world = w })
      by (Ok t) q =
          let none = (none-held (access_rules w.host.frames (maps_frame w.host.grants d f) d f o n) (Ok tt) t q).0 in
          let exists : f < w.host.frames.count = ltb-true f w.host.frames.count (not-false _ none.0) in
          let fits : o + n ≤ 4096 = ltb-false 4096 (o + n) none.1.0 in
          let may : (owns w.host.frames d f || maps_frame w.host.grants d f) ≡ true = not-false _ none.1.1.0 in
          let seen : Owns a d f ⊎ Maps a d f = elim (or_cases _ _ may) [
            | inl own ↦ inl (ap (λ os. at os f) (sym i.books.owners_same) ∙ (owns_parts w.host.frames d f own).1)
            | inr held ↦ inr (maps_from w.host.frames w.host.grants a i.books d f held)
          ] in
          (ap (λ bs. record { result = Ok (Length n); filled = bs }) (bytes_from-frame w.memory m f o n fits (same f exists seen)), refl, refl)
      by (Err e) q = (refl, refl, refl)

  -- serve reads the ring page, which domain 0 has mapped
  serve-alike : (c : ℕ) (m : List ℕ) → length m ≡ length w.memory → SeenSame (Serve c) m → Alike (proceeds R S pick (with_memory m w) (Serve c)) (proceeds R S pick w (Serve c))
  unfolding proceeds
  serve-alike c m size same = by (serving_bay (connection_at w.host.rings c))
    where
      page : (k : Connection) → connection_at w.host.rings c ≡ Some k → frame_bytes k.page m ≡ frame_bytes k.page w.memory
      page k live =
          let h = host_inv R S a w i in
          let p = i.links.page c k live in
          same k.page (page_exists a w.host w.memory h k p) (inr (page-written a w.host w.memory h k p).maps)

      by : (b : Bay) → Alike (served_in R S b c (with_memory m w)) (served_in R S b c w)
      by BlockBay = let l = served_learns R c w.host w.memory m w.bay0 size page in (ap (λ r. told (passed OfRing r)) l.0, l.1, refl)
      by NetBay = let l = served_learns S c w.host w.memory m w.bay1 size page in (ap (λ r. told (passed OfRing r)) l.0, refl, l.1)

  -- complete reads the segments of a job, which domain 0 has mapped
  complete-alike : (b : ℕ) (m : List ℕ) → length m ≡ length w.memory → SeenSame (Complete b) m → Alike (proceeds R S pick (with_memory m w) (Complete b)) (proceeds R S pick w (Complete b))
  unfolding proceeds
  complete-alike b m size same = by (refuse_first (bay_rules b) (Ok tt))
    where
      parts : (t : ℕ) (j : Job) → at w.host.rings.jobs t ≡ Some j → (n : ℕ) → n < length (parts_of j) → (f : ℕ) × (PartIn (get_or (parts_of j) n no_part) f × (frame_bytes f m ≡ frame_bytes f w.memory))
      parts t j there n l =
          let h = host_inv R S a w i in
          let f = segment_facts a w.host w.memory h t j there n l in
          (f.0, (f.1.0, same f.0 f.1.1.0 (inr f.1.1.1)))

      in_bay : (v : Bay) → Alike (completed_in R S v (with_memory m w)) (completed_in R S v w)
      in_bay BlockBay = let l = completed_learns R BlockBay w.host w.memory m w.bay0 size parts in (ap (λ r. told (passed OfRing r)) l.0, l.1, refl)
      in_bay NetBay = let l = completed_learns S NetBay w.host w.memory m w.bay1 size parts in (ap (λ r. told (passed OfRing r)) l.0, refl, l.1)

      by : (r : Result Unit RingFault) → Alike (either_of r (λ _. completed_in R S (bay_numbered b) (with_memory m w)) (λ e. record { answer = told (Err (OfRing e)); world = with_memory m w })) (either_of r (λ _. completed_in R S (bay_numbered b) w) (λ e. record { answer = told (Err (OfRing e)); world = w }))
      by (Ok t) = in_bay (bay_numbered b)
      by (Err e) = (refl, refl, refl)

  pub learns : (c : Call) → Learns R S pick a w c
  unfolding proceeds
  learns (Take d f) m size same = step-alike (Take d f) m size (alike-by {T = Unit} OfFrame (refuse_first (take_rules w.host.frames f) (Ok tt)) (λ _. Done) (λ u t. with_memory (zeroed f u.memory) (with_host (with_frames (with_owner f (Some d) u.host.frames) u.host) u)) w m (λ u t. refl) (λ u t. refl))
  learns (Give d f) m size same = step-alike (Give d f) m size (alike-by {T = Unit} OfFrame (refuse_first (give_rules w.host.frames (pins w.host.grants.records f) d f) (Ok tt)) (λ _. Done) (λ u t. with_host (with_frames (with_owner f None u.host.frames) u.host) u) w m (λ u t. refl) (λ u t. refl))
  learns (Load d f o n) m size same = step-alike (Load d f o n) m size (load-alike d f o n m same)
  learns (Store d f o bs) m size same = step-alike (Store d f o bs) m size (alike-by {T = Unit} OfFrame (refuse_first (access_rules w.host.frames (writes_frame w.host.grants d f) d f o (length bs)) (Ok tt)) (λ _. Length (length bs)) (λ u t. with_memory (placed (4096 * f + o) bs u.memory) u) w m (λ u t. refl) (λ u t. refl))
  learns (Entry d n fl to f) m size same = step-alike (Entry d n fl to f) m size (alike-by {T = Unit} OfGrant (refuse_first (entry_rules n) (Ok tt)) (λ _. Done) (λ u t. with_host (with_grants (with_entry (place d n) (record { flags = fl; domid = to; frame = f }) u.host.grants) u.host) u) w m (λ u t. refl) (λ u t. refl))
  learns (End d n) m size same = step-alike (End d n) m size (alike-by {T = Unit} OfGrant (refuse_first (end_rules w.host.grants d n) (Ok tt)) (λ _. Done) (λ u t. with_host (with_grants (with_entry (place d n) (with_flags 0 (entry_at u.host.grants (place d n))) u.host.grants) u.host) u) w m (λ u t. refl) (λ u t. refl))
  learns (Map d o n md) m size same = step-alike (Map d o n md) m size (alike-by OfGrant (map_verdict w.host.frames w.host.grants d o n md) (λ g. Handle g.handle) (λ u t. with_host (with_grants (pin d t.handle t.mapping u.host.grants) u.host) u) w m (λ u t. refl) (λ u t. refl))
  learns (Unmap d h) m size same = step-alike (Unmap d h) m size (alike-by OfGrant (unmap_verdict w.host.grants d h) (λ _. Done) (λ u t. with_host (with_grants (unpin d h t u.host.grants) u.host) u) w m (λ u t. refl) (λ u t. refl))
  learns (Send d p) m size same = step-alike (Send d p) m size (alike-by {T = Unit} OfEvent (refuse_first (send_rules w.host d p) (Ok tt)) (λ _. Done) (λ u t. with_host (with_events (marked 0 p u.host.events) u.host) u) w m (λ u t. refl) (λ u t. refl))
  learns (Next d) m size same = step-alike (Next d) m size (alike-cond (eqb (word w.host.events d) 0) (told (Ok (Port (next_port pick (word w.host.events d))))) w (with_memory m w) (with_host (with_events (dropped d (next_port pick (word w.host.events d)) w.host.events) w.host) w) (with_host (with_events (dropped d (next_port pick (word w.host.events d)) w.host.events) w.host) (with_memory m w)) refl refl refl refl)
  learns (Connect d k n) m size same = step-alike (Connect d k n) m size (alike-by OfRing (connect_verdict w.host d k n) (λ _. Connected (new_number w.host)) (λ u t. with_memory (connected_memory t u.memory) (with_host (connected d k t u.host) u)) w m (λ u t. refl) (λ u t. refl))
  learns (Serve c) m size same = step-alike (Serve c) m size (serve-alike c m size same)
  learns (Complete b) m size same = step-alike (Complete b) m size (complete-alike b m size same)
  learns (Disconnect c) m size same = step-alike (Disconnect c) m size (alike-by OfRing (disconnect_verdict w.host c) (λ _. Done) (λ u t. with_host (disconnected c t u.host) u) w m (λ u t. refl) (λ u t. refl))
