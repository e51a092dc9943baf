-- A call whose parts are as its step says keeps the law.
use Rattle.std.proofs.Common.{◌≡◌, ℕ, ◌+◌, ◌*◌, ◌<◌, Bool, true, false, cond, not, ◌||◌, eqb, List, [], Ok, Err, Result, sym, refl, ap, ◌∙◌, ap₂, arith}
use Rattle.std.proofs.lemmas.Bool.{lt-ltb}
use Rattle.rules.specs.Refusal.{Rule, refuse_first, either_of, and_then, passed, granting, after_ok}
use Rattle.frame.specs.Memory.{bytes_at}
use Rattle.frame.specs.Owners.{is_frame, owns}
use Rattle.frame.specs.declared.fault.FrameFault.{FrameFault}
use Rattle.frame.specs.declared.fault.FrameFault.TheVariants.{NoFrame, OutOfFrame, NoAccess}
use Rattle.device.specs.Meaning.{Rules}
use Rattle.device.specs.Laws.{Laws}
use Rattle.grant.specs.Tables.{maps_frame}
use Rattle.event.specs.Pending.{pick, word, dropped}
use Rattle.event.proofs.Bits.{lowest}
use Rattle.answer.specs.declared.fault.HostFault.{HostFault}
use Rattle.answer.specs.declared.fault.HostFault.TheVariants.{OfFrame, OfEvent}
use Rattle.answer.specs.declared.reply.Answer.{Answer}
use Rattle.answer.specs.declared.reply.Answer.TheVariants.{Length, Port}
use Rattle.answer.specs.Parts.{answer_parts}
use Rattle.backend.specs.declared.tables.Tables.{Tables}
use Rattle.law.specs.World.{World, with_events}
use Rattle.law.specs.Call.{Call, Reply, Load, Next}
use Rattle.law.specs.Step.{Ends, step, proceeds, told, by_verdict, guest_rules, next_rules, next_port}
use Rattle.law.specs.Run.{Kept}
use Rattle.law.specs.Law.{Picks}
use Rattle.law.proofs.Kept.{kept}
use Rattle.table_calls.specs.Parts.{heard, GrantedBy, load_verdict, taken_up}
use Rattle.host.specs.View.{told_with}

-- the port that next picks was pending
pub picks_pending : Picks pick
picks_pending = record { marked_one = λ w some fits. (lowest w some fits).1 }

-- what a load gives back
same_reply : (n : ℕ) (buffer : List ℕ) (a : Result Unit HostFault) (v : Result Unit FrameFault) (bytes : List ℕ)
    → told_with (granting (λ _. Length n) (and_then a (λ _. passed OfFrame v))) (after_ok (and_then a (λ _. passed OfFrame v)) buffer (λ _. bytes))
    ≡ either_of a (λ _. record { result = passed OfFrame (granting (λ _. Length n) v); filled = after_ok v [] (λ _. bytes) }) (λ e. told (Err e))
same_reply n buffer (Ok u) (Ok t) bytes = refl
same_reply n buffer (Ok u) (Err e) bytes = refl
same_reply n buffer (Err e) v bytes = refl

-- so many bytes end past any frame
past_frames : (H : Tables) (d f offset n : ℕ) → 4096 < n → load_verdict H d f offset n ≡ Err (cond (not (is_frame H.frames f)) NoFrame OutOfFrame)
past_frames H d f offset n more =
    ap (λ past. cond (not (is_frame H.frames f)) (Err NoFrame) (cond past (Err OutOfFrame) (cond (not (owns H.frames d f || maps_frame H.grants d f)) (Err NoAccess) (Ok tt))))
    (lt-ltb 4096 (offset + n) (omega (arith, more)))
    ∙ by (not (is_frame H.frames f))
  where
    by : (b : Bool) → ◌≡◌ {A = Result Unit FrameFault} (cond b (Err NoFrame) (Err OutOfFrame)) (Err (cond b NoFrame OutOfFrame))
    by true = refl
    by false = refl

module _ {M N : Type 0} where
  abbrev pub world_of : Tables → List ℕ → M → N → World M N
  world_of H m x y = record { host = H; memory = m; bay0 = x; bay1 = y }

  -- refused by the host, or what the call does
  abbrev pub unless_refused : List (Rule HostFault) → World M N → Ends M N → Ends M N
  unless_refused rules w e = either_of (refuse_first {T = Unit} rules (Ok tt)) (λ _. e) (λ f. record { answer = told (Err f); world = w })

  -- a load of n bytes that the host does not refuse, by its verdict
  abbrev pub load_ends : World M N → ℕ → ℕ → ℕ → ℕ → Result Unit FrameFault → Ends M N
  load_ends w d f offset n v = record { answer = record { result = passed OfFrame (granting (λ _. Length n) v); filled = after_ok v [] (λ _. bytes_at (4096 * f + offset) n w.memory) }; world = w }

  -- what a verdict grants, heard after the host's own rules
  granted_ends : {T E : Type 0} (g : E → HostFault) (answers : T → Answer) (H : Tables) (m : List ℕ) (x : M) (y : N) (tables_by : T → Tables) (memory_by : T → List ℕ) (a : Result Unit HostFault) (d : Result T E)
      → ◌≡◌ {A = Ends M N} (record {
        answer = told (granting answers (and_then a (λ _. passed g d)));
        world = world_of (after_ok (and_then a (λ _. passed g d)) H tables_by) (after_ok (and_then a (λ _. passed g d)) m memory_by) x y;
      }) (either_of a (λ _. by_verdict g d (world_of H m x y) answers (λ t. world_of (tables_by t) (memory_by t) x y)) (λ f. record { answer = told (Err f); world = world_of H m x y }))
  granted_ends g answers H m x y tables_by memory_by (Ok u) (Ok t) = refl
  granted_ends g answers H m x y tables_by memory_by (Ok u) (Err e) = refl
  granted_ends g answers H m x y tables_by memory_by (Err f) d = refl

  answer_in : (w : World M N) (a : Result Unit HostFault) (e : Ends M N)
      → either_of a (λ _. e.answer) (λ f. told (Err f)) ≡ (either_of a (λ _. e) (λ f. record { answer = told (Err f); world = w })).answer
  answer_in w (Ok u) e = refl
  answer_in w (Err g) e = refl

  stays_in : (w : World M N) (a : Result Unit HostFault) (r : Reply)
      → w ≡ (either_of a (λ _. (let e : Ends M N = record { answer = r; world = w } in e)) (λ f. record { answer = told (Err f); world = w })).world
  stays_in w (Ok u) r = refl
  stays_in w (Err g) r = refl

  one_of : (b : Bool) (H K : Tables) (m : List ℕ) (x : M) (y : N) → cond b (world_of H m x y) (world_of K m x y) ≡ world_of (cond b H K) m x y
  one_of true H K m x y = refl
  one_of false H K m x y = refl

  -- a load of more than a frame is refused, whatever its length
  refused_past : (R : Rules M) (S : Rules N) (w : World M N) (d f offset n : ℕ) → 4096 < n → (g : HostFault) × ((step R S pick w (Load d f offset n)).answer ≡ told (Err g))
  unfolding step proceeds
  refused_past R S w d f offset n more = by (refuse_first (guest_rules w.host w.memory d) (Ok tt))
    where
      by : (a : Result Unit HostFault)
          → (g : HostFault) × ((either_of a (λ _. load_ends w d f offset n (load_verdict w.host d f offset n)) (λ e. record { answer = told (Err e); world = w })).answer ≡ told (Err g))
      by (Ok u) = (_, ap (λ v. (load_ends w d f offset n v).answer) (past_frames w.host d f offset n more))
      by (Err e) = (e, refl)

  module _ {R : Rules M} {S : Rules N} where
    -- the call's answer and what it leaves are those of e, which is its step
    pub kept_as : Laws R → Laws S → (w : World M N) (c : Call) (r : Reply) (v : World M N) (e : Ends M N)
        → step R S pick w c ≡ e → r ≡ e.answer → v ≡ e.world → Kept R S pick w c r v
    kept_as lr ls w c r v e is answers leaves =
        let same : r ≡ (step R S pick w c).answer = answers ∙ sym (ap (λ (x : Ends M N). x.answer) is) in
        kept R S lr ls pick picks_pending w c r v (record {
          answers = same;
          parts = ap (λ (k : Reply). answer_parts k.result) same;
          leaves = leaves ∙ sym (ap (λ (x : Ends M N). x.world) is);
        })

    -- a call on the tables and the memory
    pub kept_by : {T E : Type 0} {rules : List (Rule HostFault)} {g : E → HostFault} {verdict : Result T E} {answers : T → Answer} {H : Tables} {m : List ℕ} {x : M} {y : N}
        {tables_by : T → Tables} {memory_by : T → List ℕ} {c : Call} {r : Result Answer HostFault} {H' : Tables} {m' : List ℕ}
        → Laws R → Laws S → GrantedBy rules g verdict answers H m tables_by memory_by r H' m'
        → step R S pick (world_of H m x y) c ≡ unless_refused rules (world_of H m x y) (by_verdict g verdict (world_of H m x y) answers (λ t. world_of (tables_by t) (memory_by t) x y))
        → Kept R S pick (world_of H m x y) c (told r) (world_of H' m' x y)
    kept_by {rules = rules} {g = g} {verdict = verdict} {answers = answers} {H = H} {m = m} {x = x} {y = y} {tables_by = tables_by} {memory_by = memory_by} lr ls parts is =
        let same = granted_ends g answers H m x y tables_by memory_by (refuse_first rules (Ok tt)) verdict in
        kept_as lr ls _ _ _ _ _ is (ap told parts.answer ∙ ap (λ (e : Ends M N). e.answer) same)
        (ap₂ (λ (K : Tables) (n : List ℕ). world_of K n x y) parts.tables parts.memory ∙ ap (λ (e : Ends M N). e.world) same)

    -- a load of n bytes
    pub kept_loaded : {H : Tables} {m : List ℕ} {x : M} {y : N} {d f offset n : ℕ} (buffer : List ℕ) {r : Result Answer HostFault} {buffer' : List ℕ} → Laws R → Laws S
        → r ≡ granting (λ _. Length n) (heard (guest_rules H m d) OfFrame (load_verdict H d f offset n))
        → buffer' ≡ after_ok (heard (guest_rules H m d) OfFrame (load_verdict H d f offset n)) buffer (λ _. bytes_at (4096 * f + offset) n m)
        → Kept R S pick (world_of H m x y) (Load d f offset n) (told_with r buffer') (world_of H m x y)
    unfolding step proceeds
    kept_loaded {H = H} {m = m} {x = x} {y = y} {d = d} {f = f} {offset = offset} {n = n} buffer lr ls answer filled =
        let a = refuse_first (guest_rules H m d) (Ok tt) in
        let w = world_of H m x y in
        kept_as lr ls w _ _ _ _ refl
        (ap₂ told_with answer filled ∙ same_reply n buffer a (load_verdict H d f offset n) (bytes_at (4096 * f + offset) n m) ∙ answer_in w a _)
        (stays_in w a _)

    -- the load of more than a frame is refused as that of any other such length
    pub kept_past : {H : Tables} {m : List ℕ} {x : M} {y : N} {d f offset k n : ℕ} {r : Result Answer HostFault} (over buffer : List ℕ) → Laws R → Laws S → 4096 < k → 4096 < n
        → Kept R S pick (world_of H m x y) (Load d f offset k) (told_with r over) (world_of H m x y)
        → Kept R S pick (world_of H m x y) (Load d f offset n) (told_with r buffer) (world_of H m x y)
    unfolding step proceeds
    kept_past {H = H} {m = m} {x = x} {y = y} {d = d} {f = f} {offset = offset} {k = k} {n = n} over buffer lr ls some more held =
        let w = world_of H m x y in
        let ends : ℕ → Result Unit FrameFault → Ends M N = λ i v. unless_refused (guest_rules H m d) w (load_ends w d f offset i v) in
        let p = refused_past R S w d f offset k some in
        kept_as lr ls w _ _ w (step R S pick w (Load d f offset k))
        (ap (ends n) (past_frames H d f offset n more) ∙ sym (ap (ends k) (past_frames H d f offset k some)))
        (ap (λ a. told_with a buffer) (ap (λ (s : Reply). s.result) (held.does.answers ∙ p.1)) ∙ sym p.1)
        held.does.leaves

    -- next
    pub kept_next : {H : Tables} {m : List ℕ} {x : M} {y : N} {d : ℕ} {r : Result Answer HostFault} {H' : Tables} → Laws R → Laws S
        → GrantedBy {T = Unit} (next_rules H m d) OfEvent (Ok tt) (λ _. Port (next_port pick (word H.events d))) H m (λ _. taken_up d H) (λ _. m) r H' m
        → Kept R S pick (world_of H m x y) (Next d) (told r) (world_of H' m x y)
    unfolding step proceeds
    kept_next {H = H} {m = m} {x = x} {y = y} {d = d} lr ls parts =
        kept_by lr ls parts
        (ap (λ v. unless_refused (next_rules H m d) (world_of H m x y) (record { answer = told (Ok (Port (next_port pick (word H.events d)))); world = v }))
        (one_of (eqb (word H.events d) 0) H (with_events (dropped d (next_port pick (word H.events d)) H.events) H) m x y))
