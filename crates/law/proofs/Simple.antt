-- The calls that touch one table: take, give, load, store, entry, end, map, unmap, send, next.
use Rattle.std.proofs.Common.{◌≡◌, ℕ, ◌+◌, ◌-◌, ◌*◌, ◌<◌, ◌≤◌, Bool, true, false, cond, not, ◌||◌, eqb, ◌⊎◌, List, [], length, get_or, set, Some, None, Ok, Err, Option, Result, sym, refl, ap, ◌∙◌, subst, inl, inr, arith}
use Rattle.std.proofs.lemmas.List.{get_or-set_same, get_or-set_other}
use Rattle.std.proofs.lemmas.Bool.{cases_eq, cases_lt, not-false, ltb-true, ltb-false, or_parts, or_cases, both_ways, eqb-false}
use Rattle.rules.specs.Tables.{at}
use Rattle.rules.specs.Refusal.{refuse_first, passed, granting, after_ok}
use Rattle.rules.proofs.Refusals.{none-held}
use Rattle.device.specs.Meaning.{Rules}
use Rattle.frame.specs.Owners.{owner_of, owns, take_rules, give_rules, with_owner}
use Rattle.frame.specs.Access.{access_rules}
use Rattle.frame.specs.Memory.{frame_bytes, zeroed, placed, bytes_at}
use Rattle.frame.specs.declared.fault.FrameFault.{FrameFault}
use Rattle.frame.proofs.Placing.{placed_in_frame}
use Rattle.grant.specs.Tables.{blank, pins, place, key, entry_at, maps_frame, writes_frame}
use Rattle.grant.specs.Entries.{entry_rules, end_rules, with_entry, with_flags}
use Rattle.grant.specs.Map.{map_verdict, unmap_verdict, mode_of}
use Rattle.grant.specs.Pin.{pin, unpin}
use Rattle.grant.specs.declared.tables.Grants.{Grants}
use Rattle.grant.specs.declared.fault.GrantFault.{GrantFault}
use Rattle.event.specs.declared.pending.Events.{Events}
use Rattle.event.specs.declared.fault.EventFault.{EventFault}
use Rattle.event.specs.Pending.{word, bit, marked, dropped}
use Rattle.connection.specs.Tables.{connection_at}
use Rattle.connection.specs.declared.kinds.Bay.TheVariants.{BlockBay, NetBay}
use Rattle.connection.specs.declared.tables.Connection.{Connection}
use Rattle.answer.specs.declared.fault.HostFault.TheVariants.{OfFrame, OfGrant, OfEvent}
use Rattle.answer.specs.declared.reply.Answer.TheVariants.{Done, Length, Handle, Port, Connected}
use Rattle.backend.specs.declared.tables.Tables.{Tables}
use Rattle.law.specs.World.{World, with_frames, with_grants, with_events, with_host, with_memory}
use Rattle.law.specs.Call.{Take, Give, Load, Store, Entry, End, Map, Unmap, Send, Next}
use Rattle.law.specs.Step.{proceeds, told, send_rules, guests_end, next_port}
use Rattle.law.specs.Account.{Account, accepted, noted, noted_owner, noted_entry, mapping_noted, mapping_ended}
use Rattle.law.specs.Keeps.{Writes, LiveEnd}
use Rattle.law.specs.Law.{Picks}
use Rattle.law.proofs.Inv.{Inv, Words, Links, BooksOf, Requests, BayHeld}
use Rattle.law.proofs.Books.{books_taken, books_given, books_entry, books_ended, books_pinned, books_unpinned, unmap_accepted, pinned-owned, owns_parts, writes_from}
use Rattle.law.proofs.Links.{links_elsewhere, connection-noted}
use Rattle.law.proofs.Released.{ended_rest, freed_other}
use Rattle.law.proofs.Tickets.{none_unless, taken_inside}
use Rattle.law.proofs.Bytes.{zeroed-size, zeroed-others, placed-size, page_there}
use Rattle.law.proofs.Marks.{marked_words, dropped_words, next_pending}
use Rattle.law.proofs.Good.{Good, Unbroken, after, good_same, good_by, good_quiet, no_response}

-- faults of the layers of frames, grants and events are no device's
pub in_frame : (e : FrameFault) → Unbroken (OfFrame e)
in_frame e x q = let z : ◌≡◌ {A = ℕ} 0 1 = cc in omega arith

pub in_grant : (e : GrantFault) → Unbroken (OfGrant e)
in_grant e x q = let z : ◌≡◌ {A = ℕ} 0 1 = cc in omega arith

pub in_event : (e : EventFault) → Unbroken (OfEvent e)
in_event e x q = let z : ◌≡◌ {A = ℕ} 0 1 = cc in omega arith

no_port : (p : ℕ) → (Done ≡ Port p → ⊥) × (Done ≡ Connected p → ⊥)
no_port p = (λ e. let z : ◌≡◌ {A = ℕ} 0 1 = cc in omega arith, λ e. let z : ◌≡◌ {A = ℕ} 0 1 = cc in omega arith)

next_same : (d d' : ℕ) → Next d ≡ Next d' → d ≡ d'
next_same d d' e = cc

port_same : (p q : ℕ) → (told (Ok (Port p))).result ≡ Ok (Port q) → p ≡ q
port_same p q e = cc

module _ {M N : Type 0} (R : Rules M) (S : Rules N) (pick : ℕ → ℕ) (pk : Picks pick) (a : Account) (w : World M N) (i : Inv R S a w) where
  -- a call that is no next promises nothing of ports
  abbrev H : Tables
  H = w.host

  pub good_take : (d f : ℕ) → Good R S pick a (after R S pick a w (Take d f) (proceeds R S pick w (Take d f)).answer) w (Take d f) (proceeds R S pick w (Take d f))
  unfolding proceeds accepted
  good_take d f = good_by R S pick {T = Unit} {E = FrameFault} a w (Take d f) OfFrame (refuse_first (take_rules H.frames f) (Ok tt)) (λ _. Done) (λ _. with_memory (zeroed f w.memory) (with_host (with_frames (with_owner f (Some d) H.frames) H) w)) i
      (λ t q.
      let none = (none-held (take_rules H.frames f) (Ok tt) tt q).0 in
      let exists : f < H.frames.count = ltb-true f H.frames.count (not-false _ none.0) in
      let free : owner_of H.frames f ≡ None = none_unless (owner_of H.frames f) none.1.0 in
      let inside : 4096 * f + 4096 ≤ length w.memory = page_there H.frames.count f w.memory i.memory exists in
      let few = i.few in
      let size : length a.owners ≡ 256 = ap length (sym i.books.owners_same) ∙ i.books.sound.owners_size in
      record {
        inv = record {
          few = i.few;
          memory = zeroed-size f w.memory inside ∙ i.memory;
          books = books_taken H.frames H.grants a f d free i.books;
          links = i.links;
          requests = i.requests;
          bay0 = i.bay0;
          bay1 = i.bay1;
          words = i.words;
        };
        count = refl;
        owner = λ g h. elim (cases_eq g f) [
          | inl e ↦ absurd (pinned-owned H.frames H.grants a i.books g h (subst (λ x. owner_of H.frames x ≡ None) (sym e) free))
          | inr n ↦ get_or-set_other a.owners f g (Some d) None n
        ];
        alters = λ g h mine wr. elim (cases_eq g f) [
          | inl e ↦ absurd (mine (subst (λ x. at (set a.owners f (Some d)) x ≡ Some d) (sym e) (get_or-set_same a.owners f (Some d) None (omega arith))))
          | inr n ↦ zeroed-others f w.memory g inside n
        ];
        response = λ k j n q e low high at-index. no_response a (noted_owner f (Some d) a) refl k j n e low high;
        unbroken = λ x e. let z : ◌≡◌ {A = ℕ} 0 1 = cc in omega arith;
        pending = λ d' p e z. absurd (let z : ◌≡◌ {A = ℕ} 0 1 = cc in omega arith);
        unmarked = λ d' k' r' n e z. absurd (let y : ◌≡◌ {A = ℕ} 0 1 = cc in omega arith);
        refused = λ e z. absurd (let y : ◌≡◌ {A = ℕ} 0 1 = cc in omega arith);
      })
      (λ e q. in_frame e)

  pub good_give : (d f : ℕ) → Good R S pick a (after R S pick a w (Give d f) (proceeds R S pick w (Give d f)).answer) w (Give d f) (proceeds R S pick w (Give d f))
  unfolding proceeds accepted
  good_give d f = good_by R S pick {T = Unit} {E = FrameFault} a w (Give d f) OfFrame (refuse_first (give_rules H.frames (pins H.grants.records f) d f) (Ok tt)) (λ _. Done) (λ _. with_host (with_frames (with_owner f None H.frames) H) w) i
      (λ t q.
      let none = (none-held (give_rules H.frames (pins H.grants.records f) d f) (Ok tt) tt q).0 in
      let unpinned : pins H.grants.records f ≡ 0 = omega (arith, ltb-false 0 (pins H.grants.records f) none.1.0) in
      record {
        inv = record {
          few = i.few;
          memory = i.memory;
          books = books_given H.frames H.grants a f unpinned i.books;
          links = i.links;
          requests = i.requests;
          bay0 = i.bay0;
          bay1 = i.bay1;
          words = i.words;
        };
        count = refl;
        owner = λ g h. elim (cases_eq g f) [
          | inl e ↦ absurd (let some : 0 < pins H.grants.records f = subst (λ x. 0 < pins H.grants.records x) e h in omega arith)
          | inr n ↦ get_or-set_other a.owners f g None None n
        ];
        alters = λ g h mine wr. refl;
        response = λ k j n q e low high at-index. no_response a (noted_owner f None a) refl k j n e low high;
        unbroken = λ x e. let z : ◌≡◌ {A = ℕ} 0 1 = cc in omega arith;
        pending = λ d' p e z. absurd (let z : ◌≡◌ {A = ℕ} 0 1 = cc in omega arith);
        unmarked = λ d' k' r' n e z. absurd (let y : ◌≡◌ {A = ℕ} 0 1 = cc in omega arith);
        refused = λ e z. absurd (let y : ◌≡◌ {A = ℕ} 0 1 = cc in omega arith);
      })
      (λ e q. in_frame e)

  -- a load leaves everything as it was, refused or not
  pub good_load : (d f o n : ℕ) → Good R S pick a (after R S pick a w (Load d f o n) (proceeds R S pick w (Load d f o n)).answer) w (Load d f o n) (proceeds R S pick w (Load d f o n))
  unfolding proceeds noted accepted
  good_load d f o n = loaded (refuse_first (access_rules H.frames (maps_frame H.grants d f) d f o n) (Ok tt))
    where
      loaded : (r : Result Unit FrameFault) → Good R S pick a (after R S pick a w (Load d f o n) (record { result = passed OfFrame (granting (λ _. Length n) r); filled = after_ok r [] (λ _. bytes_at (4096 * f + o) n w.memory) })) w (Load d f o n)
          (record { answer = record { result = passed OfFrame (granting (λ _. Length n) r); filled = after_ok r [] (λ _. bytes_at (4096 * f + o) n w.memory) }; world = w })
      loaded (Ok tt) = good_same R S pick a w (Load d f o n) _ i (λ x e. let z : ◌≡◌ {A = ℕ} 0 1 = cc in omega arith) (λ d' p e z. absurd (let z : ◌≡◌ {A = ℕ} 0 1 = cc in omega arith)) (λ n e. let z : ◌≡◌ {A = ℕ} 0 1 = cc in omega arith)
      loaded (Err e) = good_same R S pick a w (Load d f o n) _ i (λ x e. let z : ◌≡◌ {A = ℕ} 0 1 = cc in omega arith) (λ d' p e z. absurd (let z : ◌≡◌ {A = ℕ} 0 1 = cc in omega arith)) (λ n e. let z : ◌≡◌ {A = ℕ} 0 1 = cc in omega arith)

  pub good_store : (d f o : ℕ) (bs : List ℕ) → Good R S pick a (after R S pick a w (Store d f o bs) (proceeds R S pick w (Store d f o bs)).answer) w (Store d f o bs) (proceeds R S pick w (Store d f o bs))
  unfolding proceeds accepted
  good_store d f o bs = good_by R S pick {T = Unit} {E = FrameFault} a w (Store d f o bs) OfFrame (refuse_first (access_rules H.frames (writes_frame H.grants d f) d f o (length bs)) (Ok tt)) (λ _. Length (length bs))
      (λ _. with_memory (placed (4096 * f + o) bs w.memory) w) i
      (λ t q.
      let none = (none-held (access_rules H.frames (writes_frame H.grants d f) d f o (length bs)) (Ok tt) tt q).0 in
      let exists : f < H.frames.count = ltb-true f H.frames.count (not-false _ none.0) in
      let fits : o + length bs ≤ 4096 = ltb-false 4096 (o + length bs) none.1.0 in
      let may : (owns H.frames d f || writes_frame H.grants d f) ≡ true = not-false _ none.1.1.0 in
      let inside : 4096 * f + 4096 ≤ length w.memory = page_there H.frames.count f w.memory i.memory exists in
      record {
        inv = record {
          few = i.few;
          memory = placed-size (4096 * f + o) bs w.memory (omega arith) ∙ i.memory;
          books = i.books;
          links = i.links;
          requests = i.requests;
          bay0 = i.bay0;
          bay1 = i.bay1;
          words = i.words;
        };
        count = refl;
        owner = λ g h. refl;
        alters = λ g h mine wr. elim (cases_eq g f) [
          | inl e ↦ absurd (elim (or_cases _ _ may) [
            | inl own ↦ mine (subst (λ x. at a.owners x ≡ Some d) (sym e) (ap (λ os. at os f) (sym i.books.owners_same) ∙ (owns_parts H.frames d f own).1))
            | inr held ↦ wr (subst (λ x. Writes a d x) (sym e) (writes_from H.frames H.grants a i.books d f held))
          ])
          | inr n ↦ placed_in_frame f o bs w.memory fits inside g n
        ];
        response = λ k j n q e low high at-index. no_response a a refl k j n e low high;
        unbroken = λ x e. let z : ◌≡◌ {A = ℕ} 0 1 = cc in omega arith;
        pending = λ d' p e z. absurd (let z : ◌≡◌ {A = ℕ} 0 1 = cc in omega arith);
        unmarked = λ d' k' r' n e z. absurd (let y : ◌≡◌ {A = ℕ} 0 1 = cc in omega arith);
        refused = λ e z. absurd (let y : ◌≡◌ {A = ℕ} 0 1 = cc in omega arith);
      })
      (λ e q. in_frame e)

  -- the invariant with other grants, where the host's mappings and the account's go along
  regranted : (G : Grants) (b : Account) → BooksOf H.frames G b → Links G.handles H.rings b.connections b.jobs → b.connections ≡ a.connections → b.jobs ≡ a.jobs
      → Inv R S b (with_host (with_grants G H) w)
  regranted G b books links k j = record {
    few = i.few;
    memory = i.memory;
    books = books;
    links = links;
    requests = subst (λ cs. Requests H.rings.jobs cs b.jobs) (sym k) (subst (λ js. Requests H.rings.jobs a.connections js) (sym j) i.requests);
    bay0 = subst (λ js. BayHeld R w.bay0 BlockBay js) (sym j) i.bay0;
    bay1 = subst (λ js. BayHeld S w.bay1 NetBay js) (sym j) i.bay1;
    words = subst (Words H.events) (sym k) i.words;
  }

  pub good_entry : (d n fl to f : ℕ) → Good R S pick a (after R S pick a w (Entry d n fl to f) (proceeds R S pick w (Entry d n fl to f)).answer) w (Entry d n fl to f) (proceeds R S pick w (Entry d n fl to f))
  unfolding proceeds accepted
  good_entry d n fl to f = good_by R S pick {T = Unit} {E = GrantFault} a w (Entry d n fl to f) OfGrant (refuse_first (entry_rules n) (Ok tt)) (λ _. Done)
      (λ _. with_host (with_grants (with_entry (place d n) (record { flags = fl; domid = to; frame = f }) H.grants) H) w) i
      (λ t q. good_quiet R S pick a (noted_entry (place d n) (record { flags = fl; domid = to; frame = f }) a) w _ (Entry d n fl to f) Done
      (regranted (with_entry (place d n) (record { flags = fl; domid = to; frame = f }) H.grants) (noted_entry (place d n) (record { flags = fl; domid = to; frame = f }) a)
      (books_entry H.frames H.grants a (place d n) (record { flags = fl; domid = to; frame = f }) i.books) i.links refl refl)
      refl refl refl refl no_port)
      (λ e q. in_grant e)

  pub good_end : (d n : ℕ) → Good R S pick a (after R S pick a w (End d n) (proceeds R S pick w (End d n)).answer) w (End d n) (proceeds R S pick w (End d n))
  unfolding proceeds accepted
  good_end d n = good_by R S pick {T = Unit} {E = GrantFault} a w (End d n) OfGrant (refuse_first (end_rules H.grants d n) (Ok tt)) (λ _. Done)
      (λ _. with_host (with_grants (with_entry (place d n) (with_flags 0 (entry_at H.grants (place d n))) H.grants) H) w) i
      (λ t q. good_quiet R S pick a (noted_entry (place d n) (with_flags 0 (get_or a.entries (place d n) blank)) a) w _ (End d n) Done
      (regranted (with_entry (place d n) (with_flags 0 (entry_at H.grants (place d n))) H.grants) (noted_entry (place d n) (with_flags 0 (get_or a.entries (place d n) blank)) a)
      (books_ended H.frames H.grants a (place d n) i.books) i.links refl refl)
      refl refl refl refl no_port)
      (λ e q. in_grant e)

  -- a guest's handles are not domain 0's
  apart : (d h h' : ℕ) → 0 < d → h' < 64 → key 0 h' ≡ key d h → ⊥
  apart d h h' g l e = omega arith

  pub good_map : (d o n md : ℕ) → 0 < d → d < 8 → Good R S pick a (after R S pick a w (Map d o n md) (proceeds R S pick w (Map d o n md)).answer) w (Map d o n md) (proceeds R S pick w (Map d o n md))
  unfolding proceeds accepted
  good_map d o n md guest below = good_by R S pick a w (Map d o n md) OfGrant (map_verdict H.frames H.grants d o n md) (λ g. Handle g.handle)
      (λ g. with_host (with_grants (pin d g.handle g.mapping H.grants) H) w) i
      (λ g q. good_quiet R S pick a (mapping_noted d g.handle o n (mode_of md) a) w _ (Map d o n md) (Handle g.handle)
      (regranted (pin d g.handle g.mapping H.grants) (mapping_noted d g.handle o n (mode_of md) a)
      (books_pinned H.frames H.grants a d o n md g below q i.books)
      (links_elsewhere H.grants.handles (set H.grants.handles (key d g.handle) (Some g.mapping)) H.rings a.connections a.jobs
      (λ h l. get_or-set_other H.grants.handles (key d g.handle) (key 0 h) (Some g.mapping) None (apart d g.handle h guest l)) i.links)
      refl refl)
      refl refl refl refl (λ p. (λ e. let z : ◌≡◌ {A = ℕ} 0 1 = cc in omega arith, λ e. let z : ◌≡◌ {A = ℕ} 0 1 = cc in omega arith)))
      (λ e q. in_grant e)

  pub good_unmap : (d h : ℕ) → 0 < d → d < 8 → Good R S pick a (after R S pick a w (Unmap d h) (proceeds R S pick w (Unmap d h)).answer) w (Unmap d h) (proceeds R S pick w (Unmap d h))
  unfolding proceeds accepted
  good_unmap d h guest below = good_by R S pick a w (Unmap d h) OfGrant (unmap_verdict H.grants d h) (λ _. Done)
      (λ p. with_host (with_grants (unpin d h p H.grants) H) w) i
      (λ p q.
      let u = unmap_accepted H.grants d h p q in
      let G' = unpin d h p H.grants in
      let others : (h' : ℕ) → h' < 64 → at G'.handles (key 0 h') ≡ at H.grants.handles (key 0 h') =
      λ h' l. ap (λ (G : Grants). at G.handles (key 0 h')) u.2 ∙ freed_other H.grants d h (key 0 h') u.0 (apart d h h' guest l) in
      let same = ended_rest d h a in
      good_quiet R S pick a (mapping_ended d h a) w _ (Unmap d h) Done
      (regranted G' (mapping_ended d h a)
      (subst (λ G. BooksOf H.frames G (mapping_ended d h a)) (sym u.2) (books_unpinned H.frames H.grants a d h below u.0 i.books))
      (subst (λ cs. Links G'.handles H.rings cs (mapping_ended d h a).jobs) (sym same.connections) (subst (λ js. Links G'.handles H.rings a.connections js) (sym same.jobs)
      (links_elsewhere H.grants.handles G'.handles H.rings a.connections a.jobs others i.links)))
      same.connections same.jobs)
      refl refl same.owners same.connections no_port)
      (λ e q. in_grant e)

  -- other ports are marked, or marks dropped
  remarked : (E : Events) → Words E a.connections → Inv R S a (with_host (with_events E H) w)
  remarked E words = record { few = i.few; memory = i.memory; books = i.books; links = i.links; requests = i.requests; bay0 = i.bay0; bay1 = i.bay1; words = words }

  -- a port that may be sent on is one of 1 to 6, and domain 0's end of a live connection
  sent-on : (o : Option Connection) (d : ℕ) → not (guests_end d o) ≡ false → (k : Connection) × (o ≡ Some k)
  sent-on None d e = absurd (both_ways (not (guests_end d None)) e refl)
  sent-on (Some k) d e = (k, refl)

  sent-end : (d p : ℕ) → refuse_first {T = Unit} (send_rules H d p) (Ok tt) ≡ Ok tt → (p < 32) × LiveEnd a.connections 0 p
  sent-end d p q =
      let none = or_parts (eqb p 0) (not (guests_end d (connection_at H.rings (p - 1)))) (none-held (send_rules H d p) (Ok tt) tt q).0.0 in
      let k = sent-on (connection_at H.rings (p - 1)) d none.1 in
      let n = connection-noted H.grants.handles H.rings a.connections a.jobs i.links (p - 1) k.0 k.1 in
      let some : 0 < p = elim (cases_lt 0 p) [ inl l ↦ l | inr l ↦ absurd (eqb-false p 0 none.0 (omega arith)) ] in (
        omega (arith, taken_inside H.rings.connections (p - 1) k.0 k.1, i.links.connections-size),
        record { number = p - 1; note = n.0; live = n.1.0; port = omega arith; whose = inl refl },
      )

  pub good_send : (d p : ℕ) → Good R S pick a (after R S pick a w (Send d p) (proceeds R S pick w (Send d p)).answer) w (Send d p) (proceeds R S pick w (Send d p))
  unfolding proceeds accepted
  good_send d p = good_by R S pick {T = Unit} {E = EventFault} a w (Send d p) OfEvent (refuse_first (send_rules H d p) (Ok tt)) (λ _. Done)
      (λ _. with_host (with_events (marked 0 p H.events) H) w) i
      (λ t q. good_quiet R S pick a a w _ (Send d p) Done (let e = sent-end d p q in remarked (marked 0 p H.events) (marked_words H.events a.connections 0 p e.0 e.1 i.words)) refl refl refl refl no_port)
      (λ e q. in_event e)

  pub good_next : (d : ℕ) → Good R S pick a (after R S pick a w (Next d) (proceeds R S pick w (Next d)).answer) w (Next d) (proceeds R S pick w (Next d))
  unfolding proceeds accepted noted
  good_next d = picked (eqb (word H.events d) 0)
    where
      picked : (b : Bool) → Good R S pick a a w (Next d) (record { answer = told (Ok (Port (next_port pick (word H.events d)))); world = cond b w (with_host (with_events (dropped d (next_port pick (word H.events d)) H.events) H) w) })
      picked b = record {
        inv = (elim b as (λ v. Inv R S a (cond v w (with_host (with_events (dropped d (next_port pick (word H.events d)) H.events) H) w))) [
          | true ↦ i
          | false ↦ remarked (dropped d (next_port pick (word H.events d)) H.events) (dropped_words H.events a.connections d (next_port pick (word H.events d)) i.words)
        ]);
        count = (elim b as (λ v. (cond v w (with_host (with_events (dropped d (next_port pick (word H.events d)) H.events) H) w)).host.frames.count ≡ H.frames.count) [ true ↦ refl | false ↦ refl ]);
        owner = λ f h. refl;
        alters = λ f h mine wr. (elim b as (λ v. frame_bytes f (cond v w (with_host (with_events (dropped d (next_port pick (word H.events d)) H.events) H) w)).memory ≡ frame_bytes f w.memory) [ true ↦ refl | false ↦ refl ]);
        response = λ k j n q e low high at-index. no_response a a refl k j n e low high;
        unbroken = λ x e. let z : ◌≡◌ {A = ℕ} 0 1 = cc in omega arith;
        pending = λ d' p e z.
            let same : d ≡ d' = next_same d d' e in
            let port : next_port pick (word H.events d) ≡ p = port_same (next_port pick (word H.events d)) p z in
            subst (λ x. ((word H.events x ≡ 0) × (p ≡ 0)) ⊎ (bit (word H.events x) p ≡ 1)) same
            (subst (λ y. ((word H.events d ≡ 0) × (y ≡ 0)) ⊎ (bit (word H.events d) y ≡ 1)) port
            (next_pending pick pk (word H.events d) (i.words.small d)));
        unmarked = λ d' k r n e z. absurd (let y : ◌≡◌ {A = ℕ} 0 1 = cc in omega arith);
        refused = λ e z. absurd (let y : ◌≡◌ {A = ℕ} 0 1 = cc in omega arith);
      }
