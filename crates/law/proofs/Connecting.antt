-- connect and disconnect.
use Rattle.std.proofs.Common.{◌≡◌, ℕ, ◌+◌, ◌<◌, Bool, true, false, not, [], ◌∷◌, length, get_or, set, is_some, Some, None, Ok, Err, Option, Result, unwrap_or, sym, refl, ap, ◌∙◌, subst, inl, inr, arith}
use Rattle.std.proofs.lemmas.Option.{same_Some}
use Rattle.std.proofs.lemmas.Bool.{cases_eq, not-false}
use Rattle.abi.specs.declared.page.Kind.TheVariants.{Block}
use Rattle.rules.specs.Tables.{at}
use Rattle.rules.specs.Refusal.{refuse_first, passed, if_some}
use Rattle.rules.proofs.Refusals.{NoneHolds, none-held}
use Rattle.rules.proofs.Free.{first_free_is}
use Rattle.device.specs.Meaning.{Rules}
use Rattle.grant.specs.Tables.{blank, place, key}
use Rattle.grant.specs.Map.{Grant, map_verdict}
use Rattle.grant.specs.Pin.{released}
use Rattle.grant.specs.declared.tables.Mapping.{Mapping}
use Rattle.grant.specs.declared.tables.Mode.TheVariants.{Write}
use Rattle.grant.specs.declared.fault.GrantFault.{GrantFault}
use Rattle.grant_law.proofs.Verdicts.{Accepted, some_value, map_accepted}
use Rattle.event.specs.Pending.{dropped, word, bit}
use Rattle.ring.specs.Page.{fresh_header}
use Rattle.ring.specs.declared.fault.RingFault.{RingFault}
use Rattle.ring.specs.declared.fault.RingFault.TheVariants.{BadKind, NoConnection, NotLive, HasJobs, OfGrant}
use Rattle.connection.specs.Tables.{kind_numbered, connection_at, free_connection, has_jobs, with_connection}
use Rattle.connection.specs.declared.kinds.Bay.TheVariants.{BlockBay, NetBay}
use Rattle.connection.specs.declared.tables.Connection.{Connection}
use Rattle.backend.specs.Respond.{port_of}
use Rattle.backend.specs.declared.tables.Tables.{Tables}
use Rattle.answer.specs.declared.fault.HostFault.{HostFault}
use Rattle.answer.specs.declared.fault.HostFault.TheVariants.{OfRing}
use Rattle.answer.specs.declared.reply.Answer.{Answer}
use Rattle.answer.specs.declared.reply.Answer.TheVariants.{Done, Connected}
use Rattle.law.specs.World.{World, with_host, with_memory}
use Rattle.law.specs.Call.{Connect, Disconnect}
use Rattle.law.specs.Connect.{connect_rules, connect_verdict, new_number, new_connection, connected, connected_memory, disconnect_verdict, disconnected}
use Rattle.law.specs.Step.{proceeds}
use Rattle.law.specs.Account.{Account, ConnectionNote, accepted, next_handle, mapping_noted, mapping_ended, noted_connection, disconnect_noted}
use Rattle.law.specs.Keeps.{Pairing}
use Rattle.law.proofs.Inv.{Inv, Links, Requests, BayHeld, Words}
use Rattle.law.proofs.Books.{books_pinned, books_unpinned, owns_parts, next_handle_same}
use Rattle.law.proofs.Released.{released-handles, ended_rest}
use Rattle.law.proofs.Links.{links_opened, links_closed, connection-noted, no_connection_noted}
use Rattle.law.proofs.Requested.{requests_opened, requests-closed}
use Rattle.law.proofs.Tickets.{at_set, taken_inside}
use Rattle.law.proofs.Bytes.{put_size, put_others}
use Rattle.law.proofs.Marks.{words_opened, words_closed, unmarked}
use Rattle.law.proofs.Good.{Good, Unbroken, after, good_by, no_response}

passed_ok : {T E G : Type 0} (g : E → G) (r : Result T E) (t : T) → passed g r ≡ Ok t → r ≡ Ok t
passed_ok g (Ok x) t e = cc
passed_ok g (Err x) t e = absurd (let z : ◌≡◌ {A = ℕ} 0 1 = cc in omega arith)

-- connect is never refused by a device
connect_unbroken : (a b : Bool) (r : Result Grant GrantFault) (e : RingFault) → refuse_first ((a, BadKind) ∷ (b, NoConnection) ∷ []) (passed OfGrant r) ≡ Err e → Unbroken (OfRing e)
connect_unbroken true b r e q x z = let z : ◌≡◌ {A = ℕ} 0 1 = cc in omega arith
connect_unbroken false true r e q x z = let z : ◌≡◌ {A = ℕ} 0 1 = cc in omega arith
connect_unbroken false false (Ok g) e q x z = let z : ◌≡◌ {A = ℕ} 0 1 = cc in omega arith
connect_unbroken false false (Err f) e q x z = let z : ◌≡◌ {A = ℕ} 0 1 = cc in omega arith

number_is : (c n : ℕ) → ◌≡◌ {A = Result Answer HostFault} (Ok (Connected c)) (Ok (Connected n)) → c ≡ n
number_is c n e = cc

module _ {M N : Type 0} (R : Rules M) (S : Rules N) (pick : ℕ → ℕ) (a : Account) (w : World M N) (i : Inv R S a w) where
  abbrev H : Tables
  H = w.host

  -- what an accepted connect leaves
  module _ (d kind reference : ℕ) (guest : 0 < d) (below : d < 8) (g : Grant) (q : connect_verdict H d kind reference ≡ Ok g) where
    fine : NoneHolds (connect_rules H kind) × (passed OfGrant (map_verdict H.frames H.grants 0 d reference 1) ≡ Ok g)
    fine = none-held (connect_rules H kind) (passed OfGrant (map_verdict H.frames H.grants 0 d reference 1)) g q

    mapped-ok : map_verdict H.frames H.grants 0 d reference 1 ≡ Ok g
    mapped-ok = passed_ok OfGrant (map_verdict H.frames H.grants 0 d reference 1) g fine.1

    accepted-map : Accepted H.frames H.grants 0 d reference 1 g
    accepted-map = map_accepted H.frames H.grants 0 d reference 1 g (omega arith) i.books.sound.handles_size mapped-ok

    -- the connection's number, and that it was free
    number : ℕ
    number = new_number H

    free : (j : ℕ) × (number ≡ 0 + j) × (j < length H.rings.connections) × (at H.rings.connections j ≡ None)
    unfolding number
    free = first_free_is H.rings.connections 0 number (some_value (free_connection H.rings.connections) 0 number (not-false _ fine.0.1.0) refl)

    number-below : number < 6
    number-below = omega (arith, free.1, free.2, i.links.connections-size)

    was_free : at H.rings.connections number ≡ None
    was_free = let e : number ≡ free.0 = omega (arith, free.1) in subst (λ c. at H.rings.connections c ≡ None) (sym e) free.3

    note_free : at a.connections number ≡ None
    note_free = no_connection_noted H.grants.handles H.rings a.connections a.jobs i.links number was_free

    -- the account's handle and page are the host's
    handle-same : next_handle a ≡ g.handle
    handle-same = ap (λ (o : Option ℕ). unwrap_or o 0) (next_handle_same H.frames H.grants a i.books ∙ accepted-map.lowest_is)

    page-same : (get_or a.entries (place d reference) blank).frame ≡ g.mapping.frame
    page-same = sym (ap (λ (p : Mapping). p.frame) accepted-map.made ∙ i.books.frame_same (place d reference))

    note-with : ℕ → ℕ → ConnectionNote
    note-with page h = record { kind = unwrap_or (kind_numbered kind) Block; guest = d; page = page; handle = h; requests = []; answered = [] }

    -- the account, by the host's handle and page
    account-with : ℕ → ℕ → Account
    account-with page h = noted_connection number (Some (note-with page h)) (mapping_noted 0 h d reference Write a)

    account-same : account-with (get_or a.entries (place d reference) blank).frame (next_handle a) ≡ account-with g.mapping.frame g.handle
    account-same = ap (λ p. account-with p (next_handle a)) page-same ∙ ap (account-with g.mapping.frame) handle-same

    connected-inv : Inv R S (account-with g.mapping.frame g.handle) (with_memory (connected_memory g w.memory) (with_host (connected d kind g H) w))
    unfolding account-with note-with number
    connected-inv = record {
      few = i.few;
      memory = put_size w.memory g.mapping.frame 0 fresh_header ∙ i.memory;
      books = books_pinned H.frames H.grants a 0 d reference 1 g (omega arith) mapped-ok i.books;
      links = links_opened H.grants.handles H.rings a.connections a.jobs number (new_connection d kind g) (note-with g.mapping.frame g.handle) g.mapping
          i.books.sound.handles_size number-below was_free accepted-map.handle accepted-map.free refl
          (ap (λ (p : Mapping). p.mode) accepted-map.made) refl (record { consumed = refl; produced = refl }) i.links;
      requests = requests_opened H.grants.handles H.rings a.connections a.jobs i.links number (note-with g.mapping.frame g.handle) was_free refl refl i.requests;
      bay0 = i.bay0;
      bay1 = i.bay1;
      words = words_opened H.events a.connections number (note-with g.mapping.frame g.handle) note_free i.words;
    }

    connected-good : Good R S pick a (account-with g.mapping.frame g.handle) w (Connect d kind reference) (record { answer = record { result = Ok (Connected number); filled = [] }; world = with_memory (connected_memory g w.memory) (with_host (connected d kind g H) w) })
    unfolding account-with note-with number
    connected-good = record {
      inv = connected-inv;
      count = refl;
      owner = λ f h. refl;
      alters = λ f h mine wr. elim (cases_eq f g.mapping.frame) [
        | inl e ↦ absurd (mine (subst (λ x. at a.owners x ≡ Some d) (sym e) (ap (λ os. at os g.mapping.frame) (sym i.books.owners_same) ∙ (owns_parts H.frames d g.mapping.frame accepted-map.owned).1)))
        | inr n ↦ put_others w.memory g.mapping.frame 0 fresh_header f n
      ];
      response = λ c j n q there low high at-index. elim (at_set a.connections number c (Some (note-with g.mapping.frame g.handle)) n there) [
        | inl e ↦ absurd (
            let same : note-with g.mapping.frame g.handle ≡ n = same_Some _ _ e.1 in
            let none : 0 ≡ length n.answered = ap (λ (x : ConnectionNote). length x.answered) same in
            omega arith)
        | inr other ↦ no_response a a refl c j n other.1 low high
      ];
      unbroken = λ x e. let z : ◌≡◌ {A = ℕ} 0 1 = cc in omega arith;
      pending = λ d' p e z. absurd (let z : ◌≡◌ {A = ℕ} 0 1 = cc in omega arith);
      unmarked = λ d' k r n e z x. subst (λ c. bit (word H.events x) (c + 1) ≡ 0) (number_is number n z) (unmarked H.events a.connections number x note_free i.words);
      refused = λ e z. absurd (let y : ◌≡◌ {A = ℕ} 0 1 = cc in omega arith);
    }

  pub good_connect : (d kind reference : ℕ) → 0 < d → d < 8 → Good R S pick a (after R S pick a w (Connect d kind reference) (proceeds R S pick w (Connect d kind reference)).answer) w (Connect d kind reference) (proceeds R S pick w (Connect d kind reference))
  unfolding proceeds accepted account-with note-with number
  good_connect d kind reference guest below = good_by R S pick a w (Connect d kind reference) OfRing (connect_verdict H d kind reference) (λ _. Connected (new_number H))
      (λ g. with_memory (connected_memory g w.memory) (with_host (connected d kind g H) w)) i
      (λ g q. subst (λ (b : Account). Good R S pick a b w (Connect d kind reference) (record { answer = record { result = Ok (Connected (new_number H)); filled = [] }; world = with_memory (connected_memory g w.memory) (with_host (connected d kind g H) w) }))
      (sym (account-same d kind reference guest below g q)) (connected-good d kind reference guest below g q))
      (λ e q. connect_unbroken (not (is_some (kind_numbered kind))) (not (is_some (free_connection H.rings.connections))) (map_verdict H.frames H.grants 0 d reference 1) e q)

  -- disconnect is never refused by a device
  disconnect-unbroken : (o : Option Connection) (b : Bool) (e : RingFault) → if_some o (Err NotLive) (λ k. refuse_first ((b, HasJobs) ∷ []) (Ok k)) ≡ Err e → Unbroken (OfRing e)
  disconnect-unbroken None b e q x z = let z : ◌≡◌ {A = ℕ} 0 1 = cc in omega arith
  disconnect-unbroken (Some k) true e q x z = let z : ◌≡◌ {A = ℕ} 0 1 = cc in omega arith
  disconnect-unbroken (Some k) false e q x z = let z : ◌≡◌ {A = ℕ} 0 1 = cc in omega arith

  -- what an accepted disconnect says
  disconnect-accepted : (o : Option Connection) (b : Bool) (k : Connection) → if_some o (Err NotLive) (λ x. refuse_first ((b, HasJobs) ∷ []) (Ok x)) ≡ Ok k → (o ≡ Some k) × (b ≡ false)
  disconnect-accepted None b k q = absurd (let z : ◌≡◌ {A = ℕ} 0 1 = cc in omega arith)
  disconnect-accepted (Some x) true k q = absurd (let z : ◌≡◌ {A = ℕ} 0 1 = cc in omega arith)
  disconnect-accepted (Some x) false k q = (let y : Some x ≡ Some k = cc in y, refl)

  module _ (c : ℕ) (k : Connection) (q : disconnect_verdict H c ≡ Ok k) where
    live : at H.rings.connections c ≡ Some k
    live = (disconnect-accepted (connection_at H.rings c) (has_jobs H.rings.jobs c) k q).0

    idle : has_jobs H.rings.jobs c ≡ false
    idle = (disconnect-accepted (connection_at H.rings c) (has_jobs H.rings.jobs c) k q).1

    -- the account, by the host's handle
    ended-with : ℕ → Account
    ended-with h = noted_connection c None (mapping_ended 0 h a)

    disconnected-account : disconnect_noted c a ≡ ended-with k.handle
    unfolding ended-with
    disconnected-account =
        let n = connection-noted H.grants.handles H.rings a.connections a.jobs i.links c k live in
        ap (λ (o : Option ConnectionNote). if_some o a (λ x. noted_connection c None (mapping_ended 0 x.handle a))) n.1.0
        ∙ ap ended-with (ap (λ (p : Pairing). p.handle) n.1.1)

    disconnected-good : Good R S pick a (ended-with k.handle) w (Disconnect c) (record { answer = record { result = Ok Done; filled = [] }; world = with_host (disconnected c k H) w })
    unfolding ended-with
    disconnected-good =
        let below = (i.links.page c k live).below in
        let same = ended_rest 0 k.handle a in
        let noted = connection-noted H.grants.handles H.rings a.connections a.jobs i.links c k live in
        let hs : (released 0 k.handle H.grants).handles ≡ set H.grants.handles (key 0 k.handle) None = released-handles 0 k.handle H.grants below in
        record {
          inv = record {
            few = i.few;
            memory = i.memory;
            books = books_unpinned H.frames H.grants a 0 k.handle (omega arith) below i.books;
            links = subst (λ hs'. Links hs' (with_connection c None H.rings) (set (mapping_ended 0 k.handle a).connections c None) (mapping_ended 0 k.handle a).jobs) (sym hs)
                (subst (λ cs. Links (set H.grants.handles (key 0 k.handle) None) (with_connection c None H.rings) (set cs c None) (mapping_ended 0 k.handle a).jobs) (sym same.connections)
                (subst (λ js. Links (set H.grants.handles (key 0 k.handle) None) (with_connection c None H.rings) (set a.connections c None) js) (sym same.jobs)
                (links_closed H.grants.handles H.rings a.connections a.jobs c k i.books.sound.handles_size live idle i.links)));
            requests = subst (λ cs. Requests H.rings.jobs (set cs c None) (mapping_ended 0 k.handle a).jobs) (sym same.connections)
                (subst (λ js. Requests H.rings.jobs (set a.connections c None) js) (sym same.jobs)
                (requests-closed H.grants.handles H.rings a.connections a.jobs c k live idle i.links i.requests));
            bay0 = subst (λ js. BayHeld R w.bay0 BlockBay js) (sym same.jobs) i.bay0;
            bay1 = subst (λ js. BayHeld S w.bay1 NetBay js) (sym same.jobs) i.bay1;
            words = subst (λ cs. Words (dropped 0 (port_of c) (dropped k.guest (port_of c) H.events)) (set cs c None)) (sym same.connections)
                (subst (λ g. Words (dropped 0 (port_of c) (dropped g (port_of c) H.events)) (set a.connections c None)) (ap (λ (p : Pairing). p.guest) noted.1.1)
                (words_closed H.events a.connections c noted.0 (omega (arith, taken_inside H.rings.connections c k live, i.links.connections-size)) noted.1.0 i.words));
          };
          count = refl;
          owner = λ f h. ap (λ os. at os f) same.owners;
          alters = λ f h mine wr. refl;
          response = λ c' j n q there low high at-index. elim (at_set (mapping_ended 0 k.handle a).connections c c' None n there) [
            | inl e ↦ absurd (let z : None ≡ Some n = e.1 in let y : ◌≡◌ {A = ℕ} 0 1 = cc in omega arith)
            | inr other ↦ no_response a a refl c' j n (ap (λ cs. at cs c') (sym same.connections) ∙ other.1) low high
          ];
          unbroken = λ x e. let z : ◌≡◌ {A = ℕ} 0 1 = cc in omega arith;
          pending = λ d' p e z. absurd (let z : ◌≡◌ {A = ℕ} 0 1 = cc in omega arith);
          unmarked = λ d' k' r n e z. absurd (let y : ◌≡◌ {A = ℕ} 0 1 = cc in omega arith);
          refused = λ e z. absurd (let y : ◌≡◌ {A = ℕ} 0 1 = cc in omega arith);
        }

  pub good_disconnect : (c : ℕ) → Good R S pick a (after R S pick a w (Disconnect c) (proceeds R S pick w (Disconnect c)).answer) w (Disconnect c) (proceeds R S pick w (Disconnect c))
  unfolding proceeds accepted
  good_disconnect c = good_by R S pick a w (Disconnect c) OfRing (disconnect_verdict H c) (λ _. Done)
      (λ k. with_host (disconnected c k H) w) i
      (λ k q. subst (λ (b : Account). Good R S pick a b w (Disconnect c) (record { answer = record { result = Ok Done; filled = [] }; world = with_host (disconnected c k H) w }))
      (sym (disconnected-account c k q)) (disconnected-good c k q))
      (λ e q. disconnect-unbroken (connection_at H.rings c) (has_jobs H.rings.jobs c) e q)
