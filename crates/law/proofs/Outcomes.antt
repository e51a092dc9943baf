-- A call that one device has part in: what it does, whichever bay the device is in.
use Rattle.std.proofs.Common.{◌≡◌, ℕ, ◌*◌, ◌<◌, ◌≤◌, false, List, length, get_or, Some, Ok, Err, Result, sym, refl, ap, ◌∙◌, subst, arith}
use Rattle.rules.specs.Tables.{at}
use Rattle.rules.specs.Refusal.{passed, after_ok}
use Rattle.device.specs.Meaning.{Rules}
use Rattle.device.specs.declared.fault.DeviceFault.{DeviceFault}
use Rattle.frame.specs.Memory.{frame_bytes}
use Rattle.grant.specs.Tables.{key}
use Rattle.grant.specs.declared.tables.Mapping.{Mapping}
use Rattle.ringpage.specs.declared.slot.Request.{Request}
use Rattle.ring.specs.declared.fault.RingFault.{RingFault}
use Rattle.ring.specs.declared.fault.RingFault.TheVariants.{OfDevice}
use Rattle.connection.specs.Tables.{same_bay}
use Rattle.connection.specs.declared.kinds.Bay.{Bay}
use Rattle.connection.specs.declared.kinds.Bay.TheVariants.{BlockBay, NetBay}
use Rattle.connection.specs.declared.tables.Connection.{Connection}
use Rattle.backend.specs.declared.tables.Tables.{Tables}
use Rattle.answer.specs.declared.fault.HostFault.{HostFault}
use Rattle.answer.specs.declared.fault.HostFault.TheVariants.{OfRing}
use Rattle.answer.specs.declared.reply.Answer.{Answer}
use Rattle.law.specs.World.{World}
use Rattle.law.specs.Call.{Call, Next, Connect, domain}
use Rattle.law.specs.Serve.{Outcome}
use Rattle.law.specs.Step.{told, by_bay0, by_bay1}
use Rattle.law.specs.Account.{Account, ConnectionNote, accepted, noted}
use Rattle.law.specs.Keeps.{Writes, InSlot, nth, responses, handed}
use Rattle.law.proofs.Inv.{Inv, BooksOf, Links, Requests, BayHeld, Words, PageMapped}
use Rattle.law.proofs.Books.{frame-owned, in_force}
use Rattle.law.proofs.Good.{Good}

-- what the invariant says of host and memory alone
pub record HostInv (a : Account) (H : Tables) (m : List ℕ) : Type 0 where
  pub few : H.frames.count ≤ 256
  pub memory : length m ≡ 4096 * H.frames.count
  pub books : BooksOf H.frames H.grants a
  pub links : Links H.grants.handles H.rings a.connections a.jobs
  pub requests : Requests H.rings.jobs a.connections a.jobs
  pub words : Words H.events a.connections

pub host_inv : {M N : Type 0} (R : Rules M) (S : Rules N) (a : Account) (w : World M N) → Inv R S a w → HostInv a w.host w.memory
host_inv R S a w i = record { few = i.few; memory = i.memory; books = i.books; links = i.links; requests = i.requests; words = i.words }

-- domain 0 has a live connection's page mapped for writing, by the account
pub page-written : (a : Account) (H : Tables) (m : List ℕ) → HostInv a H m → (k : Connection) → PageMapped H.grants.handles k → Writes a 0 k.page
page-written a H m i k p =
    let n = in_force H.frames H.grants a i.books (key 0 k.handle) p.mapping p.there in
    record {
      maps = record { handle = k.handle; note = n.0; own = p.below; in_force = n.1.0; frame = ap (λ (x : Mapping). x.frame) n.1.1 ∙ p.frame };
      mode = ap (λ (x : Mapping). x.mode) n.1.1 ∙ p.mode;
    }

-- and the memory has it
pub page_exists : (a : Account) (H : Tables) (m : List ℕ) → HostInv a H m → (k : Connection) → PageMapped H.grants.handles k → k.page < H.frames.count
page_exists a H m i k p =
    subst (λ f. f < H.frames.count) p.frame (frame-owned H.frames H.grants a i.books 0 k.handle p.mapping (omega arith) p.below p.there).0

module _ {X : Type 0} (D : Rules X) (b : Bay) (a : Account) (H : Tables) (m : List ℕ) (x : X) where
  -- b' is the account after the call
  pub record OutcomeGood (b' : Account) (o : Outcome X) : Type 0 where
    pub inv : HostInv b' o.host o.memory
    pub count : o.host.frames.count ≡ H.frames.count
    pub bay : BayHeld D o.device b b'.jobs
    pub other : (c : Bay) → same_bay b c ≡ false → (t : ℕ) → handed c (at b'.jobs t) ≡ handed c (at a.jobs t)
    pub owners : b'.owners ≡ a.owners
    pub alters : (f : ℕ) → f < H.frames.count → (Writes a 0 f → ⊥) → frame_bytes f o.memory ≡ frame_bytes f m
    pub response : (k j : ℕ) (n : ConnectionNote) (q : Request) → at b'.connections k ≡ Some n
        → responses a k ≤ j → j < length n.answered → nth n.requests (get_or n.answered j 0) ≡ Some q → InSlot n j q o.memory
    pub unbroken : (e : DeviceFault) → o.answer ≡ Err (OfDevice e) → ⊥
    pub refused : (e : RingFault) → o.answer ≡ Err e → (o.host ≡ H) × (o.memory ≡ m) × (o.device ≡ x)

-- a fault of a device is passed up only where the layer of rings says so
ring_unbroken : (r : Result Answer RingFault) (e : DeviceFault) → ((z : DeviceFault) → r ≡ Err (OfDevice z) → ⊥) → passed OfRing r ≡ Err (OfRing (OfDevice e)) → ⊥
ring_unbroken (Ok y) e u q = let z : ◌≡◌ {A = ℕ} 0 1 = cc in omega arith
ring_unbroken (Err f) e u q = u e (let z : ◌≡◌ {A = Result Answer RingFault} (Err f) (Err (OfDevice e)) = cc in z)

-- a fault that is passed up is the layer of rings'
passed-fault : (r : Result Answer RingFault) (f : HostFault) → passed OfRing r ≡ Err f → (e : RingFault) × (r ≡ Err e)
passed-fault (Ok y) f q = absurd (let z : ◌≡◌ {A = ℕ} 0 1 = cc in omega arith)
passed-fault (Err e) f q = (e, refl)

-- serve and complete: the account after them, by the answer of the layer of rings
pub ring_noted : {M N : Type 0} (R : Rules M) (S : Rules N) (a : Account) (c : Call) (r : Result Answer RingFault) (m : List ℕ) (x : M) (y : N) (f : Answer → Account)
    → ((z : Answer) → accepted R S a c z m x y ≡ f z) → noted R S a c (told (passed OfRing r)) m x y ≡ after_ok r a f
unfolding noted
ring_noted R S a c (Ok z) m x y f e = e z
ring_noted R S a c (Err z) m x y f e = refl

module _ {M N : Type 0} (R : Rules M) (S : Rules N) (pick : ℕ → ℕ) (a : Account) (w : World M N) (i : Inv R S a w) (c : Call) (actor : domain c ≡ 0) (no-next : (d : ℕ) → c ≡ Next d → ⊥) (no-connect : (d k n : ℕ) → c ≡ Connect d k n → ⊥) where
  -- a good outcome in either bay is a good step
  pub good_bay0 : (b : Account) (o : Outcome M) → OutcomeGood R BlockBay a w.host w.memory w.bay0 b o → Good R S pick a b w c (by_bay0 w o)
  good_bay0 b o g = record {
    inv = record {
      few = g.inv.few;
      memory = g.inv.memory;
      books = g.inv.books;
      links = g.inv.links;
      requests = g.inv.requests;
      bay0 = g.bay;
      bay1 = λ t. i.bay1 t ∙ sym (g.other NetBay refl t);
      words = g.inv.words;
    };
    count = g.count;
    owner = λ f h. ap (λ os. at os f) g.owners;
    alters = λ f h mine wr. g.alters f h (λ v. wr (subst (λ d. Writes a d f) (sym actor) v));
    response = g.response;
    unbroken = λ e q. ring_unbroken o.answer e g.unbroken q;
    pending = λ d p e z. absurd (no-next d e);
    unmarked = λ d k n l e z. absurd (no-connect d k n e);
    refused = λ f q.
        let same = g.refused (passed-fault o.answer f q).0 (passed-fault o.answer f q).1 in
        ap (λ (h : Tables). record { host = h; memory = o.memory; bay0 = o.device; bay1 = w.bay1 }) same.0
        ∙ ap (λ mm. record { host = w.host; memory = mm; bay0 = o.device; bay1 = w.bay1 }) same.1
        ∙ ap (λ (y : M). record { host = w.host; memory = w.memory; bay0 = y; bay1 = w.bay1 }) same.2;
  }

  pub good_bay1 : (b : Account) (o : Outcome N) → OutcomeGood S NetBay a w.host w.memory w.bay1 b o → Good R S pick a b w c (by_bay1 w o)
  good_bay1 b o g = record {
    inv = record {
      few = g.inv.few;
      memory = g.inv.memory;
      books = g.inv.books;
      links = g.inv.links;
      requests = g.inv.requests;
      bay0 = λ t. i.bay0 t ∙ sym (g.other BlockBay refl t);
      bay1 = g.bay;
      words = g.inv.words;
    };
    count = g.count;
    owner = λ f h. ap (λ os. at os f) g.owners;
    alters = λ f h mine wr. g.alters f h (λ v. wr (subst (λ d. Writes a d f) (sym actor) v));
    response = g.response;
    unbroken = λ e q. ring_unbroken o.answer e g.unbroken q;
    pending = λ d p e z. absurd (no-next d e);
    unmarked = λ d k n l e z. absurd (no-connect d k n e);
    refused = λ f q.
        let same = g.refused (passed-fault o.answer f q).0 (passed-fault o.answer f q).1 in
        ap (λ (h : Tables). record { host = h; memory = o.memory; bay0 = w.bay0; bay1 = o.device }) same.0
        ∙ ap (λ mm. record { host = w.host; memory = mm; bay0 = w.bay0; bay1 = o.device }) same.1
        ∙ ap (λ (y : N). record { host = w.host; memory = w.memory; bay0 = w.bay0; bay1 = y }) same.2;
  }
