-- A domain's marks stay 32 bits and ends of live connections, and next answers a port that is marked.
use Rattle.std.proofs.Common.{◌≡◌, ℕ, ◌-◌, ◌^◌, ◌<◌, ◌≤◌, true, false, eqb, ◌⊎◌, List, length, get_or, set, ◌+◌, Some, None, Option, sym, refl, ap, ◌∙◌, subst, inl, inr, ⊎_elim, arith}
use Rattle.std.proofs.lemmas.Nat.{or_lt, and_le_l, pow_below, one_shl}
use Rattle.std.proofs.lemmas.List.{get_or-set_same, get_or-set_other, set_past, get_or_past}
use Rattle.std.proofs.lemmas.Bool.{cases_eq, cases_lt, cases_Bool, eqb-true, eqb-false, cond-true, cond-false, cond_both}
use Rattle.grant_law.proofs.Places.{at-replicate, each_set}
use lib.Bits.{bit_and, bit_or}
use Rattle.std.specs.Int.{w32}
use Rattle.std.proofs.lemmas.Nat.Bits.{bit_at_set_other, bit_at_clear_same, bit_at_and, bit_at-lt, bit_at-zero}
use Rattle.rules.specs.Tables.{at}
use Rattle.event.specs.Pending.{new_events, word, bit, marked_word, dropped_word, marked, dropped}
use Rattle.event.specs.declared.pending.Events.{Events}
use Rattle.ring.specs.Total.{word_or_zero}
use Rattle.ring.specs.declared.page.Word.TheVariants.{RspEvent}
use Rattle.connection.specs.declared.tables.Connection.{Connection}
use Rattle.backend.specs.Look.{next_index}
use Rattle.backend.specs.Respond.{port_of, responded_events}
use Rattle.law.specs.Account.{ConnectionNote}
use Rattle.law.specs.Keeps.{LiveEnd}
use Rattle.law.specs.Step.{next_port}
use Rattle.law.specs.Law.{Picks}
use Rattle.law.proofs.Inv.{Words}
use Rattle.law.proofs.Tickets.{none_some, same_some, set_taken}

-- the end of a live connection may be marked
pub marked_words : (E : Events) (conns : List (Option ConnectionNote)) (d p : ℕ) → p < 32 → LiveEnd conns d p → Words E conns → Words (marked d p E) conns
marked_words E conns d p lt end words = record {
  small = each_set (λ e w. w < 2 ^ 32) E.pending d (marked_word (word E d) p) 0 (or_lt 32 (word E d) (2 ^ p) (words.small d) (pow_below p 32 lt)) words.small;
  live = each_set (λ e w. (q : ℕ) → bit w q ≡ 1 → LiveEnd conns e q) E.pending d (marked_word (word E d) p) 0
      (λ q b. elim (cases_eq q p) [
        | inl is ↦ subst (LiveEnd conns d) (sym is) end
        | inr apart ↦ words.live d q (sym (ap (λ m. bit (bit_or (word E d) m) q) (sym (one_shl p 32 lt)) ∙ bit_at_set_other w32 (word E d) p lt q apart) ∙ b)
      ])
      words.live;
}

-- a port that is pending in less of a word is pending in it
bit-less : (w m q : ℕ) → bit (bit_and w m) q ≡ 1 → bit w q ≡ 1
bit-less w m q b = omega (arith, bit_at_and w m q, b, bit_at-lt w q)

-- a mark may be dropped
pub dropped_words : (E : Events) (conns : List (Option ConnectionNote)) (d p : ℕ) → Words E conns → Words (dropped d p E) conns
dropped_words E conns d p words =
    let less : dropped_word (word E d) p ≤ word E d = and_le_l (word E d) (4294967295 - 2 ^ p) in
    let had : word E d < 2 ^ 32 = words.small d in
    record {
      small = each_set (λ e w. w < 2 ^ 32) E.pending d (dropped_word (word E d) p) 0 (omega arith) words.small;
      live = each_set (λ e w. (q : ℕ) → bit w q ≡ 1 → LiveEnd conns e q) E.pending d (dropped_word (word E d) p) 0
          (λ q b. words.live d q (bit-less (word E d) (4294967295 - 2 ^ p) q b))
          words.live;
    }

-- and is pending no more then, while nothing else becomes so
dropped_bit : (E : Events) (d p : ℕ) → p < 32 → bit (word (dropped d p E) d) p ≡ 1 → ⊥
dropped_bit E d p lt = elim (cases_lt d (length E.pending)) [
  | inl in_row ↦ λ b. (
      let gone : bit (dropped_word (word E d) p) p ≡ 0 = ap (λ m. bit (bit_and (word E d) (4294967295 - m)) p) (sym (one_shl p 32 lt)) ∙ bit_at_clear_same w32 (word E d) p lt in
      let is : word (dropped d p E) d ≡ dropped_word (word E d) p = get_or-set_same E.pending d (dropped_word (word E d) p) 0 in_row in
      let z : ◌≡◌ {A = ℕ} 0 1 = sym gone ∙ sym (ap (λ w. bit w p) is) ∙ b in
      omega arith)
  | inr past ↦ λ b. (
      let none : word (dropped d p E) d ≡ 0 = ap (λ xs. get_or xs d 0) (set_past E.pending d (dropped_word (word E d) p) past) ∙ get_or_past E.pending d 0 past in
      let z : ◌≡◌ {A = ℕ} 0 1 = sym (bit_at-zero p) ∙ sym (ap (λ w. bit w p) none) ∙ b in
      omega arith)
]

still : (E : Events) (d p e q : ℕ) → bit (word (dropped d p E) e) q ≡ 1 → bit (word E e) q ≡ 1
still E d p e q = each_set (λ e w. bit w q ≡ 1 → bit (word E e) q ≡ 1) E.pending d (dropped_word (word E d) p) 0 (λ b. bit-less (word E d) (4294967295 - 2 ^ p) q b) (λ e b. b) e

-- at the start nothing is pending
pub words_start : (conns : List (Option ConnectionNote)) → Words new_events conns
words_start conns =
    let none : (d : ℕ) → word new_events d ≡ 0 = λ d. at-replicate 8 d 0 in
    record {
      small = λ d. let z = none d in omega arith;
      live = λ d p b. absurd (let z : ◌≡◌ {A = ℕ} 0 1 = sym (bit_at-zero p) ∙ sym (ap (λ w. bit w p) (none d)) ∙ b in omega arith);
    }

-- a connection goes on, with the same guest
pub words_kept : (E : Events) (conns : List (Option ConnectionNote)) (c : ℕ) (n n' : ConnectionNote) → at conns c ≡ Some n → n'.guest ≡ n.guest
    → Words E conns → Words E (set conns c (Some n'))
words_kept E conns c n n' there guest words = record {
  small = words.small;
  live = λ d p b.
      let end = words.live d p b in
      elim (cases_eq end.number c) [
        | inl is ↦
            let same : end.note ≡ n = same_some (at conns c) end.note n (ap (at conns) (sym is) ∙ end.live) there in
            record {
              number = c;
              note = n';
              live = set_taken conns c (Some n') n there;
              port = end.port ∙ ap (λ k. k + 1) is;
              whose = elim end.whose [ inl z ↦ inl z | inr g ↦ inr (g ∙ ap (λ (x : ConnectionNote). x.guest) same ∙ sym guest) ];
            }
        | inr apart ↦ record { number = end.number; note = end.note; live = get_or-set_other conns c end.number (Some n') None apart ∙ end.live; port = end.port; whose = end.whose }
      ];
}

-- a connection begins: nothing was pending at its ends
pub words_opened : (E : Events) (conns : List (Option ConnectionNote)) (c : ℕ) (n : ConnectionNote) → at conns c ≡ None → Words E conns → Words E (set conns c (Some n))
words_opened E conns c n free words = record {
  small = words.small;
  live = λ d p b.
      let end = words.live d p b in
      record {
        number = end.number;
        note = end.note;
        live = get_or-set_other conns c end.number (Some n) None (λ is. none_some (at conns c) end.note free (ap (at conns) (sym is) ∙ end.live)) ∙ end.live;
        port = end.port;
        whose = end.whose;
      };
}

pub unmarked : (E : Events) (conns : List (Option ConnectionNote)) (c d : ℕ) → at conns c ≡ None → Words E conns → bit (word E d) (c + 1) ≡ 0
unmarked E conns c d free words = elim (cases_eq (bit (word E d) (c + 1)) 1) [
  | inl b ↦
      let end = words.live d (c + 1) b in
      let is : end.number ≡ c = omega (arith, end.port) in
      none_some (at conns c) end.note free (ap (at conns) (sym is) ∙ end.live)
  | inr n ↦ omega (arith, bit_at-lt (word E d) (c + 1))
]

-- a connection ends, and the marks of both its ends with it
pub words_closed : (E : Events) (conns : List (Option ConnectionNote)) (c : ℕ) (n : ConnectionNote) → c < 6 → at conns c ≡ Some n
    → Words E conns → Words (dropped 0 (port_of c) (dropped n.guest (port_of c) E)) (set conns c None)
words_closed E conns c n lt there words =
    let first = dropped n.guest (port_of c) E in
    let w = dropped_words first conns 0 (port_of c) (dropped_words E conns n.guest (port_of c) words) in
    let below : port_of c < 32 = omega arith in
    record {
      small = w.small;
      live = λ d p b.
          let end = w.live d p b in
          let apart : end.number ≡ c → ⊥ = λ is. (
          let same : end.note ≡ n = same_some (at conns c) end.note n (ap (at conns) (sym is) ∙ end.live) there in
          let port : p ≡ port_of c = end.port ∙ ap (λ k. k + 1) is in
          elim end.whose [
            | inl z ↦ dropped_bit first 0 (port_of c) below (subst (λ q. bit (word (dropped 0 (port_of c) first) 0) q ≡ 1) port (subst (λ e. bit (word (dropped 0 (port_of c) first) e) p ≡ 1) z b))
            | inr g ↦
                let is-guest : d ≡ n.guest = g ∙ ap (λ (x : ConnectionNote). x.guest) same in
                dropped_bit E n.guest (port_of c) below (subst (λ q. bit (word first n.guest) q ≡ 1) port (subst (λ e. bit (word first e) p ≡ 1) is-guest (still first 0 (port_of c) d p b)))
          ])
          in
          record { number = end.number; note = end.note; live = get_or-set_other conns c end.number None None apart ∙ end.live; port = end.port; whose = end.whose };
    }

-- a response may make its connection's guest's port pending
pub responded_words : (E : Events) (conns : List (Option ConnectionNote)) (c : ℕ) (k : Connection) (n : ConnectionNote) (m : List ℕ) → c < 6 → at conns c ≡ Some n → k.guest ≡ n.guest
    → Words E conns → Words (responded_events c k m E) conns
responded_words E conns c k n m lt there guest words =
    cond_both (eqb (next_index k.rsp_prod) (word_or_zero m k.page RspEvent)) (marked k.guest (port_of c) E) E (λ e. Words e conns)
    (λ _. marked_words E conns k.guest (port_of c) (omega arith) (record { number = c; note = n; live = there; port = refl; whose = inr guest }) words)
    (λ _. words)

-- next answers 0 where nothing is pending, else a port that is
pub next_pending : (pick : ℕ → ℕ) → Picks pick → (w : ℕ) → w < 2 ^ 32 → ((w ≡ 0) × (next_port pick w ≡ 0)) ⊎ (bit w (next_port pick w) ≡ 1)
next_pending pick picks w lt =
    ⊎_elim
    (λ (none : eqb w 0 ≡ true). inl (eqb-true w 0 none, cond-true _ _ _ none))
    (λ (some : eqb w 0 ≡ false).
    let above : w ≡ 0 → ⊥ = eqb-false w 0 some in
    let pos : 0 < w = ⊎_elim (λ (h : 0 < w). h) (λ (h : w ≤ 0). absurd (above (omega arith))) (cases_lt 0 w) in
    inr (ap (bit w) (cond-false _ _ _ some) ∙ picks.marked_one w pos lt))
    (cases_Bool (eqb w 0))
