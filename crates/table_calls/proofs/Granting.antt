-- What a call on the tables leaves, by the way that it went.
use Rattle.std.proofs.Common.{◌≡◌, ℕ, List, Ok, Err, Result, sym, ap, ◌∙◌, subst}
use Rattle.rules.specs.Refusal.{Rule, refuse_first, and_then, passed, granting, after_ok}
use Rattle.answer.specs.declared.fault.HostFault.{HostFault}
use Rattle.answer.specs.declared.reply.Answer.{Answer}
use Rattle.answer.specs.declared.reply.Answer.TheVariants.{Length}
use Rattle.backend.specs.declared.tables.Tables.{Tables}
use Rattle.table_calls.specs.Parts.{heard, GrantedBy, Untouched}

module _ {T E : Type 0} (rules : List (Rule HostFault)) (g : E → HostFault) (verdict : Result T E) (answers : T → Answer)
    (H : Tables) (m : List ℕ) (tables_by : T → Tables) (memory_by : T → List ℕ) where
  -- no rule held, and the verdict grants t
  pub granted : (t : T) (r : Result Answer HostFault) (H' : Tables) (m' : List ℕ)
      → Ok tt ≡ refuse_first {T = Unit} rules (Ok tt) → Ok t ≡ verdict
      → r ≡ Ok (answers t) → H' ≡ tables_by t → m' ≡ memory_by t
      → GrantedBy rules g verdict answers H m tables_by memory_by r H' m'
  granted t r H' m' free ok answer tables memory =
      let v : Ok t ≡ heard rules g verdict = ap (passed g) ok ∙ ap (λ (a : Result Unit HostFault). and_then a (λ _. passed g verdict)) free in
      record {
        answer = answer ∙ ap (granting answers) v;
        tables = tables ∙ ap (λ a. after_ok a H tables_by) v;
        memory = memory ∙ ap (λ a. after_ok a m memory_by) v;
      }

-- a refused load leaves the buffer alone
pub left_alone : (n : ℕ) (buffer bytes : List ℕ) (v : Result Unit HostFault) (r : Result Answer HostFault) (buffer' : List ℕ)
    → r ≡ granting (λ _. Length n) v → buffer' ≡ after_ok v buffer (λ _. bytes) → Untouched r buffer buffer'
left_alone n buffer bytes (Ok u) r buffer' answer filled = subst (λ a. Untouched a buffer buffer') (sym answer) tt
left_alone n buffer bytes (Err e) r buffer' answer filled = subst (λ a. Untouched a buffer buffer') (sym answer) filled
