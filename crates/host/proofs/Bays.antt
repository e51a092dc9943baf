-- A call that a device has part in keeps the law.
use Rattle.std.proofs.Common.{◌≡◌, ℕ, List, Ok, Err, Result, sym, refl, ap, ◌∙◌, ap₂}
use Rattle.rules.specs.Refusal.{refuse_first, passed, either_of}
use Rattle.device.specs.Meaning.{Rules}
use Rattle.device.specs.Laws.{Laws}
use Rattle.event.specs.Pending.{pick}
use Rattle.ring.specs.declared.fault.RingFault.{RingFault}
use Rattle.backend.specs.declared.tables.Tables.{Tables}
use Rattle.answer.specs.declared.fault.HostFault.{HostFault}
use Rattle.answer.specs.declared.fault.HostFault.TheVariants.{OfRing}
use Rattle.answer.specs.declared.reply.Answer.{Answer}
use Rattle.law.specs.World.{World}
use Rattle.law.specs.Call.{Call}
use Rattle.law.specs.Serve.{Outcome}
use Rattle.law.specs.Step.{Ends, step, proceeds, host_rules, told, by_bay0, by_bay1}
use Rattle.law.specs.Run.{Kept}
use Rattle.driver.specs.Outcomes.{Leaves}
use Rattle.host.proofs.Steps.{world_of, kept_as}

-- where the host itself does not refuse, the call goes on
goes_on : {M N : Type 0} (R : Rules M) (S : Rules N) (w : World M N) (c : Call) {e : Ends M N} → Ok tt ≡ refuse_first {T = Unit} (host_rules R S pick w c) (Ok tt) → proceeds R S pick w c ≡ e → step R S pick w c ≡ e
unfolding step
goes_on R S w c rules is = ap (λ (a : Result Unit HostFault). either_of a (λ _. proceeds R S pick w c) (λ f. record { answer = told (Err f); world = w })) (sym rules) ∙ is

module _ {M N : Type 0} {R : Rules M} {S : Rules N} {H : Tables} {m : List ℕ} {x : M} {y : N} where
  -- the host itself refuses
  pub kept_refused : {c : Call} {f : HostFault} {s : Result Answer HostFault} → Laws R → Laws S → Err f ≡ refuse_first {T = Unit} (host_rules R S pick (world_of H m x y) c) (Ok tt) → s ≡ Err f
      → Kept R S pick (world_of H m x y) c (told s) (world_of H m x y)
  unfolding step
  kept_refused {c} {f} {s} lr ls rules answer =
      let w = world_of H m x y in
      kept_as lr ls w c (told s) w _
      (ap (λ (a : Result Unit HostFault). either_of a (λ _. proceeds R S pick w c) (λ e. record { answer = told (Err e); world = w })) (sym rules)) (ap told answer) refl

  -- it does not, and the call is refused then
  pub kept_barred : {c : Call} {f : HostFault} → Laws R → Laws S → Ok tt ≡ refuse_first {T = Unit} (host_rules R S pick (world_of H m x y) c) (Ok tt)
      → proceeds R S pick (world_of H m x y) c ≡ record { answer = told (Err f); world = world_of H m x y } → Kept R S pick (world_of H m x y) c (told (Err f)) (world_of H m x y)
  kept_barred lr ls rules is = kept_as lr ls _ _ _ _ _ (goes_on R S _ _ rules is) refl refl

  -- or has its outcome in a bay
  module _ {c : Call} {r : Result Answer RingFault} {s : Result Answer HostFault} {H' : Tables} {m' : List ℕ} where
    pub kept_block : {o : Outcome M} {x' : M} → Laws R → Laws S → Ok tt ≡ refuse_first {T = Unit} (host_rules R S pick (world_of H m x y) c) (Ok tt)
        → Leaves o r H' m' x' → s ≡ passed OfRing r → proceeds R S pick (world_of H m x y) c ≡ by_bay0 (world_of H m x y) o
        → Kept R S pick (world_of H m x y) c (told s) (world_of H' m' x' y)
    kept_block {o} {x'} lr ls rules l answer is =
        kept_as lr ls _ _ _ _ _ (goes_on R S _ _ rules is) (ap told (answer ∙ ap (passed OfRing) l.answer))
        (ap (λ (K : Tables). world_of K m' x' y) l.tables ∙ ap₂ (λ n z. world_of o.host n z y) l.memory l.device)

    pub kept_net : {o : Outcome N} {y' : N} → Laws R → Laws S → Ok tt ≡ refuse_first {T = Unit} (host_rules R S pick (world_of H m x y) c) (Ok tt)
        → Leaves o r H' m' y' → s ≡ passed OfRing r → proceeds R S pick (world_of H m x y) c ≡ by_bay1 (world_of H m x y) o
        → Kept R S pick (world_of H m x y) c (told s) (world_of H' m' x y')
    kept_net {o} {y'} lr ls rules l answer is =
        kept_as lr ls _ _ _ _ _ (goes_on R S _ _ rules is) (ap told (answer ∙ ap (passed OfRing) l.answer))
        (ap (λ (K : Tables). world_of K m' x y') l.tables ∙ ap₂ (λ n z. world_of o.host n x z) l.memory l.device)
