use Rattle.std.proofs.Common.{◌≡◌, ℕ, Some, None, Ok, Err, Option, sym, ap, ◌∙◌, ap₂}
use Rattle.rules.specs.Refusal.{if_some}
use Rattle.request.specs.Checked.{asked_by}
use Rattle.request.specs.Content.{Asked, listed}
use Rattle.request.specs.declared.fields.Miss.{Miss}
use Rattle.connection.specs.declared.tables.Job.{Job}
use Rattle.backend.specs.Look.{consumed, own_job}
use Rattle.backend.specs.Segments.{MappingDone, pin_all, emptied, job_for}
use Rattle.law.specs.World.{with_grants}
use Rattle.law.specs.Serve.{handed_over, answered_now}
use Rattle.driver.specs.Outcomes.{all_mapped}
use Rattle.driver.proofs.Handing.{still_own}
use Rattle.driver.proofs.Leaving.{fault_some, fault_none, leaves_by, answered-leaves}
use Rattle.driver.proofs.serving.Taken.map_segments.Goals as goal

pub hand_over-requires : goal.hand_over-requires
hand_over-requires g c =
    let F = c.args.tables.now.frames in
    let G = c.args.tables.now.grants in
    let t = c.args.self.token in
    let k = consumed c.args.self.connection.now in
    let a = asked_by c.args.checked.now in
    let spans = listed c.args.checked.now.spans in
    let start = job_for t.connection k.kind a in
    let fresh = ap₂ (λ (i o : ℕ). record start { id = i; operation = o })
    (c.args.self.id ∙ sym (ap (λ (b : Asked). b.id) c.requires.asked)) (c.args.self.operation ∙ sym (ap (λ (b : Asked). b.operation) c.requires.asked)) in
    let pinned = c.pin_segments-pinned.ensures.job ∙ ap (λ j. (pin_all F k.guest 0 (emptied j) G spans).job) c.job_for-job.ensures in
    record {
      live = c.requires.live;
      ticket = c.requires.ticket;
      own = ap (own_job t) pinned ∙ still_own t F k.guest 0 start G spans fresh ∙ sym pinned;
    }

pub returns-in-Ok : goal.returns-in-Ok
returns-in-Ok g c =
    let D = g.D.Device.rules in
    let x = g.D.Device.meaning c.args.device.now in
    let H = c.args.tables.now in
    let m = c.args.memory.now in
    let n = c.args.self.token.connection in
    let k = consumed c.args.self.connection.now in
    let q = c.args.self.request.now in
    let a = asked_by c.args.checked.now in
    let done : Job → MappingDone = λ j. pin_all H.frames k.guest 0 (emptied j) H.grants (listed c.args.checked.now.spans) in
    let job = c.job_for-job.ensures in
    let fresh = job_for n k.kind a in
    let none : (done fresh).fault ≡ None =
    fault_none (done fresh).fault (sym c.in-Ok.is ∙ c.pin_segments-pinned.ensures.answer ∙ ap (λ j. if_some (done j).fault (Ok tt) (λ f. Err f)) job) in
    leaves_by _ _ _ _ _ _
    (ap (λ (o : Option Miss). if_some o (handed_over D n k q a (done fresh) H m x) (λ f. answered_now D n k q f (with_grants (done fresh).grants H) m x)) none
    ∙ ap₂ (λ j G. handed_over D n k q a (all_mapped j G) H m x) (sym (c.pin_segments-pinned.ensures.job ∙ ap (λ j. (done j).job) job)) (sym (c.pin_segments-pinned.ensures.grants ∙ ap (λ j. (done j).grants) job)))
    c.hand_over.ensures

pub returns-in-Err : goal.returns-in-Err
returns-in-Err g c =
    let D = g.D.Device.rules in
    let x = g.D.Device.meaning c.args.device.now in
    let H = c.args.tables.now in
    let m = c.args.memory.now in
    let n = c.args.self.token.connection in
    let k = consumed c.args.self.connection.now in
    let q = c.args.self.request.now in
    let a = asked_by c.args.checked.now in
    let done : Job → MappingDone = λ j. pin_all H.frames k.guest 0 (emptied j) H.grants (listed c.args.checked.now.spans) in
    let job = c.job_for-job.ensures in
    let fresh = job_for n k.kind a in
    let fault : (done fresh).fault ≡ Some c.in-Err.miss =
    fault_some (done fresh).fault c.in-Err.miss (sym c.in-Err.is ∙ c.pin_segments-pinned.ensures.answer ∙ ap (λ j. if_some (done j).fault (Ok tt) (λ f. Err f)) job) in
    let grants = c.pin_segments-pinned.ensures.grants ∙ ap (λ j. (done j).grants) job in
    leaves_by _ _ _ _ _ _
    (ap₂ (λ (o : Option Miss) G. if_some o (handed_over D n k q a (done fresh) H m x) (λ f. answered_now D n k q f (with_grants G H) m x)) fault (sym grants))
    (answered-leaves D n k q c.in-Err.miss _ _ _ m x _ _ _ c.requires.live c.args.self.id c.args.self.operation c.refuse.ensures.answer c.refuse.ensures.after)
