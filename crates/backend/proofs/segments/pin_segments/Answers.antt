use Rattle.std.proofs.Common.{◌+◌, get_or, drop, Ok, Err, sym, refl, ap, ◌∙◌, ap₂}
use Rattle.std.proofs.lemmas.List.{at_drop_more, at_drop_all}
use Rattle.ring.specs.declared.fault.RingFault.TheVariants.{OfGrant}
use Rattle.request.specs.Check.{miss}
use Rattle.request.specs.Content.{listed}
use Rattle.request.specs.declared.content.Span.{Span}
use Rattle.connection.specs.Tables.{handles_of}
use Rattle.connection.specs.declared.tables.Job.{Job}
use Rattle.backend.specs.Segments.{released_all, pin_all}
use Rattle.backend.proofs.InTurn.{pin_more, count_more, pin-refused, pinned_by}
use Rattle.backend.proofs.segments.pin_segments.Goals as goal

abbrev none : Span
none = record { reference = 0; start = 0; length = 0 }

pub loop-span-preserved : goal.loop-span-preserved
loop-span-preserved c =
    let F = c.args.frames.now in
    let guest = c.args.guest in
    let spans = c.as_slice-span-items.result.now in
    let i = c.loop-span.span-index in
    let s = get_or spans i none in
    let rest = drop (i + 1) spans in
    let G = c.loop-span.grants in
    let j = c.loop-span.job in
    let G' = c.pin_segment.new.grants in
    let j' = c.pin_segment.new.job in
    let count = count_more F guest s G j c.pin_segment.result G' j' c.pin_segment.ensures c.in_default.is in
    let more = pin_more F guest s G j c.pin_segment.result G' j' c.pin_segment.ensures rest c.in_default.is in (
      count ∙ ap (λ n. n + 1) c.loop-span.invariant.0,
      ap (λ n. pin_all F guest n j' G' rest) count ∙ sym more
          ∙ sym (at_drop_more (pin_all F guest j.count j G) spans i none c.loop-span-test.true) ∙ c.loop-span.invariant.1,
    )

pub returns : goal.returns
returns c =
    let F = c.args.frames.now in
    let guest = c.args.guest in
    let G = c.loop-span.grants in
    let j = c.loop-span.job in
    let done = at_drop_all (pin_all F guest j.count j G) c.as_slice-span-items.result.now c.loop-span.span-index c.loop-span-test.false in
    pinned_by F guest (listed c.args.spans.now) c.args.grants.now c.args.job.now _ (Ok tt) G j (sym c.loop-span.invariant.1 ∙ done) refl refl refl

pub returns-in-Err : goal.returns-in-Err
returns-in-Err c =
    let F = c.args.frames.now in
    let guest = c.args.guest in
    let spans = c.as_slice-span-items.result.now in
    let i = c.loop-span.span-index in
    let s = get_or spans i none in
    let G = c.loop-span.grants in
    let j = c.loop-span.job in
    let G' = c.pin_segment.new.grants in
    let j' = c.pin_segment.new.job in
    let fault = c.in-Err.fault in
    let refused = pin-refused F guest s G j c.pin_segment.result G' j' c.pin_segment.ensures (drop (i + 1) spans) fault c.in-Err.is in
    let done = at_drop_more (pin_all F guest j.count j G) spans i none c.loop-span-test.true ∙ refused.0 in
    pinned_by F guest (listed c.args.spans.now) c.args.grants.now c.args.job.now _ _ c.unpin_segments.new.grants j' (sym c.loop-span.invariant.1 ∙ done)
    (ap (λ f. Err (miss f j'.count)) c.into.ensures ∙ ap (λ (k : Job). Err (miss (OfGrant fault) k.count)) refused.1)
    (c.unpin_segments.ensures ∙ ap₂ (λ k H. released_all (handles_of k) H) refused.1 refused.2)
    refused.1
