use Rattle.std.proofs.Common.{ℕ, List, sym, subst, ◌∙◌, rules, string_bytes}
use Rattle.std.specs.Io.Iter.{lines_known_bytes}
use Rattle.console.proofs.Passing.{none_passed, one_more, at_end, failed, answered, nothing_asked}
use Rattle.console.specs.Reading.{known_bytes}
use Rattle.console.proofs.script.ScriptIterator.next.Goals as goal

pub loop-line-init : goal.loop-line-init
loop-line-init g c =
    let s = c.args.self.now in
    ((search rules), none_passed g.T.FromLine.reads s.came (known_bytes g.R.Read.remaining s))

pub loop-line-preserved : goal.loop-line-preserved
loop-line-preserved g c =
    let first = c.args.self.now in
    let before = known_bytes g.R.Read.remaining first in
    let now = lines_known_bytes g.R.Read.remaining c.loop-line.self.lines in
    let left = lines_known_bytes g.R.Read.remaining c.next.new.self in
    let text = string_bytes c.in-Ok.text in
    let known = (rw c.in-Ok.is at c.in-Some.ensures.steps).1 in
    let read = subst (λ (l : List ℕ). g.T.FromLine.reads l c.from_line-asked.result) c.as_str.ensures.value c.from_line-asked.ensures in
    let none = nothing_asked g.T.FromLine.reads text c.from_line-asked.result (sym c.transpose.ensures ∙ c.in_default-transpose.is) read in
    ((search rules), one_more g.T.FromLine.reads first.came c.loop-line.self.came c.saturating_add-self.result before now left text c.loop-line.invariant.1 c.saturating_add-self.ensures known.0 known.1 none)

pub returns-in-Some-transpose-clause-steps : goal.returns-in-Some-transpose-clause-steps
returns-in-Some-transpose-clause-steps g c =
    let first = c.args.self.now in
    let before = known_bytes g.R.Read.remaining first in
    let now = lines_known_bytes g.R.Read.remaining c.loop-line.self.lines in
    let left = lines_known_bytes g.R.Read.remaining c.next.new.self in
    let text = string_bytes c.in-Ok.text in
    let known = (rw c.in-Ok.is at c.in-Some.ensures.steps).1 in
    let read = subst (λ (l : List ℕ). g.T.FromLine.reads l c.from_line-asked.result) c.as_str.ensures.value c.from_line-asked.ensures in
    let asks = sym c.transpose.ensures ∙ c.in-Some-transpose.is in
    answered g.T.FromLine.reads first.came c.loop-line.self.came c.saturating_add-self.result before now left text c.from_line-asked.result c.in-Some-transpose.asked c.loop-line.invariant.1 c.saturating_add-self.ensures known.0 known.1 read asks

pub returns-in-Err-clause-steps : goal.returns-in-Err-clause-steps
returns-in-Err-clause-steps g c =
    let first = c.args.self.now in
    let before = known_bytes g.R.Read.remaining first in
    let now = lines_known_bytes g.R.Read.remaining c.loop-line.self.lines in
    let left = lines_known_bytes g.R.Read.remaining c.next.new.self in
    failed g.T.FromLine.reads first.came c.loop-line.self.came c.saturating_add-self.result before now left c.from-in-Err.result c.loop-line.invariant.1 c.saturating_add-self.ensures

pub returns-clause-steps : goal.returns-clause-steps
returns-clause-steps g c =
    let first = c.args.self.now in
    let before = known_bytes g.R.Read.remaining first in
    let now = lines_known_bytes g.R.Read.remaining c.loop-line.self.lines in
    let left = lines_known_bytes g.R.Read.remaining c.next.new.self in
    at_end g.T.FromLine.reads first.came c.loop-line.self.came before now left c.loop-line.invariant.1 c.in_default.ensures.steps.1
