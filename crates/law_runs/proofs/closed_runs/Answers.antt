use mathlib.Core.Path.{refl}
use lib.Count.{count_trailing_zeros}
use Rattle.event.specs.Pending.{pick}
use Rattle.law.specs.World.{new_host}
use Rattle.law.specs.Serve.{served}
use Rattle.law.specs.Complete.{completed}
use Rattle.law.specs.Step.{proceeds, step}
use Rattle.law_runs.specs.Tried.{begun, replies}
use Rattle.law_runs.proofs.closed_runs.Goals as goal

pub returns : goal.returns
unfolding count_trailing_zeros pick new_host served completed proceeds step begun replies
returns c = record {
  write_and_read_answered = refl;
  write_and_read_loaded = refl;
  packet_answered = refl;
  packet_loaded = refl;
  second_refused_answered = refl;
  second_refused_loaded = refl;
  withdrawn_answered = refl;
  withdrawn_loaded = refl;
}
