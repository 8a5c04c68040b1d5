use Rattle.std.proofs.Common.{append_assoc, rules, add-one}
use Rattle.pile.proofs.add_writes.Goals as goal
use Rattle.pile.specs.Reports.{stepped, lines_of_writes}

pub loop-step-init : goal.loop-step-init
unfolding lines_of_writes stepped
loop-step-init g c = search rules

pub loop-step-preserved : goal.loop-step-preserved
unfolding lines_of_writes stepped
loop-step-preserved g c = rw add-one record {
  lines = search (rules, append_assoc);
  list = search rules;
}
