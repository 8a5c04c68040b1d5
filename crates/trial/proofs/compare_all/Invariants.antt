use Rattle.std.proofs.Common.{◌≡◌, ◌+◌}
use Rattle.trial.proofs.compare_all.Given as goal

abbrev pub invariant-loop-number : goal.invariant-loop-number
invariant-loop-number l = l.tally.granted + l.tally.denied + l.tally.differing ≡ l.number
