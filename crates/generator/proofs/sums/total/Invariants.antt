use Rattle.std.proofs.Common.{◌≡◌, drop}
use Rattle.generator.proofs.Horner.{horner}
use Rattle.generator.proofs.sums.total.Given as goal

abbrev pub invariant-loop-block : goal.invariant-loop-block
invariant-loop-block g l = l.sum ≡ horner g.F.Field.arithmetic l.node (drop l.block (g.S.Readable.marks l.sheet))
