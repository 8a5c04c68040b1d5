use Rattle.std.proofs.Common.{◌≡◌, ◌<◌}
use Rattle.field.specs.Field.{power}
use Rattle.field.proofs.Field.pow.Given as goal

abbrev pub invariant-loop-left : goal.invariant-loop-left
invariant-loop-left g l =
    let A = g.Self.Field.arithmetic in
    (A.times (power A l.square l.left) l.power ≡ power A l.a l.exponent) × (l.power < A.size)

abbrev pub decreases-loop-left : goal.decreases-loop-left
decreases-loop-left g l = l.left
