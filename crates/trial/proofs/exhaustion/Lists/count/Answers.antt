use native.Mathlib.Nat.{pow-le-pow_right}
use Rattle.std.proofs.Common.{arith}
use Rattle.trial.proofs.exhaustion.Lists.count.Goals as goal

pub pow-requires : goal.pow-requires
pow-requires c = omega (arith, pow-le-pow_right {n = 5} (omega arith) {i = c.args.self.length} {j = 7} c.args.self.short)
