use Rattle.std.proofs.Common.{◌≡◌, ℕ, ◌<◌, length, get_or}
use Rattle.generator.proofs.polynomials.combine.Given as goal
use Rattle.generator.specs.Steps.{shifted_at}

abbrev pub invariant-loop-i : goal.invariant-loop-i
invariant-loop-i g l =
    let A = g.F.Field.arithmetic in
    record {
      size : length l.sum.items ≡ l.i;
      each : (k : ℕ) → k < l.i → get_or l.sum.items k 0 ≡ A.plus (shifted_at l.first.shift l.first.polynomial.now k) (A.times l.factor (shifted_at l.second.shift l.second.polynomial.now k));
    }
