use Rattle.std.proofs.Common.{ℕ, ◌<◌, List}
use Rattle.generator.specs.Generators.{Generates}
use Rattle.trial.specs.Five.{five}
use Rattle.trial.proofs.exhaustion.shortest.Given as goal

abbrev pub invariant-loop-length : goal.invariant-loop-length
invariant-loop-length l = (K : ℕ) → K < l.length → (g : List ℕ) → Generates five K g l.stretch → ⊥
