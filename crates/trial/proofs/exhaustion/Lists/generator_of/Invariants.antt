use Rattle.std.proofs.Common.{refl}
use Rattle.trial.proofs.Candidates.{Tried}
use Rattle.trial.specs.Five.{five}
use Rattle.trial.proofs.exhaustion.Lists.generator_of.Given as goal

abbrev pub invariant-loop-number : goal.invariant-loop-number
invariant-loop-number l = Tried five refl l.self.length l.stretch (λ f. f.generator.items) (λ f. f.only) l.number l.found
