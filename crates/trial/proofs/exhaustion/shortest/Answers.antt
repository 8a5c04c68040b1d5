use Rattle.std.proofs.Common.{refl, length, ⊎_elim, arith}
use Rattle.std.proofs.lemmas.Bool.{cases_lt}
use Rattle.trial.proofs.Candidates.{generates_whole}
use Rattle.trial.specs.Five.{five}
use Rattle.trial.proofs.exhaustion.shortest.Goals as goal

pub returns-clause-none : goal.returns-clause-none
returns-clause-none c =
    let xs = c.args.stretch.now in
    ⊎_elim (λ l. absurd (c.loop-length.invariant (length xs) (omega arith) _ (generates_whole five refl _ xs refl))) (λ m. omega arith) (cases_lt (length xs) 8)
