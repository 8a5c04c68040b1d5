use Rattle.generator.proofs.Sound.{Sound}
use Rattle.generator.proofs.berlekamp_massey.berlekamp_massey.Given as goal

abbrev pub invariant-loop-k : goal.invariant-loop-k
invariant-loop-k g l = Sound g.met.F.Field.lawful l.stretch l.k l.state
