use Rattle.std.proofs.Common.{◌≡◌, ◌∷◌, [], ◌++◌, List, ℕ, refl, ap, ◌∙◌, arith}
use Rattle.trial.proofs.Candidates.{candidate, tried_one, tried_other, tried_all_none, tried_all_generates, tried_all_only}
use Rattle.trial.proofs.Digits.{is_digits}
use Rattle.trial.specs.Five.{five}
use Rattle.trial.proofs.exhaustion.Lists.generator_of.Goals as goal
use Rattle.trial.proofs.exhaustion.Lists.generator_of.Goals.{then-generates, else-generates}

pub loop-number-preserved : goal.loop-number-preserved
loop-number-preserved c =
    let L = c.args.self.length in
    let l = c.loop-number in
    let list : c.push.new.self.items ≡ candidate L l.number =
    c.push.ensures.items ∙ ap (λ (xs : List ℕ). xs ++ 1 ∷ []) (is_digits _ L l.number c.list-generator.ensures.size c.list-generator.ensures.each) in
    let test = rw (c.deref.ensures.0, list) at c.generates.ensures in
    elim c.if-generates.branch [
      | then-generates w ↦
          tried_one five refl L _ _ _ l.number l.found _ _ w.found-is l.invariant (test.0 w.if-generates.true) list w.is_none.ensures
      | else-generates w ↦ rw w.found-is (tried_other five refl L _ _ _ l.number l.found l.invariant (λ z. let e = test.1 z in cc))
    ]

pub returns-clause-none : goal.returns-clause-none
returns-clause-none c = tried_all_none five refl _ _ _ _ _ _ c.loop-number.invariant (omega arith)

pub returns-clause-generates : goal.returns-clause-generates
returns-clause-generates c = tried_all_generates five refl _ _ _ _ _ _ c.loop-number.invariant (omega arith)

pub returns-clause-only : goal.returns-clause-only
returns-clause-only c = tried_all_only five refl _ _ _ _ _ _ c.loop-number.invariant (omega arith)
