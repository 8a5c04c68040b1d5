use Rattle.std.proofs.Common.{ap, arith, rules, tests}
use Rattle.std.specs.Slice.Iter.{windows_size}
use Rattle.trial.proofs.Windows.{zeros_all}
use Rattle.trial.proofs.exhaustion.generates.Goals as goal

pub returns : goal.returns
returns g c =
    let w = c.all.ensures.runs in
    let windows = rw (w.1, c.windows.ensures.size, c.windows.ensures.rest) at (c.windows.ensures.runs w.0 w.0.seen (omega (arith, ap windows_size w.1))) in
    zeros_all w.0 _ _ g.F.Field.arithmetic c.args.generator.now c.args.stretch.now (λ x r f' k. search (rules, tests)) windows c.all.result w.2
