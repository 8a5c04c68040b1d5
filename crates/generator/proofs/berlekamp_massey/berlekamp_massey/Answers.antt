use Rattle.std.proofs.Common.{◌≡◌, ◌<◌, length, add-one, arith}
use Rattle.generator.proofs.Sound.{start, passes, steps, found_short, found_long}
use Rattle.generator.proofs.berlekamp_massey.berlekamp_massey.Goals as goal
use Rattle.generator.proofs.berlekamp_massey.berlekamp_massey.Goals.{then-discrepancy-ne0, else-discrepancy-ne0}

pub loop-k-init : goal.loop-k-init
loop-k-init g c =
    let new = c.new-state.ensures in
    start g.met.F.Field.lawful c.args.stretch.now c.new-state.result new.generator new.helper new.inverse

pub loop-k-preserved : goal.loop-k-preserved
loop-k-preserved g c =
    let L = g.met.F.Field.lawful in
    let stretch = c.args.stretch.now in
    let k = c.loop-k.k in
    let s = c.loop-k.state in
    let h = c.loop-k.invariant in
    let more : k < length stretch = omega arith in
    let d = c.discrepancy-discrepancy.result in
    let d_is = c.discrepancy-discrepancy.ensures in
    elim c.if-discrepancy-ne0.branch [
      | then-discrepancy-ne0 w ↦
          rw (add-one, w.state-is) (steps L stretch k s h more d d_is w.if-discrepancy-ne0.true w.step.new.self w.step.ensures)
      | else-discrepancy-ne0 w ↦ rw (add-one, w.state-is) (passes L stretch k s h more d d_is w.if-discrepancy-ne0.false)
    ]

pub returns-clause-short : goal.returns-clause-short
returns-clause-short g c =
    let all : c.loop-k.k ≡ length c.args.stretch.now = omega arith in
    found_short g.met.F.Field.lawful c.args.stretch.now c.loop-k.k c.loop-k.state c.loop-k.invariant all

pub returns-clause-long : goal.returns-clause-long
returns-clause-long g c =
    let all : c.loop-k.k ≡ length c.args.stretch.now = omega arith in
    found_long g.met.F.Field.lawful c.args.stretch.now c.loop-k.k c.loop-k.state c.loop-k.invariant all
