use Rattle.std.proofs.Common.{◌≡◌, ◌-◌, drop, sym, refl, arith}
use Rattle.generator.proofs.Horner.{horner_end, horner_more, sum_horner}
use Rattle.generator.proofs.sums.total.Goals as goal

pub loop-block-init : goal.loop-block-init
loop-block-init g c = sym (horner_end _ _ _ c.len-block.result c.len-block.ensures)

pub loop-block-preserved : goal.loop-block-preserved
loop-block-preserved g c =
    let l = c.loop-block in
    let more = horner_more g.F.Field.arithmetic c.base_pow-node.result (g.S.Readable.marks c.args.sheet.now) (l.block - 1) l.block (omega arith) (omega arith) in
    cc

pub returns : goal.returns
returns g c =
    let marks = g.S.Readable.marks c.args.sheet.now in
    let none : c.loop-block.block ≡ 0 = omega arith in
    let all : drop 0 marks ≡ marks = refl in
    let sum = sum_horner g.met.F.Field.lawful c.args.place marks in
    cc
