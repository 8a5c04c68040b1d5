use Rattle.std.proofs.Common.{◌≡◌, sym, ap, ◌∙◌, arith}
use Rattle.field.specs.Field.{power, raised}
use Rattle.field.proofs.Derived.{products}
use Rattle.field.specs.Powers.{one_left, power_code, turn_even, turn_odd}
use Rattle.field.proofs.Field.pow.Goals as goal
use Rattle.field.proofs.Field.pow.Goals.{then-left-eq1, else-left-eq1}

pub loop-left-init : goal.loop-left-init
loop-left-init g c =
    let A = g.Self.Field.arithmetic in
    let L = g.met.Self.Field.lawful in
    (L.times_one (power A c.args.a c.args.exponent) (power_code (products L) c.args.a c.args.exponent), L.one_code)

pub loop-left-preserved : goal.loop-left-preserved
loop-left-preserved g c =
    let L = g.met.Self.Field.lawful in
    let l = c.loop-left in
    elim c.if-left-eq1.branch [
      | then-left-eq1 w ↦
          rw (c.mul-square.ensures, w.power-is, w.mul-power.ensures)
          (turn_odd (products L) l.power l.square l.left w.if-left-eq1.true ∙ l.invariant.0, L.times_code l.square l.power)
      | else-left-eq1 w ↦
          rw (c.mul-square.ensures, w.power-is)
          (turn_even (products L) l.power l.square l.left w.if-left-eq1.false ∙ l.invariant.0, l.invariant.1)
    ]

pub returns : goal.returns
unfolding raised
returns g c =
    let A = g.Self.Field.arithmetic in
    let l = c.loop-left in
    let none : l.left ≡ 0 = omega arith in
    sym (one_left (products g.met.Self.Field.lawful) l.power l.invariant.1)
    ∙ ap (λ n. A.times (power A l.square n) l.power) (sym none) ∙ l.invariant.0
