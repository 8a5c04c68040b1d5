use Rattle.std.proofs.Common.{◌-◌, ◌%◌, ◌<◌, sym, ap, ◌∙◌, arith}
use Rattle.field.specs.Field.{power}
use Rattle.field.proofs.Derived.{products, remainder_code}
use Rattle.field.proofs.Inverses.{inverse_power}
use Rattle.field.specs.Powers.{power_remainder}
use Rattle.field.proofs.Field.inv.Goals as goal

pub returns : goal.returns
returns g c =
    let A = g.Self.Field.arithmetic in
    let L = g.met.Self.Field.lawful in
    let a = c.args.a in
    let other = rw c.size-size.ensures at c.if-a-size-eq0.false in
    let some : 0 < a % A.size = omega arith in
    let exponent = c.inverse_exponent.ensures ∙ ap (λ n. n - 2) c.size-size.ensures in
    c.pow.ensures ∙ ap (power A a) exponent ∙ power_remainder (products L) a (A.size - 2)
    ∙ sym (L.invert_remainder a ∙ inverse_power L (a % A.size) some (remainder_code L a))
