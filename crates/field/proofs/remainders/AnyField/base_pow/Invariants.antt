use Rattle.std.proofs.Common.{◌≡◌, ◌-◌, ◌%◌, ◌^◌, ◌<◌, length}
use Rattle.field.specs.Field.{raised}
use Rattle.field.specs.Prime.{product_mod}
use Rattle.field.proofs.remainders.AnyField.base_pow.Given as goal

abbrev pub invariant-loop-square : goal.invariant-loop-square
invariant-loop-square g l =
    let P = g.P.FermatPrime in
    let times = product_mod P.SIZE in
    (times (raised times (raised times P.BASE (2 ^ l.square-index)) l.left) l.power ≡ raised times P.BASE (l.exponent % (P.SIZE - 1)))
    × (l.power < P.SIZE) × (l.left < 2 ^ (length P.squares - l.square-index))
