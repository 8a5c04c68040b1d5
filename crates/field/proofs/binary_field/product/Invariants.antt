use Rattle.std.proofs.Common.{◌≡◌, ◌-◌, ◌^◌, ◌<◌}
use lib.Bits.{bit_xor}
use Rattle.field.specs.Binary.{reduced_product}
use Rattle.field.specs.Polynomials.{interleaved}
use Rattle.field.proofs.binary_field.product.Given as goal

abbrev pub invariant-loop-i : goal.invariant-loop-i
invariant-loop-i l =
    let left = interleaved (l.bits - 1) l.modulus (l.bits - l._i) l.shifted l.left in
    (l.shifted < 2 ^ l.bits) × (bit_xor l.sum left ≡ reduced_product l.bits l.modulus l.a l.b)
