use Rattle.std.proofs.Common.{◌≡◌, suc, ◌+◌, ◌-◌, ◌*◌, ◌/◌, ◌%◌, sym, ap, ◌∙◌, arith}
use lib.Bits.{bit_xor, xor_zero_r, xor_assoc}
use Rattle.field.specs.Polynomials.{interleaved, interleaved_is, stepped, stepped_code}
use Rattle.field.proofs.binary_field.product.Goals as goal

pub loop-i-init : goal.loop-i-init
loop-i-init c =
    let w = c.args.bits in
    let m = c.args.modulus in
    let all : w - 0 ≡ w = omega arith in (
      c.requires.reduced,
      ap (λ d. interleaved (w - 1) m d c.args.a c.args.b) all
          ∙ interleaved_is w (w - 1) m (omega arith) c.requires.degree c.args.a c.args.b c.requires.reduced,
    )

pub loop-i-preserved : goal.loop-i-preserved
unfolding interleaved
loop-i-preserved c =
    let w = c.args.bits in
    let k = w - 1 in
    let m = c.args.modulus in
    let l = c.loop-i in
    let n = w - (l._i + 1) in
    let more : w - l._i ≡ suc n = omega arith in (
      stepped_code w k m (omega arith) c.requires.degree l.shifted l.invariant.0,
      xor_assoc l.sum (l.left % 2 * l.shifted) (interleaved k m n (stepped k m l.shifted) (l.left / 2))
          ∙ ap (λ d. bit_xor l.sum (interleaved k m d l.shifted l.left)) (sym more) ∙ l.invariant.1,
    )

pub returns : goal.returns
unfolding interleaved
returns c =
    let w = c.args.bits in
    let l = c.loop-i in
    let none : w - l._i ≡ 0 = omega arith in
    sym (xor_zero_r l.sum) ∙ ap (λ d. bit_xor l.sum (interleaved (w - 1) c.args.modulus d l.shifted l.left)) (sym none) ∙ l.invariant.1
