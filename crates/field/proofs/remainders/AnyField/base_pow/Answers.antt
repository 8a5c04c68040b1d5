use Rattle.std.proofs.Common.{◌≡◌, ℕ, suc, ◌+◌, ◌-◌, ◌*◌, ◌/◌, ◌%◌, ◌^◌, ◌<◌, ◌≤◌, length, get_or, sym, ap, ◌∙◌, mod-lt, pow-suc, div-add-mod', add-one, arith}
use Rattle.field.specs.Field.{raised}
use Rattle.field.specs.Prime.{product_mod}
use Rattle.field.specs.Powers.{Products, one_left, power_one, power_code, power_add, power_cycle, turn_even, turn_odd}
use Rattle.field.proofs.Derived.{products}
use Rattle.field.proofs.remainders.AnyField.base_pow.Goals as goal
use Rattle.field.proofs.remainders.AnyField.base_pow.Goals.{then-left-eq1, else-left-eq1}

module _ {q : ℕ} {times : ℕ → ℕ → ℕ} (P : Products q times) (base : ℕ) where
  next_square : (i : ℕ) → raised times base (2 ^ (i + 1)) ≡ times (raised times base (2 ^ i)) (raised times base (2 ^ i))
  next_square i =
      let e : 2 ^ i + 2 ^ i ≡ 2 ^ (i + 1) = rw add-one (omega (arith, pow-suc 2 i)) in
      ap (raised times base) (sym e) ∙ power_add P base (2 ^ i) (2 ^ i)

  -- an exponent counts as its remainder by the order
  power_mod : (order n : ℕ) → raised times base order ≡ 1 → raised times base (n % order) ≡ raised times base n
  power_mod order n cycle =
      let rest = raised times base (n % order) in
      sym (ap (raised times base) (sym (div-add-mod' n order)) ∙ power_add P base (n / order * order) (n % order)
      ∙ ap (λ x. times x rest) (power_cycle P base order (n / order) cycle) ∙ one_left P rest (power_code P base (n % order)))

halved : (k i n : ℕ) → i < k → n < 2 ^ (k - i) → n / 2 < 2 ^ (k - (i + 1))
halved k i n h below =
    let e : k - i ≡ suc (k - (i + 1)) = omega arith in
    let below' : n < 2 ^ suc (k - (i + 1)) = rw e at below in
    omega (arith, pow-suc 2 (k - (i + 1)))

pub loop-square-init : goal.loop-square-init
loop-square-init g c =
    let prime = g.met.P.FermatPrime.lawful in
    let L = prime.laws in
    let base = g.P.FermatPrime.BASE in
    let times = product_mod g.P.FermatPrime.SIZE in
    let n = c.args.exponent % (g.P.FermatPrime.SIZE - 1) in
    let k = length g.P.FermatPrime.squares in
    let all : k - 0 ≡ k = omega arith in
    let order : 2 ^ k ≡ g.P.FermatPrime.SIZE - 1 = omega (arith, prime.size_is) in
    rw c.order.ensures (
      L.times_one (raised times (raised times base 1) n) (power_code (products L) (raised times base 1) n)
          ∙ ap (λ x. raised times x n) (power_one (products L) base L.base_code),
      L.one_code,
      rw (all, order) (mod-lt c.args.exponent (omega (arith, L.one_code))),
    )

pub loop-square-preserved : goal.loop-square-preserved
loop-square-preserved g c =
    let prime = g.met.P.FermatPrime.lawful in
    let P = products prime.laws in
    let l = c.loop-square in
    let i = l.square-index in
    let base = g.P.FermatPrime.BASE in
    let times = product_mod g.P.FermatPrime.SIZE in
    let x = raised times base (2 ^ i) in
    let squares = c.squares-square-items.ensures in
    let inside : i < length g.P.FermatPrime.squares = rw squares at c.loop-square-test.true in
    let less = halved (length g.P.FermatPrime.squares) i l.left inside l.invariant.2 in
    elim c.if-left-eq1.branch [
      | then-left-eq1 w ↦
          let entry : get_or c.squares-square-items.result.now i 0 ≡ x = ap (λ xs. get_or xs i 0) squares ∙ prime.repeated i inside in
          rw (next_square P base i, w.power-is ∙ w.mul-power.ensures ∙ ap (λ y. times y l.power) entry) (
            turn_odd P l.power x l.left w.if-left-eq1.true ∙ l.invariant.0,
            P.code x l.power,
            less,
          )
      | else-left-eq1 w ↦
          rw (next_square P base i, w.power-is) (turn_even P l.power x l.left w.if-left-eq1.false ∙ l.invariant.0, l.invariant.1, less)
    ]

pub returns : goal.returns
unfolding raised
returns g c =
    let prime = g.met.P.FermatPrime.lawful in
    let P = products prime.laws in
    let l = c.loop-square in
    let k = length g.P.FermatPrime.squares in
    let times = product_mod g.P.FermatPrime.SIZE in
    let past : k ≤ l.square-index = rw c.squares-square-items.ensures at c.loop-square-test.false in
    let end : k - l.square-index ≡ 0 = omega arith in
    let below : l.left < 2 ^ 0 = rw end at l.invariant.2 in
    let none : l.left ≡ 0 = omega arith in
    sym (one_left P l.power l.invariant.1)
    ∙ ap (λ n. times (raised times (raised times g.P.FermatPrime.BASE (2 ^ l.square-index)) n) l.power) (sym none)
    ∙ l.invariant.0 ∙ power_mod P g.P.FermatPrime.BASE (g.P.FermatPrime.SIZE - 1) c.args.exponent prime.laws.base_order
