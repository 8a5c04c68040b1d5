-- Powers under a product of codes.
use Rattle.std.specs.Prelude.{◌≡◌, ℕ, zero, suc, ◌+◌, ◌*◌, ◌/◌, ◌%◌, ◌<◌, ◌≢◌}
use Rattle.std.proofs.Math.Path.{refl, sym, ap, ap₂}
use Rattle.std.proofs.Common.{◌∙◌, zero-add, suc-add, zero-mul, suc-mul, add_comm, mod-eq_of_lt}
use Rattle.std.proofs.Math.Nat.{mod-lt}
use native.Mathlib.Omega.{arith}
use Rattle.field.specs.Field.{raised}

-- what powers need of a product that gives codes below q
pub record Products (q : ℕ) (times : ℕ → ℕ → ℕ) : Type 0 where
  pub one_code : 1 < q
  pub code : (a b : ℕ) → times a b < q
  pub remainder : (a b : ℕ) → times a b ≡ times (a % q) (b % q)
  pub assoc : (a b c : ℕ) → times (times a b) c ≡ times a (times b c)
  pub comm : (a b : ℕ) → times a b ≡ times b a
  pub one : (a : ℕ) → a < q → times a 1 ≡ a
  pub zero : (a : ℕ) → times a 0 ≡ 0

module _ {q : ℕ} {times : ℕ → ℕ → ℕ} (P : Products q times) where
  pub one_left : (a : ℕ) → a < q → times 1 a ≡ a
  one_left a h = P.comm 1 a ∙ P.one a h

  pub power_code : (x k : ℕ) → raised times x k < q
  unfolding raised
  power_code x zero = P.one_code
  power_code x (suc k) = P.code x (raised times x k)

  pub power_one : (x : ℕ) → x < q → raised times x 1 ≡ x
  unfolding raised
  power_one x h = P.one x h

  pub power_zero : (k : ℕ) → raised times 0 (suc k) ≡ 0
  unfolding raised
  power_zero k = P.comm 0 (raised times 0 k) ∙ P.zero (raised times 0 k)

  pub power_add : (x i j : ℕ) → raised times x (i + j) ≡ times (raised times x i) (raised times x j)
  unfolding raised
  power_add x zero j = ap (raised times x) (zero-add j) ∙ sym (one_left (raised times x j) (power_code x j))
  power_add x (suc i) j =
      ap (raised times x) (suc-add i j) ∙ ap (times x) (power_add x i j) ∙ sym (P.assoc x (raised times x i) (raised times x j))

  pub power_power : (x i n : ℕ) → raised times (raised times x i) n ≡ raised times x (n * i)
  unfolding raised
  power_power x i zero = sym (ap (raised times x) (zero-mul i))
  power_power x i (suc n) =
      ap (times (raised times x i)) (power_power x i n) ∙ sym (power_add x i (n * i)) ∙ ap (raised times x) (add_comm i (n * i) ∙ sym (suc-mul n i))

  -- where x^k is 1, so is each power of it
  pub power_cycle : (x k n : ℕ) → raised times x k ≡ 1 → raised times x (n * k) ≡ 1
  unfolding raised
  power_cycle x k zero e = ap (raised times x) (zero-mul k)
  power_cycle x k (suc n) e =
      ap (raised times x) (suc-mul n k) ∙ power_add x (n * k) k ∙ ap₂ times (power_cycle x k n e) e ∙ P.one 1 P.one_code

  -- a number and its remainder have the same powers
  pub power_remainder : (x k : ℕ) → raised times x k ≡ raised times (x % q) k
  unfolding raised
  power_remainder x zero = refl
  power_remainder x (suc k) =
      let y = raised times x k in
      P.remainder x y ∙ ap (times (x % q)) (mod-eq_of_lt (power_code x k)) ∙ ap (times (x % q)) (power_remainder x k)

  pub power_two : (x : ℕ) → raised times x 2 ≡ times x x
  unfolding raised
  power_two x =
      let y = x % q in
      let hy : y < q = mod-lt x (let h = P.one_code in omega arith) in
      power_remainder x 2 ∙ ap (times y) (P.one y hy) ∙ sym (P.remainder x x)

  power_square : (x n : ℕ) → raised times (times x x) n ≡ raised times x (n * 2)
  power_square x n = ap (λ (y : ℕ). raised times y n) (sym (power_two x)) ∙ power_power x 2 n

  -- a turn of the loop by squares: r is what is done, x the square, n what is left of the exponent
  pub turn_even : (r x n : ℕ) → n % 2 ≢ 1 → times (raised times (times x x) (n / 2)) r ≡ times (raised times x n) r
  turn_even r x n even =
      let e : n / 2 * 2 ≡ n = omega arith in
      ap (λ (y : ℕ). times y r) (power_square x (n / 2) ∙ ap (raised times x) e)

  pub turn_odd : (r x n : ℕ) → n % 2 ≡ 1 → times (raised times (times x x) (n / 2)) (times x r) ≡ times (raised times x n) r
  unfolding raised
  turn_odd r x n odd =
      let y = raised times (times x x) (n / 2) in
      let e : suc (n / 2 * 2) ≡ n = omega arith in
      sym (P.assoc y x r) ∙ ap (λ (z : ℕ). times z r) (P.comm y x ∙ ap (times x) (power_square x (n / 2)) ∙ ap (raised times x) e)
