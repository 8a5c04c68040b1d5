-- Polynomials with coefficients 0 and 1: the product that reduces at each step is the product, reduced.
use Rattle.std.specs.Prelude.{◌≡◌, ℕ, zero, suc, ◌+◌, ◌*◌, ◌/◌, ◌%◌, ◌^◌, ◌<◌, ◌≤◌, ◌⊎◌, bit_xor, refl}
use Rattle.std.proofs.Common.{inl, inr, ◌∙◌, mod-lt, zero-mul, one-mul, add_comm, mul_comm, mul-one, pow-suc, div-lt_iff_lt-mul, mul-div_cancel, shr-shr}
use Rattle.std.proofs.Math.Logic.{⊎_elim}
use Rattle.std.proofs.Math.Path.{sym, ap, ap₂}
use Rattle.std.proofs.Math.Nat.{zero-div, mul_assoc, div-eq_of_lt}
use native.Mathlib.Omega.{arith}
use Rattle.std.specs.Int.Bits.{xor_zero_r, xor_self, xor_lt}
use Rattle.std.proofs.lemmas.Nat.{xor_shr, shl-shr}
use Rattle.std.proofs.Math.Pow.{pow_pos, pow_mono, shl_lt}
use Rattle.field.specs.Binary.{product, reduced, reduced_product}
use Rattle.field.specs.Linear.{Linear, Linear₂, at_zero, same_linear, zero_linear, after_linear, sum_linear, double_linear, shift_linear, low_times_linear, times_linear}
use Rattle.std.proofs.lemmas.Bool.{cases_lt}

-- ---- products and remainders are linear

product_left : (n b : ℕ) → Linear (λ a. product n a b)
unfolding product
product_left zero b = zero_linear
product_left (suc n) b =
    sum_linear (λ a. b % 2 * a) (λ a. product n (a * 2) (b / 2)) (times_linear (b % 2) (mod-lt b (omega arith)))
    (after_linear (λ a. a * 2) (λ a. product n a (b / 2)) double_linear (product_left n (b / 2)))

product_right : (n a : ℕ) → Linear (product n a)
unfolding product
product_right zero a = zero_linear
product_right (suc n) a =
    sum_linear (λ b. b % 2 * a) (λ b. product n (a * 2) (b / 2)) (low_times_linear a)
    (after_linear (λ b. b / 2) (product n (a * 2)) (shift_linear 1) (product_right n (a * 2)))

reduced_linear : (w m n : ℕ) → Linear (reduced w m n)
unfolding reduced
reduced_linear w m zero = same_linear
reduced_linear w m (suc n) =
    let taken : ℕ → ℕ = λ a. a / 2 ^ (w + n) % 2 * (m * 2 ^ n) in
    after_linear (λ a. bit_xor a (taken a)) (reduced w m n)
    (sum_linear (λ a. a) taken same_linear
    (after_linear (λ a. a / 2 ^ (w + n)) (λ a. a % 2 * (m * 2 ^ n)) (shift_linear (w + n)) (low_times_linear (m * 2 ^ n))))
    (reduced_linear w m n)

pub reduced_product_linear : (w m : ℕ) → Linear₂ (reduced_product w m)
reduced_product_linear w m = (
  (λ b. after_linear (λ a. product w a b) (reduced w m w) (product_left w b) (reduced_linear w m w)),
  (λ a. after_linear (product w a) (reduced w m w) (product_right w a) (reduced_linear w m w)),
)

-- ---- remainders by m

bit_cases : (b : ℕ) → (b % 2 ≡ 0) ⊎ (b % 2 ≡ 1)
bit_cases b = ⊎_elim (λ l. inl (omega arith)) (λ g. inr (omega arith)) (cases_lt (b % 2) 1)

pub bit_times_lt : (n a b : ℕ) → a < n → b % 2 * a < n
bit_times_lt n a b h =
    ⊎_elim (λ (e : b % 2 ≡ 0). rw (e, zero-mul) (omega arith)) (λ (e : b % 2 ≡ 1). rw (e, one-mul) h) (bit_cases b)

-- where no term is taken off, or where one is
none_taken : (a m d : ℕ) → a < d → bit_xor a (a / d % 2 * m) ≡ a
none_taken a m d h = let z : a / d ≡ 0 = div-eq_of_lt h in rw (z, zero-mul, xor_zero_r)

one_taken : (a d : ℕ) → a / d ≡ 1 → bit_xor a (a / d % 2 * a) ≡ 0
one_taken a d e = rw (e, one-mul) (xor_self a)

-- a polynomial of degree below w is its own remainder
reduced_small : (w m n a : ℕ) → a < 2 ^ w → reduced w m n a ≡ a
unfolding reduced
reduced_small w m zero a h = refl
reduced_small w m (suc n) a h =
    let below : a < 2 ^ (w + n) = omega (arith, pow_mono {i = w} {j = w + n} (omega arith)) in
    ap (reduced w m n) (none_taken a (m * 2 ^ n) (2 ^ (w + n)) below) ∙ reduced_small w m n a h

module _ (w m : ℕ) (degree : m / 2 ^ w ≡ 1) where
  modulus_lt : m < 2 ^ suc w
  modulus_lt =
      let two : m / 2 ^ w < 2 = omega arith in
      rw (pow-suc, mul_comm) ((div-lt_iff_lt-mul (pow_pos w)).0 two)

  -- the remainder of a multiple of m by a power of x is 0
  reduced_shifted : (n j : ℕ) → j < n → reduced w m n (m * 2 ^ j) ≡ 0
  unfolding reduced
  reduced_shifted (suc n) j h =
      ⊎_elim (λ (l : j < n).
      let small : m * 2 ^ j < 2 ^ (suc w + j) = shl_lt (suc w) j modulus_lt in
      let below : m * 2 ^ j < 2 ^ (w + n) = omega (arith, pow_mono {i = suc w + j} {j = w + n} (omega arith)) in
      ap (reduced w m n) (none_taken (m * 2 ^ j) (m * 2 ^ n) (2 ^ (w + n)) below) ∙ reduced_shifted n j l)
      (λ (g : n ≤ j).
      let e : j ≡ n = omega arith in
      let top : m * 2 ^ n / 2 ^ (w + n) ≡ 1 =
      ap (λ (x : ℕ). m * 2 ^ n / 2 ^ x) (add_comm w n) ∙ sym (shr-shr (m * 2 ^ n) n w) ∙ ap (λ (x : ℕ). x / 2 ^ w) (shl-shr m n) ∙ degree in
      rw e (ap (reduced w m n) (one_taken (m * 2 ^ n) (2 ^ (w + n)) top) ∙ at_zero (reduced w m n) (reduced_linear w m n)))
      (cases_lt j n)
  reduced_shifted zero j h = omega arith

  -- and so is that of any multiple
  reduced_multiple : (t n j b : ℕ) → j + n ≤ t → reduced w m t (product n (m * 2 ^ j) b) ≡ 0
  unfolding product
  reduced_multiple t zero j b h = at_zero (reduced w m t) (reduced_linear w m t)
  reduced_multiple t (suc n) j b h =
      let first : reduced w m t (b % 2 * (m * 2 ^ j)) ≡ 0 =
      ⊎_elim (λ (e : b % 2 ≡ 0). rw (e, zero-mul) (at_zero (reduced w m t) (reduced_linear w m t)))
      (λ (e : b % 2 ≡ 1). rw (e, one-mul) (reduced_shifted t j (omega arith))) (bit_cases b) in
      let up : m * 2 ^ j * 2 ≡ m * 2 ^ suc j = mul_assoc m (2 ^ j) 2 ∙ ap (λ (x : ℕ). m * x) (sym (pow-suc 2 j)) in
      reduced_linear w m t (b % 2 * (m * 2 ^ j)) (product n (m * 2 ^ j * 2) (b / 2))
      ∙ ap₂ bit_xor first (ap (λ (x : ℕ). reduced w m t (product n x (b / 2))) up ∙ reduced_multiple t n (suc j) (b / 2) (omega arith))

-- ---- the product that reduces at each step, by a modulus m of degree w = k + 1

-- x times a
abbrev pub stepped : ℕ → ℕ → ℕ → ℕ
stepped k m a = bit_xor (a * 2) (a / 2 ^ k % 2 * m)

-- a times the n lowest terms of b
unfoldable pub interleaved : ℕ → ℕ → ℕ → ℕ → ℕ → ℕ
interleaved k m zero a b = 0
interleaved k m (suc n) a b = bit_xor (b % 2 * a) (interleaved k m n (stepped k m a) (b / 2))

module _ (w k m : ℕ) (top : w ≡ suc k) (degree : m / 2 ^ w ≡ 1) where
  pub stepped_code : (a : ℕ) → a < 2 ^ w → stepped k m a < 2 ^ w
  stepped_code a ha =
      let t = a / 2 ^ k in
      let half : 2 ^ w ≡ 2 ^ k * 2 = ap (λ (x : ℕ). 2 ^ x) top ∙ pow-suc 2 k in
      let bit : t < 2 = (div-lt_iff_lt-mul (pow_pos k)).1 (omega arith) in
      let up : a * 2 / 2 ^ w ≡ t =
      ap (λ (x : ℕ). a * 2 / 2 ^ x) (let e : w ≡ 1 + k = omega arith in e) ∙ sym (shr-shr (a * 2) 1 k)
      ∙ ap (λ (x : ℕ). x / 2 ^ k) (mul-div_cancel a (omega arith)) in
      let off : t % 2 * m / 2 ^ w ≡ t =
      ⊎_elim (λ (l : t < 1). let z : t ≡ 0 = omega arith in rw (z, zero-mul, zero-div))
      (λ (g : 1 ≤ t). let o : t ≡ 1 = omega arith in rw (o, one-mul) degree) (cases_lt t 1) in
      let z : stepped k m a / 2 ^ w ≡ 0 = xor_shr (a * 2) (t % 2 * m) w ∙ ap₂ bit_xor up off ∙ xor_self t in
      let l : stepped k m a / 2 ^ w < 1 = omega arith in
      rw one-mul at ((div-lt_iff_lt-mul (pow_pos w)).0 l)

  interleaved_code : (n a b : ℕ) → a < 2 ^ w → interleaved k m n a b < 2 ^ w
  unfolding interleaved
  interleaved_code zero a b ha = pow_pos w
  interleaved_code (suc n) a b ha =
      xor_lt w (b % 2 * a) (interleaved k m n (stepped k m a) (b / 2)) (bit_times_lt (2 ^ w) a b ha)
      (interleaved_code n (stepped k m a) (b / 2) (stepped_code a ha))

  -- to step a factor takes a multiple of m off the product
  step_reduced : (t n a b : ℕ) → n ≤ t → reduced w m t (product n (stepped k m a) b) ≡ reduced w m t (product n (a * 2) b)
  step_reduced t n a b h =
      let bit = a / 2 ^ k % 2 in
      let red : ℕ → ℕ = λ x. reduced w m t (product n x b) in
      let red_linear : Linear red = after_linear (λ x. product n x b) (reduced w m t) (product_left n b) (reduced_linear w m t) in
      let gone : red (bit * m) ≡ 0 =
      ⊎_elim (λ (e : bit ≡ 0). rw (e, zero-mul) (at_zero red red_linear))
      (λ (e : bit ≡ 1). rw (e, one-mul) (rw mul-one at (reduced_multiple w m degree t n 0 b (omega arith)))) (bit_cases (a / 2 ^ k)) in
      red_linear (a * 2) (bit * m) ∙ ap (bit_xor (red (a * 2))) gone ∙ xor_zero_r (red (a * 2))

  interleaved_reduced : (t n a b : ℕ) → n ≤ t → a < 2 ^ w → interleaved k m n a b ≡ reduced w m t (product n a b)
  unfolding interleaved product
  interleaved_reduced t zero a b h ha = sym (at_zero (reduced w m t) (reduced_linear w m t))
  interleaved_reduced t (suc n) a b h ha =
      let first : b % 2 * a ≡ reduced w m t (b % 2 * a) = sym (reduced_small w m t (b % 2 * a) (bit_times_lt (2 ^ w) a b ha)) in
      let rest : interleaved k m n (stepped k m a) (b / 2) ≡ reduced w m t (product n (a * 2) (b / 2)) =
      interleaved_reduced t n (stepped k m a) (b / 2) (omega arith) (stepped_code a ha) ∙ step_reduced t n a (b / 2) (omega arith) in
      ap₂ bit_xor first rest ∙ sym (reduced_linear w m t (b % 2 * a) (product n (a * 2) (b / 2)))

  pub interleaved_is : (a b : ℕ) → a < 2 ^ w → interleaved k m w a b ≡ reduced_product w m a b
  interleaved_is a b ha = interleaved_reduced w w a b (omega arith) ha

  pub reduced_product_code : (a b : ℕ) → a < 2 ^ w → reduced_product w m a b < 2 ^ w
  reduced_product_code a b ha = rw (← interleaved_is a b ha) (interleaved_code w a b ha)
