-- The order of a base: how it is shown, and what follows where the powers are as many as the codes but 0.
use Rattle.std.specs.Prelude.{◌≡◌, ℕ, zero, suc, ◌+◌, ◌-◌, ◌*◌, ◌/◌, ◌%◌, ◌^◌, ◌<◌, ◌≤◌, Bool, ◌&&◌, T, ◌≢◌, List, ◌==◌, nat_lt, slice_index}
use Rattle.std.proofs.Common.{⊎_elim, ◌∙◌, ap₂, not-suc-le-zero, zero-add, add-suc, suc-add, pow-suc, mul_assoc, eqb→eq, ltb→lt}
use Rattle.std.proofs.Math.Path.{sym, ap, subst}
use Rattle.std.proofs.Math.Nat.{mul_comm}
use native.Mathlib.Omega.{arith}
use Rattle.field.specs.Field.{raised}
use Rattle.field.specs.Computed.{all, all_at, first_passes, second_passes}
use Rattle.field.specs.Pigeonhole.{onto}
use Rattle.field.specs.Powers.{Products, power_code, power_one, power_two, power_add, power_power, power_cycle}
use Rattle.std.proofs.lemmas.Bool.{cases_lt, cases_order}

-- ω^M is 1, and no power before it is but the 0th
pub record Order (times : ℕ → ℕ → ℕ) (ω M : ℕ) : Type 0 where
  pub cycle : raised times ω M ≡ 1
  pub before : (d : ℕ) → 0 < d → d < M → raised times ω d ≢ 1

-- ---- by a walk through all the powers

-- a, next a and on, n of them, are above 1, and the one after them is 1
abbrev pub walk : (ℕ → ℕ) → ℕ → ℕ → Bool
walk next zero a = a == 1
walk next (suc n) a = nat_lt 1 a && walk next n (next a)

module _ {q : ℕ} {times : ℕ → ℕ → ℕ} (P : Products q times) (ω : ℕ) (code : ω < q) (next : ℕ → ℕ)
    (is : (a : ℕ) → a < q → next a ≡ times ω a) where
  step : (n j : ℕ) → T (walk next (suc n) (raised times ω j)) → T (walk next n (raised times ω (suc j)))
  unfolding raised
  step n j t =
      let x = raised times ω j in
      subst (λ (a : ℕ). T (walk next n a)) (is x (power_code P ω j)) (second_passes (nat_lt 1 x) (walk next n (next x)) t)

  walk_end : (n j : ℕ) → T (walk next n (raised times ω j)) → raised times ω (n + j) ≡ 1
  walk_end zero j t = rw zero-add (eqb→eq (raised times ω j) 1 t)
  walk_end (suc n) j t = rw suc-add (rw add-suc at (walk_end n (suc j) (step n j t)))

  walk_above : (n j i : ℕ) → T (walk next n (raised times ω j)) → i < n → 1 < raised times ω (i + j)
  walk_above zero j i t h = absurd (not-suc-le-zero h)
  walk_above (suc n) j zero t h =
      let x = raised times ω j in
      rw zero-add (ltb→lt 1 x (first_passes (nat_lt 1 x) (walk next n (next x)) t))
  walk_above (suc n) j (suc i) t h = rw suc-add (rw add-suc at (walk_above n (suc j) i (step n j t) (omega arith)))

  pub walked : (M : ℕ) → 0 < M → T (walk next (M - 1) ω) → Order times ω M
  walked M some passes =
      let t : T (walk next (M - 1) (raised times ω 1)) = rw (power_one P ω code) passes in
      record {
        cycle = let e : M - 1 + 1 ≡ M = omega arith in ap (raised times ω) (sym e) ∙ walk_end (M - 1) 1 t;
        before = λ d h k one.
            let e : d - 1 + 1 ≡ d = omega arith in
            let above : 1 < raised times ω d = subst (λ (x : ℕ). 1 < raised times ω x) e (walk_above (M - 1) 1 (d - 1) t (omega arith)) in
            omega arith;
      }

-- ---- by the repeated squares, where M is a power of two

-- a number below 2^(n + 1) divides an odd multiple of 2^n
odd_multiple : (n d : ℕ) → 0 < d → d < 2 ^ suc n → (c : ℕ) × (o : ℕ) × (c * d ≡ suc (o * 2) * 2 ^ n)
odd_multiple zero d h k = let e : d ≡ 1 = omega arith in (1, 0, ap (λ (x : ℕ). 1 * x) e)
odd_multiple (suc n) d h k =
    ⊎_elim (λ (even : d % 2 < 1).
    let half : d / 2 * 2 ≡ d = omega arith in
    let below : d / 2 < 2 ^ suc n = omega (arith, pow-suc 2 (suc n)) in
    let s = odd_multiple n (d / 2) (omega arith) below in (
      s.0,
      s.1,
      ap (λ (x : ℕ). s.0 * x) (sym half) ∙ sym (mul_assoc s.0 (d / 2) 2) ∙ ap (λ (x : ℕ). x * 2) s.2
          ∙ mul_assoc (suc (s.1 * 2)) (2 ^ n) 2 ∙ ap (λ (x : ℕ). suc (s.1 * 2) * x) (sym (pow-suc 2 n)),
    ))
    (λ odd. let e : d ≡ suc (d / 2 * 2) = omega arith in (2 ^ suc n, d / 2, mul_comm (2 ^ suc n) d ∙ ap (λ (x : ℕ). x * 2 ^ suc n) e))
    (cases_lt (d % 2) 1)

-- each of the entries 1 to n of a table is the square of the one before
abbrev pub squares_test : (ℕ → ℕ → ℕ) → List ℕ → ℕ → Bool
squares_test times xs n = all (λ i. slice_index xs (suc i) == times (slice_index xs i) (slice_index xs i)) n

module _ {q : ℕ} {times : ℕ → ℕ → ℕ} (P : Products q times) (ω : ℕ) (code : ω < q) (xs : List ℕ) (start : slice_index xs 0 ≡ ω) (n : ℕ)
    (passes : T (squares_test times xs n)) where
  pub square_power : (i : ℕ) → i ≤ n → slice_index xs i ≡ raised times ω (2 ^ i)
  square_power zero h = start ∙ sym (power_one P ω code)
  square_power (suc i) h =
      let x = slice_index xs i in
      let ih : x ≡ raised times ω (2 ^ i) = square_power i (omega arith) in
      let e : 2 ^ i + 2 ^ i ≡ 2 ^ suc i = omega (arith, pow-suc 2 i) in
      let test = all_at (λ i. slice_index xs (suc i) == times (slice_index xs i) (slice_index xs i)) n passes i (omega arith) in
      eqb→eq (slice_index xs (suc i)) (times x x) test ∙ ap₂ times ih ih ∙ sym (power_add P ω (2 ^ i) (2 ^ i)) ∙ ap (raised times ω) e

  -- the last entry z is not 1, and its square is
  pub squared : (z : ℕ) → slice_index xs n ≡ z → z ≢ 1 → times z z ≡ 1 → Order times ω (2 ^ suc n)
  unfolding raised
  squared z last other square =
      let top : raised times ω (2 ^ n) ≡ z = sym (square_power n (omega arith)) ∙ last in
      let hz : z < q = subst (λ (x : ℕ). x < q) top (power_code P ω (2 ^ n)) in
      let two : raised times z 2 ≡ 1 = power_two P z ∙ square in
      let powers : (k : ℕ) → raised times z k ≡ raised times ω (k * 2 ^ n) =
      λ k. ap (λ (x : ℕ). raised times x k) (sym top) ∙ power_power P ω (2 ^ n) k in
      record {
        cycle = ap (raised times ω) (pow-suc 2 n ∙ mul_comm (2 ^ n) 2) ∙ sym (powers 2) ∙ two;
        before = λ d h k one.
            let s = odd_multiple n d h k in
            other (sym (P.one z hz) ∙ ap (times z) (sym (power_cycle P z 2 s.1 two)) ∙ powers (suc (s.1 * 2))
            ∙ ap (raised times ω) (sym s.2) ∙ power_cycle P ω d s.0 one);
      }

-- ---- what follows, where the codes are 0 to M

module _ {M : ℕ} {times : ℕ → ℕ → ℕ} (P : Products (suc M) times) (some : 0 < M) (ω : ℕ) (O : Order times ω M) where
  back : (i : ℕ) → i ≤ M → times (raised times ω i) (raised times ω (M - i)) ≡ 1
  back i h =
      let e : i + (M - i) ≡ M = omega arith in
      sym (power_add P ω i (M - i)) ∙ ap (raised times ω) e ∙ O.cycle

  pub nonzero : (i : ℕ) → i < M → 0 < raised times ω i
  nonzero i h =
      ⊎_elim (λ (below : raised times ω i < 1).
      let z : raised times ω i ≡ 0 = omega arith in
      let y = raised times ω (M - i) in
      let absurdity : ◌≡◌ {A = ℕ} 0 1 = sym (P.zero y) ∙ P.comm y 0 ∙ ap (λ (x : ℕ). times x y) (sym z) ∙ back i (omega arith) in
      omega arith) (λ above. above) (cases_lt (raised times ω i) 1)

  apart : (i j : ℕ) → i < j → j < M → raised times ω i ≢ raised times ω j
  apart i j h k e =
      let up : i + (M - j) ≡ M - (j - i) = omega arith in
      O.before (M - (j - i)) (omega arith) (omega arith)
      (ap (raised times ω) (sym up) ∙ power_add P ω i (M - j) ∙ ap (λ (x : ℕ). times x (raised times ω (M - j))) e ∙ back j (omega arith))

  pub distinct : (i j : ℕ) → i < M → j < M → raised times ω i ≡ raised times ω j → i ≡ j
  distinct i j hi hj e =
      ⊎_elim (λ s. s) (⊎_elim (λ l. absurd (apart i j l hj e)) (λ g. absurd (apart j i g hi (sym e)))) (cases_order i j)

  -- each code but 0 is a power of the base
  logarithm : (a : ℕ) → 0 < a → a < suc M → (i : ℕ) × (i < M) × (raised times ω i ≡ a)
  logarithm a pos h =
      let f : ℕ → ℕ = λ i. raised times ω i - 1 in
      let low : (i : ℕ) → i < M → f i < M =
      λ i hi. let l : raised times ω i < suc M = power_code P ω i in let z = nonzero i hi in omega arith in
      let different : (i j : ℕ) → i < M → j < M → f i ≡ f j → i ≡ j =
      λ i j hi hj e.
      let zi = nonzero i hi in
      let zj = nonzero j hj in
      let same : raised times ω i ≡ raised times ω j = omega arith in distinct i j hi hj same in
      let s = onto M f low different (a - 1) (omega arith) in
      (s.0, s.1, let z = nonzero s.0 s.1 in let e : raised times ω s.0 - 1 ≡ a - 1 = s.2 in omega arith)

  pub inverse : (a : ℕ) → 0 < a → a < suc M → times a (raised times a (M - 1)) ≡ 1
  unfolding raised
  inverse a pos h =
      let s = logarithm a pos h in
      let e : suc (M - 1) ≡ M = omega arith in
      ap (raised times a) e ∙ ap (λ (x : ℕ). raised times x M) (sym s.2) ∙ power_power P ω s.0 M
      ∙ ap (raised times ω) (mul_comm M s.0) ∙ power_cycle P ω M s.0 O.cycle
