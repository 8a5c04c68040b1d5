-- The laws of the fields of polynomials with coefficients 0 and 1, from three tests that antt computes at a degree and a modulus.
use Rattle.std.specs.Prelude.{◌≡◌, ℕ, zero, suc, ◌-◌, ◌/◌, ◌%◌, ◌^◌, ◌<◌, ◌≤◌, Bool, T, bit_xor, nat_eq}
use Rattle.std.proofs.Math.Path.{refl, sym, ap₂}
use Rattle.std.proofs.Common.{◌∙◌, ap, mod-eq_of_lt, mod-lt, one-mul, pow-suc, zero-mul, arith, eqb→eq, pow_pos, pow_mono}
use Rattle.std.proofs.Math.Nat.{mod-mod, zero-mod}
use Rattle.std.specs.Int.Bits.{xor_assoc, xor_self, xor_zero_r}
use Rattle.std.proofs.lemmas.Nat.{xor_comm, xor_lt}
use Rattle.field.specs.Binary.{binary, code_product, code_sum, polynomials, product, reduced, reduced_product}
use Rattle.field.specs.Field.{Laws}
use Rattle.field.specs.Computed.{all, all_at}
use Rattle.field.specs.Cyclic.{Sums, cyclic_laws}
use Rattle.field.specs.Linear.{at_zero, after_linear, same₂, same₃}
use Rattle.field.specs.Orders.{walk, walked}
use Rattle.field.specs.Polynomials.{stepped, interleaved, interleaved_is, reduced_product_code, reduced_product_linear}
use Rattle.field.specs.Powers.{Products}

-- a product's laws at the powers of two below 2^w, from which they follow everywhere
abbrev pub comm_test : ℕ → ℕ → Bool
comm_test w m =
    let mul = reduced_product w m in
    all (λ i. all (λ j. nat_eq (mul (2 ^ i) (2 ^ j)) (mul (2 ^ j) (2 ^ i))) w) w

abbrev pub assoc_test : ℕ → ℕ → Bool
assoc_test w m =
    let mul = reduced_product w m in
    all (λ i. all (λ j. all (λ l. nat_eq (mul (mul (2 ^ i) (2 ^ j)) (2 ^ l)) (mul (2 ^ i) (mul (2 ^ j) (2 ^ l)))) w) w) w

at₂ : (f g : ℕ → ℕ → ℕ) (n : ℕ) → T (all (λ i. all (λ j. nat_eq (f i j) (g i j)) n) n) → (i j : ℕ) → i < n → j < n → f i j ≡ g i j
at₂ f g n t i j hi hj =
    eqb→eq (f i j) (g i j) (all_at (λ j. nat_eq (f i j) (g i j)) n (all_at (λ i. all (λ j. nat_eq (f i j) (g i j)) n) n t i hi) j hj)

at₃ : (f g : ℕ → ℕ → ℕ → ℕ) (n : ℕ) → T (all (λ i. all (λ j. all (λ l. nat_eq (f i j l) (g i j l)) n) n) n)
    → (i j l : ℕ) → i < n → j < n → l < n → f i j l ≡ g i j l
at₃ f g n t i j l hi hj hl =
    at₂ (f i) (g i) n (all_at (λ i. all (λ j. all (λ l. nat_eq (f i j l) (g i j l)) n) n) n t i hi) j l hj hl

module _ (w m : ℕ) where
  commutes : T (comm_test w m) → (a b : ℕ) → a < 2 ^ w → b < 2 ^ w → reduced_product w m a b ≡ reduced_product w m b a
  commutes t =
      let lin = reduced_product_linear w m in
      same₂ w (reduced_product w m) (λ a b. reduced_product w m b a) lin (lin.1, lin.0)
      (at₂ (λ i j. reduced_product w m (2 ^ i) (2 ^ j)) (λ i j. reduced_product w m (2 ^ j) (2 ^ i)) w t)

  associates : T (assoc_test w m) → (a b c : ℕ) → a < 2 ^ w → b < 2 ^ w → c < 2 ^ w
      → reduced_product w m (reduced_product w m a b) c ≡ reduced_product w m a (reduced_product w m b c)
  associates t =
      let mul = reduced_product w m in
      let lin = reduced_product_linear w m in
      same₃ w (λ a b c. mul (mul a b) c) (λ a b c. mul a (mul b c)) (
        (λ c. (
          (λ b. after_linear (λ a. mul a b) (λ a. mul a c) (lin.0 b) (lin.0 c)),
          (λ a. after_linear (mul a) (λ a. mul a c) (lin.1 a) (lin.0 c)),
        )),
        (λ a b. lin.1 (mul a b)),
      ) (
        (λ c. ((λ b. lin.0 (mul b c)), (λ a. after_linear (λ b. mul b c) (mul a) (lin.0 c) (lin.1 a)))),
        (λ a b. after_linear (mul b) (mul a) (lin.1 b) (lin.1 a)),
      )
      (at₃ (λ i j l. mul (mul (2 ^ i) (2 ^ j)) (2 ^ l)) (λ i j l. mul (2 ^ i) (mul (2 ^ j) (2 ^ l))) w t)

times_zero : (k m n a : ℕ) → interleaved k m n a 0 ≡ 0
unfolding interleaved
times_zero k m zero a = refl
times_zero k m (suc n) a = ap₂ bit_xor (zero-mul a) (times_zero k m n (stepped k m a))

module _ (k m : ℕ) (degree : m / 2 ^ suc k ≡ 1) where
  times_one : (a : ℕ) → a < 2 ^ suc k → reduced_product (suc k) m a 1 ≡ a
  unfolding interleaved
  times_one a h =
      sym (interleaved_is (suc k) k m refl degree a 1 h) ∙ ap₂ bit_xor (one-mul a) (times_zero k m k (stepped k m a)) ∙ xor_zero_r a

  pub polynomial_products : T (comm_test (suc k) m) → T (assoc_test (suc k) m) → 0 < k → Products (2 ^ suc k) (code_product (suc k) m)
  polynomial_products comm assoc some =
      let w = suc k in
      let q = 2 ^ w in
      let code : (a : ℕ) → a % q < q = λ a. mod-lt a (pow_pos w) in
      let one : 1 < q = omega (arith, pow-suc 2 k, pow_pos k) in
      let below : (a b : ℕ) → code_product w m a b < q = λ a b. reduced_product_code w k m refl degree (a % q) (b % q) (code a) in
      let same : (a b : ℕ) → code_product w m a b % q ≡ code_product w m a b = λ a b. mod-eq_of_lt (below a b) in
      record {
        one_code = one;
        code = below;
        remainder = λ a b. ap₂ (reduced_product w m) (sym (mod-mod a q)) (sym (mod-mod b q));
        assoc = λ a b c.
            ap (λ (x : ℕ). reduced_product w m x (c % q)) (same a b) ∙ associates w m assoc (a % q) (b % q) (c % q) (code a) (code b) (code c)
            ∙ ap (reduced_product w m (a % q)) (sym (same b c));
        comm = λ a b. commutes w m comm (a % q) (b % q) (code a) (code b);
        one = λ a h. ap₂ (reduced_product w m) (mod-eq_of_lt h) (mod-eq_of_lt one) ∙ times_one a h;
        zero = λ a. ap (reduced_product w m (a % q)) (zero-mod q) ∙ at_zero (reduced_product w m (a % q)) ((reduced_product_linear w m).1 (a % q));
      }

-- a sum is a code
sum_remainder : (w a b : ℕ) → code_sum w a b % 2 ^ w ≡ code_sum w a b
sum_remainder w a b = mod-eq_of_lt (xor_lt w (a % 2 ^ w) (b % 2 ^ w) (mod-lt a (pow_pos w)) (mod-lt b (pow_pos w)))

sum_assoc : (w a b c : ℕ) → code_sum w (code_sum w a b) c ≡ code_sum w a (code_sum w b c)
sum_assoc w a b c =
    ap (λ (x : ℕ). bit_xor x (c % 2 ^ w)) (sum_remainder w a b) ∙ xor_assoc (a % 2 ^ w) (b % 2 ^ w) (c % 2 ^ w)
    ∙ ap (bit_xor (a % 2 ^ w)) (sym (sum_remainder w b c))

-- a step is the product with x
stepped_times : (k m a : ℕ) → 0 < k → stepped k m a ≡ interleaved k m (suc k) a 2
unfolding interleaved
stepped_times (suc k) m a h =
    let x = stepped (suc k) m a in
    sym (ap₂ bit_xor (zero-mul a) (ap₂ bit_xor (one-mul x) (times_zero (suc k) m k (stepped (suc k) m x)) ∙ xor_zero_r x))
stepped_times zero m a h = omega arith

-- the test of the base: x is of order 2^(k + 1) - 1
abbrev pub order_test : ℕ → ℕ → Bool
order_test k m = walk (stepped k m) (2 ^ suc k - 1 - 1) 2

polynomial_sums : (w : ℕ) → Sums (2 ^ w) (code_sum w) (λ a. a % 2 ^ w)
polynomial_sums w =
    let q = 2 ^ w in
    let code : (a : ℕ) → a % q < q = λ a. mod-lt a (pow_pos w) in
    record {
      remainder = λ a b. ap₂ bit_xor (sym (mod-mod a q)) (sym (mod-mod b q));
      negate_remainder = λ a. sym (mod-mod a q);
      code = λ a b. xor_lt w (a % q) (b % q) (code a) (code b);
      negate_code = code;
      assoc = sum_assoc w;
      comm = λ a b. xor_comm (a % q) (b % q);
      zero = λ a h. ap₂ bit_xor (mod-eq_of_lt h) (zero-mod q) ∙ xor_zero_r a;
      negated = λ a. ap (bit_xor (a % q)) (mod-mod a q) ∙ xor_self (a % q);
    }

pub polynomial_laws : (k m kind width : ℕ) → 0 < k → m / 2 ^ suc k ≡ 1 → T (comm_test (suc k) m) → T (assoc_test (suc k) m) → T (order_test k m)
    → (1 ≤ kind) × (kind ≤ 255) → (1 ≤ width) × (width ≤ 3) → 2 ^ suc k ≤ 256 ^ width → Laws (polynomials (suc k) m kind width)
polynomial_laws k m kind width some degree comm assoc order kinds widths fits =
    let w = suc k in
    let q = 2 ^ w in
    let mul = code_product w m in
    let P : Products q mul = polynomial_products k m degree comm assoc some in
    let two : 2 < q = omega (arith, pow-suc 2 k, pow_mono {i = 1} {j = k} some) in
    let next : (a : ℕ) → a < q → stepped k m a ≡ mul 2 a =
    λ a h. stepped_times k m a some ∙ interleaved_is w k m refl degree a 2 h
    ∙ sym (ap₂ (reduced_product w m) (mod-eq_of_lt h) (mod-eq_of_lt two)) ∙ P.comm a 2 in
    cyclic_laws q (code_sum w) mul (λ a. a % q) 2 kind width (omega arith) (polynomial_sums w) P
    (λ a b c.
    ap (reduced_product w m (a % q)) (sum_remainder w b c) ∙ (reduced_product_linear w m).1 (a % q) (b % q) (c % q)
    ∙ sym (ap₂ bit_xor (mod-eq_of_lt (P.code a b)) (mod-eq_of_lt (P.code a c))))
    two (walked P 2 two (stepped k m) next (q - 1) (omega arith) order) kinds widths fits

pub binary_laws : Laws binary
unfolding product reduced
binary_laws =
    polynomial_laws 7 0x11D 2 1 (omega arith) refl tt tt tt (omega arith, omega arith) (omega arith, omega arith) (omega arith)
