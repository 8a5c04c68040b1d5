-- Two maps that take exclusive or to exclusive or are the same below 2^w if they are the same at the w powers of two.
use Rattle.std.specs.Prelude.{◌≡◌, ℕ, zero, suc, ◌*◌, ◌/◌, ◌%◌, ◌^◌, ◌<◌, ◌⊎◌, bit_xor, refl}
use Rattle.std.proofs.Common.{inl, inr, ⊎_elim, sym, ◌∙◌, ap, ap₂, mod-lt, zero-mul, one-mul, add-zero, one-add, arith, pow_pos, shr_lt}
use Rattle.std.specs.Int.Bits.{xor_self, xor_shifted, xor_assoc, xor_zero_r}
use Rattle.std.proofs.lemmas.Nat.{xor_comm, xor_block, xor_shr, xor_mod}
use Rattle.std.proofs.Math.Pow.{split}
use Rattle.std.proofs.lemmas.Bool.{cases_lt}

abbrev pub Linear : (ℕ → ℕ) → Type 0
Linear f = (x y : ℕ) → f (bit_xor x y) ≡ bit_xor (f x) (f y)

pub at_zero : (f : ℕ → ℕ) → Linear f → f 0 ≡ 0
at_zero f lin = ap f (sym (xor_self 0)) ∙ lin 0 0 ∙ xor_self (f 0)

-- ---- equal at the powers of two

-- a number below 2^(k + 1), as its top bit and the rest
top : (k a : ℕ) → bit_xor (a / 2 ^ k * 2 ^ k) (a % 2 ^ k) ≡ a
top k a = xor_shifted (a / 2 ^ k) k (a % 2 ^ k) (mod-lt a (pow_pos k)) ∙ split a k

bit : (k a : ℕ) → a < 2 ^ suc k → (a / 2 ^ k ≡ 0) ⊎ (a / 2 ^ k ≡ 1)
bit k a h =
    let b : a / 2 ^ k < 2 ^ 1 = shr_lt 1 k (rw one-add h) in
    ⊎_elim (λ l. inl (omega arith)) (λ g. inr (omega arith)) (cases_lt (a / 2 ^ k) 1)

pub same : (w : ℕ) (f g : ℕ → ℕ) → Linear f → Linear g → ((i : ℕ) → i < w → f (2 ^ i) ≡ g (2 ^ i)) → (a : ℕ) → a < 2 ^ w → f a ≡ g a
same zero f g lf lg base a h = let z : a ≡ 0 = omega arith in rw z (at_zero f lf ∙ sym (at_zero g lg))
same (suc k) f g lf lg base a h =
    let t = a / 2 ^ k in
    let high : f (t * 2 ^ k) ≡ g (t * 2 ^ k) =
    ⊎_elim (λ (e : t ≡ 0). rw (e, zero-mul) (at_zero f lf ∙ sym (at_zero g lg))) (λ (e : t ≡ 1). rw (e, one-mul) (base k (omega arith))) (bit k a h) in
    let low : f (a % 2 ^ k) ≡ g (a % 2 ^ k) = same k f g lf lg (λ i l. base i (omega arith)) (a % 2 ^ k) (mod-lt a (pow_pos k)) in
    ap f (sym (top k a)) ∙ lf (t * 2 ^ k) (a % 2 ^ k) ∙ ap₂ bit_xor high low ∙ sym (lg (t * 2 ^ k) (a % 2 ^ k)) ∙ ap g (top k a)

abbrev pub Linear₂ : (ℕ → ℕ → ℕ) → Type 0
Linear₂ f = ((b : ℕ) → Linear (λ a. f a b)) × ((a : ℕ) → Linear (f a))

pub same₂ : (w : ℕ) (f g : ℕ → ℕ → ℕ) → Linear₂ f → Linear₂ g → ((i j : ℕ) → i < w → j < w → f (2 ^ i) (2 ^ j) ≡ g (2 ^ i) (2 ^ j))
    → (a b : ℕ) → a < 2 ^ w → b < 2 ^ w → f a b ≡ g a b
same₂ w f g lf lg base a b ha hb =
    same w (f a) (g a) (lf.1 a) (lg.1 a)
    (λ j hj. same w (λ x. f x (2 ^ j)) (λ x. g x (2 ^ j)) (lf.0 (2 ^ j)) (lg.0 (2 ^ j)) (λ i hi. base i j hi hj) a ha) b hb

abbrev pub Linear₃ : (ℕ → ℕ → ℕ → ℕ) → Type 0
Linear₃ f = ((c : ℕ) → Linear₂ (λ a b. f a b c)) × ((a b : ℕ) → Linear (f a b))

pub same₃ : (w : ℕ) (f g : ℕ → ℕ → ℕ → ℕ) → Linear₃ f → Linear₃ g
    → ((i j k : ℕ) → i < w → j < w → k < w → f (2 ^ i) (2 ^ j) (2 ^ k) ≡ g (2 ^ i) (2 ^ j) (2 ^ k))
    → (a b c : ℕ) → a < 2 ^ w → b < 2 ^ w → c < 2 ^ w → f a b c ≡ g a b c
same₃ w f g lf lg base a b c ha hb hc =
    same w (f a b) (g a b) (lf.1 a b) (lg.1 a b)
    (λ k hk. same₂ w (λ x y. f x y (2 ^ k)) (λ x y. g x y (2 ^ k)) (lf.0 (2 ^ k)) (lg.0 (2 ^ k)) (λ i j hi hj. base i j k hi hj hk) a b ha hb) c hc

-- ---- maps that are linear

pub same_linear : Linear (λ a. a)
same_linear x y = refl

pub zero_linear : Linear (λ a. 0)
zero_linear x y = refl

pub after_linear : (f g : ℕ → ℕ) → Linear f → Linear g → Linear (λ a. g (f a))
after_linear f g lf lg x y = ap g (lf x y) ∙ lg (f x) (f y)

exchange : (a b c d : ℕ) → bit_xor (bit_xor a b) (bit_xor c d) ≡ bit_xor (bit_xor a c) (bit_xor b d)
exchange a b c d =
    xor_assoc a b (bit_xor c d) ∙ ap (bit_xor a) (sym (xor_assoc b c d) ∙ ap (λ (x : ℕ). bit_xor x d) (xor_comm b c) ∙ xor_assoc c b d)
    ∙ sym (xor_assoc a c (bit_xor b d))

pub sum_linear : (f g : ℕ → ℕ) → Linear f → Linear g → Linear (λ a. bit_xor (f a) (g a))
sum_linear f g lf lg x y = ap₂ bit_xor (lf x y) (lg x y) ∙ exchange (f x) (f y) (g x) (g y)

pub double_linear : Linear (λ a. a * 2)
double_linear x y =
    sym (ap₂ bit_xor (sym (add-zero (x * 2))) (sym (add-zero (y * 2))) ∙ xor_block 1 x y 0 0 (omega arith) (omega arith) ∙ add-zero (bit_xor x y * 2))

pub shift_linear : (k : ℕ) → Linear (λ a. a / 2 ^ k)
shift_linear k x y = xor_shr x y k

digit_linear : (m s t : ℕ) → s < 2 → t < 2 → bit_xor s t * m ≡ bit_xor (s * m) (t * m)
digit_linear m zero t hs ht = sym (ap (λ (x : ℕ). bit_xor x (t * m)) (zero-mul m))
digit_linear m (suc zero) zero hs ht = simp (zero-mul, xor_zero_r)
digit_linear m (suc zero) (suc zero) hs ht = simp (zero-mul, xor_self)
digit_linear m (suc zero) (suc (suc t)) hs ht = omega arith
digit_linear m (suc (suc s)) t hs ht = omega arith

-- the lowest bit, times m
pub low_times_linear : (m : ℕ) → Linear (λ a. a % 2 * m)
low_times_linear m x y =
    ap (λ (z : ℕ). z * m) (xor_mod x y 1) ∙ digit_linear m (x % 2) (y % 2) (mod-lt x (omega arith)) (mod-lt y (omega arith))

-- a bit, times a
pub times_linear : (s : ℕ) → s < 2 → Linear (λ a. s * a)
times_linear zero h x y = simp zero-mul
times_linear (suc zero) h x y = simp one-mul
times_linear (suc (suc s)) h x y = omega arith
