-- The lists of digits by five, and the generators among the lists with a 1 behind them.
use Rattle.std.proofs.Common.{◌≡◌, ℕ, zero, suc, ◌+◌, ◌*◌, ◌/◌, ◌%◌, ◌^◌, ◌<◌, List, [], ◌∷◌, length, get_or, sym, refl, ap, ap₂, ◌∙◌, div-one, arith}
use Rattle.std.proofs.Math.Nat.{div-div-eq-div-mul, pow-suc, pow-succ'}
use Rattle.std.proofs.lemmas.List.{ext_get_or}
use Rattle.std.proofs.lemmas.Nat.{div-mul-add, mod-mul-add, div-add-mod', div_below}

-- the digits of a number, the lowest first
pub digits : ℕ → ℕ → List ℕ
digits zero n = []
digits (suc L) n = n % 5 ∷ digits L (n / 5)

pub length-digits : (L n : ℕ) → length (digits L n) ≡ L
unfolding digits
length-digits zero n = refl
length-digits (suc L) n = ap suc (length-digits L (n / 5))

digit_at : (L n i : ℕ) → i < L → get_or (digits L n) i 0 ≡ n / 5 ^ i % 5
unfolding digits
digit_at zero n i h = absurd (omega arith)
digit_at (suc L) n zero h = ap (λ (m : ℕ). m % 5) (sym (div-one n))
digit_at (suc L) n (suc i) h =
    digit_at L (n / 5) i (omega arith) ∙ ap (λ (m : ℕ). m % 5) (div-div-eq-div-mul n 5 (5 ^ i) ∙ ap (λ (m : ℕ). n / m) (sym (pow-succ' 5 i)))

pub digits_below : (L n i : ℕ) → i < L → get_or (digits L n) i 0 < 5
digits_below L n i h = omega (arith, digit_at L n i h)

pub is_digits : (xs : List ℕ) (L n : ℕ) → length xs ≡ L → ((i : ℕ) → i < L → get_or xs i 0 ≡ n / 5 ^ i % 5) → xs ≡ digits L n
is_digits xs L n size each =
    ext_get_or 0 xs (digits L n) (size ∙ sym (length-digits L n)) (λ i h. each i (omega arith) ∙ sym (digit_at L n i (omega arith)))

-- the number that has these digits
pub value : List ℕ → ℕ
value [] = 0
value (x ∷ xs) = value xs * 5 + x

pub value_below : (xs : List ℕ) → ((i : ℕ) → i < length xs → get_or xs i 0 < 5) → value xs < 5 ^ length xs
unfolding value
value_below [] h = omega arith
value_below (x ∷ xs) h =
    let first : x < 5 = h 0 (omega arith) in
    let rest : value xs < 5 ^ length xs = value_below xs (λ i p. h (suc i) (omega arith)) in
    omega (arith, pow-suc 5 (length xs))

pub digits_value : (xs : List ℕ) → ((i : ℕ) → i < length xs → get_or xs i 0 < 5) → digits (length xs) (value xs) ≡ xs
unfolding digits value
digits_value [] h = refl
digits_value (x ∷ xs) h =
    let first : x < 5 = h 0 (omega arith) in
    ap₂ {C = List ℕ} ◌∷◌ (mod-mul-add (value xs) 5 x first)
    (ap (digits (length xs)) (div-mul-add (value xs) 5 x first) ∙ digits_value xs (λ i p. h (suc i) (omega arith)))

pub value_digits : (L n : ℕ) → n < 5 ^ L → value (digits L n) ≡ n
unfolding digits value
value_digits zero n h = omega arith
value_digits (suc L) n h =
    ap (λ (m : ℕ). m * 5 + n % 5) (value_digits L (n / 5) (div_below n 5 (5 ^ L) (omega arith) (omega (arith, pow-suc 5 L)))) ∙ div-add-mod' n 5
