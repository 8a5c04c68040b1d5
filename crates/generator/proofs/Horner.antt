-- Horner's rule gives the sums of a sheet.
use Rattle.std.proofs.Common.{◌≡◌, ℕ, suc, ◌+◌, ◌*◌, ◌<◌, List, [], ◌∷◌, length, get_or, drop, sym, ap, ◌∙◌, ap₂, mul-zero, mul-suc, arith}
use Rattle.field.proofs.Derived.{products, times_zero, zero_code}
use Rattle.field.specs.Powers.{one_left, power_add}
use Rattle.field.specs.Field.{Arithmetic, Laws, power, raised}
use Rattle.generator.specs.Sums.{sum_at_place, total_from}
use Rattle.std.proofs.lemmas.List.{drop_all, drop_more}

-- the value at x of the polynomial with these coefficients, the lowest first
unfoldable pub horner : Arithmetic → ℕ → List ℕ → ℕ
horner A x [] = 0
horner A x (a ∷ coefficients) = A.plus a (A.times x (horner A x coefficients))

-- behind the last coefficient
pub horner_end : (A : Arithmetic) (x : ℕ) (coefficients : List ℕ) (n : ℕ) → n ≡ length coefficients → horner A x (drop n coefficients) ≡ 0
unfolding horner
horner_end A x coefficients n e = ap (horner A x) (drop_all n coefficients (omega arith))

-- one coefficient more, the one before those from k on
pub horner_more : (A : Arithmetic) (x : ℕ) (coefficients : List ℕ) (j k : ℕ) → j < length coefficients → k ≡ j + 1
    → horner A x (drop j coefficients) ≡ A.plus (get_or coefficients j 0) (A.times x (horner A x (drop k coefficients)))
unfolding horner
horner_more A x coefficients j k h e = rw e (ap (horner A x) (drop_more coefficients j 0 h))

module _ {A : Arithmetic} (L : Laws A) where
  horner_code : (x : ℕ) (coefficients : List ℕ) → horner A x coefficients < A.size
  unfolding horner
  horner_code x [] = zero_code L
  horner_code x (a ∷ coefficients) = L.plus_code a (A.times x (horner A x coefficients))

  -- the total from block j on is base^(place * j) times the value at base^place
  total_horner : (place j : ℕ) (marks : List ℕ)
      → total_from A place j marks ≡ A.times (power A A.base (place * j)) (horner A (power A A.base place) marks)
  unfolding total_from horner
  total_horner place j [] = sym (times_zero L (power A A.base (place * j)))
  total_horner place j (mark ∷ marks) =
      let x = power A A.base place in
      let w = power A A.base (place * j) in
      let v = horner A x marks in
      let next : power A A.base (place * suc j) ≡ A.times w x =
      ap (power A A.base) (mul-suc place j) ∙ power_add (products L) A.base (place * j) place in
      ap₂ A.plus (L.times_comm mark w) (total_horner place (suc j) marks ∙ ap (λ (y : ℕ). A.times y v) next ∙ L.times_assoc w x v)
      ∙ sym (L.distrib w mark (A.times x v))

  pub sum_horner : (place : ℕ) (marks : List ℕ) → horner A (power A A.base place) marks ≡ sum_at_place A marks place
  unfolding raised
  sum_horner place marks =
      let v = horner A (power A A.base place) marks in
      sym (total_horner place 0 marks ∙ ap (λ (k : ℕ). A.times (power A A.base k) v) (mul-zero place)
      ∙ one_left (products L) v (horner_code (power A A.base place) marks))
