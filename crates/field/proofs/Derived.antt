-- What follows from the laws of a field.
use Rattle.std.proofs.Common.{◌≡◌, ℕ, ◌%◌, ◌<◌, sym, ap, ◌∙◌, ⊎_elim, mod-lt, arith}
use native.Mathlib.Nat.{mod-mod}
use Rattle.field.specs.Field.{Arithmetic, Laws}
use Rattle.field.specs.Powers.{Products, one_left}
use Rattle.std.proofs.lemmas.Bool.{cases_lt}

module _ {A : Arithmetic} (L : Laws A) where
  pub zero_code : 0 < A.size
  zero_code = let h = L.one_code in omega arith

  pub remainder_code : (n : ℕ) → n % A.size < A.size
  remainder_code n = mod-lt n zero_code

  -- the second factor counts as its remainder, whatever the first is
  pub times_counts : (a b : ℕ) → A.times a b ≡ A.times a (b % A.size)
  times_counts a b =
      L.times_remainder a b ∙ ap (A.times (a % A.size)) (sym (mod-mod b A.size)) ∙ sym (L.times_remainder a (b % A.size))

  -- a * 0 is twice itself
  pub times_zero : (a : ℕ) → A.times a 0 ≡ 0
  times_zero a =
      let z = A.times a 0 in
      let twice : A.plus z z ≡ z = sym (L.distrib a 0 0) ∙ ap (A.times a) (L.plus_zero 0 zero_code) in
      sym (L.plus_zero z (L.times_code a 0)) ∙ ap (A.plus z) (sym (L.negated z)) ∙ sym (L.plus_assoc z z (A.negate z))
      ∙ ap (λ (x : ℕ). A.plus x (A.negate z)) twice ∙ L.negated z

  pub products : Products A.size A.times
  products = record {
    one_code = L.one_code;
    code = L.times_code;
    remainder = L.times_remainder;
    assoc = L.times_assoc;
    comm = L.times_comm;
    one = L.times_one;
    zero = times_zero;
  }

  -- the inverse of a takes a product by a back
  taken_back : (a x : ℕ) → 0 < a → a < A.size → x < A.size → A.times (A.invert a) (A.times a x) ≡ x
  taken_back a x pos ha hx =
      let b = A.invert a in
      sym (L.times_assoc b a x) ∙ ap (λ (y : ℕ). A.times y x) (L.times_comm b a ∙ L.inverted a pos ha) ∙ one_left products x hx

  -- a factor other than 0 can be left out on both sides
  pub times_cancel : (a x y : ℕ) → 0 < a → a < A.size → x < A.size → y < A.size → A.times a x ≡ A.times a y → x ≡ y
  times_cancel a x y pos ha hx hy e = sym (taken_back a x pos ha hx) ∙ ap (A.times (A.invert a)) e ∙ taken_back a y pos ha hy

  -- a product of two codes other than 0 is not 0
  pub times_positive : (a b : ℕ) → 0 < a → a < A.size → 0 < b → b < A.size → 0 < A.times a b
  times_positive a b pa ha pb hb =
      ⊎_elim (λ (l : A.times a b < 1).
      let none : A.times a b ≡ 0 = omega arith in
      let b_zero : b ≡ 0 = times_cancel a b 0 pa ha hb zero_code (none ∙ sym (times_zero a)) in
      omega arith) (λ g. g) (cases_lt (A.times a b) 1)
