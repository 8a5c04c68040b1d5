-- The laws of the remainders by q.
use Rattle.std.specs.Prelude.{◌≡◌, ℕ, ◌+◌, ◌-◌, ◌*◌, ◌%◌, ◌<◌}
use Rattle.std.proofs.Common.{sym, ◌∙◌, ap, mod-lt, mod-eq_of_lt, add_assoc, mul_comm, mul_assoc, mul-one, mul-zero, mul-add, arith}
use Rattle.std.proofs.Math.Nat.{mod-add-mod, add-mod-mod, mod_self, zero-mod}
use Rattle.std.proofs.lemmas.Nat.{mul-mod, mul-mod_first, mul-mod_second}
use Rattle.field.specs.Prime.{sum_mod, product_mod}
use Rattle.field.specs.Powers.{Products}

pub remainder_products : (q : ℕ) → 1 < q → Products q (product_mod q)
remainder_products q some =
    record {
      one_code = some;
      code = λ a b. mod-lt (a * b) (omega arith);
      remainder = λ a b. mul-mod a b q;
      assoc = λ a b c. mul-mod_first (a * b) c q ∙ ap (λ (x : ℕ). x % q) (mul_assoc a b c) ∙ sym (mul-mod_second a (b * c) q);
      comm = λ a b. ap (λ (x : ℕ). x % q) (mul_comm a b);
      one = λ a h. ap (λ (x : ℕ). x % q) (mul-one a) ∙ mod-eq_of_lt h;
      zero = λ a. ap (λ (x : ℕ). x % q) (mul-zero a) ∙ zero-mod q;
    }

pub remainder_distrib : (q a b c : ℕ) → product_mod q a (sum_mod q b c) ≡ sum_mod q (product_mod q a b) (product_mod q a c)
remainder_distrib q a b c =
    mul-mod_second a (b + c) q ∙ ap (λ (x : ℕ). x % q) (mul-add a b c)
    ∙ sym (mod-add-mod (a * b) q (a * c % q) ∙ add-mod-mod (a * b) (a * c) q)

pub remainder_assoc : (q a b c : ℕ) → sum_mod q (sum_mod q a b) c ≡ sum_mod q a (sum_mod q b c)
remainder_assoc q a b c = mod-add-mod (a + b) q c ∙ ap (λ (x : ℕ). x % q) (add_assoc a b c) ∙ sym (add-mod-mod a (b + c) q)

pub remainder_negated : (q a : ℕ) → 0 < q → sum_mod q a ((q - a % q) % q) ≡ 0
remainder_negated q a some =
    let below : a % q < q = mod-lt a some in
    let e : a % q + (q - a % q) ≡ q = omega arith in
    add-mod-mod a (q - a % q) q ∙ sym (mod-add-mod a q (q - a % q)) ∙ ap (λ (x : ℕ). x % q) e ∙ mod_self q
