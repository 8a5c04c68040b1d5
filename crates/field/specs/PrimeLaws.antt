-- The laws of the remainders by a prime, and by 65,537.
use Rattle.std.specs.Prelude.{◌≡◌, ℕ, ◌+◌, ◌-◌, ◌%◌, ◌^◌, ◌<◌, ◌≤◌, slice_index, refl}
use Rattle.std.proofs.Common.{sym, ◌∙◌, ap, mod-lt, mod-eq_of_lt, add_comm, add-zero, arith}
use Rattle.std.proofs.Math.Nat.{mod-add-mod, add-mod-mod, mod-mod}
use Rattle.field.specs.Field.{Laws, raised}
use Rattle.field.specs.Prime.{prime, sum_mod, product_mod, remainders, squares, RemainderField}
use Rattle.field.specs.Cyclic.{Sums, cyclic_laws}
use Rattle.field.specs.Orders.{Order, squared, square_power}
use Rattle.field.specs.Powers.{Products}
use Rattle.field.specs.Remainders.{remainder_products, remainder_assoc, remainder_distrib, remainder_negated}

remainder_sums : (q : ℕ) → 0 < q → Sums q (sum_mod q) (λ a. (q - a % q) % q)
remainder_sums q some =
    record {
      remainder = λ a b. sym (mod-add-mod a q (b % q) ∙ add-mod-mod a b q);
      negate_remainder = λ a. ap (λ (x : ℕ). (q - x) % q) (sym (mod-mod a q));
      code = λ a b. mod-lt (a + b) some;
      negate_code = λ a. mod-lt (q - a % q) some;
      assoc = remainder_assoc q;
      comm = λ a b. ap (λ (x : ℕ). x % q) (add_comm a b);
      zero = λ a h. ap (λ (x : ℕ). x % q) (add-zero a) ∙ mod-eq_of_lt h;
      negated = λ a. remainder_negated q a some;
    }

-- that q is a prime need not be shown: it follows where the powers of the base are all codes but 0
pub remainder_laws : (q base kind width : ℕ) → 2 < q → base < q → Order (product_mod q) base (q - 1)
    → (1 ≤ kind) × (kind ≤ 255) → (1 ≤ width) × (width ≤ 3) → q ≤ 256 ^ width → Laws (remainders q base kind width)
remainder_laws q base kind width some =
    cyclic_laws q (sum_mod q) (product_mod q) (λ a. (q - a % q) % q) base kind width some (remainder_sums q (omega arith))
    (remainder_products q (omega arith)) (remainder_distrib q)

pub prime_products : Products 65537 (product_mod 65537)
prime_products = remainder_products 65537 (omega arith)

pub prime_squares : (i : ℕ) → i ≤ 15 → slice_index squares i ≡ raised (product_mod 65537) 3 (2 ^ i)
prime_squares = square_power prime_products 3 (omega arith) squares refl 15 tt

pub prime_order : Order (product_mod 65537) 3 65536
prime_order = squared prime_products 3 (omega arith) squares refl 15 tt 65536 refl (omega arith) refl

pub prime_laws : Laws prime
prime_laws = remainder_laws 65537 3 1 3 (omega arith) (omega arith) prime_order (omega arith, omega arith) (omega arith, omega arith) (omega arith)

pub prime_field : RemainderField 65537 3 1 3 squares
prime_field = record { laws = prime_laws; repeated = λ i h. prime_squares i (omega arith); size_is = refl }
