-- Fields of remainders by a prime.
use Rattle.std.specs.Prelude.{◌≡◌, ℕ, ◌+◌, ◌-◌, ◌*◌, ◌%◌, ◌^◌, ◌<◌, List, [], ◌∷◌, length, slice_index}
use Rattle.field.specs.Field.{Arithmetic, Laws, raised}

abbrev pub sum_mod : ℕ → ℕ → ℕ → ℕ
sum_mod q a b = (a + b) % q

abbrev pub product_mod : ℕ → ℕ → ℕ → ℕ
product_mod q a b = a * b % q

-- the field of the remainders by a prime q, with a base whose powers are all codes but 0
abbrev pub remainders : (q base kind width : ℕ) → Arithmetic
remainders q base kind width = record {
  size = q;
  plus = sum_mod q;
  times = product_mod q;
  negate = λ a. (q - a % q) % q;
  invert = λ a. raised (product_mod q) a (q - 2);
  base = base;
  order = q - 1;
  kind = kind;
  width = width;
}

-- the field of 65,537 codes
abbrev pub prime : Arithmetic
prime = remainders 65537 3 1 3

-- the repeated squares of the base: 3, 3^2, 3^4 and on to 3^32768
abbrev pub squares : List ℕ
squares =
    3 ∷ 9 ∷ 81 ∷ 6561 ∷ 54449 ∷ 61869 ∷ 19139 ∷ 15028 ∷ 282 ∷ 13987 ∷ 8224 ∷ 65529 ∷ 64 ∷ 4096 ∷ 65281 ∷ 65536 ∷ []

-- what the numbers of such a field show, where q - 1 is a power of two: the squares are the base, its square, the square of that and on, and 2
-- to their number is q - 1
pub record RemainderField (q base kind width : ℕ) (squares : List ℕ) : Type 0 where
  pub laws : Laws (remainders q base kind width)
  pub repeated : (i : ℕ) → i < length squares → slice_index squares i ≡ raised (product_mod q) base (2 ^ i)
  pub size_is : q ≡ 2 ^ length squares + 1
