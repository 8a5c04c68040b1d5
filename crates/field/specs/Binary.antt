-- Fields of polynomials with coefficients 0 and 1: bit k of a code is the coefficient of x^k.
use Rattle.std.specs.Prelude.{ℕ, zero, suc, ◌+◌, ◌-◌, ◌*◌, ◌/◌, ◌%◌, ◌^◌, bit_xor}
use Rattle.field.specs.Field.{Arithmetic, raised}

-- the product of a and the n lowest terms of b: a, moved up to the place of each of them, added without carries
unfoldable pub product : ℕ → ℕ → ℕ → ℕ
product zero a b = 0
product (suc n) a b = bit_xor (b % 2 * a) (product n (a * 2) (b / 2))

-- the remainder of a, of degree below w + n, by a modulus m of degree w: its terms from x^(w + n - 1) down to x^w are taken off, each by a
-- multiple of m
unfoldable pub reduced : ℕ → ℕ → ℕ → ℕ → ℕ
reduced w m zero a = a
reduced w m (suc n) a = reduced w m n (bit_xor a (a / 2 ^ (w + n) % 2 * (m * 2 ^ n)))

-- the product of two polynomials of degree below w, reduced by m
abbrev pub reduced_product : ℕ → ℕ → ℕ → ℕ → ℕ
reduced_product w m a b = reduced w m w (product w a b)

-- sum and product of the codes that two numbers count as
abbrev pub code_sum : ℕ → ℕ → ℕ → ℕ
code_sum w a b = bit_xor (a % 2 ^ w) (b % 2 ^ w)

abbrev pub code_product : ℕ → ℕ → ℕ → ℕ → ℕ
code_product w m a b = reduced_product w m (a % 2 ^ w) (b % 2 ^ w)

-- the field of the polynomials of degree below w under a modulus m of degree w, with the base x
abbrev pub polynomials : (w m kind width : ℕ) → Arithmetic
polynomials w m kind width = record {
  size = 2 ^ w;
  plus = code_sum w;
  times = code_product w m;
  negate = λ a. a % 2 ^ w;
  invert = λ a. raised (code_product w m) a (2 ^ w - 2);
  base = 2;
  order = 2 ^ w - 1;
  kind = kind;
  width = width;
}

-- the field of 256 codes under x^8 + x^4 + x^3 + x^2 + 1
abbrev pub binary : Arithmetic
binary = polynomials 8 0x11D 2 1
