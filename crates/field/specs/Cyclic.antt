-- The laws of a field whose codes but 0 are all powers of its base: what its sums and its products show, each by themselves, is enough.
use Rattle.std.specs.Prelude.{◌≡◌, ℕ, suc, ◌-◌, ◌%◌, ◌^◌, ◌<◌, ◌≤◌}
use Rattle.std.proofs.Common.{sym, ◌∙◌, ap, subst, arith}
use Rattle.field.specs.Field.{Arithmetic, Laws, raised}
use Rattle.field.specs.Orders.{Order, nonzero, distinct, inverse}
use Rattle.field.specs.Powers.{Products, power_code, power_remainder, power_zero}

-- what a sum that gives codes below q shows
pub record Sums (q : ℕ) (plus : ℕ → ℕ → ℕ) (negate : ℕ → ℕ) : Type 0 where
  pub remainder : (a b : ℕ) → plus a b ≡ plus (a % q) (b % q)
  pub negate_remainder : (a : ℕ) → negate a ≡ negate (a % q)
  pub code : (a b : ℕ) → plus a b < q
  pub negate_code : (a : ℕ) → negate a < q
  pub assoc : (a b c : ℕ) → plus (plus a b) c ≡ plus a (plus b c)
  pub comm : (a b : ℕ) → plus a b ≡ plus b a
  pub zero : (a : ℕ) → a < q → plus a 0 ≡ a
  pub negated : (a : ℕ) → plus a (negate a) ≡ 0

module _ (q : ℕ) (plus times : ℕ → ℕ → ℕ) (negate : ℕ → ℕ) (base kind width : ℕ) where
  -- the inverse of a code but 0 is its power with the exponent q - 2
  abbrev pub cyclic : Arithmetic
  cyclic = record {
    size = q;
    plus = plus;
    times = times;
    negate = negate;
    invert = λ a. raised times a (q - 2);
    base = base;
    order = q - 1;
    kind = kind;
    width = width;
  }

  pub cyclic_laws : 2 < q → Sums q plus negate → Products q times
      → ((a b c : ℕ) → times a (plus b c) ≡ plus (times a b) (times a c))
      → base < q → Order times base (q - 1) → (1 ≤ kind) × (kind ≤ 255) → (1 ≤ width) × (width ≤ 3) → q ≤ 256 ^ width → Laws cyclic
  cyclic_laws some S P distrib code O kinds widths fits =
      let M = q - 1 in
      let all : suc M ≡ q = omega arith in
      let Q : Products (suc M) times = subst (λ (n : ℕ). Products n times) (sym all) P in
      let last : M - 1 ≡ q - 2 = omega arith in
      let least : suc (q - 3) ≡ q - 2 = omega arith in
      record {
        plus_remainder = S.remainder;
        times_remainder = P.remainder;
        negate_remainder = S.negate_remainder;
        invert_remainder = λ a. power_remainder P a (q - 2);
        plus_code = S.code;
        times_code = P.code;
        negate_code = S.negate_code;
        invert_code = λ a. power_code P a (q - 2);
        one_code = P.one_code;
        plus_assoc = S.assoc;
        plus_comm = S.comm;
        plus_zero = S.zero;
        negated = S.negated;
        times_assoc = P.assoc;
        times_comm = P.comm;
        times_one = P.one;
        distrib = distrib;
        inverted = λ a pos h. ap (λ (e : ℕ). times a (raised times a e)) (sym last) ∙ inverse Q (omega arith) base O a pos (omega arith);
        invert_zero = ap (raised times 0) (sym least) ∙ power_zero P (q - 3);
        base_code = code;
        powers_differ = distinct Q (omega arith) base O;
        powers_nonzero = nonzero Q (omega arith) base O;
        base_order = O.cycle;
        kind_range = kinds;
        width_range = widths;
        value_fits = fits;
      }
