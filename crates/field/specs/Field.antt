-- A finite field on its codes, the numbers below its size, and the laws that it keeps.
use Rattle.std.specs.Prelude.{◌≡◌, ℕ, zero, suc, ◌%◌, ◌^◌, ◌<◌, ◌≤◌}

-- The operations take any numbers. `base` is a code whose powers with an exponent below `order` are all different, `kind` is the number that
-- names the field in a message, and `width` is how many bytes a value takes there.
pub record Arithmetic : Type 0 where
  pub size : ℕ
  pub plus : ℕ → ℕ → ℕ
  pub times : ℕ → ℕ → ℕ
  pub negate : ℕ → ℕ
  pub invert : ℕ → ℕ
  pub base : ℕ
  pub order : ℕ
  pub kind : ℕ
  pub width : ℕ

-- the product of k factors x
unfoldable pub raised : (ℕ → ℕ → ℕ) → ℕ → ℕ → ℕ
raised times x zero = 1
raised times x (suc k) = times x (raised times x k)

abbrev pub power : Arithmetic → ℕ → ℕ → ℕ
power A x k = raised A.times x k

pub record Laws (A : Arithmetic) : Type 0 where
  -- a number that is no code counts as its remainder by the size
  pub plus_remainder : (a b : ℕ) → A.plus a b ≡ A.plus (a % A.size) (b % A.size)
  pub times_remainder : (a b : ℕ) → A.times a b ≡ A.times (a % A.size) (b % A.size)
  pub negate_remainder : (a : ℕ) → A.negate a ≡ A.negate (a % A.size)
  pub invert_remainder : (a : ℕ) → A.invert a ≡ A.invert (a % A.size)
  -- what an operation gives is a code
  pub plus_code : (a b : ℕ) → A.plus a b < A.size
  pub times_code : (a b : ℕ) → A.times a b < A.size
  pub negate_code : (a : ℕ) → A.negate a < A.size
  pub invert_code : (a : ℕ) → A.invert a < A.size
  -- the codes are a field
  pub one_code : 1 < A.size
  pub plus_assoc : (a b c : ℕ) → A.plus (A.plus a b) c ≡ A.plus a (A.plus b c)
  pub plus_comm : (a b : ℕ) → A.plus a b ≡ A.plus b a
  pub plus_zero : (a : ℕ) → a < A.size → A.plus a 0 ≡ a
  pub negated : (a : ℕ) → A.plus a (A.negate a) ≡ 0
  pub times_assoc : (a b c : ℕ) → A.times (A.times a b) c ≡ A.times a (A.times b c)
  pub times_comm : (a b : ℕ) → A.times a b ≡ A.times b a
  pub times_one : (a : ℕ) → a < A.size → A.times a 1 ≡ a
  pub distrib : (a b c : ℕ) → A.times a (A.plus b c) ≡ A.plus (A.times a b) (A.times a c)
  pub inverted : (a : ℕ) → 0 < a → a < A.size → A.times a (A.invert a) ≡ 1
  pub invert_zero : A.invert 0 ≡ 0
  -- the powers of the base
  pub base_code : A.base < A.size
  pub powers_differ : (i j : ℕ) → i < A.order → j < A.order → power A A.base i ≡ power A A.base j → i ≡ j
  pub powers_nonzero : (i : ℕ) → i < A.order → 0 < power A A.base i
  pub base_order : power A A.base A.order ≡ 1
  -- the numbers of a message
  pub kind_range : (1 ≤ A.kind) × (A.kind ≤ 255)
  pub width_range : (1 ≤ A.width) × (A.width ≤ 3)
  pub value_fits : A.size ≤ 256 ^ A.width
