-- The steps of the algorithm of Berlekamp and Massey, on coefficients: those of a polynomial stand in a list, the lowest first.
use Rattle.std.specs.Prelude.{◌≡◌, ℕ, ◌+◌, ◌-◌, ◌<◌, max, cond, List, length, nat_lt, slice_index}
use Rattle.arrayvec.specs.ArrayVec.{array_vec_len}
use Rattle.field.specs.Field.{Arithmetic}
use Rattle.generator.specs.declared.berlekamp_massey.State.{State}

-- the coefficient at i of z^p times a polynomial
abbrev pub shifted_at : (p : ℕ) (coefficients : List ℕ) (i : ℕ) → ℕ
shifted_at p coefficients i = cond (nat_lt i p) 0 (slice_index coefficients (i - p))

-- the coefficients of z^p g + c z^e b, as many as z^p g has
pub record Combined (A : Arithmetic) (p : ℕ) (g : List ℕ) (c e : ℕ) (b : List ℕ) (sum : List ℕ) : Type 0 where
  pub size : length sum ≡ p + length g
  pub each : (i : ℕ) → i < p + length g → slice_index sum i ≡ A.plus (shifted_at p g i) (A.times c (shifted_at e b i))

-- the length of the generator, one less than its number of coefficients
abbrev pub state_length : State → ℕ
state_length s = array_vec_len s.generator - 1

-- after k numbers the generator fails at the next one by a discrepancy d. The next length is the larger of the length and k + 1 less the
-- length, and a multiple of the helper makes up for the discrepancy. Where the length grows, the generator becomes the helper.
pub record Steps (A : Arithmetic) (k d : ℕ) (before after : State) : Type 0 where
  pub length_is : state_length after ≡ max (state_length before) (k + 1 - state_length before)
  pub generator_is : Combined A (state_length after - state_length before) before.generator.items (A.negate (A.times d before.inverse))
      (state_length after - (k + 1 - state_length before)) before.helper.items after.generator.items
  pub grown : state_length before < state_length after → (after.helper ≡ before.generator) × (after.inverse ≡ A.invert d)
  pub kept : state_length after ≡ state_length before → (after.helper ≡ before.helper) × (after.inverse ≡ before.inverse)
