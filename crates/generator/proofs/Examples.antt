-- Computed trials of the definitions.
use Rattle.std.proofs.Common.{◌≡◌, ℕ, ◌+◌, ◌%◌, [], ◌∷◌, refl, ap, mul-zero}
use Rattle.field.specs.Binary.{binary, product, reduced}
use Rattle.field.specs.Codes.{first_no_code}
use Rattle.field.specs.Field.{raised}
use Rattle.field.specs.Prime.{prime}
use Rattle.generator.specs.Generators.{dot}
use Rattle.generator.specs.Sums.{sum_at_place, total_from}

-- 5 * 3^1
one_mark : sum_at_place prime (0 ∷ 5 ∷ 0 ∷ 0 ∷ []) 1 ≡ 15
unfolding raised total_from
one_mark = refl

-- a mark of the size counts as 0
mark_of_the_size : sum_at_place prime (26224 ∷ 65537 ∷ 42713 ∷ []) 4 ≡ 30005
unfolding raised total_from
mark_of_the_size = refl

binary_marks : sum_at_place binary (219 ∷ 3388022252 ∷ []) 1 ≡ 30
unfolding product reduced raised total_from
binary_marks = refl

-- the numbers 5 * 3^i have the generator z - 3
powers_of_three : dot prime (65534 ∷ 1 ∷ []) (15 ∷ 45 ∷ []) ≡ 0
unfolding dot
powers_of_three = refl

binary_products : dot binary (29 ∷ 1 ∷ []) (1 ∷ 29 ∷ []) ≡ 0
unfolding dot product reduced
binary_products = refl

-- 0, 1 have no generator of length 1: whatever g_0 is, g_0 * 0 + 1 * 1 is 1
no_generator : (g : ℕ) → dot prime (g ∷ 1 ∷ []) (0 ∷ 1 ∷ []) ≡ 1
unfolding dot
no_generator g = ap (λ (x : ℕ). (x % 65537 + 1) % 65537) (mul-zero g)

second_no_code : first_no_code prime (65536 ∷ 65537 ∷ 65538 ∷ []) ≡ 1
unfolding first_no_code
second_no_code = refl

all_codes : first_no_code binary (0 ∷ 255 ∷ []) ≡ 2
unfolding first_no_code
all_codes = refl
