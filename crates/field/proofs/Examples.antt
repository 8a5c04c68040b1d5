-- Computed trials of the definitions.
use Rattle.std.proofs.Common.{◌≡◌, refl}
use Rattle.field.specs.Binary.{binary, product, reduced}
use Rattle.field.specs.Field.{power, raised}
use Rattle.field.specs.Prime.{prime}

prime_product : prime.times 12345 54321 ≡ 18161
prime_product = refl

prime_negative : prime.negate 65540 ≡ 65534
prime_negative = refl

prime_power : power prime 3 15 ≡ 61841
unfolding raised
prime_power = refl

-- x^7 times x is x^4 + x^3 + x^2 + 1
binary_shift : binary.times 128 2 ≡ 0x1D
unfolding product reduced
binary_shift = refl

binary_product : binary.times 0x53 0xCA ≡ 0x8F
unfolding product reduced
binary_product = refl

binary_inverse : binary.invert 2 ≡ 142
unfolding product reduced raised
binary_inverse = refl
