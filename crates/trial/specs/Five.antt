-- The field of the remainders by 5, small enough to try all stretches. No message names it; its kind is the last number.
use Rattle.std.specs.Prelude.{ℕ, List, [], ◌∷◌}
use Rattle.field.specs.Field.{Arithmetic}
use Rattle.field.specs.Prime.{remainders}

abbrev pub five : Arithmetic
five = remainders 5 2 255 1

-- the repeated squares of the base
abbrev pub five_squares : List ℕ
five_squares = 2 ∷ 4 ∷ []
