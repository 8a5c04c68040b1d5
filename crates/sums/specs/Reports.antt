-- What the program prints for an input.
use Rattle.std.specs.Prelude.{ℕ, zero, suc, List, [], ◌++◌, length, codes, decimal}
use Rattle.field.specs.Binary.{binary}
use Rattle.field.specs.Field.{Arithmetic}
use Rattle.field.specs.Prime.{prime}
use Rattle.generator.specs.Sums.{sum_at_place}
use Rattle.sheet.specs.Marks.{cut}

abbrev pub blocks_line : List ℕ → List ℕ
blocks_line marks = codes "blocks " ++ (decimal (length marks) ++ codes "\n")

abbrev pub line_of_sum : (kind place sum : ℕ) → List ℕ
line_of_sum kind place sum =
    codes "kind " ++ (decimal kind ++ (codes " place " ++ (decimal place ++ (codes " sum " ++ (decimal sum ++ codes "\n")))))

-- the lines of the first n places
unfoldable pub lines_of_sums : Arithmetic → List ℕ → ℕ → List ℕ
lines_of_sums A marks zero = []
lines_of_sums A marks (suc n) = lines_of_sums A marks n ++ line_of_sum A.kind n (sum_at_place A marks n)

-- the input is a strip, one byte a mark
abbrev pub report : List ℕ → List ℕ
report input = blocks_line (cut input) ++ (lines_of_sums prime (cut input) 16 ++ lines_of_sums binary (cut input) 16)
