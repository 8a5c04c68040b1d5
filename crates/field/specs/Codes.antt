-- Lists of codes.
use Rattle.std.specs.Prelude.{ℕ, suc, ◌<◌, cond, List, [], ◌∷◌, length, nat_lt, slice_index}
use Rattle.field.specs.Field.{Arithmetic}

-- every number of the list is a code
abbrev pub Codes : Arithmetic → List ℕ → Type 0
Codes A xs = (i : ℕ) → i < length xs → slice_index xs i < A.size

-- the index of the first number that is no code, or the length where all are
unfoldable pub first_no_code : Arithmetic → List ℕ → ℕ
first_no_code A [] = 0
first_no_code A (x ∷ xs) = cond (nat_lt x A.size) (suc (first_no_code A xs)) 0
