-- The sums of a sheet.
use Rattle.std.specs.Prelude.{◌≡◌, ℕ, suc, ◌*◌, ◌<◌, ◌≤◌, List, [], ◌∷◌, Ok, Err, Result}
use Rattle.denial.specs.Refusals.{refusal, refused}
use Rattle.denial.specs.declared.Denial.{Denial}
use Rattle.field.specs.Field.{Arithmetic, power}

-- the total over the blocks from j on, whose marks these are, of the mark times base^(place * block)
unfoldable pub total_from : Arithmetic → ℕ → ℕ → List ℕ → ℕ
total_from A place j [] = 0
total_from A place j (mark ∷ marks) =
    A.plus (A.times mark (power A A.base (place * j))) (total_from A place (suc j) marks)

-- the sum of a sheet at a place
abbrev pub sum_at_place : Arithmetic → List ℕ → ℕ → ℕ
sum_at_place A marks place = total_from A place 0 marks

-- a place below 544 is answered by its sum, and any other is denied
abbrev pub Sums : Arithmetic → List ℕ → ℕ → Result ℕ Denial → Type 0
Sums A marks place (Ok sum) = (place < 544) × (sum ≡ sum_at_place A marks place)
Sums A marks place (Err denial) = (544 ≤ place) × (refusal denial ≡ refused 13 2 place)
