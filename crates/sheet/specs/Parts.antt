-- How a block of a joined sheet is found in one of its parts.
use Rattle.std.specs.Prelude.{◌≡◌, ℕ, ◌+◌, ◌<◌, min, List, length, IfOk, Ok, Err, Result}
use Rattle.denial.specs.declared.Denial.{Denial}
use Rattle.sheet.specs.Joins.{joined_marks, JoinedPuts}
use Rattle.sheet.specs.Marks.{Outside, Reads, Writes}
use Rattle.sheet.specs.declared.joins.Joined.{Joined}
use Rattle.sheet.specs.declared.joins.Part.{Part}
use Rattle.sheet.specs.declared.joins.Part.TheVariants.{First, Second}

-- the part that has a block, and its number there, where the parts have n and m blocks
abbrev pub Locates : (n m block : ℕ) → Result Part Denial → Type 0
Locates n m block (Ok (First at)) = (block < 65536) × (at < n) × (at ≡ block)
Locates n m block (Ok (Second at)) = (block < 65536) × (at < m) × (n + at ≡ block)
Locates n m block (Err denial) = Outside (min (n + m) 65536) block denial

module _ {L R : Type 0} (first_marks : L → List ℕ) (second_marks : R → List ℕ) where
  -- a block of a part stands for a block of the whole sheet around it: a read or a write there answers and does what one of the whole would
  pub record StandsFor {P : Type 0} (part_marks : P → List ℕ) (whole : P → Joined L R) (part : P) (at block : ℕ) : Type 0 where
    pub reads : (r : Result ℕ Denial) → Reads (part_marks part) at r → Reads (joined_marks first_marks second_marks (whole part)) block r
    pub writes : (mark : ℕ) (after : P) (r : Result (Unit {0}) Denial) → Writes part_marks part at mark after r → Writes (joined_marks first_marks second_marks) (whole part) block mark (whole after) r
    pub puts : (mark : ℕ) (after : P) (r : Result (Unit {0}) Denial) → Writes part_marks part at mark after r → IfOk r (λ granted. JoinedPuts first_marks second_marks (whole part) block mark (whole after))

  -- a block of the joined sheet is found in one of the parts, and any other is denied
  abbrev pub Finds : Joined L R → ℕ → Result Part Denial → Type 0
  Finds s block (Ok (First at)) = StandsFor first_marks (λ first. record { first = first; second = s.second }) s.first at block
  Finds s block (Ok (Second at)) = StandsFor second_marks (λ second. record { first = s.first; second = second }) s.second at block
  Finds s block (Err denial) = Outside (length (joined_marks first_marks second_marks s)) block denial
