-- Two sheets end to end.
use Rattle.std.specs.Prelude.{◌≡◌, ℕ, ◌+◌, ◌<◌, List, ◌++◌, length, slice_set}
use Rattle.sheet.specs.Marks.{cut}
use Rattle.sheet.specs.declared.joins.Joined.{Joined}

-- both lists end to end, cut after 65,536 marks
abbrev pub joined : List ℕ → List ℕ → List ℕ
joined first second = cut (first ++ second)

module _ {L R : Type 0} (first_marks : L → List ℕ) (second_marks : R → List ℕ) where
  abbrev pub joined_marks : Joined L R → List ℕ
  joined_marks s = joined (first_marks s.first) (second_marks s.second)

  -- the part that has the block takes the mark, and the other part stays
  pub data JoinedPuts (before : Joined L R) (block mark : ℕ) (after : Joined L R) : Type 0 where
    in_first : block < length (first_marks before.first) → first_marks after.first ≡ slice_set (first_marks before.first) block mark → after.second ≡ before.second → JoinedPuts before block mark after
    in_second : (at : ℕ) → length (first_marks before.first) + at ≡ block → after.first ≡ before.first → second_marks after.second ≡ slice_set (second_marks before.second) at mark → JoinedPuts before block mark after
