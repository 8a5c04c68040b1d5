-- Reads and writes of two lists end to end, cut after 65,536 marks.
use Rattle.std.proofs.Common.{◌≡◌, ℕ, ◌+◌, ◌-◌, ◌<◌, ◌≤◌, min, List, ◌++◌, length, get_or, set, IfOk, Ok, Err, Result, sym, refl, ap, ◌∙◌, arith, length-append, get_or-take}
use Rattle.std.proofs.Math.Seq.{take-set-lt}
use Rattle.denial.specs.declared.Denial.{Denial}
use Rattle.sheet.proofs.Cuts.{cut_length}
use Rattle.sheet.specs.Joins.{joined, joined_marks, JoinedPuts}
use Rattle.sheet.specs.Joins.JoinedPuts.{in_first, in_second}
use Rattle.sheet.specs.Marks.{cut, Reads, Writes}
use Rattle.sheet.specs.Parts.{Finds, Locates, StandsFor}
use Rattle.sheet.specs.declared.joins.Joined.{Joined}
use Rattle.sheet.specs.declared.joins.Part.{Part}
use Rattle.sheet.specs.declared.joins.Part.TheVariants.{First, Second}
use Rattle.std.proofs.lemmas.List.{get_or_append_left, get_or-append_right, set-append_left, set-append_right}

pub joined_length : (xs ys : List ℕ) → min (length xs + length ys) 65536 ≡ length (joined xs ys)
joined_length xs ys = omega (arith, cut_length (xs ++ ys), length-append xs ys)

module _ (xs ys : List ℕ) (block : ℕ) (below : block < 65536) where
  at_first : block < length xs → get_or xs block 0 ≡ get_or (joined xs ys) block 0
  at_first h = sym (get_or-take 65536 (xs ++ ys) block 0 below ∙ get_or_append_left xs ys 0 block h)

  set_first : (mark : ℕ) → block < length xs → joined (set xs block mark) ys ≡ set (joined xs ys) block mark
  set_first mark h = ap cut (sym (set-append_left xs ys block mark h)) ∙ take-set-lt 65536 (xs ++ ys) block mark below

  at_second : length xs ≤ block → get_or ys (block - length xs) 0 ≡ get_or (joined xs ys) block 0
  at_second h = sym (get_or-take 65536 (xs ++ ys) block 0 below ∙ get_or-append_right xs ys (length xs) block 0 refl h)

  set_second : (mark : ℕ) → length xs ≤ block → joined xs (set ys (block - length xs) mark) ≡ set (joined xs ys) block mark
  set_second mark h =
      ap cut (sym (set-append_right xs ys (length xs) block mark refl h)) ∙ take-set-lt 65536 (xs ++ ys) block mark below

module _ {L R : Type 0} (first_marks : L → List ℕ) (second_marks : R → List ℕ) where
  -- the part grants what it is asked, so its block stands for a block with the same mark that is set with it
  stands : {P : Type 0} (part_marks : P → List ℕ) (whole : P → Joined L R) (part : P) (at block : ℕ)
      → at < length (part_marks part) → block < length (joined_marks first_marks second_marks (whole part))
      → get_or (part_marks part) at 0 ≡ get_or (joined_marks first_marks second_marks (whole part)) block 0
      → ((mark : ℕ) (after : P) → part_marks after ≡ set (part_marks part) at mark → joined_marks first_marks second_marks (whole after) ≡ set (joined_marks first_marks second_marks (whole part)) block mark)
      → ((mark : ℕ) (after : P) → part_marks after ≡ set (part_marks part) at mark → JoinedPuts first_marks second_marks (whole part) block mark (whole after))
      → StandsFor first_marks second_marks part_marks whole part at block
  stands part_marks whole part at block below inside same kept put =
      record {
        reads = λ r. elim r as (λ v. Reads (part_marks part) at v → Reads (joined_marks first_marks second_marks (whole part)) block v) [
          | Ok mark ↦ λ p. (inside, p.1 ∙ same)
          | Err denial ↦ λ p. absurd (omega arith)
        ];
        writes = λ mark after r. elim r as (λ v. Writes part_marks part at mark after v → Writes (joined_marks first_marks second_marks) (whole part) block mark (whole after) v) [
          | Ok granted ↦ λ p. (inside, kept mark after p.1)
          | Err denial ↦ λ p. absurd (omega arith)
        ];
        puts = λ mark after r. elim r as (λ v. Writes part_marks part at mark after v → IfOk v (λ granted. JoinedPuts first_marks second_marks (whole part) block mark (whole after))) [
          | Ok granted ↦ λ p. put mark after p.1
          | Err denial ↦ λ p. tt
        ];
      }

  pub found : (s : Joined L R) (block n m : ℕ) → n ≡ length (first_marks s.first) → m ≡ length (second_marks s.second) → (r : Result Part Denial) → Locates n m block r → Finds first_marks second_marks s block r
  found s block n m e f (Ok (First at)) (h, k, q) =
      let xs = first_marks s.first in
      let ys = second_marks s.second in
      let low : block < length xs = omega arith in
      stands first_marks (λ first. record { first = first; second = s.second }) s.first at block
      (omega arith) (omega (arith, joined_length xs ys)) (ap (λ b. get_or xs b 0) q ∙ at_first xs ys block h low)
      (λ mark after w. ap (λ zs. joined zs ys) (w ∙ ap (λ b. set xs b mark) q) ∙ set_first xs ys block h mark low)
      (λ mark after w. in_first low (w ∙ ap (λ b. set xs b mark) q) refl)
  found s block n m e f (Ok (Second at)) (h, k, q) =
      let xs = first_marks s.first in
      let ys = second_marks s.second in
      let high : length xs ≤ block = omega arith in
      let place : at ≡ block - length xs = omega arith in
      stands second_marks (λ second. record { first = s.first; second = second }) s.second at block
      (omega arith) (omega (arith, joined_length xs ys)) (ap (λ b. get_or ys b 0) place ∙ at_second xs ys block h high)
      (λ mark after w. ap (joined xs) (w ∙ ap (λ b. set ys b mark) place) ∙ set_second xs ys block h mark high)
      (λ mark after w. in_second at (omega arith) refl w)
  found s block n m e f (Err denial) (h, q) = (omega (arith, joined_length (first_marks s.first) (second_marks s.second)), q)
