-- What a sheet's list of marks is cut to, and what a read and a write of it answer.
use Rattle.std.specs.Prelude.{◌≡◌, ℕ, ◌<◌, ◌≤◌, List, length, take, Ok, Err, Result, slice_index, slice_set}
use Rattle.std.proofs.Common.{length-take, arith}
use Rattle.denial.specs.Refusals.{refusal, refused}
use Rattle.denial.specs.declared.Denial.{Denial}

-- the first 65,536 marks, or all of fewer
abbrev pub cut : List ℕ → List ℕ
cut xs = take 65536 xs

pub cut_short : (xs : List ℕ) → length (cut xs) ≤ 65536
cut_short xs = omega (arith, length-take 65536 xs)

-- a sheet of n blocks does not have the block, and the denial says so
abbrev pub Outside : (n block : ℕ) → Denial → Type 0
Outside n block denial = (n ≤ block) × (refusal denial ≡ refused 7 3 block)

-- a block of a sheet of n blocks is granted, and any other is denied
abbrev pub Checks : ℕ → ℕ → Result (Unit {0}) Denial → Type 0
Checks n block (Ok granted) = block < n
Checks n block (Err denial) = Outside n block denial

-- a block below the length is answered by its mark, and any other is denied
abbrev pub Reads : List ℕ → ℕ → Result ℕ Denial → Type 0
Reads marks block (Ok mark) = (block < length marks) × (mark ≡ slice_index marks block)
Reads marks block (Err denial) = Outside (length marks) block denial

-- a write to a block below the length puts the mark there and alters no other block; any other is denied, and the sheet is as it was
abbrev pub Writes : {Sheet : Type 0} (marks : Sheet → List ℕ) (before : Sheet) (block mark : ℕ) (after : Sheet) → Result (Unit {0}) Denial → Type 0
Writes marks before block mark after (Ok granted) = (block < length (marks before)) × (marks after ≡ slice_set (marks before) block mark)
Writes marks before block mark after (Err denial) = Outside (length (marks before)) block denial × (after ≡ before)
