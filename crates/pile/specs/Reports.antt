-- What the program prints for the numbers of its two tables.
use Rattle.std.specs.Prelude.{ℕ, zero, suc, ◌+◌, ◌*◌, ◌%◌, cond, List, [], ◌++◌, length, codes, decimal, nat_lt, slice_index, slice_set}
use Rattle.denial.specs.Refusals.{refused, text}

-- the block and the mark of a step: the blocks go round, and some are past the end
abbrev pub block_of : ℕ → ℕ
block_of step = step * 5 % 66

abbrev pub mark_of : ℕ → ℕ
mark_of step = 1000 + step

-- a list after the first n steps; a block that it does not have is not set
unfoldable pub stepped : List ℕ → ℕ → List ℕ
stepped marks zero = marks
stepped marks (suc n) = slice_set (stepped marks n) (block_of n) (mark_of n)

abbrev pub blocks_line : List ℕ → List ℕ
blocks_line marks = codes "blocks " ++ (decimal (length marks) ++ codes "\n")

-- a write and its answer, which is ok where the list has the block
abbrev pub answer_line : (block mark : ℕ) (answer : List ℕ) → List ℕ
answer_line block mark answer =
    codes "write " ++ (decimal block ++ (codes " " ++ (decimal mark ++ (codes " " ++ (answer ++ codes "\n")))))

abbrev pub line_of_write : List ℕ → (block mark : ℕ) → List ℕ
line_of_write marks block mark = answer_line block mark (cond (nat_lt block (length marks)) (codes "ok") (text (refused 7 3 block)))

-- the lines of the first n steps
unfoldable pub lines_of_writes : List ℕ → ℕ → List ℕ
lines_of_writes marks zero = []
lines_of_writes marks (suc n) = lines_of_writes marks n ++ line_of_write (stepped marks n) (block_of n) (mark_of n)

abbrev pub line_of_read : (block mark : ℕ) → List ℕ
line_of_read block mark = codes "read " ++ (decimal block ++ (codes " " ++ (decimal mark ++ codes "\n")))

-- the lines of the first n blocks
unfoldable pub lines_of_reads : List ℕ → ℕ → List ℕ
lines_of_reads marks zero = []
lines_of_reads marks (suc n) = lines_of_reads marks n ++ line_of_read n (slice_index marks n)

-- a pile prints what one list of marks would
abbrev pub report : List ℕ → List ℕ
report marks =
    let after = stepped marks 100 in
    blocks_line marks ++ (lines_of_writes marks 100 ++ (codes "flush\n" ++ lines_of_reads after (length after)))
