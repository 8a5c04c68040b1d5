use Rattle.std.proofs.Common.{◌≡◌, ◌++◌, string_bytes}
use Rattle.sums.proofs.add_sums.Given as goal
use Rattle.sums.specs.Reports.{lines_of_sums}

abbrev pub invariant-loop-place : goal.invariant-loop-place
invariant-loop-place g l =
    string_bytes l.text ≡ string_bytes l.initial.text ++ lines_of_sums g.F.Field.arithmetic (g.S.Readable.marks l.sheet) l.place
