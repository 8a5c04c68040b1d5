use Rattle.std.proofs.Common.{◌≡◌, ◌++◌, string_bytes}
use Rattle.pile.proofs.add_reads.Given as goal
use Rattle.pile.specs.Reports.{lines_of_reads}

abbrev pub invariant-loop-block : goal.invariant-loop-block
invariant-loop-block g l =
    string_bytes l.text ≡ string_bytes l.initial.text ++ lines_of_reads (g.S.Readable.marks l.sheet) l.block
