use Rattle.std.proofs.Common.{◌≡◌, ◌++◌, string_bytes}
use Rattle.pile.proofs.add_writes.Given as goal
use Rattle.pile.specs.Reports.{stepped, lines_of_writes}

abbrev pub invariant-loop-step : goal.invariant-loop-step
invariant-loop-step g l = record {
  lines : string_bytes l.text ≡ string_bytes l.initial.text ++ lines_of_writes (g.S.Readable.marks l.initial.sheet) l.step;
  list : g.S.Readable.marks l.sheet ≡ stepped (g.S.Readable.marks l.initial.sheet) l.step;
}
