use Rattle.std.proofs.Common.{◌≡◌, length}
use Rattle.sheet.proofs.holds.Held.flush.Given as goal
use Rattle.sheet.specs.Holds.{holding, overlaid}

abbrev pub invariant-loop-held : goal.invariant-loop-held
invariant-loop-held g l = overlaid g.S.Readable.marks l.self ≡ overlaid g.S.Readable.marks l.initial.self

abbrev pub decreases-loop-held : goal.decreases-loop-held
decreases-loop-held g l = length (holding l.self)
