use Rattle.std.proofs.Common.{arith}
use Rattle.sheet.proofs.Cuts.{cut_length}
use Rattle.sheet.proofs.tables.TableWritable.write.Goals as goal

pub offset_bounds-self-block : goal.offset_bounds-self-block
offset_bounds-self-block c = omega (arith, cut_length)

pub bounds-self-block : goal.bounds-self-block
bounds-self-block c = omega (arith, cut_length)
