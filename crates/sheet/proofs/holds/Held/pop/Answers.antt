use Rattle.std.proofs.Common.{min, length, ap, arith, length-take}
use Rattle.sheet.proofs.Overlays.{over_popped}
use Rattle.sheet.proofs.holds.Held.pop.Goals as goal

pub returns : goal.returns
returns g c =
    let h = c.args.self.now in
    let n = min h.count 32 in
    let last = c.in_ok-last.last in
    let held = ap length c.held.ensures.list in (
      omega (arith, length-take n h.records, length-take (min last 32) h.records, held),
      over_popped h.records n last (min last 32) (g.S.Readable.marks h.below) (omega arith) (omega arith) (omega (arith, length-take n h.records, held)),
    )
