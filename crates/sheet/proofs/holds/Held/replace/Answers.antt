use Rattle.std.proofs.Common.{min, List, refl, ap, ◌∙◌, arith, length-take}
use Rattle.sheet.proofs.Overlays.{one_changed, over_replaced}
use Rattle.sheet.proofs.holds.Held.replace.Goals as goal
use Rattle.sheet.specs.Holds.{holding}
use Rattle.sheet.specs.Overlays.{over, record_of}
use Rattle.sheet.specs.Holds.HeldPuts.{replaced}
use Rattle.sheet.specs.declared.records.Record.{Record}

pub offset_bounds-self-index : goal.offset_bounds-self-index
offset_bounds-self-index g c = let h = c.args.self.now in omega (arith, length-take (min h.count 32) h.records, c.requires.inside)

pub returns : goal.returns
returns g c =
    let h = c.args.self.now in
    let marks = g.S.Readable.marks h.below in
    let changed = one_changed h.records (min h.count 32) c.args.index 0 (record_of c.args.written.block c.args.written.mark) c.requires.inside in
    record {
      list = ap (λ (held : List Record). over held marks) changed ∙ over_replaced c.args.written.block c.args.written.mark (holding h) marks c.args.index c.requires;
      put = replaced c.args.index c.requires changed (refl {a = h.below});
    }
