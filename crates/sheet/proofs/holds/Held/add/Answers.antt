use Rattle.std.proofs.Common.{◌+◌, min, List, refl, ap, ◌∙◌, arith}
use Rattle.sheet.proofs.Holding.{put_below, wrote_below}
use Rattle.sheet.proofs.Overlays.{one_more, over_below, over_last}
use Rattle.sheet.proofs.holds.Held.add.Goals as goal
use Rattle.sheet.specs.Holds.{holding}
use Rattle.sheet.specs.Overlays.{over, record_of}
use Rattle.sheet.specs.Holds.HeldPuts.{added}
use Rattle.sheet.specs.declared.records.Record.{Record}

pub returns-in-Some : goal.returns-in-Some
returns-in-Some g c =
    let h = c.args.self.now in
    let marks = g.S.Readable.marks h.below in
    let block = c.args.written.block in
    let mark = c.args.written.mark in
    let i = c.in-Some.index in
    let more = one_more h.records (min h.count 32) i (min (i + 1) 32) (record_of block mark) c.in-Some.ensures.1 (omega arith) (omega arith) (omega (arith, c.in-Some.ensures.0)) in
    record {
      wrote = (c.requires.inside, ap (λ (held : List Record). over held marks) more ∙ over_last (holding h) (record_of block mark) marks ∙ over_below block mark (holding h) marks c.requires.absent);
      put = added c.requires.absent (omega (arith, c.in-Some.ensures.0, c.in-Some.ensures.1)) more (refl {a = h.below});
    }

pub returns-in-None : goal.returns-in-None
returns-in-None g c =
    let h = c.args.self.now in
    let marks = g.S.Readable.marks in
    let after = c.write.new.self in
    record {
      wrote = wrote_below marks h c.args.written.block c.args.written.mark after c.requires.absent c.write.result c.write.ensures;
      put = put_below marks h c.args.written.block c.args.written.mark after c.requires.absent c.in-None.ensures c.write.result c.write.ensures;
    }
