-- A write that a held sheet passes on to the sheet below.
use Rattle.std.proofs.Common.{ℕ, ◌≤◌, List, length, IfOk, Ok, Err, Result, refl, ap, ◌∙◌, arith}
use Rattle.denial.specs.declared.Denial.{Denial}
use Rattle.sheet.proofs.Overlays.{over_below}
use Rattle.sheet.specs.Holds.{holding, overlaid, HeldPuts}
use Rattle.sheet.specs.Marks.{Writes}
use Rattle.sheet.specs.Overlays.{over, Absent, over_length}
use Rattle.sheet.specs.Holds.HeldPuts.{passed}
use Rattle.sheet.specs.declared.holds.Held.{Held}

module _ {S : Type 0} (below_marks : S → List ℕ) (h : Held S) (block mark : ℕ) (after : S) (absent : Absent block (holding h)) where
  pub wrote_below : (r : Result (Unit {0}) Denial) → Writes below_marks h.below block mark after r → Writes (overlaid below_marks) h block mark record { below = after; records = h.records; count = h.count } r
  wrote_below (Ok granted) (p, e) =
      (omega (arith, over_length (holding h) (below_marks h.below)), ap (over (holding h)) e ∙ over_below block mark (holding h) (below_marks h.below) absent)
  wrote_below (Err denial) (out, e) =
      ((omega (arith, over_length (holding h) (below_marks h.below), out.0), out.1), ap (λ (b : S). record { below = b; records = h.records; count = h.count }) e)

  pub put_below : 32 ≤ length (holding h) → (r : Result (Unit {0}) Denial) → Writes below_marks h.below block mark after r → IfOk r (λ granted. HeldPuts below_marks h block mark record { below = after; records = h.records; count = h.count })
  put_below full (Ok granted) (p, e) = passed absent full refl e
  put_below full (Err denial) p = tt
