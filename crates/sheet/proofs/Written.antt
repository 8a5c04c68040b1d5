-- What a write leaves, granted or denied.
use Rattle.std.proofs.Common.{◌≡◌, ℕ, List, set, Ok, Err, Result, sym, ap, ◌∙◌}
use Rattle.std.proofs.Math.Seq.{set_out}
use Rattle.denial.specs.declared.Denial.{Denial}
use Rattle.sheet.specs.Marks.{Writes}

pub written : {S : Type 0} (marks : S → List ℕ) (before after : S) (block mark : ℕ) (r : Result (Unit {0}) Denial) → Writes marks before block mark after r → marks after ≡ set (marks before) block mark
written marks before after block mark (Ok granted) (h, e) = e
written marks before after block mark (Err denial) (out, e) = ap marks e ∙ sym (set_out (marks before) block mark out.0)
