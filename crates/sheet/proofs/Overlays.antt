-- Reads and writes of a list with marks held over it.
use Rattle.std.proofs.Common.{◌≡◌, ℕ, zero, suc, ◌+◌, ◌<◌, ◌≤◌, ◌≢◌, List, [], ◌∷◌, ◌++◌, length, get_or, take, set, Ok, Err, Result, sym, refl, ap, ◌∙◌, arith, length-take, get_or-set_other, take-suc, get_or-set_same, take-suc-set, set-set}
use lib.Seq.{set_comm, take-set-lt}
use Rattle.denial.specs.declared.Denial.{Denial}
use Rattle.sheet.specs.Marks.{Reads}
use Rattle.sheet.specs.Overlays.{over, at, record_of, Absent, HeldAt, over_length}
use Rattle.sheet.specs.declared.records.Record.{Record}

module _ (block : ℕ) (r : Record) (held : List Record) where
  absent_first : Absent block (r ∷ held) → block ≢ r.block
  absent_first none e = none 0 (omega arith) (sym e)

  absent_rest : Absent block (r ∷ held) → Absent block held
  absent_rest none i h = none (suc i) (omega arith)

  later : (i : ℕ) → HeldAt block (r ∷ held) (suc i) → HeldAt block held i
  later i p =
      record {
        inside = omega (arith, p.inside);
        here = p.here;
        before = λ k h. p.before (suc k) (omega arith);
      }

  not_first : (i : ℕ) → HeldAt block (r ∷ held) (suc i) → block ≢ r.block
  not_first i p e = p.before 0 (omega arith) (sym e)

-- a block that no mark is held for has its mark from below
pub over_absent : (block : ℕ) (held : List Record) (marks : List ℕ) → Absent block held → get_or (over held marks) block 0 ≡ get_or marks block 0
over_absent block [] marks none = refl
over_absent block (r ∷ held) marks none =
    get_or-set_other (over held marks) r.block block r.mark 0 (absent_first block r held none)
    ∙ over_absent block held marks (absent_rest block r held none)

pub shows_below : (block : ℕ) (held : List Record) (marks : List ℕ) → Absent block held → (r : Result ℕ Denial) → Reads marks block r → Reads (over held marks) block r
shows_below block held marks none (Ok mark) (h, e) = (omega (arith, over_length held marks), e ∙ sym (over_absent block held marks none))
shows_below block held marks none (Err denial) (h, e) = (omega (arith, over_length held marks), e)

-- a mark for it that is set below is set
pub over_below : (block mark : ℕ) (held : List Record) (marks : List ℕ) → Absent block held → over held (set marks block mark) ≡ set (over held marks) block mark
over_below block mark [] marks none = refl
over_below block mark (r ∷ held) marks none =
    ap (λ (xs : List ℕ). set xs r.block r.mark) (over_below block mark held marks (absent_rest block r held none))
    ∙ set_comm (over held marks) block r.block mark r.mark (absent_first block r held none)

-- a block that a mark is held for has that mark
pub over_held : (block : ℕ) (held : List Record) (marks : List ℕ) (i : ℕ) → HeldAt block held i → block < length marks → (at held i).mark ≡ get_or (over held marks) block 0
over_held block [] marks i p h = absurd (omega (arith, p.inside))
over_held block (r ∷ held) marks zero p h =
    sym (ap (λ (b : ℕ). get_or (over (r ∷ held) marks) b 0) (sym p.here)
    ∙ get_or-set_same (over held marks) r.block r.mark 0 (omega (arith, over_length held marks, p.here)))
over_held block (r ∷ held) marks (suc i) p h =
    over_held block held marks i (later block r held i p) h
    ∙ sym (get_or-set_other (over held marks) r.block block r.mark 0 (not_first block r held i p))

-- to replace it sets the mark
pub over_replaced : (block mark : ℕ) (held : List Record) (marks : List ℕ) (i : ℕ) → HeldAt block held i → over (set held i (record_of block mark)) marks ≡ set (over held marks) block mark
over_replaced block mark [] marks i p = absurd (omega (arith, p.inside))
over_replaced block mark (r ∷ held) marks zero p =
    sym (ap (λ (b : ℕ). set (set (over held marks) b r.mark) block mark) p.here ∙ set-set (over held marks) block r.mark mark)
over_replaced block mark (r ∷ held) marks (suc i) p =
    ap (λ (xs : List ℕ). set xs r.block r.mark) (over_replaced block mark held marks i (later block r held i p))
    ∙ set_comm (over held marks) block r.block mark r.mark (not_first block r held i p)

-- the last held mark can as well stand below
pub over_last : (held : List Record) (r : Record) (marks : List ℕ) → over (held ++ (r ∷ [])) marks ≡ over held (set marks r.block r.mark)
over_last [] r marks = refl
over_last (q ∷ held) r marks = ap (λ (xs : List ℕ). set xs q.block q.mark) (over_last held r marks)

-- the first records, with one more and with one changed
module _ (records : List Record) (n i m : ℕ) (r : Record) where
  pub one_more : i ≡ length (take n records) → n ≤ length records → i < length records → m ≡ i + 1 → take m (set records i r) ≡ take n records ++ (r ∷ [])
  one_more e h k f =
      let same : i ≡ n = omega (arith, length-take n records) in
      let next : m ≡ suc i = omega arith in
      ap (λ (q : ℕ). take q (set records i r)) next ∙ take-suc-set records i r k ∙ ap (λ (q : ℕ). take q records ++ (r ∷ [])) same

  pub one_changed : i < length (take n records) → take n (set records i r) ≡ set (take n records) i r
  one_changed h = take-set-lt n records i r (omega (arith, length-take n records))

-- the last of the first n records is taken away, and its mark is put below
pub over_popped : (records : List Record) (n i m : ℕ) (marks : List ℕ) → n ≡ i + 1 → m ≡ i → n ≤ length records → over (take m records) (set marks (at records i).block (at records i).mark) ≡ over (take n records) marks
over_popped records n i m marks e f h =
    let last : n ≡ suc i = omega arith in
    sym (ap (λ (q : ℕ). over (take q records) marks) last
    ∙ ap (λ (held : List Record). over held marks) (take-suc records i (record_of 0 0) (omega arith))
    ∙ over_last (take i records) (at records i) marks
    ∙ ap (λ (q : ℕ). over (take q records) (set marks (at records i).block (at records i).mark)) (sym f))
