-- Marks that are held over a list.
use Rattle.std.specs.Prelude.{◌≡◌, ℕ, ◌<◌, ◌≤◌, List, [], ◌∷◌, length, ◌≢◌, slice_index_or, slice_set, refl}
use Rattle.std.proofs.Common.{length-set, ◌∙◌, arith}
use Rattle.sheet.specs.declared.records.Record.{Record}

abbrev pub record_of : (block mark : ℕ) → Record
record_of block mark = record { block = block; mark = mark }

abbrev pub at : List Record → ℕ → Record
at held i = slice_index_or held i (record_of 0 0)

-- the list with the held marks put over it; of two that are held for one block the first counts
abbrev pub over : List Record → List ℕ → List ℕ
over [] marks = marks
over (r ∷ held) marks = slice_set (over held marks) r.block r.mark

-- no mark is held for the block
abbrev pub Absent : ℕ → List Record → Type 0
Absent block held = (i : ℕ) → i < length held → (at held i).block ≢ block

-- the first mark that is held for the block is at index i
pub record HeldAt (block : ℕ) (held : List Record) (i : ℕ) : Type 0 where
  pub inside : i < length held
  pub here : (at held i).block ≡ block
  pub before : (k : ℕ) → k < i → (at held k).block ≢ block

pub over_length : (held : List Record) (marks : List ℕ) → length (over held marks) ≡ length marks
over_length [] marks = refl
over_length (r ∷ held) marks = length-set (over held marks) r.block r.mark ∙ over_length held marks

pub over_short : (held : List Record) (marks : List ℕ) → length marks ≤ 65536 → length (over held marks) ≤ 65536
over_short held marks h = omega (arith, over_length held marks)
