-- A sheet that holds marks over the sheet below it.
use Rattle.std.specs.Prelude.{◌≡◌, ℕ, ◌<◌, ◌≤◌, min, List, [], ◌∷◌, ◌++◌, length, take, Some, None, Option, Result, slice_index, slice_set}
use Rattle.denial.specs.declared.Denial.{Denial}
use Rattle.sheet.specs.Marks.{Reads}
use Rattle.sheet.specs.Overlays.{over, record_of, Absent, HeldAt}
use Rattle.sheet.specs.declared.holds.Held.{Held}
use Rattle.sheet.specs.declared.records.Record.{Record}

-- the marks that are held: the first records, as many as are counted and at most 32
abbrev pub holding : {S : Type 0} → Held S → List Record
holding h = take (min h.count 32) h.records

-- the marks below with the held ones put over them
abbrev pub overlaid : {S : Type 0} → (S → List ℕ) → Held S → List ℕ
overlaid below_marks h = over (holding h) (below_marks h.below)

module _ {S : Type 0} (below_marks : S → List ℕ) where
  -- what a granted write leaves of a held sheet
  pub data HeldPuts (before : Held S) (block mark : ℕ) (after : Held S) : Type 0 where
    -- the mark that is held for the block is replaced
    replaced : (i : ℕ) → HeldAt block (holding before) i → holding after ≡ slice_set (holding before) i (record_of block mark) → after.below ≡ before.below → HeldPuts before block mark after
    -- no mark is held for it, and fewer than 32 are held: one more is
    added : Absent block (holding before) → length (holding before) < 32 → holding after ≡ holding before ++ (record_of block mark ∷ []) → after.below ≡ before.below → HeldPuts before block mark after
    -- else it goes below
    passed : Absent block (holding before) → 32 ≤ length (holding before) → holding after ≡ holding before → below_marks after.below ≡ slice_set (below_marks before.below) block mark → HeldPuts before block mark after

  -- the last held mark is taken away, to be put below
  abbrev pub Pops : Held S → Held S → Option Record → Type 0
  Pops before after (Some r) =
      (length (holding after) < length (holding before)) × (over (holding after) (slice_set (below_marks after.below) r.block r.mark) ≡ overlaid below_marks before)
  Pops before after None = (holding after ≡ []) × (below_marks after.below ≡ overlaid below_marks before)

-- the mark that is held for a block is the block's mark; where none is held, a read below answers
abbrev pub Shows : (held : List Record) (below : List ℕ) (block : ℕ) → Option ℕ → Type 0
Shows held below block (Some mark) = block < length (over held below) → mark ≡ slice_index (over held below) block
Shows held below block None = (r : Result ℕ Denial) → Reads below block r → Reads (over held below) block r
