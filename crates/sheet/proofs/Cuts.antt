-- A list that is cut after 65,536 marks.
use Rattle.std.proofs.Common.{◌≡◌, ℕ, ◌<◌, min, List, length, set, sym, ap, ◌∙◌, arith, length-take, get_or-take, Some, slice_get, slice_index}
use Rattle.std.proofs.lemmas.Option.{slice_get-get_or}
use Rattle.std.proofs.Math.Seq.{take-set-lt}
use Rattle.sheet.specs.Marks.{cut}

pub cut_length : (xs : List ℕ) → length (cut xs) ≡ min (length xs) 65536
cut_length xs = omega (arith, length-take 65536 xs)

pub cut_set : (xs : List ℕ) (block mark : ℕ) → block < length (cut xs) → cut (set xs block mark) ≡ set (cut xs) block mark
cut_set xs block mark h = let below : block < 65536 = omega (arith, cut_length xs) in take-set-lt 65536 xs block mark below

-- the number at the index of a block is the block's mark
pub cut_number : (xs : List ℕ) (block : ℕ) → block < length (cut xs) → slice_get xs block ≡ Some (slice_index (cut xs) block)
cut_number xs block h =
    let inside : block < length xs = omega (arith, cut_length xs) in
    let below : block < 65536 = omega (arith, cut_length xs) in
    slice_get-get_or xs block 0 inside ∙ ap Some (sym (get_or-take 65536 xs block 0 below))
