use Rattle.std.proofs.Common.{◌≡◌, ℕ, ◌/◌, ◌%◌, ◌^◌, ◌<◌, length, get_or}
use Rattle.trial.proofs.exhaustion.Lists.list.Given as goal

abbrev pub invariant-loop-place : goal.invariant-loop-place
invariant-loop-place l =
    (length l.codes.items ≡ l._place) × (l.left ≡ l.number / 5 ^ l._place)
    × ((i : ℕ) → i < l._place → get_or l.codes.items i 0 ≡ l.number / 5 ^ i % 5)
