use Rattle.std.proofs.Common.{◌≡◌, ℕ, ◌+◌, ◌/◌, ◌%◌, ◌^◌, ◌<◌, List, [], ◌∷◌, ◌++◌, length, get_or, sym, ap, ◌∙◌, add-one, below_more, pow-suc, arith}
use Rattle.std.proofs.Math.Nat.{div-div-eq-div-mul}
use Rattle.std.proofs.lemmas.List.{get_or_append_left, get_or_push}
use Rattle.trial.proofs.exhaustion.Lists.list.Goals as goal

next_digit : (n i : ℕ) → n / 5 ^ i / 5 ≡ n / 5 ^ (i + 1)
next_digit n i = div-div-eq-div-mul n (5 ^ i) 5 ∙ ap (λ (x : ℕ). n / x) (sym (ap (λ (k : ℕ). 5 ^ k) (add-one i) ∙ pow-suc 5 i))

push_digit : (xs : List ℕ) (n i left : ℕ) → length xs ≡ i → left ≡ n / 5 ^ i → ((k : ℕ) → k < i → get_or xs k 0 ≡ n / 5 ^ k % 5)
    → (k : ℕ) → k < i + 1 → get_or (xs ++ (left % 5) ∷ []) k 0 ≡ n / 5 ^ k % 5
push_digit xs n i left size left_is each =
    below_more _ _ (λ k h. get_or_append_left xs _ 0 k (omega arith) ∙ each k h) (get_or_push xs (left % 5) 0 i size ∙ ap (λ (x : ℕ). x % 5) left_is)

pub loop-place-preserved : goal.loop-place-preserved
loop-place-preserved c =
    let l = c.loop-place in
    let more = push_digit l.codes.items c.args.number l._place l.left l.invariant.0 l.invariant.1 l.invariant.2 in
    (omega arith, ap (λ (x : ℕ). x / 5) l.invariant.1 ∙ next_digit c.args.number l._place, rw c.push.ensures.items more)
