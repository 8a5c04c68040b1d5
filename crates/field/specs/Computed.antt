-- One test that antt computes, at every number below a bound.
use Rattle.std.specs.Prelude.{◌≡◌, ℕ, zero, suc, ◌<◌, Bool, true, false, ◌&&◌, T}
use Rattle.std.proofs.Common.{⊎_elim, subst, not-suc-le-zero, arith}
use Rattle.std.proofs.lemmas.Bool.{cases_lt}

pub first_passes : (a b : Bool) → T (a && b) → T a
first_passes true b t = tt
first_passes false b t = t

pub second_passes : (a b : Bool) → T (a && b) → T b
second_passes true b t = t
second_passes false b t = absurd t

-- f passes at each number below n
abbrev pub all : (ℕ → Bool) → ℕ → Bool
all f zero = true
all f (suc n) = f n && all f n

pub all_at : (f : ℕ → Bool) (n : ℕ) → T (all f n) → (k : ℕ) → k < n → T (f k)
all_at f zero t k h = absurd (not-suc-le-zero h)
all_at f (suc n) t k h =
    ⊎_elim (λ l. all_at f n (second_passes (f n) (all f n) t) k l)
    (λ g. let e : n ≡ k = omega arith in subst (λ (m : ℕ). T (f m)) e (first_passes (f n) (all f n) t)) (cases_lt k n)
