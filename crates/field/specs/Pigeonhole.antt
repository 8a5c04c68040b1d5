-- An injective map of the numbers below n into themselves meets each of them.
use Rattle.std.specs.Prelude.{◌≡◌, ℕ, zero, suc, ◌<◌, cond, ◌≢◌, ◌⊎◌, ◌==◌}
use Rattle.std.proofs.Common.{sym, inl, inr, ⊎_elim, not-suc-le-zero, arith}
use Rattle.std.proofs.lemmas.Bool.{cases_lt, cases_eq}
use Rattle.std.proofs.lemmas.Bool.Decides.{nat_tests}

abbrev pub Below : ℕ → (ℕ → ℕ) → Type 0
Below n f = (i : ℕ) → i < n → f i < n

abbrev pub Injective : ℕ → (ℕ → ℕ) → Type 0
Injective n f = (i j : ℕ) → i < n → j < n → f i ≡ f j → i ≡ j

-- m in the place of p, and each other number as it is
unfoldable pub instead : ℕ → ℕ → ℕ → ℕ
instead p m i = cond (i == p) m i

pub instead_here : (p m : ℕ) → instead p m p ≡ m
unfolding instead
instead_here p m = grind (arith, nat_tests)

pub instead_elsewhere : (p m i : ℕ) → i ≢ p → instead p m i ≡ i
unfolding instead
instead_elsewhere p m i ne = grind (arith, nat_tests)

-- it takes the numbers below m, each to another, to the numbers up to m other than p
pub instead_lt : (p m i : ℕ) → i < m → instead p m i < suc m
unfolding instead
instead_lt p m i h = grind (arith, nat_tests)

pub instead_misses : (p m i : ℕ) → i < m → instead p m i ≢ p
unfolding instead
instead_misses p m i h = grind (arith, nat_tests)

pub instead_injective : (p m : ℕ) → Injective m (instead p m)
unfolding instead
instead_injective p m i j hi hj e = grind (arith, nat_tests)

-- where p is the largest, and m is missed
instead_top : (p m i : ℕ) → i < suc p → m < suc p → i ≢ m → instead p m i < p
unfolding instead
instead_top p m i hi hm ne = grind (arith, nat_tests)

instead_apart : (p m i j : ℕ) → i ≢ m → j ≢ m → instead p m i ≡ instead p m j → i ≡ j
unfolding instead
instead_apart p m i j ni nj e = grind (arith, nat_tests)

abbrev pub Misses : ℕ → (ℕ → ℕ) → ℕ → Type 0
Misses n f c = (i : ℕ) → i < n → f i ≢ c

none_missed : (n : ℕ) (f : ℕ → ℕ) (c : ℕ) → Below n f → Injective n f → c < n → Misses n f c → ⊥
none_missed zero f c low inj hc miss = not-suc-le-zero hc
none_missed (suc m) f c low inj hc miss =
    let last : m < suc m = omega arith in
    let up : (i : ℕ) → i < m → i < suc m = omega arith in
    let apart : (i : ℕ) → i < m → f i ≢ f m = λ i h e. let same : i ≡ m = inj i m (up i h) last e in omega arith in
    let cv : c ≢ f m = λ e. miss m last (sym e) in
    none_missed m (λ i. instead m (f m) (f i)) (instead m (f m) c)
    (λ i h. instead_top m (f m) (f i) (low i (up i h)) (low m last) (apart i h))
    (λ i j h k e. inj i j (up i h) (up j k) (instead_apart m (f m) (f i) (f j) (apart i h) (apart j k) e))
    (instead_top m (f m) c hc (low m last) cv)
    (λ i h e. miss i (up i h) (instead_apart m (f m) (f i) c (apart i h) cv e))

-- where f is c, or that it is nowhere
find : (n : ℕ) (f : ℕ → ℕ) (c : ℕ) → ((i : ℕ) × (i < n) × (f i ≡ c)) ⊎ Misses n f c
find zero f c = inr (λ i h e. not-suc-le-zero h)
find (suc n) f c =
    ⊎_elim (λ e. inl (n, omega arith, e))
    (λ ne. ⊎_elim (λ s. inl (s.0, omega arith, s.2))
    (λ miss. inr (λ i h. ⊎_elim (λ l. miss i l) (λ g e. let same : i ≡ n = omega arith in ne (rw same at e)) (cases_lt i n)))
    (find n f c))
    (cases_eq (f n) c)

pub onto : (n : ℕ) (f : ℕ → ℕ) → Below n f → Injective n f → (c : ℕ) → c < n → (i : ℕ) × (i < n) × (f i ≡ c)
onto n f low inj c hc = ⊎_elim (λ s. s) (λ miss. absurd (none_missed n f c low inj hc miss)) (find n f c)
