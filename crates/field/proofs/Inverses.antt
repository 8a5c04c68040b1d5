-- The inverse of a code a other than 0 is a power of a. The product by a only changes the order of the codes other than 0, so the
-- product of them all stays as it is with a factor a at each of them: a raised to the size of the field less one is 1.
use Rattle.std.proofs.Common.{◌≡◌, ℕ, zero, suc, ◌-◌, ◌<◌, ◌≤◌, ◌≢◌, sym, refl, ap, ◌∙◌, ap₂, ⊎_elim, not-suc-le-zero, arith}
use Rattle.std.proofs.lemmas.Bool.{cases_lt}
use Rattle.field.specs.Field.{Arithmetic, Laws, raised, power}
use Rattle.field.proofs.Derived.{products, times_cancel, times_positive}
use Rattle.field.specs.Pigeonhole.{Below, Injective, instead, instead_here, instead_elsewhere, instead_lt, instead_misses, instead_injective, onto}
use Rattle.field.specs.Powers.{Products, power_code}

-- the product of f 0, .., f (n - 1)
abbrev product_of : (ℕ → ℕ → ℕ) → (ℕ → ℕ) → ℕ → ℕ
product_of times f zero = 1
product_of times f (suc n) = times (f n) (product_of times f n)

-- equal factors have equal products
product_same : (times : ℕ → ℕ → ℕ) (f g : ℕ → ℕ) (n : ℕ) → ((i : ℕ) → i < n → f i ≡ g i) → product_of times f n ≡ product_of times g n
product_same times f g zero same = refl
product_same times f g (suc n) same =
    ap₂ times (same n (omega arith)) (product_same times f g n (λ i h. same i (omega arith)))

-- where σ takes p to m, it takes the other numbers up to m to the numbers below m
module _ (σ : ℕ → ℕ) (p m : ℕ) (low : Below (suc m) σ) (inj : Injective (suc m) σ) (hp : p < suc m) (top : σ p ≡ m) where
  others_below : Below m (λ i. σ (instead p m i))
  others_below i h =
      let j = instead p m i in
      let hj : j < suc m = instead_lt p m i h in
      let up : σ j < suc m = low j hj in
      let ne : σ j ≢ m = λ e. instead_misses p m i h (inj j p hj hp (e ∙ sym top)) in
      omega arith

  others_injective : Injective m (λ i. σ (instead p m i))
  others_injective i j hi hj e =
      instead_injective p m i j hi hj (inj (instead p m i) (instead p m j) (instead_lt p m i hi) (instead_lt p m j hj) e)

module _ {q : ℕ} {times : ℕ → ℕ → ℕ} (P : Products q times) where
  -- a * (b * c) = b * (a * c)
  exchange : (a b c : ℕ) → times a (times b c) ≡ times b (times a c)
  exchange a b c = sym (P.assoc a b c) ∙ ap (λ (x : ℕ). times x c) (P.comm a b) ∙ P.assoc b a c

  product_code : (f : ℕ → ℕ) (n : ℕ) → product_of times f n < q
  product_code f zero = P.one_code
  product_code f (suc n) = P.code (f n) (product_of times f n)

  -- m in the place of p changes no factor before p
  product_before : (f : ℕ → ℕ) (p m n : ℕ) → n ≤ p → product_of times (λ i. f (instead p m i)) n ≡ product_of times f n
  product_before f p m n h =
      product_same times (λ i. f (instead p m i)) f n (λ i l. ap f (instead_elsewhere p m i (λ e. omega arith)))

  -- with f m in the place of the factor f p, the product loses f p and gains f m
  product_replaced : (f : ℕ → ℕ) (p m n : ℕ) → p < n
      → times (f m) (product_of times f n) ≡ times (f p) (product_of times (λ i. f (instead p m i)) n)
  product_replaced f p m zero h = absurd (not-suc-le-zero h)
  product_replaced f p m (suc n) h =
      let rest = product_of times (λ i. f (instead p m i)) n in
      exchange (f m) (f n) (product_of times f n)
      ∙ ⊎_elim
      (λ l. let other : n ≢ p = λ e. omega arith in
      cc (product_replaced f p m n l, exchange (f n) (f p) rest, instead_elsewhere p m n other))
      (λ g. let here : p ≡ n = omega arith in cc (instead_here p m, product_before f p m n g))
      (cases_lt p n)

  -- any factor comes first, and the last one takes its place
  product_first : (f : ℕ → ℕ) (p m : ℕ) → p < suc m → product_of times f (suc m) ≡ times (f p) (product_of times (λ i. f (instead p m i)) m)
  product_first f p m h =
      ⊎_elim (λ l. product_replaced f p m m l) (λ g. let here : p ≡ m = omega arith in cc (product_before f p m m g)) (cases_lt p m)

  -- the order of the factors does not matter
  product_permuted : (σ f : ℕ → ℕ) (n : ℕ) → Below n σ → Injective n σ → product_of times (λ i. f (σ i)) n ≡ product_of times f n
  product_permuted σ f zero low inj = refl
  product_permuted σ f (suc m) low inj =
      let s : (p : ℕ) × (p < suc m) × (σ p ≡ m) = onto (suc m) σ low inj m (omega arith) in
      let p = s.0 in
      let low' : Below m (λ i. σ (instead p m i)) = others_below σ p m low inj s.1 s.2 in
      let inj' : Injective m (λ i. σ (instead p m i)) = others_injective σ p m low inj s.1 s.2 in
      product_first (λ i. f (σ i)) p m s.1
      ∙ ap₂ times (ap f s.2) (product_permuted (λ i. σ (instead p m i)) f m low' inj')

  -- a factor a with each of n factors makes the nth power of a
  product_scaled : (a : ℕ) (f : ℕ → ℕ) (n : ℕ) → product_of times (λ i. times a (f i)) n ≡ times (raised times a n) (product_of times f n)
  unfolding raised
  product_scaled a f zero = sym (P.one 1 P.one_code)
  product_scaled a f (suc n) =
      let x = raised times a n in
      let y = product_of times f n in
      ap (times (times a (f n))) (product_scaled a f n) ∙ P.assoc a (f n) (times x y) ∙ ap (times a) (exchange (f n) x y)
      ∙ sym (P.assoc a x (times (f n) y))

module _ {A : Arithmetic} (L : Laws A) where
  -- codes other than 0 have a product other than 0
  product_positive : (f : ℕ → ℕ) (n : ℕ) → ((i : ℕ) → i < n → (0 < f i) × (f i < A.size)) → 0 < product_of A.times f n
  product_positive f zero codes = omega arith
  product_positive f (suc n) codes =
      let last = codes n (omega arith) in
      times_positive L (f n) (product_of A.times f n) last.0 last.1
      (product_positive f n (λ i h. codes i (omega arith))) (product_code (products L) f n)

-- a is a code other than 0, as is suc i for each i below the size less one
module _ {A : Arithmetic} (L : Laws A) (a : ℕ) (pos : 0 < a) (ha : a < A.size) where
  suc_code : (i : ℕ) → i < A.size - 1 → (0 < suc i) × (suc i < A.size)
  suc_code i h = (omega arith, omega arith)

  -- the product by a takes suc i to suc (moved i)
  moved : ℕ → ℕ
  moved i = A.times a (suc i) - 1

  suc_moved : (i : ℕ) → i < A.size - 1 → suc (moved i) ≡ A.times a (suc i)
  unfolding moved
  suc_moved i h =
      let some : 0 < A.times a (suc i) = times_positive L a (suc i) pos ha (omega arith) (suc_code i h).1 in
      omega arith

  moved_below : Below (A.size - 1) moved
  moved_below i h = omega (arith, suc_moved i h, L.times_code a (suc i))

  moved_injective : Injective (A.size - 1) moved
  moved_injective i j hi hj e =
      let same : A.times a (suc i) ≡ A.times a (suc j) = sym (suc_moved i hi) ∙ ap suc e ∙ suc_moved j hj in
      let next : suc i ≡ suc j = times_cancel L a (suc i) (suc j) pos ha (suc_code i hi).1 (suc_code j hj).1 same in
      omega arith

  -- so a factor a at each of the codes other than 0 changes nothing in their product
  product_unchanged : A.times (power A a (A.size - 1)) (product_of A.times suc (A.size - 1)) ≡ product_of A.times suc (A.size - 1)
  product_unchanged =
      sym (product_scaled (products L) a suc (A.size - 1))
      ∙ sym (product_same A.times (λ i. suc (moved i)) (λ i. A.times a (suc i)) (A.size - 1) suc_moved)
      ∙ product_permuted (products L) moved suc (A.size - 1) moved_below moved_injective

  pub fermat : power A a (A.size - 1) ≡ 1
  fermat =
      let x = power A a (A.size - 1) in
      let all = product_of A.times suc (A.size - 1) in
      let hall : all < A.size = product_code (products L) suc (A.size - 1) in
      let some : 0 < all = product_positive L suc (A.size - 1) suc_code in
      times_cancel L all x 1 some hall (power_code (products L) a (A.size - 1)) L.one_code
      (L.times_comm all x ∙ product_unchanged ∙ sym (L.times_one all hall))

  pub inverse_power : A.invert a ≡ power A a (A.size - 2)
  unfolding raised
  inverse_power =
      let two : 1 < A.size = L.one_code in
      let e : A.size - 1 ≡ suc (A.size - 2) = omega arith in
      times_cancel L a (A.invert a) (power A a (A.size - 2)) pos ha (L.invert_code a) (power_code (products L) a (A.size - 2))
      (L.inverted a pos ha ∙ sym fermat ∙ ap (power A a) e)
