-- Monic polynomials by their coefficients.
use Rattle.std.proofs.Common.{◌≡◌, ℕ, zero, suc, ◌+◌, ◌-◌, ◌<◌, ◌≤◌, List, [], ◌∷◌, length, get_or, refl, ap, ◌∙◌, ap₂, arith}
use Rattle.field.proofs.Abstract.{Operations, Field}
use Rattle.field.proofs.Ring.{ring}
use Rattle.generator.proofs.BerlekampMassey.{raised_by, scaled, added, combined, length_raised, length_scaled}

module _ (O : Operations) where
  open O use {K, 𝟘, 𝟙}

  -- the coefficient at i of the monic polynomial over G
  abbrev pub coefficient : List K → ℕ → K
  coefficient [] zero = 𝟙
  coefficient [] (suc i) = 𝟘
  coefficient (g ∷ G) zero = g
  coefficient (g ∷ G) (suc i) = coefficient G i

  -- the coefficient at i of z^p times a polynomial with these coefficients
  abbrev pub after : ℕ → (ℕ → K) → ℕ → K
  after zero f i = f i
  after (suc p) f zero = 𝟘
  after (suc p) f (suc i) = after p f i

  pub after_before : (p : ℕ) (f : ℕ → K) (i : ℕ) → i < p → after p f i ≡ 𝟘
  after_before zero f i h = absurd (omega arith)
  after_before (suc p) f zero h = refl
  after_before (suc p) f (suc i) h = after_before p f i (omega arith)

  pub after_behind : (p : ℕ) (f : ℕ → K) (i : ℕ) → p ≤ i → after p f i ≡ f (i - p)
  after_behind zero f i h = ap f (omega arith)
  after_behind (suc p) f zero h = absurd (omega arith)
  after_behind (suc p) f (suc i) h = after_behind p f i (omega arith) ∙ ap f (omega arith)

module _ (F : Field) where
  open F.ops use {K, plus as ◌⊕◌, times as ◌⊗◌, 𝟘, 𝟙}

  infixl 65 ◌⊕◌
  infixl 70 ◌⊗◌
  coefficient_raised : (p : ℕ) (G : List K) (i : ℕ) → coefficient F.ops (raised_by F.ops p G) i ≡ after F.ops p (coefficient F.ops G) i
  unfolding raised_by
  coefficient_raised zero G i = refl
  coefficient_raised (suc p) G zero = refl
  coefficient_raised (suc p) G (suc i) = coefficient_raised p G i

  at_scaled : (c : K) (B : List K) (i : ℕ) → get_or (scaled F.ops c B) i 𝟘 ≡ c ⊗ coefficient F.ops B i
  unfolding scaled
  at_scaled c [] zero = simp ring
  at_scaled c [] (suc i) = simp ring
  at_scaled c (b ∷ B) zero = refl
  at_scaled c (b ∷ B) (suc i) = at_scaled c B i

  at_raised_scaled : (c : K) (B : List K) (e i : ℕ)
      → get_or (raised_by F.ops e (scaled F.ops c B)) i 𝟘 ≡ c ⊗ after F.ops e (coefficient F.ops B) i
  unfolding raised_by
  at_raised_scaled c B zero i = at_scaled c B i
  at_raised_scaled c B (suc e) zero = simp ring
  at_raised_scaled c B (suc e) (suc i) = at_raised_scaled c B e i

  coefficient_added : (G D : List K) (i : ℕ) → length D ≤ length G → coefficient F.ops (added F.ops G D) i ≡ coefficient F.ops G i ⊕ get_or D i 𝟘
  unfolding added
  coefficient_added [] [] i h = simp ring
  coefficient_added [] (d ∷ D) i h = absurd (omega arith)
  coefficient_added (g ∷ G) [] i h = simp ring
  coefficient_added (g ∷ G) (d ∷ D) zero h = refl
  coefficient_added (g ∷ G) (d ∷ D) (suc i) h = coefficient_added G D i (omega arith)

  pub coefficient_combined : (p : ℕ) (G : List K) (c : K) (e : ℕ) (B : List K) (i : ℕ) → e + length B < p + length G
      → coefficient F.ops (combined F.ops p G c e B) i
      ≡ after F.ops p (coefficient F.ops G) i ⊕ c ⊗ after F.ops e (coefficient F.ops B) i
  unfolding combined
  coefficient_combined p G c e B i h =
      coefficient_added (raised_by F.ops p G) (raised_by F.ops e (scaled F.ops c B)) i
      (omega (arith, length_raised F p G, length_raised F e (scaled F.ops c B), length_scaled F c B))
      ∙ ap₂ ◌⊕◌ (coefficient_raised p G i) (at_raised_scaled c B e i)
