-- Polynomials as operators on sequences, over any field.
--
-- A polynomial is its leading coefficient w and the list G of the coefficients below it, the lowest first; its degree is the length of G. It
-- takes a sequence s to the sequence with g_0 s_i + g_1 s_(i + 1) + .. + w s_(i + length G) at i. It is monic where w is 𝟙.
use Rattle.std.proofs.Common.{◌≡◌, ℕ, suc, ◌+◌, ◌<◌, ◌≤◌, List, [], ◌∷◌, length, refl, ap, ◌∙◌, arith}
use Rattle.field.proofs.Abstract.{Operations, Field}
use Rattle.field.proofs.Ring.{ring}

module _ (O : Operations) where
  open O use {K, plus as ◌⊕◌, times as ◌⊗◌, 𝟘, 𝟙}

  infixl 65 ◌⊕◌
  infixl 70 ◌⊗◌
  unfoldable pub act : K → List K → (ℕ → K) → ℕ → K
  act w [] s i = w ⊗ s i
  act w (g ∷ G) s i = g ⊗ s i ⊕ act w G s (suc i)

  -- the monic polynomial over G generates the first k values of a sequence
  abbrev pub Generator : List K → (ℕ → K) → ℕ → Type 0
  Generator G a k = (i : ℕ) → i + length G < k → act 𝟙 G a i ≡ 𝟘

  -- and no shorter one does
  abbrev pub Least : List K → (ℕ → K) → ℕ → Type 0
  Least G a k = (H : List K) → Generator H a k → length G ≤ length H

module _ (F : Field) where
  open F.ops use {K, plus as ◌⊕◌, times as ◌⊗◌, 𝟘, 𝟙}

  infixl 65 ◌⊕◌
  infixl 70 ◌⊗◌
  pub act_nil : (w : K) (s : ℕ → K) (i : ℕ) → act F.ops w [] s i ≡ w ⊗ s i
  unfolding act
  act_nil w s i = refl

  pub act_cons : (w g : K) (G : List K) (s : ℕ → K) (i : ℕ) → act F.ops w (g ∷ G) s i ≡ g ⊗ s i ⊕ act F.ops w G s (suc i)
  unfolding act
  act_cons w g G s i = refl

  -- and for a sequence as a whole
  pub act_nil_all : (w : K) (s : ℕ → K) → act F.ops w [] s ≡ (λ i. w ⊗ s i)
  unfolding act
  act_nil_all w s = refl

  pub act_cons_all : (w g : K) (G : List K) (s : ℕ → K) → act F.ops w (g ∷ G) s ≡ (λ i. g ⊗ s i ⊕ act F.ops w G s (suc i))
  unfolding act
  act_cons_all w g G s = refl

  -- the equations that define act
  pub ruleset clauses = (act_nil_all, act_cons_all, act_nil, act_cons)

  pub act_add : (w : K) (G : List K) (u v : ℕ → K) (i : ℕ) → act F.ops w G (λ j. u j ⊕ v j) i ≡ act F.ops w G u i ⊕ act F.ops w G v i
  act_add w [] u v i = simp (clauses, ring)
  act_add w (g ∷ G) u v i = simp (clauses, act_add w G u v (suc i), ring)

  pub act_scale : (w : K) (G : List K) (c : K) (u : ℕ → K) (i : ℕ) → act F.ops w G (λ j. c ⊗ u j) i ≡ c ⊗ act F.ops w G u i
  act_scale w [] c u i = simp (clauses, ring)
  act_scale w (g ∷ G) c u i = simp (clauses, act_scale w G c u (suc i), ring)

  pub act_next : (w : K) (G : List K) (u : ℕ → K) (i : ℕ) → act F.ops w G (λ j. u (suc j)) i ≡ act F.ops w G u (suc i)
  act_next w [] u i = simp clauses
  act_next w (g ∷ G) u i = simp (clauses, act_next w G u (suc i))

  -- two polynomials may act in either order
  pub act_act : (w : K) (G : List K) (v : K) (H : List K) (s : ℕ → K) (i : ℕ)
      → act F.ops w G (act F.ops v H s) i ≡ act F.ops v H (act F.ops w G s) i
  act_act w [] v H s i = simp (clauses, act_scale v H w s i)
  act_act w (g ∷ G) v H s i =
      simp (
        clauses,
        act_add v H (λ j. g ⊗ s j) (λ j. act F.ops w G s (suc j)) i,
        act_scale v H g s i,
        act_next v H (act F.ops w G s) i,
        act_act w G v H s (suc i),
      )

  -- where all values but the last that it reads are zero, the last is left
  pub act_last : (w : K) (G : List K) (u : ℕ → K) (i n : ℕ) → n ≡ i + length G → ((j : ℕ) → i ≤ j → j < n → u j ≡ 𝟘) → act F.ops w G u i ≡ w ⊗ u n
  act_last w [] u i n e h = act_nil w u i ∙ ap (λ m. w ⊗ u m) (omega arith)
  act_last w (g ∷ G) u i n e h =
      simp (clauses, h i (omega arith) (omega arith), act_last w G u (suc i) n (omega arith) (λ j p q. h j (omega arith) q), ring)

  pub act_zero : (w : K) (G : List K) (u : ℕ → K) (i : ℕ) → ((j : ℕ) → i ≤ j → j ≤ i + length G → u j ≡ 𝟘) → act F.ops w G u i ≡ 𝟘
  act_zero w G u i h =
      act_last w G u i (i + length G) refl (λ j p q. h j p (omega arith)) ∙ simp (h (i + length G) (omega arith) (omega arith), ring)
