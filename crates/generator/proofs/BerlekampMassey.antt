-- A step of the algorithm of Berlekamp and Massey, over any field: from a shortest generator of k values to one of k + 1.
use Rattle.std.proofs.Common.{◌≡◌, ℕ, zero, suc, ◌+◌, ◌-◌, ◌<◌, ◌≤◌, max, List, [], ◌∷◌, length, sym, refl, ap, ◌∙◌, ap₂, arith}
use native.Mathlib.Decide.{ℕ_discrete}
use Rattle.field.proofs.Abstract.{Operations, Field}
use Rattle.field.proofs.Ring.{ring, neg_mul, mul_assoc, mul_comm, mul_one, add_neg}
use Rattle.generator.proofs.Actions.{act, Generator, Least, clauses}
use Rattle.generator.proofs.Exchange.{massey}

module _ (O : Operations) where
  open O use {K, plus as ◌⊕◌, times as ◌⊗◌, 𝟘}

  infixl 65 ◌⊕◌
  infixl 70 ◌⊗◌
  -- z^p G
  unfoldable pub raised_by : ℕ → List K → List K
  raised_by zero G = G
  raised_by (suc p) G = 𝟘 ∷ raised_by p G

  -- all coefficients of c times the monic polynomial over B
  unfoldable pub scaled : K → List K → List K
  scaled c [] = c ∷ []
  scaled c (b ∷ B) = (c ⊗ b) ∷ scaled c B

  -- D added to G, where D is no longer
  unfoldable pub added : List K → List K → List K
  added [] D = []
  added (g ∷ G) [] = g ∷ G
  added (g ∷ G) (d ∷ D) = (g ⊕ d) ∷ added G D

  -- z^p G + c z^e B, of monic polynomials over G and B
  unfoldable pub combined : ℕ → List K → K → ℕ → List K → List K
  combined p G c e B = added (raised_by p G) (raised_by e (scaled c B))

module _ (F : Field) where
  open F.ops use {K, plus as ◌⊕◌, times as ◌⊗◌, neg, 𝟘, 𝟙}

  infixl 65 ◌⊕◌
  infixl 70 ◌⊗◌
  pub length_raised : (p : ℕ) (G : List K) → length (raised_by F.ops p G) ≡ p + length G
  unfolding raised_by
  length_raised zero G = omega arith
  length_raised (suc p) G = omega (arith, length_raised p G)

  pub length_scaled : (c : K) (B : List K) → length (scaled F.ops c B) ≡ suc (length B)
  unfolding scaled
  length_scaled c [] = refl
  length_scaled c (b ∷ B) = ap suc (length_scaled c B)

  length_added : (G D : List K) → length (added F.ops G D) ≡ length G
  unfolding added
  length_added [] D = refl
  length_added (g ∷ G) [] = refl
  length_added (g ∷ G) (d ∷ D) = ap suc (length_added G D)

  pub length_combined : (p : ℕ) (G : List K) (c : K) (e : ℕ) (B : List K) → length (combined F.ops p G c e B) ≡ p + length G
  unfolding combined
  length_combined p G c e B = length_added _ _ ∙ length_raised p G

  act_raised : (w : K) (p : ℕ) (G : List K) (s : ℕ → K) (i : ℕ) → act F.ops w (raised_by F.ops p G) s i ≡ act F.ops w G s (p + i)
  unfolding raised_by
  act_raised w zero G s i = ap (act F.ops w G s) (omega arith)
  act_raised w (suc p) G s i =
      let here : p + suc i ≡ suc p + i = omega arith in
      simp (clauses, act_raised w p G s (suc i), ring) (ap (act F.ops w G s) here)

  act_scaled : (c : K) (B : List K) (s : ℕ → K) (i : ℕ) → act F.ops 𝟘 (scaled F.ops c B) s i ≡ c ⊗ act F.ops 𝟙 B s i
  unfolding scaled
  act_scaled c [] s i = simp (clauses, ring)
  act_scaled c (b ∷ B) s i = simp (clauses, act_scaled c B s (suc i), ring)

  act_added : (w : K) (G D : List K) (s : ℕ → K) (i : ℕ) → length D ≤ length G
      → act F.ops w (added F.ops G D) s i ≡ act F.ops w G s i ⊕ act F.ops 𝟘 D s i
  unfolding added
  act_added w [] [] s i h = simp (clauses, ring)
  act_added w [] (d ∷ D) s i h = absurd (omega arith)
  act_added w (g ∷ G) [] s i h = simp (clauses, ring)
  act_added w (g ∷ G) (d ∷ D) s i h = simp (clauses, act_added w G D s (suc i) (omega arith), ring)

  -- where c z^e B has the lower degree
  pub act_combined : (p : ℕ) (G : List K) (c : K) (e : ℕ) (B : List K) (s : ℕ → K) (i : ℕ) → e + length B < p + length G
      → act F.ops 𝟙 (combined F.ops p G c e B) s i ≡ act F.ops 𝟙 G s (p + i) ⊕ c ⊗ act F.ops 𝟙 B s (e + i)
  unfolding combined
  act_combined p G c e B s i h =
      act_added 𝟙 (raised_by F.ops p G) (raised_by F.ops e (scaled F.ops c B)) s i
      (omega (arith, length_raised p G, length_raised e (scaled F.ops c B), length_scaled c B))
      ∙ ap₂ ◌⊕◌ (act_raised 𝟙 p G s i) (act_raised 𝟘 e (scaled F.ops c B) s i ∙ act_scaled c B s (e + i))

  -- a shortest generator of the first k values
  pub record Shortest (a : ℕ → K) (k : ℕ) (G : List K) : Type 0 where
    pub gen : Generator F.ops G a k
    pub least : Least F.ops G a k
    pub short : length G ≤ k

  -- beside a shortest generator of length L: B generates the values that it reads from i, for each i below L - 1, and fails at L - 1 by a
  -- discrepancy with the inverse v. Nothing is asked of the discrepancy where L is 0.
  pub record Helper (a : ℕ → K) (k L : ℕ) (B : List K) (v : K) : Type 0 where
    pub before : (i : ℕ) → suc i < L → act F.ops 𝟙 B a i ≡ 𝟘
    pub fails : (i : ℕ) → suc i ≡ L → act F.ops 𝟙 B a i ⊗ v ≡ 𝟙
    pub short : length B + L ≤ k

  -- at no value
  pub start_shortest : (a : ℕ → K) → Shortest a 0 []
  start_shortest a = record { gen = λ i p. absurd (omega arith); least = λ H gen. omega arith; short = omega arith }

  pub start_helper : (a : ℕ → K) (v : K) → Helper a 0 0 [] v
  start_helper a v = record { before = λ i p. absurd (omega arith); fails = λ i p. absurd (omega arith); short = omega arith }

  -- where G does not fail at the next value, all stays
  pub same_shortest : (a : ℕ → K) (k : ℕ) (G : List K) → Shortest a k G → act F.ops 𝟙 G a (k - length G) ≡ 𝟘 → Shortest a (suc k) G
  same_shortest a k G s z =
      record {
        gen = λ i p. elim (ℕ_discrete i (k - length G)) [ yes q ↦ ap (act F.ops 𝟙 G a) q ∙ z | no n ↦ s.gen i (omega (arith, s.short)) ];
        least = λ H gen. s.least H (λ i p. gen i (omega arith));
        short = omega (arith, s.short);
      }

  pub same_helper : (a : ℕ → K) (k L : ℕ) (B : List K) (v : K) → Helper a k L B v → Helper a (suc k) L B v
  same_helper a k L B v h = record { before = h.before; fails = h.fails; short = omega (arith, h.short) }

  -- what is taken away makes up for the discrepancy
  makes_up : (d b v : K) → b ⊗ v ≡ 𝟙 → d ⊕ neg (d ⊗ v) ⊗ b ≡ 𝟘
  makes_up d b v e = rw (neg_mul, mul_assoc, mul_comm F v b, e, mul_one) (add_neg F d)

  -- the length that a failure asks for, and the next length
  abbrev pub needed : ℕ → List K → ℕ
  needed k G = suc k - length G

  abbrev pub next_length : ℕ → List K → ℕ
  next_length k G = max (length G) (needed k G)

  -- the next generator, where G fails by d
  abbrev pub next : ℕ → List K → List K → K → K → List K
  next k G B v d = combined F.ops (next_length k G - length G) G (neg (d ⊗ v)) (next_length k G - needed k G) B

  -- what is known after a failure; where the length grows, G is the next helper
  pub record Stepped (a : ℕ → K) (k : ℕ) (G B : List K) (v d : K) : Type 0 where
    pub fits : next_length k G - needed k G + length B < next_length k G - length G + length G
    pub length_is : length (next k G B v d) ≡ next_length k G
    pub shortest : Shortest a (suc k) (next k G B v d)
    pub helper : length G < next_length k G → Helper a (suc k) (next_length k G) G (F.inv d)

  module _ (a : ℕ → K) (k : ℕ) (G B : List K) (v d : K) (s : Shortest a k G) (h : Helper a k (length G) B v)
      (d_is : d ≡ act F.ops 𝟙 G a (k - length G)) (nonzero : ¬ (d ≡ 𝟘)) where
    next_fits : next_length k G - needed k G + length B < next_length k G - length G + length G
    next_fits = omega (arith, s.short, h.short)

    length_next : length (next k G B v d) ≡ next_length k G
    length_next =
        omega (arith, length_combined (next_length k G - length G) G (neg (d ⊗ v)) (next_length k G - needed k G) B)

    next_gen : Generator F.ops (next k G B v d) a (suc k)
    next_gen i p =
        let l = length_next in
        let x = s.short in
        act_combined (next_length k G - length G) G (neg (d ⊗ v)) (next_length k G - needed k G) B a i next_fits
        ∙ elim (ℕ_discrete (next_length k G - length G + i) (k - length G)) [
          | yes q ↦ (let last : suc (next_length k G - needed k G + i) ≡ length G = omega arith in
              rw (q, ← d_is) (makes_up d (act F.ops 𝟙 B a (next_length k G - needed k G + i)) v (h.fails (next_length k G - needed k G + i) last)))
          | no n ↦ simp (
            s.gen (next_length k G - length G + i) (omega arith),
            h.before (next_length k G - needed k G + i) (omega arith),
            ring,
          )
        ]

    -- by Massey's inequality with G
    next_least : Least F.ops (next k G B v d) a (suc k)
    next_least H gen =
        omega (
          arith,
          length_next,
          s.short,
          s.least H (λ i p. gen i (omega arith)),
          massey F G H a (k - length G) k (omega (arith, s.short)) s.gen (λ z. nonzero (d_is ∙ z)) gen,
        )

    next_helper : length G < next_length k G → Helper a (suc k) (next_length k G) G (F.inv d)
    next_helper grows =
        let x = s.short in
        record {
          before = λ i p. s.gen i (omega arith);
          fails = λ i e.
              let here : i ≡ k - length G = omega arith in
              ap (λ n. act F.ops 𝟙 G a n ⊗ F.inv d) here ∙ ap (λ y. y ⊗ F.inv d) (sym d_is) ∙ F.times_inv d nonzero;
          short = omega arith;
        }

    pub stepped : Stepped a k G B v d
    stepped = record {
      fits = next_fits;
      length_is = length_next;
      shortest = record { gen = next_gen; least = next_least; short = omega (arith, length_next, s.short) };
      helper = next_helper;
    }
