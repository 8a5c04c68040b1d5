-- Massey's inequality: a generator that fails and one that goes on have together more than all values before. With 2L values or more, a
-- shortest generator of length L is therefore the only one of its length.
use Rattle.std.proofs.Common.{◌≡◌, ℕ, zero, suc, ◌+◌, ◌-◌, ◌<◌, ◌≤◌, ◌⊎◌, List, [], ◌∷◌, map, length, sym, refl, ap, ◌∙◌, ap₂, inl, inr, arith}
use lib.ListN.{length-map}
use native.Mathlib.Decide.{dec_le}
use Rattle.field.proofs.Abstract.{Field}
use Rattle.field.proofs.Ring.{ring, one_mul, sub_eq_zero}
use Rattle.generator.proofs.Actions.{act, Generator, Least, act_act, act_last, act_zero, clauses}

module _ (F : Field) where
  open F.ops use {K, plus as ◌⊕◌, times as ◌⊗◌, neg, 𝟘, 𝟙}

  infixl 65 ◌⊕◌
  infixl 70 ◌⊗◌
  -- G generates k values and fails at the next one, at i; H generates that one too
  pub massey : (G H : List K) (a : ℕ → K) (i k : ℕ) → i + length G ≡ k → Generator F.ops G a k → ¬ (act F.ops 𝟙 G a i ≡ 𝟘)
      → Generator F.ops H a (suc k) → k < length G + length H
  massey G H a i k e gen fails more = elim (dec_le (length G + length H) k) [ yes p ↦ absurd (fails (vanishes p)) | no n ↦ omega arith ]
    where
      vanishes : length G + length H ≤ k → act F.ops 𝟙 G a i ≡ 𝟘
      vanishes p =
          let o : ℕ = i - length H in
          sym (act_last F 𝟙 H (act F.ops 𝟙 G a) o i (omega arith) (λ j q r. gen j (omega arith)) ∙ one_mul F (act F.ops 𝟙 G a i))
          ∙ sym (act_act F 𝟙 G 𝟙 H a o) ∙ act_zero F 𝟙 G (act F.ops 𝟙 H a) o (λ j q r. more j (omega arith))

  -- a sequence that G generates and that begins with as many zeros as G is long is zero
  stays_zero : (G : List K) (u : ℕ → K) (n : ℕ) → ((j : ℕ) → j < length G → u j ≡ 𝟘) → Generator F.ops G u n → (m j : ℕ) → j < m → j < n → u j ≡ 𝟘
  stays_zero G u n start gen zero j p q = absurd (omega arith)
  stays_zero G u n start gen (suc m) j p q = elim (dec_le (length G) j) [
    | yes l ↦ (let i : ℕ = j - length G in
        sym (act_last F 𝟙 G u i j (omega arith) (λ x y z. stays_zero G u n start gen m x (omega arith) (omega arith)) ∙ one_mul F (u j))
        ∙ gen i (omega arith))
    | no l ↦ start j (omega arith)
  ]

  -- the difference of two lists of the same length
  minus : List K → List K → List K
  minus [] H = []
  minus (g ∷ G) [] = []
  minus (g ∷ G) (h ∷ H) = (neg h ⊕ g) ∷ minus G H

  length_minus : (G H : List K) → length G ≡ length H → length (minus G H) ≡ length G
  unfolding minus
  length_minus [] H e = refl
  length_minus (g ∷ G) [] e = absurd (omega arith)
  length_minus (g ∷ G) (h ∷ H) e = ap suc (length_minus G H (omega arith))

  act_minus : (w : K) (G H : List K) (s : ℕ → K) (i : ℕ) → length G ≡ length H
      → act F.ops w H s i ⊕ act F.ops 𝟘 (minus G H) s i ≡ act F.ops w G s i
  unfolding minus
  act_minus w [] [] s i e = simp (clauses, ring)
  act_minus w [] (h ∷ H) s i e = absurd (omega arith)
  act_minus w (g ∷ G) [] s i e = absurd (omega arith)
  act_minus w (g ∷ G) (h ∷ H) s i e = simp (clauses, ← act_minus w G H s (suc i) (omega arith)) (simp ring)

  abbrev AllZero : List K → Type 0
  AllZero [] = Unit {0}
  AllZero (g ∷ G) = (g ≡ 𝟘) × AllZero G

  minus_zero : (G H : List K) → length G ≡ length H → AllZero (minus G H) → G ≡ H
  unfolding minus
  minus_zero [] [] e h = refl
  minus_zero [] (x ∷ H) e h = absurd (omega arith)
  minus_zero (g ∷ G) [] e h = absurd (omega arith)
  minus_zero (g ∷ G) (x ∷ H) e h = ap₂ ◌∷◌ (sym (sub_eq_zero F x g h.0)) (minus_zero G H (omega arith) h.1)

  act_all_zero : (G : List K) (s : ℕ → K) (i : ℕ) → AllZero G → act F.ops 𝟘 G s i ≡ 𝟘
  act_all_zero [] s i h = simp (clauses, ring)
  act_all_zero (g ∷ G) s i h = simp (clauses, h.0, act_all_zero G s (suc i) h.1, ring)

  -- a list that is not all zeros, as a polynomial whose leading coefficient is not zero
  record Leads (G : List K) : Type 0 where
    lead : K
    low : List K
    nonzero : ¬ (lead ≡ 𝟘)
    shorter : length low < length G
    same : (s : ℕ → K) (i : ℕ) → act F.ops 𝟘 G s i ≡ act F.ops lead low s i

  leads : (G : List K) → AllZero G ⊎ Leads G
  leads [] = inl tt
  leads (g ∷ G) = elim (leads G) [
    | inl z ↦ elim (F.decide g 𝟘) [
      | yes e ↦ inl (e, z)
      | no n ↦ inr (record { lead = g; low = []; nonzero = n; shorter = omega arith; same = λ s i. simp (clauses, act_all_zero G s (suc i) z, ring) })
    ]
    | inr l ↦ inr (record {
      lead = l.lead;
      low = g ∷ l.low;
      nonzero = l.nonzero;
      shorter = omega (arith, l.shorter);
      same = λ s i. simp (clauses, l.same s (suc i));
    })
  ]

  act_times : (c w : K) (G : List K) (s : ℕ → K) (i : ℕ) → act F.ops (c ⊗ w) (map (λ g. c ⊗ g) G) s i ≡ c ⊗ act F.ops w G s i
  act_times c w [] s i = simp (clauses, ring)
  act_times c w (g ∷ G) s i = simp (clauses, act_times c w G s (suc i), ring)

  -- were there two, their difference, made monic, would be a shorter one
  pub unique : (G H : List K) (a : ℕ → K) (k : ℕ) → length G ≡ length H → length G + length G ≤ k → Generator F.ops G a k → Generator F.ops H a k
      → Least F.ops G a k → G ≡ H
  unique G H a k e fits genG genH least = elim (leads (minus G H)) [ inl z ↦ minus_zero G H e z | inr l ↦ absurd (shorter_one l) ]
    where
      shorter_one : Leads (minus G H) → ⊥
      shorter_one l =
          let c : K = F.inv l.lead in
          let E : List K = map (λ g. c ⊗ g) l.low in
          let short : length E < length G = simp length-map (omega (arith, length_minus G H e, l.shorter)) in
          let one : c ⊗ l.lead ≡ 𝟙 = F.times_comm c l.lead ∙ F.times_inv l.lead l.nonzero in
          let u : ℕ → K = act F.ops 𝟙 E a in
          let start : (j : ℕ) → j < length G → u j ≡ 𝟘 = λ j p.
          let z : act F.ops 𝟘 (minus G H) a j ≡ 𝟘 = simp (genG j (omega arith), genH j (omega arith), ring) at (act_minus 𝟙 G H a j e) in
          ap (λ w. act F.ops w E a j) (sym one) ∙ act_times c l.lead l.low a j ∙ ap (λ x. c ⊗ x) (sym (l.same a j) ∙ z) ∙ simp ring in
          let next : Generator F.ops G u (k - length E) = λ i p.
          act_act F 𝟙 G 𝟙 E a i ∙ act_zero F 𝟙 E (act F.ops 𝟙 G a) i (λ j q r. genG j (omega arith)) in
          let genE : Generator F.ops E a k = λ i p. stays_zero G u (k - length E) start next (suc i) i (omega arith) (omega arith) in
          omega (arith, least E genE)
