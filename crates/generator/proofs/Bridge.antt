-- From lists of numbers to polynomials over the field of codes, and back.
use Rattle.std.proofs.Common.{◌≡◌, ℕ, zero, suc, ◌+◌, ◌-◌, ◌*◌, ◌<◌, ◌≤◌, List, [], ◌∷◌, ◌++◌, map, length, get_or, drop, sym, refl, ap, ◌∙◌, ap₂, ⊎_elim, add-one, arith, length-append}
use mathlib.Core.Path.{fst_path}
use Rattle.field.proofs.Codes.{Code, operations, field_of_codes, same_code, code}
use Rattle.field.proofs.Derived.{times_counts}
use Rattle.field.specs.Codes.{Codes}
use Rattle.field.specs.Field.{Arithmetic, Laws}
use Rattle.generator.proofs.Actions.{act, Generator}
use Rattle.generator.proofs.BerlekampMassey.{combined, length_combined, Shortest as ShortestCodes}
use Rattle.generator.proofs.Coefficients.{coefficient, after, after_before, after_behind, coefficient_combined}
use Rattle.generator.proofs.Exchange.{unique}
use Rattle.generator.specs.Generators.{dot, Generates, Shortest, Only}
use Rattle.generator.specs.Steps.{Combined, shifted_at}
use Rattle.std.proofs.lemmas.List.{drop_more, get_or_push, length-map}
use Rattle.std.proofs.lemmas.Grind.{same_number_lists}
use Rattle.std.proofs.lemmas.Bool.{cases_lt, lt-ltb, le-ltb}

module _ {A : Arithmetic} (L : Laws A) where
  -- the sequence of codes that the numbers of a stretch count as
  abbrev pub values : List ℕ → ℕ → Code L
  values stretch i = code L (get_or stretch i 0)

  -- all coefficients of the monic polynomial over X
  abbrev pub monic : List (Code L) → List ℕ
  monic X = map (λ x. x.0) X ++ (1 ∷ [])

  pub length-monic : (X : List (Code L)) → length (monic X) ≡ length X + 1
  length-monic X = simp (length-append, length-map)

  -- 0 stands past the end
  at_monic : (X : List (Code L)) (i : ℕ) → get_or (monic X) i 0 ≡ (coefficient (operations L) X i).0
  at_monic [] zero = refl
  at_monic [] (suc i) = refl
  at_monic (x ∷ X) zero = refl
  at_monic (x ∷ X) (suc i) = at_monic X i

  -- a list of codes that ends in 1 is the coefficients of a monic polynomial
  monic_of : (K : ℕ) (f : List ℕ) → Codes A f → length f ≡ suc K → get_or f K 0 ≡ 1 → (X : List (Code L)) × (length X ≡ K) × (monic X ≡ f)
  monic_of K [] h e m = absurd (omega arith)
  monic_of zero (x ∷ []) h e m = ([], refl, ap (λ y. y ∷ []) (sym m))
  monic_of zero (x ∷ (y ∷ f)) h e m = absurd (omega arith)
  monic_of (suc K) (x ∷ f) h e m =
      let r = monic_of K f (λ i p. h (suc i) (omega arith)) (omega arith) m in
      ((x, h 0 (omega arith)) ∷ r.0, ap suc r.1, ap (λ l. x ∷ l) r.2)

  -- the products with a part of a stretch are the action on its values
  pub dot_act : (X : List (Code L)) (stretch : List ℕ) (i : ℕ) → i + length X < length stretch
      → dot A (monic X) (drop i stretch) ≡ (act (operations L) (operations L).𝟙 X (values stretch) i).0
  unfolding act dot
  dot_act [] stretch i h =
      let x = get_or stretch i 0 in
      ap (dot A (1 ∷ [])) (drop_more stretch i 0 (omega arith)) ∙ L.plus_zero (A.times 1 x) (L.times_code 1 x) ∙ times_counts L 1 x
  dot_act (g ∷ X) stretch i h =
      let x = get_or stretch i 0 in
      ap (dot A (monic (g ∷ X))) (drop_more stretch i 0 (omega arith) ∙ ap (λ n. x ∷ drop n stretch) (add-one i))
      ∙ ap₂ A.plus (times_counts L g.0 x) (dot_act X stretch (suc i) (omega arith))

  -- generators of a stretch and of its values
  module _ (stretch : List ℕ) where
    generates : (X : List (Code L)) → Generator (operations L) X (values stretch) (length stretch) → Generates A (length X) (monic X) stretch
    generates X gen = record {
      size = length-monic X ∙ add-one (length X);
      codes = λ i h. rw at_monic (coefficient (operations L) X i).1;
      monic = get_or_push (map (λ x. x.0) X) 1 0 (length X) (length-map X (λ x. x.0));
      zeros = λ i p r. dot_act X stretch (i - length X) (omega arith) ∙ fst_path (gen (i - length X) (omega arith));
    }

    generated : (K : ℕ) (X : List (Code L)) → length X ≡ K → Generates A K (monic X) stretch → Generator (operations L) X (values stretch) (length stretch)
    generated K X e gen i p =
        let back : i + K - K ≡ i = omega arith in
        same_code L _ _ (sym (dot_act X stretch i p) ∙ ap (λ n. dot A (monic X) (drop n stretch)) (sym back) ∙ gen.zeros (i + K) (omega arith) (omega arith))

    pub shortest : (X : List (Code L)) → ShortestCodes (field_of_codes L) (values stretch) (length stretch) X → Shortest A (length X) (monic X) stretch
    shortest X s = record { generates = generates X s.gen; least = λ K f gen. least K f gen (monic_of K f gen.codes gen.size gen.monic) }
      where
        least : (K : ℕ) (f : List ℕ) → Generates A K f stretch → (Y : List (Code L)) × (length Y ≡ K) × (monic Y ≡ f) → length X ≤ K
        least K f gen y = omega (arith, s.least y.0 (generated K y.0 y.1 (rw y.2 gen)), y.1)

    pub only : (X : List (Code L)) → ShortestCodes (field_of_codes L) (values stretch) (length stretch) X → 2 * length X ≤ length stretch → Only A (length X) (monic X) stretch
    only X s half f gen = same (monic_of (length X) f gen.codes gen.size gen.monic)
      where
        same : (Y : List (Code L)) × (length Y ≡ length X) × (monic Y ≡ f) → f ≡ monic X
        same y =
            let e : X ≡ y.0 = unique (field_of_codes L) X y.0 (values stretch) (length stretch) (sym y.1) (omega arith) s.gen
            (generated (length X) y.0 y.1 (rw y.2 gen)) s.least in
            sym y.2 ∙ ap monic (sym e)

  -- the coefficients of z^p times a polynomial
  shifted_monic : (p : ℕ) (X : List (Code L)) (i : ℕ) → shifted_at p (monic X) i ≡ (after (operations L) p (coefficient (operations L) X) i).0
  shifted_monic p X i =
      let f = coefficient (operations L) X in
      ⊎_elim (λ l. simp (lt-ltb i p l, after_before (operations L) p f i l))
      (λ g. simp (le-ltb i p g, at_monic X, after_behind (operations L) p f i g))
      (cases_lt i p)

  pub combined_monic : (p : ℕ) (X : List (Code L)) (c : Code L) (e : ℕ) (Y : List (Code L)) (new : List ℕ) → e + length Y < p + length X
      → Combined A p (monic X) c.0 e (monic Y) new → new ≡ monic (combined (operations L) p X c e Y)
  combined_monic p X c e Y new fits sum =
      let N = combined (operations L) p X c e Y in
      same_number_lists new (monic N)
      (omega (arith, sum.size, length-monic X, length-monic N, length_combined (field_of_codes L) p X c e Y))
      (λ i h. sum.each i (omega (arith, sum.size)) ∙ ap₂ (λ x y. A.plus x (A.times c.0 y)) (shifted_monic p X i) (shifted_monic e Y i)
      ∙ ap (λ z. z.0) (sym (coefficient_combined (field_of_codes L) p X c e Y i fits)) ∙ sym (at_monic N i))
