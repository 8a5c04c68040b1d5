-- What holds of the state of the search after k numbers of a stretch, and that each turn keeps it.
use Rattle.std.proofs.Common.{◌≡◌, ℕ, suc, ◌+◌, ◌-◌, ◌*◌, ◌<◌, ◌≤◌, List, [], ◌∷◌, length, drop, sym, refl, ap, ◌∙◌, ap₂, ⊎_elim, arith}
use mathlib.Core.Path.{fst_path}
use Rattle.field.proofs.Codes.{Code, operations, field_of_codes, same_code}
use Rattle.field.specs.Field.{Arithmetic, Laws}
use Rattle.generator.proofs.Actions.{act}
use Rattle.generator.proofs.BerlekampMassey.{Shortest as ShortestCodes, Helper, start_shortest, start_helper, same_shortest, same_helper, needed, next_length, next, Stepped, stepped}
use Rattle.generator.proofs.Bridge.{values, monic, length-monic, dot_act, shortest, only, combined_monic}
use Rattle.generator.specs.Finds.{Short, Long}
use Rattle.generator.specs.Generators.{dot, Shortest}
use Rattle.generator.specs.Steps.{Steps, state_length}
use Rattle.generator.specs.declared.berlekamp_massey.State.{State}
use Rattle.std.proofs.lemmas.Bool.{cases_lt}

module _ {A : Arithmetic} (L : Laws A) (stretch : List ℕ) where
  -- the generator is a shortest generator G of the first k numbers, and the helper B
  pub record Sound (k : ℕ) (s : State) : Type 0 where
    pub G : List (Code L)
    pub B : List (Code L)
    pub v : Code L
    pub generator_items : s.generator.items ≡ monic L G
    pub helper_items : s.helper.items ≡ monic L B
    pub inverse_is : v.0 ≡ s.inverse
    pub shortest_is : ShortestCodes (field_of_codes L) (values L stretch) k G
    pub helper_is : Helper (field_of_codes L) (values L stretch) k (length G) B v

  pub start : (s : State) → s.generator.items ≡ 1 ∷ [] → s.helper.items ≡ 1 ∷ [] → s.inverse ≡ 1 → Sound 0 s
  start s g b v = record {
    G = [];
    B = [];
    v = (operations L).𝟙;
    generator_items = g;
    helper_items = b;
    inverse_is = sym v;
    shortest_is = start_shortest (field_of_codes L) (values L stretch);
    helper_is = start_helper (field_of_codes L) (values L stretch) (operations L).𝟙;
  }

  module _ (k : ℕ) (s : State) (h : Sound k s) where
    length_is : state_length s ≡ length h.G
    length_is = omega (arith, ap length h.generator_items, length-monic L h.G)

    discrepancy_is : k < length stretch → dot A s.generator.items (drop (k - state_length s) stretch)
        ≡ (act (operations L) (operations L).𝟙 h.G (values L stretch) (k - length h.G)).0
    discrepancy_is more =
        ap₂ (λ g n. dot A g (drop (k - n) stretch)) h.generator_items length_is
        ∙ dot_act L h.G stretch (k - length h.G) (omega (arith, h.shortest_is.short))

    -- after all numbers
    module _ (all : k ≡ length stretch) where
      found : Shortest A (state_length s) s.generator.items stretch
      found = rw (length_is, h.generator_items) (shortest L stretch h.G (rw all at h.shortest_is))

      pub found_short : 2 * state_length s ≤ length stretch → Short A stretch (state_length s) s.generator.items
      found_short half = record {
        shortest = found;
        only = rw (length_is, h.generator_items) (only L stretch h.G (rw all at h.shortest_is) (omega (arith, length_is)));
        half = half;
      }

      pub found_long : length stretch < 2 * state_length s → Long A stretch (state_length s) s.generator.items
      found_long half = record { shortest = found; half = half }

    module _ (more : k < length stretch) (d : ℕ) (d_is : d ≡ dot A s.generator.items (drop (k - state_length s) stretch)) where
      -- a number that the generator does not fail at
      pub passes : d ≡ 0 → Sound (suc k) s
      passes z = record {
        G = h.G;
        B = h.B;
        v = h.v;
        generator_items = h.generator_items;
        helper_items = h.helper_items;
        inverse_is = h.inverse_is;
        shortest_is =
            same_shortest (field_of_codes L) (values L stretch) k h.G h.shortest_is (same_code L _ _ (sym (discrepancy_is more) ∙ sym d_is ∙ z));
        helper_is = same_helper (field_of_codes L) (values L stretch) k (length h.G) h.B h.v h.helper_is;
      }

      -- a number that it fails at
      module _ (nonzero : ¬ (d ≡ 0)) (t : State) (step : Steps A k d s t) where
        abbrev D : Code L
        D = act (operations L) (operations L).𝟙 h.G (values L stretch) (k - length h.G)

        abbrev N : List (Code L)
        N = next (field_of_codes L) k h.G h.B h.v D

        d_code : d ≡ D.0
        d_code = d_is ∙ discrepancy_is more

        goes_on : Stepped (field_of_codes L) (values L stretch) k h.G h.B h.v D
        goes_on =
            stepped (field_of_codes L) (values L stretch) k h.G h.B h.v D h.shortest_is h.helper_is refl (λ z. nonzero (d_code ∙ fst_path z))

        next_length_is : state_length t ≡ next_length (field_of_codes L) k h.G
        next_length_is = omega (arith, step.length_is, length_is)

        items_N : t.generator.items ≡ monic L N
        items_N =
            let n = next_length (field_of_codes L) k h.G in
            let p : state_length t - state_length s ≡ n - length h.G = ap₂ ◌-◌ next_length_is length_is in
            let e : state_length t - (k + 1 - state_length s) ≡ n - needed (field_of_codes L) k h.G = omega (arith, next_length_is, length_is) in
            let c : A.negate (A.times d s.inverse) ≡ A.negate (A.times D.0 h.v.0) =
            ap A.negate (ap₂ A.times d_code (sym h.inverse_is)) in
            combined_monic L (n - length h.G) h.G ((operations L).neg ((operations L).times D h.v)) (n - needed (field_of_codes L) k h.G) h.B
            t.generator.items goes_on.fits (rw (p, c, e, h.generator_items, h.helper_items) at step.generator_is)

        grows : state_length s < state_length t → Sound (suc k) t
        grows g =
            record {
              G = N;
              B = h.G;
              v = (field_of_codes L).inv D;
              generator_items = items_N;
              helper_items = rw (step.grown g).0 h.generator_items;
              inverse_is = sym ((step.grown g).1 ∙ ap A.invert d_code);
              shortest_is = goes_on.shortest;
              helper_is =
                  rw goes_on.length_is (goes_on.helper (omega (arith, next_length_is, length_is)));
            }

        stays : state_length t ≡ state_length s → Sound (suc k) t
        stays e =
            record {
              G = N;
              B = h.B;
              v = h.v;
              generator_items = items_N;
              helper_items = rw (step.kept e).0 h.helper_items;
              inverse_is = h.inverse_is ∙ sym (step.kept e).1;
              shortest_is = goes_on.shortest;
              helper_is =
                  rw (goes_on.length_is ∙ sym next_length_is ∙ e ∙ length_is)
                  (same_helper (field_of_codes L) (values L stretch) k (length h.G) h.B h.v h.helper_is);
            }

        pub steps : Sound (suc k) t
        steps = ⊎_elim grows (λ g. stays (omega (arith, step.length_is))) (cases_lt (state_length s) (state_length t))
