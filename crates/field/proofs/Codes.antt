-- The codes of a lawful field as a field over a carrier, and lists of codes.
use Rattle.std.proofs.Common.{◌≡◌, ℕ, zero, suc, ◌%◌, ◌<◌, ◌≤◌, Bool, cond, List, [], ◌∷◌, length, get_or, ap, ◌∙◌, arith}
use mathlib.Core.HLevel.{Σ_prop_path, Σ_prop_discrete}
use mathlib.Core.Path.{fst_path}
use native.Mathlib.Bridge.{le_prop}
use native.Mathlib.Decide.{ℕ_discrete}
use Rattle.field.proofs.Abstract.{Operations, Field}
use Rattle.field.proofs.Derived.{zero_code, remainder_code}
use Rattle.field.specs.Codes.{first_no_code}
use Rattle.field.specs.Field.{Arithmetic, Laws}
use Rattle.std.proofs.lemmas.Bool.{lt-ltb, le-ltb}

-- where all numbers before index i are codes and the one at i is none, i is the first
pub first_no_code_at : (A : Arithmetic) (xs : List ℕ) (i : ℕ) → i < length xs → ((k : ℕ) → k < i → get_or xs k 0 < A.size) → A.size ≤ get_or xs i 0 → first_no_code A xs ≡ i
unfolding first_no_code
first_no_code_at A [] i inside codes none = absurd (omega arith)
first_no_code_at A (x ∷ xs) zero inside codes none = ap (λ (b : Bool). cond b (suc (first_no_code A xs)) 0) (le-ltb x A.size none)
first_no_code_at A (x ∷ xs) (suc i) inside codes none =
    ap (λ (b : Bool). cond b (suc (first_no_code A xs)) 0) (lt-ltb x A.size (codes 0 (omega arith)))
    ∙ ap suc (first_no_code_at A xs i (omega arith) (λ k h. codes (suc k) (omega arith)) none)

module _ {A : Arithmetic} (L : Laws A) where
  abbrev pub Code : Type 0
  Code = (n : ℕ) × (n < A.size)

  pub same_code : (x y : Code) → x.0 ≡ y.0 → x ≡ y
  same_code x y e = Σ_prop_path (λ n. le_prop) e

  abbrev pub operations : Operations
  operations = record {
    K = Code;
    plus = λ x y. (A.plus x.0 y.0, L.plus_code x.0 y.0);
    times = λ x y. (A.times x.0 y.0, L.times_code x.0 y.0);
    neg = λ x. (A.negate x.0, L.negate_code x.0);
    𝟘 = (0, zero_code L);
    𝟙 = (1, L.one_code);
  }

  abbrev pub field_of_codes : Field
  field_of_codes = record {
    ops = operations;
    inv = λ x. (A.invert x.0, L.invert_code x.0);
    plus_assoc = λ a b c. same_code _ _ (L.plus_assoc a.0 b.0 c.0);
    plus_comm = λ a b. same_code _ _ (L.plus_comm a.0 b.0);
    plus_zero = λ a. same_code _ _ (L.plus_zero a.0 a.1);
    plus_neg = λ a. same_code _ _ (L.negated a.0);
    times_assoc = λ a b c. same_code _ _ (L.times_assoc a.0 b.0 c.0);
    times_comm = λ a b. same_code _ _ (L.times_comm a.0 b.0);
    times_one = λ a. same_code _ _ (L.times_one a.0 a.1);
    distrib = λ a b c. same_code _ _ (L.distrib a.0 b.0 c.0);
    one_nonzero = λ e. let z : 1 ≡ 0 = fst_path e in omega arith;
    times_inv = λ x n. same_code _ _ (L.inverted x.0 (positive x.0 (λ e. n (same_code x (0, zero_code L) e))) x.1);
    decide = Σ_prop_discrete (λ n. le_prop) ℕ_discrete;
  }
    where
      positive : (n : ℕ) → ¬ (n ≡ 0) → 0 < n
      positive n h = omega arith

  -- the code that a number counts as
  abbrev pub code : ℕ → Code
  code n = (n % A.size, remainder_code L n)
