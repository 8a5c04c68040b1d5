-- The lists of digits with a 1 behind them are all that can be generators.
use Rattle.std.proofs.Common.{◌≡◌, ℕ, suc, ◌+◌, ◌-◌, ◌^◌, ◌<◌, ◌↔◌, Bool, true, false, not, List, [], ◌∷◌, ◌++◌, length, get_or, take, drop, sym, refl, ap, ◌∙◌, ⊎_elim, below_more, IsTrue, IfNone, IfSome, Option, Some, None, arith}
use Rattle.std.specs.Option.{MatchOption, is_some}
use Rattle.std.proofs.lemmas.Bool.{cases_lt}
use Rattle.std.proofs.lemmas.List.{get_or_append_left, get_or_push, get_or-take, length-append, length-take}
use Rattle.std.proofs.Math.Seq.{take-append_seam, take-length, take-suc}
use Rattle.field.specs.Codes.{Codes}
use Rattle.field.specs.Field.{Arithmetic}
use Rattle.generator.specs.Generators.{Generates, Only, dot}
use Rattle.trial.proofs.Digits.{digits, length-digits, digits_below, value, value_below, digits_value, value_digits}
use Rattle.trial.proofs.Windows.{Zeros}

-- the list of the digits of a number, with a 1 behind
abbrev pub candidate : (L n : ℕ) → List ℕ
candidate L n = digits L n ++ 1 ∷ []

length-candidate : (L n : ℕ) → length (candidate L n) ≡ suc L
length-candidate L n = omega (arith, length-append (digits L n) (1 ∷ []), length-digits L n)

same_number : (L k n : ℕ) → k < 5 ^ L → n < 5 ^ L → candidate L k ≡ candidate L n → k ≡ n
same_number L k n h j e =
    let front : (m : ℕ) → take L (candidate L m) ≡ digits L m = λ m. ap (λ (i : ℕ). take i (candidate L m)) (sym (length-digits L m)) ∙ take-append_seam (digits L m) (1 ∷ []) in
    sym (value_digits L k h) ∙ ap value (sym (front k) ∙ ap (take L) e ∙ front n) ∙ value_digits L n j

-- the numbers below a limit whose lists are generators: `place` is one of them, and where `only` is true it is the only one
pub record Last (A : Arithmetic) (L : ℕ) (xs : List ℕ) (limit : ℕ) (g : List ℕ) (only : Bool) : Type 0 where
  pub place : ℕ
  pub below : place < limit
  pub is : g ≡ candidate L place
  pub zeros : Zeros A (candidate L place) xs
  pub alone : only ≡ true → (k : ℕ) → k < limit → Zeros A (candidate L k) xs → k ≡ place
  pub other : only ≡ false → (k : ℕ) × (k < limit) × Zeros A (candidate L k) xs × (k ≡ place → ⊥)

module _ (A : Arithmetic) (five : A.size ≡ 5) (L : ℕ) (xs : List ℕ) where
  codes : (n : ℕ) → Codes A (candidate L n)
  codes n i h =
      let size = length-candidate L n in
      ⊎_elim (λ l. omega (arith, get_or_append_left (digits L n) (1 ∷ []) 0 i (omega (arith, length-digits L n)), digits_below L n i l))
      (λ m. let last : i ≡ L = omega arith in omega (arith, get_or_push (digits L n) 1 0 i (length-digits L n ∙ sym last)))
      (cases_lt i L)

  generates : (n : ℕ) → Zeros A (candidate L n) xs → Generates A L (candidate L n) xs
  generates n z = record {
    size = length-candidate L n;
    codes = codes n;
    monic = get_or_push (digits L n) 1 0 L (length-digits L n);
    zeros = λ i p r. z (i - L) (omega (arith, length-candidate L n));
  }

  zeros_of : (g : List ℕ) → Generates A L g xs → Zeros A g xs
  zeros_of g gen i h =
      let size = gen.size in
      let back : i + L - L ≡ i = omega arith in
      ap (λ (k : ℕ). dot A g (drop k xs)) (sym back) ∙ gen.zeros (i + L) (omega arith) (omega arith)

  -- each generator is the list of some number
  number_of : (g : List ℕ) → Generates A L g xs → (n : ℕ) × (n < 5 ^ L) × (candidate L n ≡ g)
  number_of g gen =
      let size = gen.size in
      let front = take L g in
      let long : length front ≡ L = omega (arith, length-take L g) in
      let below : (i : ℕ) → i < length front → get_or front i 0 < 5 = λ i h. omega (arith, get_or-take L g i 0 (omega arith), gen.codes i (omega arith)) in
      let n = value front in
      let is : digits L n ≡ front = ap (λ (k : ℕ). digits k n) (sym long) ∙ digits_value front below in (
        n,
        omega (arith, value_below front below, ap (λ (k : ℕ). 5 ^ k) long),
        ap (λ (l : List ℕ). l ++ 1 ∷ []) is ∙ ap (λ (x : ℕ). front ++ x ∷ []) (sym gen.monic)
            ∙ sym (take-suc g L 0 (omega arith)) ∙ ap (λ (k : ℕ). take k g) (sym size) ∙ take-length g,
      )

  -- a list as long as the stretch stands nowhere in it
  pub generates_whole : L ≡ length xs → Generates A L (candidate L 0) xs
  generates_whole e = generates 0 (λ i h. absurd (omega (arith, length-candidate L 0)))

  none : ((k : ℕ) → k < 5 ^ L → Zeros A (candidate L k) xs → ⊥) → (g : List ℕ) → Generates A L g xs → ⊥
  none h g gen = let found = number_of g gen in h found.0 found.1 (rw found.2 (zeros_of g gen))

  module _ (g : List ℕ) (only : Bool) (last : Last A L xs (5 ^ L) g only) where
    last_generates : Generates A L g xs
    last_generates = rw last.is (generates last.place last.zeros)

    last_only : IsTrue only ↔ Only A L g xs
    last_only = (alone, whether only refl)
      where
        alone : IsTrue only → Only A L g xs
        alone e f gen =
            let found = number_of f gen in
            sym found.2 ∙ ap (candidate L) (last.alone e found.0 found.1 (rw found.2 (zeros_of f gen))) ∙ sym last.is

        whether : (b : Bool) → only ≡ b → Only A L g xs → only ≡ true
        whether true e h = e
        whether false e h =
            let k = last.other e in
            absurd (k.3 (same_number L k.0 last.place k.1 last.below (h (candidate L k.0) (generates k.0 k.2) ∙ last.is)))

  -- what is found among the numbers below n: none, or the last of the generators
  module _ {T : Type 0} (items : T → List ℕ) (only : T → Bool) where
    abbrev pub Tried : ℕ → Option T → Type 0
    Tried n found =
        MatchOption found ((k : ℕ) → k < n → Zeros A (candidate L k) xs → ⊥) (λ f. Last A L xs n (items f) (only f))

    pub tried_one : (n : ℕ) (found new : Option T) (f : T) → new ≡ Some f → Tried n found → Zeros A (candidate L n) xs → items f ≡ candidate L n
        → is_some found ≡ not (only f) → Tried (n + 1) new
    tried_one n None new f new_is before z e o = rw new_is record {
      place = n;
      below = omega arith;
      is = e;
      zeros = z;
      alone = λ _ k h w. ⊎_elim (λ l. absurd (before k l w)) (λ m. omega arith) (cases_lt k n);
      other = λ w. let wrong = rw w at o in cc;
    }
    tried_one n (Some _) new f new_is last z e o = rw new_is record {
      place = n;
      below = omega arith;
      is = e;
      zeros = z;
      alone = λ w. let wrong = rw w at o in cc;
      other = λ _. (last.place, omega (arith, last.below), last.zeros, λ e. omega (arith, last.below));
    }

    pub tried_other : (n : ℕ) (found : Option T) → Tried n found → (Zeros A (candidate L n) xs → ⊥) → Tried (n + 1) found
    tried_other n None before differs = below_more _ _ before differs
    tried_other n (Some f) last differs = record {
      place = last.place;
      below = omega (arith, last.below);
      is = last.is;
      zeros = last.zeros;
      alone = λ e. below_more _ _ (last.alone e) (λ z. absurd (differs z));
      other = λ e. let k = last.other e in (k.0, omega (arith, k.1), k.2, k.3);
    }

    pub tried_all_none : (n : ℕ) (found : Option T) → Tried n found → n ≡ 5 ^ L → IfNone found ((g : List ℕ) → Generates A L g xs → ⊥)
    tried_all_none n None before e = none (λ k h. before k (omega arith))
    tried_all_none n (Some f) last e = tt

    pub tried_all_generates : (n : ℕ) (found : Option T) → Tried n found → n ≡ 5 ^ L → IfSome found (λ f. Generates A L (items f) xs)
    tried_all_generates n None before e = tt
    tried_all_generates n (Some f) last e = last_generates (items f) (only f) (rw e at last)

    pub tried_all_only : (n : ℕ) (found : Option T) → Tried n found → n ≡ 5 ^ L → IfSome found (λ f. IsTrue (only f) ↔ Only A L (items f) xs)
    tried_all_only n None before e = tt
    tried_all_only n (Some f) last e = last_only (items f) (only f) (rw e at last)
