-- The total of the products of two lists, added up from the first product on.
use Rattle.std.proofs.Common.{◌≡◌, ℕ, ◌<◌, List, [], ◌∷◌, fold, zip, sym, ◌∙◌}
use Rattle.field.proofs.Derived.{zero_code}
use Rattle.field.specs.Field.{Arithmetic, Laws}
use Rattle.generator.specs.Generators.{dot}

module _ {A : Arithmetic} (L : Laws A) where
  dot_code : (xs ys : List ℕ) → dot A xs ys < A.size
  unfolding dot
  dot_code [] ys = zero_code L
  dot_code (x ∷ xs) [] = zero_code L
  dot_code (x ∷ xs) (y ∷ ys) = L.plus_code (A.times x y) (dot A xs ys)

  -- a total so far, and the products after it
  fold_from : (total : ℕ) (xs ys : List ℕ) → total < A.size → fold (λ t p. A.plus t (A.times p.0 p.1)) total (zip xs ys) ≡ A.plus total (dot A xs ys)
  unfolding dot
  fold_from total [] ys h = sym (L.plus_zero total h)
  fold_from total (x ∷ xs) [] h = sym (L.plus_zero total h)
  fold_from total (x ∷ xs) (y ∷ ys) h =
      let p = A.times x y in
      fold_from (A.plus total p) xs ys (L.plus_code total p) ∙ L.plus_assoc total p (dot A xs ys)

  pub fold_products : (xs ys : List ℕ) → fold (λ t p. A.plus t (A.times p.0 p.1)) 0 (zip xs ys) ≡ dot A xs ys
  fold_products xs ys = fold_from 0 xs ys (zero_code L) ∙ L.plus_comm 0 (dot A xs ys) ∙ L.plus_zero (dot A xs ys) (dot_code xs ys)
