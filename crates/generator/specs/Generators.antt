-- Generators of a stretch of codes: linear recurrences that its numbers follow.
use Rattle.std.specs.Prelude.{◌≡◌, ℕ, suc, ◌-◌, ◌<◌, ◌≤◌, List, [], ◌∷◌, length, drop, slice_index}
use Rattle.field.specs.Codes.{Codes}
use Rattle.field.specs.Field.{Arithmetic}

-- the total of the products of two lists, place by place, as far as both go
unfoldable pub dot : Arithmetic → List ℕ → List ℕ → ℕ
dot A [] xs = 0
dot A (g ∷ gs) [] = 0
dot A (g ∷ gs) (x ∷ xs) = A.plus (A.times g x) (dot A gs xs)

-- g is a generator of the stretch, of length L: it has the codes g_0 to g_L, g_L is 1, and for each i from L on the total over h from 0 to
-- L of g_h times the number at i - L + h is 0
pub record Generates (A : Arithmetic) (L : ℕ) (g stretch : List ℕ) : Type 0 where
  pub size : length g ≡ suc L
  pub codes : Codes A g
  pub monic : slice_index g L ≡ 1
  pub zeros : (i : ℕ) → L ≤ i → i < length stretch → dot A g (drop (i - L) stretch) ≡ 0

-- and no generator of the stretch is shorter
pub record Shortest (A : Arithmetic) (L : ℕ) (g stretch : List ℕ) : Type 0 where
  pub generates : Generates A L g stretch
  pub least : (K : ℕ) (f : List ℕ) → Generates A K f stretch → L ≤ K

-- g is the only generator of length L
abbrev pub Only : Arithmetic → (L : ℕ) (g stretch : List ℕ) → Type 0
Only A L g stretch = (f : List ℕ) → Generates A L f stretch → f ≡ g
