-- A test of all windows of a stretch, by a closure that tells whether the products with a window add up to 0.
use Rattle.std.proofs.Common.{◌≡◌, ℕ, ◌+◌, ◌≤◌, ◌<◌, ◌↔◌, Bool, true, false, List, [], ◌∷◌, length, take, drop, get_or, Option, Some, None, IsTrue, IfSome, IsSomeAnd, sym, refl, ap, ◌∙◌, arith}
use Rattle.std.specs.Bool.{MatchBool}
use Rattle.std.specs.List.{IsSubsliceAt}
use Rattle.std.specs.Option.{option_map}
use Rattle.std.specs.Iterator.Runs.{Run, IsWindowsRun, AllItemsGive, AnyItemGives, CallKeepsClosure}
use denote.Param.Members.{Mut, Called}
use denote.Ref.{Bor}
use Rattle.field.specs.Field.{Arithmetic}
use Rattle.generator.specs.Generators.{dot}

dot_take : (A : Arithmetic) (gs xs : List ℕ) → dot A gs (take (length gs) xs) ≡ dot A gs xs
unfolding dot
dot_take A [] xs = refl
dot_take A (g ∷ gs) [] = refl
dot_take A (g ∷ gs) (x ∷ xs) = ap (A.plus (A.times g x)) (dot_take A gs xs)

-- wherever the list stands in the stretch, its products add up to 0
abbrev pub Zeros : Arithmetic → (gs xs : List ℕ) → Type 0
Zeros A gs xs = (i : ℕ) → i + length gs ≤ length xs → dot A gs (drop i xs) ≡ 0

module _ {S F : Type 0} {steps : S → Option (Bor (List ℕ)) → S → Type 0} (p : Run steps) (g : Mut F (Bor (List ℕ) × Unit {0}) Bool) (f : F)
    (A : Arithmetic) (gs xs : List ℕ)
    (computes : (x : Bor (List ℕ)) (r : Bool) (f' : F) → Called g f (x, tt) r f' → (f' ≡ f) × (IsTrue r ↔ (dot A gs x.now ≡ 0)))
    (windows : IsWindowsRun p (length gs) xs) where
  keeps : CallKeepsClosure g f
  keeps a r f' k = (computes a.0 r f' k).0

  at_window : (i : ℕ) (x : Bor (List ℕ)) → x.now ≡ take (length gs) (drop i xs) → dot A gs x.now ≡ dot A gs (drop i xs)
  at_window i x e = ap (dot A gs) e ∙ dot_take A gs (drop i xs)

  abbrev IsWindow : ℕ → Bor (List ℕ) → Type 0
  IsWindow i x = (length x.now ≡ length gs) × (i + length gs ≤ length xs) × IsSubsliceAt (length gs) xs i x.now

  zero_at : (i y : ℕ) (o : Option (Bor (List ℕ))) → option_map (λ x. get_or x.now 0 0) o ≡ Some y → IfSome o (IsWindow i)
      → IfSome o (λ x. Called g f (x, tt) true f) → dot A gs (drop i xs) ≡ 0
  zero_at i y None e w k = cc
  zero_at i y (Some x) e w k = sym (at_window i x w.2.0) ∙ (computes x true f k).1.0 refl

  true_at : Zeros A gs xs → (i : ℕ) (o : Option (Bor (List ℕ))) → IfSome o (IsWindow i) → IsSomeAnd o (λ x. Called g f (x, tt) false f) → IsTrue false
  true_at z i None w k = elim k [ ]
  true_at z i (Some x) w k = (computes x false f k).1.1 (at_window i x w.2.0 ∙ z i w.1)

  pub zeros_all : (r : Bool) → MatchBool r (IsTrue p.whole × AllItemsGive p g f true) (AnyItemGives p g f false) → (IsTrue r → Zeros A gs xs) × (Zeros A gs xs → IsTrue r)
  zeros_all true m = (
    λ _ i h.
        let place : i < p.len = omega (arith, windows.1 m.0) in
        zero_at i _ (p.at i) (windows.3 i 0 place) (windows.2 i) (m.1 keeps i),
    λ _. refl,
  )
  zeros_all false m = (λ e. cc, λ z. let k = m keeps in true_at z k.0 (p.at k.0) (windows.2 k.0) k.2)
