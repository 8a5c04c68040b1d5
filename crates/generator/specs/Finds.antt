-- What the call for the shortest generator of a stretch asks, answers and leaves.
use Rattle.std.specs.Prelude.{◌≡◌, ℕ, ◌+◌, ◌*◌, ◌<◌, ◌≤◌, List, [], ◌∷◌, ◌++◌, length, drop, Ok, Err, Result}
use Rattle.denial.specs.Questions.{Question, ask, AllYes, FirstNo}
use Rattle.denial.specs.Refusals.{refusal, refused}
use Rattle.denial.specs.declared.Denial.{Denial}
use Rattle.field.specs.Codes.{Codes, first_no_code}
use Rattle.field.specs.Field.{Arithmetic}
use Rattle.generator.specs.Generators.{Shortest, Only}

-- g, of length L, is the shortest generator of the stretch and the only one of its length, which is at most half that of the stretch
pub record Short (A : Arithmetic) (stretch : List ℕ) (L : ℕ) (g : List ℕ) : Type 0 where
  pub shortest : Shortest A L g stretch
  pub only : Only A L g stretch
  pub half : 2 * L ≤ length stretch

-- g is a shortest generator, and longer than half of the stretch
pub record Long (A : Arithmetic) (stretch : List ℕ) (L : ℕ) (g : List ℕ) : Type 0 where
  pub shortest : Shortest A L g stretch
  pub half : length stretch < 2 * L

abbrev pub codes_question : Arithmetic → List ℕ → Question
codes_question A stretch = ask (Codes A stretch) (refused 14 2 (first_no_code A stretch))

abbrev pub half_question : Arithmetic → List ℕ → Question
half_question A stretch = record {
  yes = (L : ℕ) × (g : List ℕ) × Short A stretch L g;
  no = (L : ℕ) × (g : List ℕ) × Long A stretch L g;
  gives = refused 21 2 0;
}

-- the memory has room for so many numbers
abbrev pub questions : Arithmetic → (stretch : List ℕ) (room : ℕ) → List Question
questions A stretch room =
    ask (length stretch ≤ 32) (refused 20 2 0) ∷
    codes_question A stretch ∷
    ask (17 ≤ room) (refused 19 2 0) ∷
    half_question A stretch ∷ []

-- a granted call writes the shortest generator to the front of the memory and answers its length; what stands behind it stays, and a denied
-- call alters nothing
abbrev pub Finds : Arithmetic → (stretch before after : List ℕ) → Result ℕ Denial → Type 0
Finds A stretch before after (Ok L) =
    AllYes (questions A stretch (length before)) × ((g : List ℕ) × Short A stretch L g × (after ≡ g ++ drop (L + 1) before))
Finds A stretch before after (Err denial) = FirstNo (questions A stretch (length before)) (refusal denial) × (after ≡ before)
