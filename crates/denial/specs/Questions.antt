-- The questions that a call asks, in order: the first that is answered with no denies the call.
use Rattle.std.specs.Prelude.{◌≡◌, ◌⊎◌, List, [], ◌∷◌, Ok, Err, Result}
use Rattle.denial.specs.Refusals.{Refusal, refusal}
use Rattle.denial.specs.declared.Denial.{Denial}

-- a question, by what a yes and what a no to it say, and the refusal that a no gives
pub record Question : Type 1 where
  pub yes : Type 0
  pub no : Type 0
  pub gives : Refusal

-- a question whose no says that its yes does not hold, and nothing more
abbrev pub ask : Type 0 → Refusal → Question
ask fact gives = record { yes = fact; no = ¬ fact; gives = gives }

-- every question is answered with yes
abbrev pub AllYes : List Question → Type 0
AllYes [] = Unit {0}
AllYes (question ∷ questions) = question.yes × AllYes questions

-- the first question that is answered with no gives this refusal
abbrev pub FirstNo : List Question → Refusal → Type 0
FirstNo [] r = ⊥
FirstNo (question ∷ questions) r = (question.no × (r ≡ question.gives)) ⊎ (question.yes × FirstNo questions r)

-- a call that asks just one question grants at its yes, and is denied at its no
abbrev pub Asks : Question → Result (Unit {0}) Denial → Type 0
Asks question (Ok granted) = question.yes
Asks question (Err denial) = question.no × (refusal denial ≡ question.gives)
