use Rattle.std.proofs.Common.{◌≡◌, ℕ, ◌<◌, ◌≤◌, List, length, get_or, rules, sym, ap, arith}
use Rattle.denial.specs.Refusals.{refused}
use Rattle.field.proofs.Codes.{first_no_code_at}
use Rattle.field.specs.Codes.{Codes, first_no_code}
use Rattle.field.specs.Field.{Arithmetic}
use Rattle.generator.proofs.generators.check_codes.Goals as goal

not_all_codes : (A : Arithmetic) (xs : List ℕ) (i : ℕ) → i < length xs → ((k : ℕ) → k < i → get_or xs k 0 < A.size) → A.size ≤ get_or xs i 0
    → ¬ Codes A xs × (refused 14 2 i ≡ refused 14 2 (first_no_code A xs))
not_all_codes A xs i inside codes none =
    (λ all. omega (arith, all i inside), ap (refused 14 2) (sym (first_no_code_at A xs i inside codes none)))

pub returns-in-Some : goal.returns-in-Some
returns-in-Some g c = search (rules, not_all_codes)
