-- What each denial says: its number, its layer and its place.
use Rattle.std.specs.Prelude.{ℕ, List, ◌++◌, codes, decimal}
use Rattle.denial.specs.declared.Denial.{Denial}
use Rattle.denial.specs.declared.Layer.{Layer}
use Rattle.denial.specs.declared.Layer.TheVariants.{Message, Share, Sheet}
use Rattle.denial.specs.declared.Denial.TheVariants.{BlockOutside, PlaceOutside, NoCode, NoRoom, StretchTooLong, GeneratorTooLong}

-- the layer is 1 for a message, 2 for the share with its sums, and 3 for the sheet
abbrev pub number_of_layer : Layer → ℕ
number_of_layer Message = 1
number_of_layer Share = 2
number_of_layer Sheet = 3

pub record Refusal : Type 0 where
  pub number : ℕ
  pub layer : ℕ
  pub place : ℕ

abbrev pub refused : (number layer place : ℕ) → Refusal
refused number layer place = record { number = number; layer = layer; place = place }

abbrev pub refusal : Denial → Refusal
refusal (BlockOutside block) = refused 7 3 block
refusal (PlaceOutside place) = refused 13 2 place
refusal (NoCode index) = refused 14 2 index
refusal NoRoom = refused 19 2 0
refusal StretchTooLong = refused 20 2 0
refusal GeneratorTooLong = refused 21 2 0

-- the text of a refusal
abbrev pub text : Refusal → List ℕ
text r =
    codes "denied: number " ++ (decimal r.number ++ (codes ", layer " ++ (decimal r.layer ++ (codes ", place " ++ decimal r.place))))
