-- The laws of the remainders by 5: the repeated squares of 2 are 2 and 4, and 4 times 4 is 1.
use Rattle.std.specs.Prelude.{refl}
use Rattle.std.proofs.Common.{arith}
use Rattle.field.specs.Field.{Laws}
use Rattle.field.specs.Orders.{Order, square_power, squared}
use Rattle.field.specs.Powers.{Products}
use Rattle.field.specs.Prime.{RemainderField, product_mod}
use Rattle.field.specs.PrimeLaws.{remainder_laws}
use Rattle.field.specs.Remainders.{remainder_products}
use Rattle.trial.specs.Five.{five, five_squares}

five_products : Products 5 (product_mod 5)
five_products = remainder_products 5 (omega arith)

five_order : Order (product_mod 5) 2 4
five_order = squared five_products 2 (omega arith) five_squares refl 1 tt 4 refl (omega arith) refl

pub five_laws : Laws five
five_laws =
    remainder_laws 5 2 255 1 (omega arith) (omega arith) five_order (omega arith, omega arith) (omega arith, omega arith) (omega arith)

pub five_field : RemainderField 5 2 255 1 five_squares
five_field = record {
  laws = five_laws;
  repeated = λ i h. square_power five_products 2 (omega arith) five_squares refl 1 tt i (omega arith);
  size_is = refl;
}
