pub mod Field
pub mod Codes
pub mod Prime
pub mod Binary
-- proofs of the laws, which stand here since an `impl` of the trait cites them
pub mod Computed
pub mod Pigeonhole
pub mod Powers
pub mod Orders
pub mod Cyclic
pub mod Remainders
pub mod PrimeLaws
pub mod Linear
pub mod Polynomials
pub mod BinaryLaws
