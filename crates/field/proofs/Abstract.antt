-- A field over any carrier: what the algebra of polynomials and sequences is proved from.
use Rattle.std.proofs.Common.{◌≡◌}

pub record Operations : Type 1 where
  pub K : Type 0
  pub plus : K → K → K
  pub times : K → K → K
  pub neg : K → K
  pub 𝟘 : K
  pub 𝟙 : K

pub record Field : Type 1 where
  pub ops : Operations
  pub inv : ops.K → ops.K
  pub plus_assoc : (a b c : ops.K) → ops.plus (ops.plus a b) c ≡ ops.plus a (ops.plus b c)
  pub plus_comm : (a b : ops.K) → ops.plus a b ≡ ops.plus b a
  pub plus_zero : (a : ops.K) → ops.plus a ops.𝟘 ≡ a
  pub plus_neg : (a : ops.K) → ops.plus a (ops.neg a) ≡ ops.𝟘
  pub times_assoc : (a b c : ops.K) → ops.times (ops.times a b) c ≡ ops.times a (ops.times b c)
  pub times_comm : (a b : ops.K) → ops.times a b ≡ ops.times b a
  pub times_one : (a : ops.K) → ops.times a ops.𝟙 ≡ a
  pub distrib : (a b c : ops.K) → ops.times a (ops.plus b c) ≡ ops.plus (ops.times a b) (ops.times a c)
  pub one_nonzero : ¬ (ops.𝟙 ≡ ops.𝟘)
  pub times_inv : (a : ops.K) → ¬ (a ≡ ops.𝟘) → ops.times a (inv a) ≡ ops.𝟙
  pub decide : (a b : ops.K) → Dec (a ≡ b)
