-- The laws of a field, rearranged, and the rules that put sums of products in order.
use Rattle.std.proofs.Common.{◌≡◌, sym, ap, ◌∙◌}
use Rattle.field.proofs.Abstract.{Field}

module _ (F : Field) where
  open F.ops use {K, plus as ◌+◌, times as ◌*◌, neg, 𝟘, 𝟙}

  infixl 65 ◌+◌
  infixl 70 ◌*◌
  pub add_assoc : (a b c : K) → (a + b) + c ≡ a + (b + c)
  add_assoc = F.plus_assoc

  pub add_comm : (a b : K) → a + b ≡ b + a
  add_comm = F.plus_comm

  pub add_left_comm : (a b c : K) → a + (b + c) ≡ b + (a + c)
  add_left_comm a b c = sym (add_assoc a b c) ∙ ap (λ x. x + c) (add_comm a b) ∙ add_assoc b a c

  pub mul_assoc : (a b c : K) → (a * b) * c ≡ a * (b * c)
  mul_assoc = F.times_assoc

  pub mul_comm : (a b : K) → a * b ≡ b * a
  mul_comm = F.times_comm

  pub mul_left_comm : (a b c : K) → a * (b * c) ≡ b * (a * c)
  mul_left_comm a b c = sym (mul_assoc a b c) ∙ ap (λ x. x * c) (mul_comm a b) ∙ mul_assoc b a c

  pub add_zero : (a : K) → a + 𝟘 ≡ a
  add_zero = F.plus_zero

  pub zero_add : (a : K) → 𝟘 + a ≡ a
  zero_add a = add_comm 𝟘 a ∙ add_zero a

  pub mul_one : (a : K) → a * 𝟙 ≡ a
  mul_one = F.times_one

  pub one_mul : (a : K) → 𝟙 * a ≡ a
  one_mul a = mul_comm 𝟙 a ∙ mul_one a

  pub mul_add : (a b c : K) → a * (b + c) ≡ a * b + a * c
  mul_add = F.distrib

  pub add_mul : (a b c : K) → (a + b) * c ≡ a * c + b * c
  add_mul a b c = rw (mul_comm (a + b) c, mul_comm a c, mul_comm b c) (mul_add c a b)

  pub add_neg : (a : K) → a + neg a ≡ 𝟘
  add_neg = F.plus_neg

  pub neg_add_self : (a : K) → neg a + a ≡ 𝟘
  neg_add_self a = add_comm (neg a) a ∙ add_neg a

  pub add_neg_cancel : (a b : K) → a + (neg a + b) ≡ b
  add_neg_cancel a b = sym (add_assoc a (neg a) b) ∙ ap (λ x. x + b) (add_neg a) ∙ zero_add b

  pub neg_add_cancel : (a b : K) → neg a + (a + b) ≡ b
  neg_add_cancel a b = sym (add_assoc (neg a) a b) ∙ ap (λ x. x + b) (neg_add_self a) ∙ zero_add b

  pub add_cancel : (a b c : K) → a + b ≡ a + c → b ≡ c
  add_cancel a b c h = sym (neg_add_cancel a b) ∙ ap (λ x. neg a + x) h ∙ neg_add_cancel a c

  pub mul_zero : (a : K) → a * 𝟘 ≡ 𝟘
  mul_zero a = add_cancel (a * 𝟘) (a * 𝟘) 𝟘 (sym (mul_add a 𝟘 𝟘) ∙ simp add_zero)

  pub zero_mul : (a : K) → 𝟘 * a ≡ 𝟘
  zero_mul a = mul_comm 𝟘 a ∙ mul_zero a

  pub neg_unique : (a b : K) → a + b ≡ 𝟘 → b ≡ neg a
  neg_unique a b h = add_cancel a b (neg a) (h ∙ sym (add_neg a))

  pub neg_neg : (a : K) → neg (neg a) ≡ a
  neg_neg a = sym (neg_unique (neg a) a (neg_add_self a))

  pub neg_zero : neg 𝟘 ≡ 𝟘
  neg_zero = sym (neg_unique 𝟘 𝟘 (add_zero 𝟘))

  pub neg_add : (a b : K) → neg (a + b) ≡ neg a + neg b
  neg_add a b = sym (neg_unique (a + b) (neg a + neg b) (simp (add_assoc, add_left_comm b (neg a) (neg b), add_neg, add_zero)))

  pub neg_mul : (a b : K) → neg a * b ≡ neg (a * b)
  neg_mul a b = neg_unique (a * b) (neg a * b) (sym (add_mul a (neg a) b) ∙ simp (add_neg, zero_mul))

  pub mul_neg : (a b : K) → a * neg b ≡ neg (a * b)
  mul_neg a b = neg_unique (a * b) (a * neg b) (sym (mul_add a b (neg b)) ∙ simp (add_neg, mul_zero))

  -- a term and its negation, one, two or three places apart
  pub cancel_1 : (a b : K) → a + (b + neg a) ≡ b
  cancel_1 a b = simp (add_comm b (neg a), add_neg_cancel)

  pub cancel_1m : (a b c : K) → a + (b + (neg a + c)) ≡ b + c
  cancel_1m a b c = rw (add_left_comm b (neg a) c) (add_neg_cancel a (b + c))

  pub cancel_2 : (a b c : K) → a + (b + (c + neg a)) ≡ b + c
  cancel_2 a b c = rw (← add_assoc b c (neg a)) (cancel_1 a (b + c))

  pub cancel_2m : (a b c d : K) → a + (b + (c + (neg a + d))) ≡ b + (c + d)
  cancel_2m a b c d = rw (add_left_comm c (neg a) d) (cancel_1m a b (c + d))

  pub cancel_3 : (a b c d : K) → a + (b + (c + (d + neg a))) ≡ b + (c + d)
  cancel_3 a b c d = rw (← add_assoc c d (neg a)) (cancel_2 a b (c + d))

  pub cancel_3m : (a b c d e : K) → a + (b + (c + (d + (neg a + e)))) ≡ b + (c + (d + e))
  cancel_3m a b c d e = rw (add_left_comm d (neg a) e) (cancel_2m a b c (d + e))

  pub ruleset ring = (
    add_zero,
    zero_add,
    mul_one,
    one_mul,
    mul_zero,
    zero_mul,
    neg_zero,
    neg_neg,
    neg_add,
    neg_mul,
    mul_neg,
    mul_add,
    add_mul,
    add_neg,
    neg_add_self,
    add_neg_cancel,
    neg_add_cancel,
    cancel_1,
    cancel_1m,
    cancel_2,
    cancel_2m,
    cancel_3,
    cancel_3m,
    add_assoc,
    mul_assoc,
    add_comm,
    add_left_comm,
    mul_comm,
    mul_left_comm,
  )

  -- elements whose difference is zero are equal
  pub sub_eq_zero : (a b : K) → neg a + b ≡ 𝟘 → a ≡ b
  sub_eq_zero a b h = sym (neg_unique (neg a) b h ∙ neg_neg a)
