-- A number that wraps in 64 bits leaves the same in each type.
use Rattle.std.proofs.Common.{◌≡◌, suc, ◌/◌, ◌≤◌, ◌^◌, ℤ, pos, negsuc, ◌*ℤ◌, ◌+ℤ◌, FitsSigned, w64, arith, refl, ap, ◌∙◌}
use Rattle.std.proofs.Math.Nat.{div-le_self}
use Rattle.std.specs.Prelude.{◌-ℤ◌, int_div, neg_ℤ, unsigned_abs}
use Rattle.std.specs.Int.{cast_signed, cast_unsigned, int_rem_euclid, int_wrap, int_wrapping_add, int_wrapping_div, int_wrapping_mul, int_wrapping_neg, int_wrapping_sub}
use Rattle.std.proofs.lemmas.Int.{ints, wrapping_add_is, wrapping_mul_is, wrapping_neg_is, wrapping_sub_is}
use Rattle.st_tree.specs.Values.{fit, pattern}
use Rattle.st_tree.specs.declared.expr.StType.{StType}
use Rattle.st_tree.specs.declared.expr.StType.TheVariants as type

remainder_is : (z : ℤ) → unsigned_abs (int_rem_euclid z (pos (2 ^ 64))) ≡ pattern 64 z
remainder_is (pos n) = refl
remainder_is (negsuc n) = refl

-- the bits of a number in a narrower type
narrow : (ty : StType) (z : ℤ) → fit ty (cast_signed w64 (pattern 64 z)) ≡ fit ty z
narrow type.Bool z = grind (arith, ints)
narrow ty z = grind (arith, ints)

fit_wrap : (ty : StType) (z : ℤ) → fit ty (int_wrap w64 z) ≡ fit ty z
unfolding int_wrap
fit_wrap ty z = ap (λ n. fit ty (cast_signed w64 n)) (remainder_is z) ∙ narrow ty z

pub fit_negation : (ty : StType) (x : ℤ) → FitsSigned w64 x → fit ty (int_wrapping_neg w64 x) ≡ fit ty (neg_ℤ x)
fit_negation ty x f = ap (fit ty) (wrapping_neg_is w64 x f) ∙ fit_wrap ty (neg_ℤ x)

pub fit_sum : (ty : StType) (x y : ℤ) → FitsSigned w64 x → FitsSigned w64 y → fit ty (int_wrapping_add w64 x y) ≡ fit ty (x +ℤ y)
fit_sum ty x y f g = ap (fit ty) (wrapping_add_is w64 x y f g) ∙ fit_wrap ty (x +ℤ y)

pub fit_difference : (ty : StType) (x y : ℤ) → FitsSigned w64 x → FitsSigned w64 y → fit ty (int_wrapping_sub w64 x y) ≡ fit ty (x -ℤ y)
fit_difference ty x y f g = ap (fit ty) (wrapping_sub_is w64 x y f g) ∙ fit_wrap ty (x -ℤ y)

pub fit_product : (ty : StType) (x y : ℤ) → FitsSigned w64 x → FitsSigned w64 y → fit ty (int_wrapping_mul w64 x y) ≡ fit ty (x *ℤ y)
fit_product ty x y f g = ap (fit ty) (wrapping_mul_is w64 x y f g) ∙ fit_wrap ty (x *ℤ y)

-- a quotient is no greater than its dividend
quotient_abs : (x y : ℤ) → unsigned_abs (int_div x y) ≤ unsigned_abs x
quotient_abs (pos n) (pos m) = let h : n / m ≤ n = div-le_self n m in grind (arith, ints)
quotient_abs (pos n) (negsuc m) = let h : n / suc m ≤ n = div-le_self n (suc m) in grind (arith, ints)
quotient_abs (negsuc n) (pos m) = let h : suc n / m ≤ suc n = div-le_self (suc n) m in grind (arith, ints)
quotient_abs (negsuc n) (negsuc m) = let h : suc n / suc m ≤ suc n = div-le_self (suc n) (suc m) in grind (arith, ints)

within : (ty : StType) (z : ℤ) → unsigned_abs z ≤ 2 ^ 63 → fit ty (cast_signed w64 (cast_unsigned w64 z)) ≡ fit ty z
within type.Bool z h = grind (arith, ints)
within ty z h = grind (arith, ints)

pub fit_quotient : (ty : StType) (x y : ℤ) → FitsSigned w64 x → fit ty (int_wrapping_div w64 x y) ≡ fit ty (int_div x y)
fit_quotient ty x y f =
    let a : unsigned_abs x ≤ 2 ^ 63 = grind (arith, ints) in
    within ty (int_div x y) (omega (arith, quotient_abs x y))
