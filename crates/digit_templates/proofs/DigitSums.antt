-- What the digits of an amount are worth, and the amount of a number.
use Rattle.std.proofs.Common.{◌≡◌, ℕ, ◌+◌, ◌*◌, ◌/◌, ◌%◌, ◌^◌, ◌<◌, ◌≤◌, pos, Bool, true, false, if◌then◌else◌, List, [], ◌∷◌, ◌++◌, Ok, refl, ap, ◌∙◌, arith}
use Rattle.std.specs.Prelude.{ℤ, ◌+ℤ◌, ◌*ℤ◌, int_div, int_rem, int_lt, neg_ℤ, unsigned_abs}
use Rattle.std.specs.Ordering.{int_eq}
use Rattle.std.proofs.lemmas.Int.{ints}
use Rattle.bcd_words.specs.Bcd.{digits, sign_digit, worth}
use Rattle.memory_areas.specs.Access.{and_then}
use Rattle.st_tree.proofs.Equations.{value_binary, value_literal, value_select, value_unary}
use Rattle.st_tree.specs.Operators.{binary_value, division, unary_value}
use Rattle.st_tree.specs.State.{State}
use Rattle.st_tree.specs.Value.{value}
use Rattle.st_tree.specs.Values.{fit, flag, is_set}
use Rattle.st_tree.specs.declared.expr.BinaryOp.{BinaryOp}
use Rattle.st_tree.specs.declared.expr.BinaryOp.TheVariants as binary
use Rattle.st_tree.specs.declared.expr.Expr.{Expr}
use Rattle.st_tree.specs.declared.expr.UnaryOp.TheVariants as unary
use Rattle.st_tree.specs.declared.expr.StType.{StType}
use Rattle.st_tree.specs.declared.expr.StType.TheVariants as type
use Rattle.st_tree.specs.declared.program.Located.{Located}
use Rattle.st_tree.specs.declared.state.Value.{Value}
use Rattle.template_parts.specs.Builders.{binary_of, constant_of}
use Rattle.digit_templates.specs.ToDigits.{amount_of, by_sign_of, digits_of, with_digit_of}

-- a type has all numbers from 0 to less than this
abbrev pub Holds : StType → ℕ → Type 0
Holds ty room = (m : ℕ) → m < room → fit ty (pos m) ≡ pos m

pub dint_holds : Holds type.Dint (2 ^ 31)
dint_holds m h = grind (arith, ints)

pub lint_holds : Holds type.Lint (2 ^ 33)
lint_holds m h = grind (arith, ints)

divided_fits : (f : ℤ → ℤ → ℤ) (ty : StType) (x y z : ℤ) → int_eq y (pos 0) ≡ false → fit ty (f x y) ≡ z
    → division f (record { ty = ty; n = x }) (record { ty = ty; n = y }) ≡ Ok (record { ty = ty; n = z })
divided_fits f ty x y z e w = rw (e, w) refl

module _ (g : List Located) (s : State) (ty : StType) (room : ℕ) (holds : Holds ty room) where
  -- an expression is worth a number from 0 on, of that type
  abbrev pub IsNumber : Expr → ℕ → Type 0
  IsNumber e m = value g e s ≡ Ok (record { ty = ty; n = pos m })

  operands : (op : BinaryOp) (e f : Expr) (x y : Value) → value g e s ≡ Ok x → value g f s ≡ Ok y
      → value g (binary_of op e f) s ≡ binary_value op x y
  operands op e f x y h k =
      value_binary g op e f s
      ∙ ap (λ r. and_then r (λ v. and_then (value g f s) (binary_value op v))) h
      ∙ ap (λ r. and_then r (binary_value op x)) k

  pub constant : (m : ℕ) → IsNumber (constant_of ty (pos m)) m
  constant m = value_literal g ty (pos m) s

  fitted : (z : ℤ) (m : ℕ) → z ≡ pos m → m < room → fit ty z ≡ pos m
  fitted z m e h = ap (fit ty) e ∙ holds m h

  pub sum : (e f : Expr) (m n : ℕ) → IsNumber e m → IsNumber f n → m + n < room → IsNumber (binary_of binary.Add e f) (m + n)
  sum e f m n h k small =
      operands binary.Add e f _ _ h k ∙ ap (λ (z : ℤ). Ok (record { ty = ty; n = z })) (fitted (pos m +ℤ pos n) (m + n) refl small)

  product : (e f : Expr) (m n : ℕ) → IsNumber e m → IsNumber f n → m * n < room → IsNumber (binary_of binary.Mul e f) (m * n)
  product e f m n h k small =
      operands binary.Mul e f _ _ h k ∙ ap (λ (z : ℤ). Ok (record { ty = ty; n = z })) (fitted (pos m *ℤ pos n) (m * n) refl small)

  quotient : (e f : Expr) (m n : ℕ) → IsNumber e m → IsNumber f n → int_eq (pos n) (pos 0) ≡ false → m / n < room
      → IsNumber (binary_of binary.Div e f) (m / n)
  quotient e f m n h k some small =
      operands binary.Div e f _ _ h k ∙ divided_fits int_div ty (pos m) (pos n) (pos (m / n)) some (fitted (int_div (pos m) (pos n)) (m / n) refl small)

  remainder : (e f : Expr) (m n : ℕ) → IsNumber e m → IsNumber f n → int_eq (pos n) (pos 0) ≡ false → m % n < room
      → IsNumber (binary_of binary.Mod e f) (m % n)
  remainder e f m n h k some small =
      operands binary.Mod e f _ _ h k ∙ divided_fits int_rem ty (pos m) (pos n) (pos (m % n)) some (fitted (int_rem (pos m) (pos n)) (m % n) refl small)

  module _ (amount : Expr) (n : ℕ) (is_amount : IsNumber amount n) where
    -- one more digit
    with_digit : (e : Expr) (m power place : ℕ) → IsNumber e m → int_eq (pos power) (pos 0) ≡ false
        → n / power < room → n / power % 10 < room → n / power % 10 * place < room → m + n / power % 10 * place < room
        → IsNumber (with_digit_of ty amount e (pos power) (pos place)) (m + n / power % 10 * place)
    with_digit e m power place h some above digit placed all =
        let quotients = quotient amount (constant_of ty (pos power)) n power is_amount (constant power) some above in
        let digits = remainder _ (constant_of ty (pos 10)) (n / power) 10 quotients (constant 10) refl digit in
        let places = product _ (constant_of ty (pos place)) (n / power % 10) place digits (constant place) placed in
        sum e _ m (n / power % 10 * place) h places all

    -- from here on an amount is at most that of the least number of 32 bits
    module _ (wide : 2 ^ 31 ≤ room) (few : n ≤ 2 ^ 31) where
      pub one_digit : IsNumber (digits_of ty amount 0) (n % 10)
      one_digit = remainder amount (constant_of ty (pos 10)) n 10 is_amount (constant 10) refl (omega arith)

      two_digits : IsNumber (digits_of ty amount 1) (n % 10 + n / 10 % 10 * 16)
      two_digits = with_digit (digits_of ty amount 0) _ 10 16 one_digit refl (omega arith) (omega arith) (omega arith) (omega arith)

      pub three_digits : IsNumber (digits_of ty amount 2) (n % 10 + n / 10 % 10 * 16 + n / 100 % 10 * 256)
      three_digits = with_digit (digits_of ty amount 1) _ 100 256 two_digits refl (omega arith) (omega arith) (omega arith) (omega arith)

      four_digits : IsNumber (digits_of ty amount 3) (n % 10 + n / 10 % 10 * 16 + n / 100 % 10 * 256 + n / 1000 % 10 * 4096)
      four_digits = with_digit (digits_of ty amount 2) _ 1000 4096 three_digits refl (omega arith) (omega arith) (omega arith) (omega arith)

      five_digits : IsNumber (digits_of ty amount 4) (n % 10 + n / 10 % 10 * 16 + n / 100 % 10 * 256 + n / 1000 % 10 * 4096 + n / 10000 % 10 * 65536)
      five_digits = with_digit (digits_of ty amount 3) _ 10000 65536 four_digits refl (omega arith) (omega arith) (omega arith) (omega arith)

      six_digits : IsNumber (digits_of ty amount 5)
          (n % 10 + n / 10 % 10 * 16 + n / 100 % 10 * 256 + n / 1000 % 10 * 4096 + n / 10000 % 10 * 65536 + n / 100000 % 10 * 1048576)
      six_digits = with_digit (digits_of ty amount 4) _ 100000 1048576 five_digits refl (omega arith) (omega arith) (omega arith) (omega arith)

      pub seven_digits : IsNumber (digits_of ty amount 6)
          (n % 10 + n / 10 % 10 * 16 + n / 100 % 10 * 256 + n / 1000 % 10 * 4096
          + n / 10000 % 10 * 65536 + n / 100000 % 10 * 1048576 + n / 1000000 % 10 * 16777216)
      seven_digits = with_digit (digits_of ty amount 5) _ 1000000 16777216 six_digits refl (omega arith) (omega arith) (omega arith) (omega arith)

-- By the sign of a number

set_flag : (b : Bool) → is_set (flag b) ≡ b
set_flag true = refl
set_flag false = refl

module _ (g : List Located) (s : State) (ty : StType) (number : Expr) (z : ℤ) (is_number : value g number s ≡ Ok (record { ty = ty; n = z })) where
  pub by_sign : (e f : Expr) (x y : ℤ) → value g e s ≡ Ok (record { ty = ty; n = x }) → value g f s ≡ Ok (record { ty = ty; n = y })
      → value g (by_sign_of ty number e f) s ≡ Ok (record { ty = ty; n = if int_lt z (pos 0) then y else x })
  by_sign e f x y h k = simp (value_select, value_binary, value_literal, is_number, h, k, set_flag)

  pub amount : fit ty (neg_ℤ z) ≡ neg_ℤ z → value g (amount_of ty number) s ≡ Ok (record { ty = ty; n = pos (unsigned_abs z) })
  amount fits =
      let minus = value_unary g _ number s ∙ ap (λ r. and_then r (unary_value unary.Minus)) is_number ∙ ap (λ (n : ℤ). Ok (record { ty = ty; n = n })) fits in
      by_sign number _ z (neg_ℤ z) is_number minus ∙ ap (λ (n : ℤ). Ok (record { ty = ty; n = n })) (absolute z)
    where
      absolute : (z : ℤ) → (if int_lt z (pos 0) then neg_ℤ z else z) ≡ pos (unsigned_abs z)
      absolute z = grind (arith, ints)

-- The patterns that the rows name

pub word_pattern : (n : ℕ) (z : ℤ)
    → n % 10 + n / 10 % 10 * 16 + n / 100 % 10 * 256 + (if int_lt z (pos 0) then 0xF000 else 0) ≡ worth 16 (digits 10 3 n ++ sign_digit z ∷ [])
word_pattern n z = by (int_lt z (pos 0))
  where
    by : (b : Bool) → n % 10 + n / 10 % 10 * 16 + n / 100 % 10 * 256 + (if b then 0xF000 else 0) ≡ worth 16 (digits 10 3 n ++ (if b then 0xF else 0) ∷ [])
    by true = omega arith
    by false = omega arith

pub dword_pattern : (n : ℕ) (z : ℤ)
    → n % 10 + n / 10 % 10 * 16 + n / 100 % 10 * 256 + n / 1000 % 10 * 4096 + n / 10000 % 10 * 65536 + n / 100000 % 10 * 1048576 + n / 1000000 % 10 * 16777216
    + (if int_lt z (pos 0) then 0xF0000000 else 0)
    ≡ worth 16 (digits 10 7 n ++ sign_digit z ∷ [])
dword_pattern n z = by (int_lt z (pos 0))
  where
    by : (b : Bool)
        → n % 10 + n / 10 % 10 * 16 + n / 100 % 10 * 256 + n / 1000 % 10 * 4096
        + n / 10000 % 10 * 65536 + n / 100000 % 10 * 1048576 + n / 1000000 % 10 * 16777216
        + (if b then 0xF0000000 else 0)
        ≡ worth 16 (digits 10 7 n ++ (if b then 0xF else 0) ∷ [])
    by true = omega arith
    by false = omega arith
