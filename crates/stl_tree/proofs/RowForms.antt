-- What some rows give, in the forms that code and statements of a translation follow.
use Rattle.std.proofs.Common.{◌≡◌, ℕ, ◌+◌, ◌-◌, ◌*◌, ◌/◌, ◌%◌, ◌^◌, pos, refl, ap, arith}
use Rattle.std.specs.Prelude.{◌+ℤ◌, ◌-ℤ◌, Bool, true, false, not, ◌&&◌, ◌||◌, if◌then◌else◌}
use Rattle.std.proofs.lemmas.Int.{ints}
use Rattle.s7_base.specs.SignedNumbers.{number, pattern}
use Rattle.s7_base.specs.declared.word.Width.TheVariants as width
use Rattle.stl_tree.specs.Accumulators.{counted_down, counted_up, after_addition, signed_part, with_number, with_part}
use Rattle.stl_tree.specs.Conversions.{dword_reversed, with_accu1_part, word_reversed}
use Rattle.stl_tree.specs.Registers.{RegisterValues}

byte_up : (a n : ℕ) → (a % 2 ^ 8 + n) % 256 ≡ pattern 8 (number 8 (a % 2 ^ 8) +ℤ pos n)
byte_up a n = grind (arith, ints)

byte_down : (a n : ℕ) → (a % 2 ^ 8 + 256 - n % 256) % 256 ≡ pattern 8 (number 8 (a % 2 ^ 8) -ℤ pos n)
byte_down a n = grind (arith, ints)

-- INC and DEC as a sum and a difference of signed bytes
pub up_in_byte : (n : ℕ) (r : RegisterValues) → counted_up n r ≡ after_addition width.Byte (pos n) r
up_in_byte n r = ap (λ p. record r { accu1 = with_part width.Byte r.accu1 p }) (byte_up r.accu1 n)

pub down_in_byte : (n : ℕ) (r : RegisterValues)
    → counted_down n r ≡ record r { accu1 = with_number width.Byte r.accu1 (signed_part width.Byte r.accu1 -ℤ pos n) }
down_in_byte n r = ap (λ p. record r { accu1 = with_part width.Byte r.accu1 p }) (byte_down r.accu1 n)

-- CAW and CAD by the bytes of ACCU1, the lowest first
two_bytes : (a : ℕ) → 256 * (a % 2 ^ 16 % 256) + a % 2 ^ 16 / 256 ≡ a % 2 ^ 8 * 2 ^ 8 + a / 2 ^ 8 % 2 ^ 8
two_bytes a = omega arith

pub word_by_bytes : (r : RegisterValues) → word_reversed r ≡ with_accu1_part width.Word (r.accu1 % 2 ^ 8 * 2 ^ 8 + r.accu1 / 2 ^ 8 % 2 ^ 8) r
word_by_bytes r = ap (λ p. with_accu1_part width.Word p r) (two_bytes r.accu1)

four_bytes : (a : ℕ)
    → 2 ^ 24 * (a % 2 ^ 32 % 256) + 2 ^ 16 * (a % 2 ^ 32 / 2 ^ 8 % 256) + 2 ^ 8 * (a % 2 ^ 32 / 2 ^ 16 % 256) + a % 2 ^ 32 / 2 ^ 24
    ≡ a % 2 ^ 8 * 2 ^ 24 + a / 2 ^ 8 % 2 ^ 8 * 2 ^ 16 + a / 2 ^ 16 % 2 ^ 8 * 2 ^ 8 + a / 2 ^ 24 % 2 ^ 8
four_bytes a = omega arith

pub dword_by_bytes : (r : RegisterValues)
    → dword_reversed r
    ≡ with_accu1_part width.Dword
    (r.accu1 % 2 ^ 8 * 2 ^ 24 + r.accu1 / 2 ^ 8 % 2 ^ 8 * 2 ^ 16 + r.accu1 / 2 ^ 16 % 2 ^ 8 * 2 ^ 8 + r.accu1 / 2 ^ 24 % 2 ^ 8) r
dword_by_bytes r = ap (λ p. with_accu1_part width.Dword p r) (four_bytes r.accu1)

-- S and R by the operators of a chain
pub set_by_or : (rlo b : Bool) → (if rlo then true else b) ≡ b || rlo
set_by_or true true = refl
set_by_or true false = refl
set_by_or false true = refl
set_by_or false false = refl

pub reset_by_and : (rlo b : Bool) → (if rlo then false else b) ≡ b && not rlo
reset_by_and true true = refl
reset_by_and true false = refl
reset_by_and false true = refl
reset_by_and false false = refl
