-- What shifts of Structured Text make of patterns: so many steps.
use Rattle.std.proofs.Common.{◌≡◌, ℕ, zero, suc, ◌-◌, ◌*◌, ◌/◌, ◌%◌, ◌^◌, ◌<◌, ◌≤◌, pos, negsuc, Bool, true, false, not, if◌then◌else◌, ◌⊎◌, inl, inr, refl, sym, ap, subst, ◌∙◌, arith}
use Rattle.std.specs.Prelude.{bit_and, int_lt, nat_lt, unsigned_abs, Ok}
use Rattle.std.specs.Ordering.{int_eq}
use Rattle.std.proofs.Math.Nat.{div-le_self, mod-eq_of_lt, mod-lt}
use Rattle.std.proofs.lemmas.Bool.{ltb-false}
use Rattle.std.proofs.lemmas.Bool.Decides.{nat_tests}
use Rattle.std.proofs.lemmas.Int.{ints}
use Rattle.std.proofs.lemmas.Nat.{and_le_l, pow_pos}
use Rattle.std.proofs.lemmas.Nat.Bits.{and_pow}
use Rattle.s7_base.specs.declared.word.Width.{Width}
use Rattle.s7_base.specs.declared.word.Width.TheVariants as width
use Rattle.shift_templates.specs.ShiftParts.{top_bit}
use Rattle.st_tree.specs.Operators.{binary_value, selected_value, shift_value, shift_result, unary_value}
use Rattle.st_tree.specs.Values.{bits_of, flag, of_bits, type_of_width, width_of}
use Rattle.st_tree.specs.declared.expr.BinaryOp.TheVariants as binary
use Rattle.st_tree.specs.declared.expr.ShiftOp.{ShiftOp}
use Rattle.st_tree.specs.declared.expr.ShiftOp.TheVariants as shift
use Rattle.st_tree.specs.declared.expr.UnaryOp.TheVariants as unary
use Rattle.st_tree.specs.declared.state.Value.{Value}
use Rattle.stl_tree.proofs.ShiftForms.{around_left_times, around_left_times_below, around_right_times, around_right_times_left, left_times, left_times_gone, right_signed_times_high, right_signed_times_low, right_times, right_times_gone}
use Rattle.memory_areas.specs.Access.{bits_wide}
use Rattle.stl_tree.specs.Shifts.{around_left, around_right, bottom, left, right, right_signed, times, top}

-- Patterns as values

-- a pattern as a value of a width
abbrev pub of_width : Width → ℕ → Value
of_width w p = record { ty = type_of_width w; n = pos p }

-- it has so many bits
abbrev pub Fits : Width → ℕ → Type 0
Fits w p = p < 2 ^ bits_wide w

-- what is shifted is a word or a double word
abbrev pub IsShifted : Width → Type 0
IsShifted width.Word = Unit {0}
IsShifted width.Dword = Unit {0}
IsShifted other = ⊥

same_width : (w : Width) → width_of (type_of_width w) ≡ bits_wide w
same_width width.Bit = refl
same_width width.Byte = refl
same_width width.Word = refl
same_width width.Dword = refl

left_in : (w : Width) (x : ℕ) → of_bits (type_of_width w) x ≡ of_width w (x % 2 ^ bits_wide w)
left_in width.Bit x = refl
left_in width.Byte x = refl
left_in width.Word x = refl
left_in width.Dword x = refl

pub bits_in : (w : Width) (p : ℕ) → Fits w p → bits_of (of_width w p) ≡ p
bits_in w p h = ap (λ k. p % 2 ^ k) (same_width w) ∙ mod-eq_of_lt h

-- Steps

-- a shift of so many bits by a count makes so many steps
abbrev pub Moves : ShiftOp → ℕ → (ℕ → ℕ) → Type 0
Moves op k f = (n p : ℕ) → p < 2 ^ k → shift_result op k p n % 2 ^ k ≡ times n f p

pub left_moves : (k : ℕ) → Moves shift.Shl k (left k)
left_moves k n p h = by (nat_lt n k) refl
  where
    by : (b : Bool) → nat_lt n k ≡ b → (if b then p * 2 ^ n % 2 ^ k else 0) % 2 ^ k ≡ times n (left k) p
    by true e = mod-eq_of_lt (mod-lt (p * 2 ^ n) (pow_pos k)) ∙ sym (left_times k n p h)
    by false e = mod-eq_of_lt (pow_pos k) ∙ sym (left_times_gone k n p h (ltb-false n k e))

pub right_moves : (k : ℕ) → Moves shift.Shr k right
right_moves k n p h = by (nat_lt n k) refl
  where
    less : p / 2 ^ n ≤ p
    less = div-le_self p (2 ^ n)

    by : (b : Bool) → nat_lt n k ≡ b → (if b then p / 2 ^ n else 0) % 2 ^ k ≡ times n right p
    by true e = let fits : p / 2 ^ n < 2 ^ k = omega (arith, less) in mod-eq_of_lt fits ∙ sym (right_times n p)
    by false e = mod-eq_of_lt (pow_pos k) ∙ sym (right_times_gone k n p h (ltb-false n k e))

-- what steps keep
pub times_keep : (P : ℕ → Type 0) (f : ℕ → ℕ) → ((x : ℕ) → P x → P (f x)) → (n p : ℕ) → P p → P (times n f p)
unfolding times
times_keep P f keeps zero p h = h
times_keep P f keeps (suc n) p h = keeps (times n f p) (times_keep P f keeps n p h)

pub around_right_times_below : (n p : ℕ) → p < 2 ^ 32 → times n (around_right 32) p < 2 ^ 32
around_right_times_below n p h =
    subst (λ x. x < 2 ^ 32) (sym (around_right_times_left n p h)) (around_left_times_below (32 - n % 32) p h)

pub around_left_moves : Moves shift.Rol 32 (around_left 32)
around_left_moves n p h =
    ap (λ x. x % 2 ^ 32) (sym (around_left_times n p h)) ∙ mod-eq_of_lt (around_left_times_below n p h)

pub around_right_moves : Moves shift.Ror 32 (around_right 32)
around_right_moves n p h =
    ap (λ x. x % 2 ^ 32) (sym (around_right_times n p h)) ∙ mod-eq_of_lt (around_right_times_below n p h)

-- the steps of a shift leave a pattern in its width
pub moves_keep : (op : ShiftOp) (k : ℕ) (f : ℕ → ℕ) → Moves op k f → (n p : ℕ) → p < 2 ^ k → times n f p < 2 ^ k
moves_keep op k f moves n p h = subst (λ x. x < 2 ^ k) (moves n p h) (mod-lt (shift_result op k p n) (pow_pos k))

-- Counts

-- a value shifts by so many steps: the number itself, or -1 where there is none
abbrev pub Counts : Value → ℕ → Type 0
Counts u n = (u.n ≡ pos n) ⊎ ((u.n ≡ negsuc 0) × (n ≡ 0))

not_below : (n : ℕ) → int_lt (pos n) (pos 0) ≡ false
not_below n = grind (arith, ints)

no_step : (f : ℕ → ℕ) (p n : ℕ) → n ≡ 0 → p ≡ times n f p
unfolding times
no_step f p n e = ap (λ m. times m f p) (sym e)

pub moved : (op : ShiftOp) (w : Width) (f : ℕ → ℕ) → Moves op (bits_wide w) f → (p n : ℕ) (u : Value) → Fits w p → Counts u n
    → shift_value op (of_width w p) u ≡ of_width w (times n f p)
moved op w f moves p n u h (inl e) =
    ap (λ z. if int_lt z (pos 0) then of_width w p
    else of_bits (type_of_width w) (shift_result op (width_of (type_of_width w)) (bits_of (of_width w p)) (unsigned_abs z))) e
    ∙ ap (λ b. if b then of_width w p else of_bits (type_of_width w) (shift_result op (width_of (type_of_width w)) (bits_of (of_width w p)) n)) (not_below n)
    ∙ ap (λ k. of_bits (type_of_width w) (shift_result op k (bits_of (of_width w p)) n)) (same_width w)
    ∙ ap (λ q. of_bits (type_of_width w) (shift_result op (bits_wide w) q n)) (bits_in w p h)
    ∙ left_in w (shift_result op (bits_wide w) p n)
    ∙ ap (of_width w) (moves n p h)
moved op w f moves p n u h (inr e) =
    ap (λ z. if int_lt z (pos 0) then of_width w p
    else of_bits (type_of_width w) (shift_result op (width_of (type_of_width w)) (bits_of (of_width w p)) (unsigned_abs z))) e.0
    ∙ ap (of_width w) (no_step f p n e.1)

-- Bits

pub masked : (w : Width) (p b : ℕ) → Fits w p → Fits w b → binary_value binary.And (of_width w p) (of_width w b) ≡ Ok (of_width w (bit_and p b))
masked w p b h k =
    let less : bit_and p b ≤ p = and_le_l p b in
    let fits : bit_and p b < 2 ^ bits_wide w = omega arith in
    ap (λ x. Ok (of_bits (type_of_width w) (bit_and x (bits_of (of_width w b))))) (bits_in w p h)
    ∙ ap (λ x. Ok (of_bits (type_of_width w) (bit_and p x))) (bits_in w b k)
    ∙ ap Ok (left_in w (bit_and p b))
    ∙ ap (λ x. Ok (of_width w x)) (mod-eq_of_lt fits)

pub top_shown : (w : Width) → IsShifted w → (p : ℕ) → Fits w p → not (int_eq (pos (bit_and p (top_bit w))) (pos 0)) ≡ top (bits_wide w) p
top_shown width.Bit wide p h = elim wide [ ]
top_shown width.Byte wide p h = elim wide [ ]
top_shown width.Word wide p h = let a : bit_and p 32768 ≡ p / 32768 % 2 * 32768 = and_pow p 15 in grind (arith, ints, nat_tests)
top_shown width.Dword wide p h = let a : bit_and p 2147483648 ≡ p / 2147483648 % 2 * 2147483648 = and_pow p 31 in grind (arith, ints, nat_tests)

pub bottom_shown : (p : ℕ) → not (int_eq (pos (bit_and p 1)) (pos 0)) ≡ bottom p
bottom_shown p = let a : bit_and p 1 ≡ p / 1 % 2 * 1 = and_pow p 0 in grind (arith, ints, nat_tests)

-- The sign

pub inverted : (w : Width) (p : ℕ) → Fits w p → unary_value unary.Not (of_width w p) ≡ Ok (of_width w (2 ^ bits_wide w - 1 - p))
inverted w p h =
    let fits : 2 ^ bits_wide w - 1 - p < 2 ^ bits_wide w = omega arith in
    ap (λ k. Ok (of_bits (type_of_width w) (2 ^ k - 1 - bits_of (of_width w p)))) (same_width w)
    ∙ ap (λ x. Ok (of_bits (type_of_width w) (2 ^ bits_wide w - 1 - x))) (bits_in w p h)
    ∙ ap Ok (left_in w (2 ^ bits_wide w - 1 - p))
    ∙ ap (λ x. Ok (of_width w x)) (mod-eq_of_lt fits)

-- of a pattern and its inverse, shifted with zeros, the sign chooses
pub signed_chosen : (w : Width) → IsShifted w → (p n : ℕ) → Fits w p
    → selected_value (flag (top (bits_wide w) p)) (of_width w (times n right p)) (of_width w (2 ^ bits_wide w - 1 - times n right (2 ^ bits_wide w - 1 - p)))
    ≡ of_width w (times n (right_signed (bits_wide w)) p)
signed_chosen w wide p n h = by (top (bits_wide w) p) refl
  where
    some : 1 ≤ bits_wide w
    some = at w wide
      where
        at : (w : Width) → IsShifted w → 1 ≤ bits_wide w
        at width.Bit wide = omega arith
        at width.Byte wide = omega arith
        at width.Word wide = omega arith
        at width.Dword wide = omega arith

    by : (b : Bool) → top (bits_wide w) p ≡ b
        → selected_value (flag b) (of_width w (times n right p)) (of_width w (2 ^ bits_wide w - 1 - times n right (2 ^ bits_wide w - 1 - p)))
        ≡ of_width w (times n (right_signed (bits_wide w)) p)
    by true e =
        let above : 2 ^ (bits_wide w - 1) ≤ p = grind (arith, nat_tests, e) in
        ap (λ x. of_width w (2 ^ bits_wide w - 1 - x)) (right_times n (2 ^ bits_wide w - 1 - p))
        ∙ ap (of_width w) (sym (right_signed_times_high (bits_wide w) n p some above h))
    by false e =
        let below : p < 2 ^ (bits_wide w - 1) = grind (arith, nat_tests, e) in
        ap (of_width w) (right_times n p ∙ sym (right_signed_times_low (bits_wide w) n p below))
