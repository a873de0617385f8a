-- Kinds of shifts and rotations: an operation of Structured Text, the step that it makes, and the bit that leaves.
use Rattle.std.proofs.Common.{◌≡◌, ℕ, ◌+◌, ◌-◌, ◌*◌, ◌/◌, ◌%◌, ◌^◌, ◌<◌, ◌≤◌, ◌==◌, nat_le, pos, Bool, true, false, not, refl, sym, ap, ◌∙◌, arith}
use Rattle.std.specs.Prelude.{bit_and}
use Rattle.std.specs.Int.{from_bool}
use Rattle.std.specs.Ordering.{int_eq}
use Rattle.std.proofs.lemmas.Bool.Decides.{nat_tests}
use Rattle.s7_base.specs.declared.word.Width.{Width}
use Rattle.s7_base.specs.declared.word.Width.TheVariants as width
use Rattle.shift_templates.proofs.Patterns.{Fits, IsShifted, Moves, around_left_moves, around_right_times_below, around_right_moves, bottom_shown, left_moves, right_moves, times_keep, top_shown}
use Rattle.shift_templates.proofs.Expressions.{one_fits, top_fits}
use Rattle.shift_templates.specs.ShiftParts.{shown_bit}
use Rattle.st_tree.specs.declared.expr.ShiftOp.{ShiftOp}
use Rattle.st_tree.specs.declared.expr.ShiftOp.TheVariants as shift
use Rattle.stl_tree.proofs.ShiftForms.{times-add}
use Rattle.memory_areas.specs.Access.{bits_wide}
use Rattle.stl_tree.specs.Shifts.{around_left, around_right, bottom, left, right, right_signed, times, top}

-- the operation makes these steps of a width, and its bit shows this of a pattern
pub record IsKind (op : ShiftOp) (w : Width) (f : ℕ → ℕ) (out : ℕ → Bool) : Type 0 where
  pub wide : IsShifted w
  pub moves : Moves op (bits_wide w) f
  pub bit : Fits w (shown_bit op w)
  pub shows : (p : ℕ) → Fits w p → not (int_eq (pos (bit_and p (shown_bit op w))) (pos 0)) ≡ out p

pub left_kind : (w : Width) → IsShifted w → IsKind shift.Shl w (left (bits_wide w)) (top (bits_wide w))
left_kind w wide = record { wide = wide; moves = left_moves (bits_wide w); bit = top_fits w wide; shows = top_shown w wide }

pub right_kind : (w : Width) → IsShifted w → IsKind shift.Shr w right bottom
right_kind w wide = record { wide = wide; moves = right_moves (bits_wide w); bit = one_fits w wide; shows = λ p h. bottom_shown p }

pub around_left_kind : IsKind shift.Rol width.Dword (around_left 32) bottom
around_left_kind = record { wide = tt; moves = around_left_moves; bit = one_fits width.Dword tt; shows = λ p h. bottom_shown p }

pub around_right_kind : IsKind shift.Ror width.Dword (around_right 32) (top 32)
around_right_kind = record { wide = tt; moves = around_right_moves; bit = top_fits width.Dword tt; shows = top_shown width.Dword tt }

-- The last step

pub last_step : (f : ℕ → ℕ) (n p : ℕ) → 1 ≤ n → times 1 f (times (n - 1) f p) ≡ times n f p
last_step f n p some = let e : 1 + (n - 1) ≡ n = omega arith in sym (times-add 1 (n - 1) f p) ∙ ap (λ m. times m f p) e

next_one : (f : ℕ → ℕ) (n p : ℕ) → 1 ≤ n → times n f p ≡ f (times (n - 1) f p)
unfolding times
next_one f n p some = sym (last_step f n p some)

-- what leaves in a rotation comes in at the other end

bottom_of : (a b : ℕ) → b ≤ 1 → (a * 2 % 2 ^ 32 + b) % 2 ≡ b
bottom_of a b h = omega arith

is_one : (b : Bool) → (from_bool b == 1) ≡ b
is_one true = refl
is_one false = refl

pub one_bit : (b : Bool) → from_bool b ≤ 1
one_bit true = omega arith
one_bit false = omega arith

top_enters : (x : ℕ) → bottom (around_left 32 x) ≡ top 32 x
top_enters x = ap (λ b. b == 1) (bottom_of x (from_bool (top 32 x)) (one_bit (top 32 x))) ∙ is_one (top 32 x)

top_of : (b : Bool) (x : ℕ) → x < 2 ^ 31 → nat_le (2 ^ 31) (from_bool b * 2 ^ 31 + x) ≡ b
top_of true x h = grind (arith, nat_tests)
top_of false x h = grind (arith, nat_tests)

bottom_enters : (x : ℕ) → x < 2 ^ 32 → top 32 (around_right 32 x) ≡ bottom x
bottom_enters x h = top_of (bottom x) (x / 2) (omega arith)

pub left_around : (n p : ℕ) → 1 ≤ n → bottom (times n (around_left 32) p) ≡ top 32 (times (n - 1) (around_left 32) p)
left_around n p some = ap bottom (next_one (around_left 32) n p some) ∙ top_enters (times (n - 1) (around_left 32) p)

pub right_around : (n p : ℕ) → 1 ≤ n → p < 2 ^ 32 → top 32 (times n (around_right 32) p) ≡ bottom (times (n - 1) (around_right 32) p)
right_around n p some h =
    ap (top 32) (next_one (around_right 32) n p some)
    ∙ bottom_enters (times (n - 1) (around_right 32) p) (around_right_times_below (n - 1) p h)

-- The sign

signed_step : (b : Bool) (m x : ℕ) → x < m * 2 → nat_le m x ≡ b → (nat_le m (from_bool b * m + x / 2) ≡ b) × (from_bool b * m + x / 2 < m * 2)
signed_step true m x h e = (grind (arith, nat_tests), omega arith)
signed_step false m x h e =
    let low : x < m = grind (arith, nat_tests, e) in
    (grind (arith, nat_tests), omega arith)

-- a pattern of a width has a sign
abbrev pub IsSigned : Width → Bool → ℕ → Type 0
IsSigned w b x = Fits w x × (top (bits_wide w) x ≡ b)

sign_kept : (w : Width) → IsShifted w → (b : Bool) (x : ℕ) → IsSigned w b x → IsSigned w b (right_signed (bits_wide w) x)
sign_kept width.Bit wide b x h = elim wide [ ]
sign_kept width.Byte wide b x h = elim wide [ ]
sign_kept width.Word wide b x h =
    let kept = signed_step b (2 ^ 15) x h.0 h.1 in
    let e : right_signed 16 x ≡ from_bool b * 2 ^ 15 + x / 2 = ap (λ c. from_bool c * 2 ^ 15 + x / 2) h.1 in
    rw e (kept.1, kept.0)
sign_kept width.Dword wide b x h =
    let kept = signed_step b (2 ^ 31) x h.0 h.1 in
    let e : right_signed 32 x ≡ from_bool b * 2 ^ 31 + x / 2 = ap (λ c. from_bool c * 2 ^ 31 + x / 2) h.1 in
    rw e (kept.1, kept.0)

-- no step of a signed shift changes it
pub signs_kept : (w : Width) → IsShifted w → (n p : ℕ) → Fits w p → IsSigned w (top (bits_wide w) p) (times n (right_signed (bits_wide w)) p)
signs_kept w wide n p h =
    times_keep (IsSigned w (top (bits_wide w) p)) (right_signed (bits_wide w)) (sign_kept w wide (top (bits_wide w) p)) n p (h, refl)
