-- What the code's shifts make is what n steps make.
use Rattle.std.proofs.Common.{◌≡◌, ℕ, ◌+◌, ◌-◌, ◌*◌, ◌/◌, ◌%◌, ◌^◌, ◌<◌, ◌≤◌, sym, ap, ◌∙◌, arith}
use Rattle.std.proofs.Math.Nat.{mod-eq_of_lt, mul-le-mul_left, pow-le-pow_right}
use Rattle.stl_tree.proofs.ShiftForms.{around_left_times, around_left_times_below, left_times, left_times_gone, right_signed_times_high, right_signed_times_low, right_times, right_times_gone}
use Rattle.stl_tree.specs.Shifts.{around_left, left, right, right_signed, times}

pub word_left : (n p : ℕ) → p < 2 ^ 16 → times n (left 16) p ≡ p * 2 ^ n % 2 ^ 32 % 2 ^ 16
word_left n p h = left_times 16 n p h ∙ omega arith

pub word_gone : (n p : ℕ) → p < 2 ^ 16 → 16 ≤ n → times n (left 16) p ≡ 0
word_gone n p h far = left_times_gone 16 n p h far

pub dword_left : (n p : ℕ) → p < 2 ^ 32 → times n (left 32) p ≡ p * 2 ^ n % 2 ^ 32
dword_left n p h = left_times 32 n p h

pub dword_gone : (n p : ℕ) → p < 2 ^ 32 → 32 ≤ n → times n (left 32) p ≡ 0
dword_gone n p h far = left_times_gone 32 n p h far

pub right_gone : (n p : ℕ) → p < 2 ^ 32 → 32 ≤ n → times n right p ≡ 0
right_gone n p h far = right_times_gone 32 n p h far

pub word_sign_zero : (n p : ℕ) → p < 2 ^ 15 → times n (right_signed 16) p ≡ times n right p
word_sign_zero n p h = right_signed_times_low 16 n p h ∙ sym (right_times n p)

pub word_sign_one : (n p : ℕ) → 2 ^ 15 ≤ p → p < 2 ^ 16 → times n (right_signed 16) p ≡ 65535 - times n right (65535 - p)
word_sign_one n p h k = right_signed_times_high 16 n p (omega arith) h k ∙ ap (λ q. 65535 - q) (sym (right_times n (65535 - p)))

pub dword_sign_zero : (n p : ℕ) → p < 2 ^ 31 → times n (right_signed 32) p ≡ times n right p
dword_sign_zero n p h = right_signed_times_low 32 n p h ∙ sym (right_times n p)

pub dword_sign_one : (n p : ℕ) → 2 ^ 31 ≤ p → p < 2 ^ 32 → times n (right_signed 32) p ≡ 4294967295 - times n right (4294967295 - p)
dword_sign_one n p h k =
    right_signed_times_high 32 n p (omega arith) h k ∙ ap (λ q. 4294967295 - q) (sym (right_times n (4294967295 - p)))

-- a turn is made in 64 bits
wide_turn : (n p : ℕ) → p < 2 ^ 32 → p * 2 ^ (n % 32) % 2 ^ 64 ≡ p * 2 ^ (n % 32)
wide_turn n p h =
    let within : n % 32 ≤ 31 = omega arith in
    let small : 2 ^ (n % 32) ≤ 2 ^ 31 = pow-le-pow_right (omega arith) within in
    let fits : p * 2 ^ (n % 32) ≤ p * 2 ^ 31 = mul-le-mul_left p small in
    mod-eq_of_lt (omega arith)

pub turned_left : (n p : ℕ) → p < 2 ^ 32 → times n (around_left 32) p ≡ p * 2 ^ (n % 32) % 2 ^ 64 % 2 ^ 32 + p * 2 ^ (n % 32) % 2 ^ 64 / 2 ^ 32
turned_left n p h = around_left_times n p h ∙ ap (λ y. y % 2 ^ 32 + y / 2 ^ 32) (sym (wide_turn n p h))

pub turned_left_below : (n p : ℕ) → p < 2 ^ 32 → p * 2 ^ (n % 32) % 2 ^ 64 % 2 ^ 32 + p * 2 ^ (n % 32) % 2 ^ 64 / 2 ^ 32 < 2 ^ 32
turned_left_below n p h = omega (arith, turned_left n p h, around_left_times_below n p h)
