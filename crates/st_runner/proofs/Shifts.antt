-- Shifts and rotations by fewer bits than a pattern has.
use Rattle.std.proofs.Common.{◌≡◌, ℕ, ◌+◌, ◌-◌, ◌*◌, ◌/◌, ◌%◌, ◌^◌, ◌<◌, ◌≤◌, arith, ap, sym, ◌∙◌}
use Rattle.std.proofs.Math.Nat.{pow-le-pow_right, div-eq_of_lt, div-lt_iff_lt-mul, mod-eq_of_lt, mod-lt, mod-one, mul_comm, zero-mul, mul-div_left, mul-div-mul_right, mul-le-mul_right, mul-mod_left}
use Rattle.std.proofs.lemmas.Nat.{mod-pow-add, one_shl, pow-add, pow_pos, shl_whole}
use Rattle.st_tree.specs.Operators.{turned_left, turned_right}

-- what stays of a pattern of j + k bits that is shifted to the left by k, and what leaves it
stays : (b j k : ℕ) → b * 2 ^ k % 2 ^ (j + k) ≡ b % 2 ^ j * 2 ^ k
stays b j k =
    mod-pow-add (b * 2 ^ k) j k
    ∙ ap (λ x. x % 2 ^ j * 2 ^ k + b * 2 ^ k % 2 ^ k) (mul-div_left b (pow_pos k))
    ∙ ap (λ y. b % 2 ^ j * 2 ^ k + y) (mul-mod_left b (2 ^ k))
    ∙ omega arith

leaves : (b j k : ℕ) → b * 2 ^ k / 2 ^ (j + k) ≡ b / 2 ^ j
leaves b j k = ap (λ p. b * 2 ^ k / p) (pow-add 2 j k) ∙ mul-div-mul_right b (2 ^ j) (pow_pos k)

-- by k bits to the left in a pattern of w bits
pub shifts : (w b k : ℕ) → k ≤ w → b % 2 ^ (w - k) * 2 ^ k ≡ b * 2 ^ k % 2 ^ w
shifts w b k h =
    let e : w - k + k ≡ w = omega arith in
    sym (stays b (w - k) k) ∙ ap (λ n. b * 2 ^ k % 2 ^ n) e

pub turns_left : (w b k : ℕ) → k ≤ w → b % 2 ^ (w - k) * 2 ^ k + b / 2 ^ (w - k) ≡ turned_left w b k
turns_left w b k h =
    let e : w - k + k ≡ w = omega arith in
    ap (λ x. x + b / 2 ^ (w - k)) (shifts w b k h) ∙ ap (λ y. b * 2 ^ k % 2 ^ w + y) (sym (leaves b (w - k) k) ∙ ap (λ n. b * 2 ^ k / 2 ^ n) e)

pub turns_right : (w b k : ℕ) → b % 2 ^ k * 2 ^ (w - k) + b / 2 ^ k ≡ turned_right w b k
turns_right w b k = omega arith

-- a number below 2 ^ j, k bits further up, is 2 ^ k below 2 ^ (j + k) at least
pub below : (a j k : ℕ) → a < 2 ^ j → a * 2 ^ k + 2 ^ k ≤ 2 ^ (j + k)
below a j k h =
    let m : (a + 1) * 2 ^ k ≤ 2 ^ j * 2 ^ k = mul-le-mul_right (2 ^ k) (omega arith) in
    omega (arith, pow-add 2 j k)

-- the code's shifts at 64 bits lose nothing
pub moved_is : (b j k : ℕ) → 0 < k → j + k ≤ 64 → b % (1 * 2 ^ j % 2 ^ 64) * 2 ^ k % 2 ^ 64 ≡ b % 2 ^ j * 2 ^ k
moved_is b j k h within =
    ap (λ p. b % p * 2 ^ k % 2 ^ 64) (one_shl j 64 (omega arith))
    ∙ shl_whole (b % 2 ^ j) j k 64 (mod-lt b (pow_pos j)) within

pub moved_below : (b j k : ℕ) → 0 < k → j + k ≤ 64 → b % (1 * 2 ^ j % 2 ^ 64) * 2 ^ k % 2 ^ 64 + 2 ^ k ≤ 2 ^ (j + k)
moved_below b j k h within = omega (arith, moved_is b j k h within, below (b % 2 ^ j) j k (mod-lt b (pow_pos j)))

-- what leaves a pattern fits what it leaves free
pub turn_fits : (b j k : ℕ) → b < 2 ^ (j + k) → b / 2 ^ j < 2 ^ k
turn_fits b j k h =
    let e : 2 ^ (j + k) ≡ 2 ^ k * 2 ^ j = pow-add 2 j k ∙ mul_comm (2 ^ j) (2 ^ k) in
    (div-lt_iff_lt-mul (pow_pos j)).1 (omega arith)

pub turn_room : (m b j k : ℕ) → m + 2 ^ k ≤ 2 ^ (j + k) → j + k ≤ 64 → b < 2 ^ (j + k) → m + b / 2 ^ j < 2 ^ 64
turn_room m b j k h within small =
    let f : b / 2 ^ j < 2 ^ k = turn_fits b j k small in
    let g : 2 ^ (j + k) ≤ 2 ^ 64 = pow-le-pow_right (omega arith) within in
    omega arith

-- by no bits
pub shifts_none : (w b : ℕ) → b < 2 ^ w → b ≡ b * 2 ^ 0 % 2 ^ w
shifts_none w b h = sym (mod-eq_of_lt h) ∙ ap (λ x. x % 2 ^ w) (omega arith)

pub turns_none_left : (w b : ℕ) → b < 2 ^ w → b ≡ turned_left w b 0
turns_none_left w b h =
    let one : b * 2 ^ 0 ≡ b = omega arith in
    let e : b * 2 ^ 0 % 2 ^ w ≡ b = ap (λ x. x % 2 ^ w) one ∙ mod-eq_of_lt h in
    let f : b * 2 ^ 0 / 2 ^ w ≡ 0 = ap (λ x. x / 2 ^ w) one ∙ div-eq_of_lt h in
    omega arith

pub turns_none_right : (w b : ℕ) → b ≡ turned_right w b 0
turns_none_right w b =
    let e : b % 2 ^ 0 * 2 ^ (w - 0) ≡ 0 = ap (λ x. x * 2 ^ (w - 0)) (mod-one b) ∙ zero-mul (2 ^ (w - 0)) in
    omega arith
