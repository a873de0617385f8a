-- What n steps of a shift or a rotation make, for every n, without steps.
use Rattle.std.proofs.Common.{◌≡◌, ℕ, zero, suc, ◌+◌, ◌-◌, ◌*◌, ◌/◌, ◌%◌, ◌^◌, ◌<◌, ◌≤◌, ◌==◌, nat_le, true, false, refl, sym, ap, ◌∙◌, arith}
use Rattle.std.proofs.Math.Nat.{div-div-eq-div-mul, div-eq_of_lt, div-le_self, div-lt_iff_lt-mul, mod-eq_of_lt, mod-lt, mul-div-mul_right, mul-div_left, mul-le-mul_right, mul-mod_left, pow-le-pow_right, pow-suc}
use Rattle.std.proofs.lemmas.Bool.Decides.{nat_tests}
use Rattle.std.proofs.lemmas.Nat.{mod-pow-add, mul-mod_first, pow-add, pow_pos}
use Rattle.std.specs.Int.{from_bool}
use Rattle.stl_tree.specs.Shifts.{around_left, around_right, left, right, right_signed, times}

-- Steps

pub times-add : (n m : ℕ) (f : ℕ → ℕ) (p : ℕ) → times (n + m) f p ≡ times n f (times m f p)
unfolding times
times-add zero m f p = let e : zero + m ≡ m = omega arith in ap (λ k. times k f p) e
times-add (suc n) m f p =
    let e : suc n + m ≡ suc (n + m) = omega arith in
    ap (λ k. times k f p) e ∙ ap f (times-add n m f p)

times_from : (n : ℕ) (f : ℕ → ℕ) (p : ℕ) → times (suc n) f p ≡ times n f (f p)
unfolding times
times_from zero f p = refl
times_from (suc n) f p = ap f (times_from n f p)

-- To the left

pub left_times : (k n p : ℕ) → p < 2 ^ k → times n (left k) p ≡ p * 2 ^ n % 2 ^ k
unfolding times
left_times k zero p h =
    let one : p ≡ p * 2 ^ 0 = omega arith in
    sym (mod-eq_of_lt h) ∙ ap (λ x. x % 2 ^ k) one
left_times k (suc n) p h =
    let twice : p * 2 ^ n * 2 ≡ p * 2 ^ suc n = omega (arith, ap (λ y. p * y) (pow-suc 2 n)) in
    ap (λ x. x * 2 % 2 ^ k) (left_times k n p h)
    ∙ mul-mod_first (p * 2 ^ n) 2 (2 ^ k)
    ∙ ap (λ x. x % 2 ^ k) twice

pub left_times_gone : (k n p : ℕ) → p < 2 ^ k → k ≤ n → times n (left k) p ≡ 0
left_times_gone k n p h far =
    let e : n ≡ n - k + k = omega arith in
    let moved : p * (2 ^ (n - k) * 2 ^ k) ≡ p * 2 ^ (n - k) * 2 ^ k = omega arith in
    left_times k n p h
    ∙ ap (λ q. p * q % 2 ^ k) (ap (λ j. 2 ^ j) e ∙ pow-add 2 (n - k) k)
    ∙ ap (λ x. x % 2 ^ k) moved
    ∙ mul-mod_left (p * 2 ^ (n - k)) (2 ^ k)

-- To the right

half : (p n : ℕ) → p / 2 ^ n / 2 ≡ p / 2 ^ suc n
half p n = div-div-eq-div-mul p (2 ^ n) 2 ∙ ap (λ q. p / q) (sym (pow-suc 2 n))

pub right_times : (n p : ℕ) → times n right p ≡ p / 2 ^ n
unfolding times
right_times zero p = omega arith
right_times (suc n) p = ap (λ x. x / 2) (right_times n p) ∙ half p n

pub right_times_gone : (k n p : ℕ) → p < 2 ^ k → k ≤ n → times n right p ≡ 0
right_times_gone k n p h far =
    let wide : 2 ^ k ≤ 2 ^ n = pow-le-pow_right (omega arith) far in
    right_times n p ∙ div-eq_of_lt (omega arith)

-- To the right with the sign

sign_zero : (k x : ℕ) → x < 2 ^ (k - 1) → right_signed k x ≡ x / 2
sign_zero k x below =
    let low : nat_le (2 ^ (k - 1)) x ≡ false = grind (arith, nat_tests) in
    ap (λ b. from_bool b * 2 ^ (k - 1) + x / 2) low ∙ omega arith

sign_one : (k x : ℕ) → 2 ^ (k - 1) ≤ x → right_signed k x ≡ 2 ^ (k - 1) + x / 2
sign_one k x above =
    let high : nat_le (2 ^ (k - 1)) x ≡ true = grind (arith, nat_tests) in
    ap (λ b. from_bool b * 2 ^ (k - 1) + x / 2) high ∙ omega arith

-- where the sign is 0
pub right_signed_times_low : (k n p : ℕ) → p < 2 ^ (k - 1) → times n (right_signed k) p ≡ p / 2 ^ n
unfolding times
right_signed_times_low k zero p below = omega arith
right_signed_times_low k (suc n) p below =
    let less : p / 2 ^ n ≤ p = div-le_self p (2 ^ n) in
    ap (right_signed k) (right_signed_times_low k n p below)
    ∙ sign_zero k (p / 2 ^ n) (omega arith)
    ∙ half p n

half_of_rest : (m c : ℕ) → c < m → m + (m * 2 - 1 - c) / 2 ≡ m * 2 - 1 - c / 2
half_of_rest m c h = omega arith

twice_as_much : (k : ℕ) → 1 ≤ k → 2 ^ k ≡ 2 ^ (k - 1) * 2
twice_as_much k some = let e : k ≡ suc (k - 1) = omega arith in ap (λ j. 2 ^ j) e ∙ pow-suc 2 (k - 1)

-- and where it is 1: what is shifted is the pattern with each bit inverted
pub right_signed_times_high : (k n p : ℕ) → 1 ≤ k → 2 ^ (k - 1) ≤ p → p < 2 ^ k → times n (right_signed k) p ≡ 2 ^ k - 1 - (2 ^ k - 1 - p) / 2 ^ n
unfolding times
right_signed_times_high k zero p some above below = omega arith
right_signed_times_high k (suc n) p some above below =
    let whole : 2 ^ k ≡ 2 ^ (k - 1) * 2 = twice_as_much k some in
    let rest : ℕ = 2 ^ k - 1 - p in
    let less : rest / 2 ^ n ≤ rest = div-le_self rest (2 ^ n) in
    ap (right_signed k) (right_signed_times_high k n p some above below)
    ∙ sign_one k (2 ^ k - 1 - rest / 2 ^ n) (omega arith)
    ∙ ap (λ w. 2 ^ (k - 1) + (w - 1 - rest / 2 ^ n) / 2) whole
    ∙ half_of_rest (2 ^ (k - 1)) (rest / 2 ^ n) (omega arith)
    ∙ ap (λ w. w - 1 - rest / 2 ^ n / 2) (sym whole)
    ∙ ap (λ q. 2 ^ k - 1 - q) (half rest n)

-- Around, in 32 bits

-- a step on a pattern as its highest bit and the others
left_step : (b t : ℕ) → b < 2 → t < 2 ^ 31 → around_left 32 (b * 2 ^ 31 + t) ≡ t * 2 + b
left_step zero t h small =
    let low : nat_le (2 ^ 31) (zero * 2 ^ 31 + t) ≡ false = grind (arith, nat_tests) in
    ap (λ b. (zero * 2 ^ 31 + t) * 2 % 2 ^ 32 + from_bool b) low ∙ omega arith
left_step (suc zero) t h small =
    let high : nat_le (2 ^ 31) (suc zero * 2 ^ 31 + t) ≡ true = grind (arith, nat_tests) in
    ap (λ b. (suc zero * 2 ^ 31 + t) * 2 % 2 ^ 32 + from_bool b) high ∙ omega arith
left_step (suc (suc b)) t h small = absurd (omega arith)

-- and back, as its lowest bit and the others
right_step : (b t : ℕ) → b < 2 → around_right 32 (t * 2 + b) ≡ b * 2 ^ 31 + t
right_step zero t h =
    let even : ((t * 2 + zero) % 2 == 1) ≡ false = grind (arith, nat_tests) in
    ap (λ b. from_bool b * 2 ^ 31 + (t * 2 + zero) / 2) even ∙ omega arith
right_step (suc zero) t h =
    let odd : ((t * 2 + suc zero) % 2 == 1) ≡ true = grind (arith, nat_tests) in
    ap (λ b. from_bool b * 2 ^ 31 + (t * 2 + suc zero) / 2) odd ∙ omega arith
right_step (suc (suc b)) t h = absurd (omega arith)

parts : (x : ℕ) → x ≡ x / 2 ^ 31 * 2 ^ 31 + x % 2 ^ 31
parts x = omega arith

left_of_parts : (x : ℕ) → x < 2 ^ 32 → around_left 32 x ≡ x % 2 ^ 31 * 2 + x / 2 ^ 31
left_of_parts x h =
    ap (around_left 32) (parts x)
    ∙ left_step (x / 2 ^ 31) (x % 2 ^ 31) (omega arith) (omega arith)

left_below : (x : ℕ) → x < 2 ^ 32 → around_left 32 x < 2 ^ 32
left_below x h = omega (arith, left_of_parts x h)

right_undoes : (x : ℕ) → x < 2 ^ 32 → around_right 32 (around_left 32 x) ≡ x
right_undoes x h =
    ap (around_right 32) (left_of_parts x h)
    ∙ right_step (x / 2 ^ 31) (x % 2 ^ 31) (omega arith)
    ∙ sym (parts x)

pub around_left_times_below : (n p : ℕ) → p < 2 ^ 32 → times n (around_left 32) p < 2 ^ 32
unfolding times
around_left_times_below zero p h = h
around_left_times_below (suc n) p h = left_below (times n (around_left 32) p) (around_left_times_below n p h)

times_undone : (n p : ℕ) → p < 2 ^ 32 → times n (around_right 32) (times n (around_left 32) p) ≡ p
unfolding times
times_undone zero p h = refl
times_undone (suc n) p h =
    times_from n (around_right 32) (times (suc n) (around_left 32) p)
    ∙ ap (times n (around_right 32)) (right_undoes (times n (around_left 32) p) (around_left_times_below n p h))
    ∙ times_undone n p h

-- m steps move the lowest j bits up and the others to their place, where j + m bits are all
split_low : (j m p : ℕ) → p % 2 ^ suc j * 2 ^ m ≡ p / 2 ^ j % 2 * (2 ^ j * 2 ^ m) + p % 2 ^ j * 2 ^ m
split_low j m p =
    let next : 1 + j ≡ suc j = omega arith in
    let low : p % 2 ^ suc j ≡ p / 2 ^ j % 2 * 2 ^ j + p % 2 ^ j = ap (λ k. p % 2 ^ k) (sym next) ∙ mod-pow-add p 1 j in
    ap (λ x. x * 2 ^ m) low ∙ omega arith

turn_more : (j m p : ℕ) → suc j + m ≡ 32 → p < 2 ^ 32 → around_left 32 (p % 2 ^ suc j * 2 ^ m + p / 2 ^ suc j) ≡ p % 2 ^ j * 2 ^ suc m + p / 2 ^ j
turn_more j m p e h =
    let rest : j + m ≡ 31 = omega arith in
    let product : 2 ^ j * 2 ^ m ≡ 2 ^ 31 = sym (pow-add 2 j m) ∙ ap (λ k. 2 ^ k) rest in
    let low : p % 2 ^ j < 2 ^ j = mod-lt p (pow_pos j) in
    let room : (p % 2 ^ j + 1) * 2 ^ m ≤ 2 ^ j * 2 ^ m = mul-le-mul_right (2 ^ m) (omega arith) in
    let opened : (p % 2 ^ j + 1) * 2 ^ m ≡ p % 2 ^ j * 2 ^ m + 2 ^ m = omega arith in
    let whole : p < 2 ^ m * 2 ^ suc j = omega (arith, ap (λ y. 2 ^ m * y) (pow-suc 2 j)) in
    let high : p / 2 ^ suc j < 2 ^ m = (div-lt_iff_lt-mul (pow_pos (suc j))).1 whole in
    let halves : p / 2 ^ j / 2 ≡ p / 2 ^ suc j = half p j in
    let all : p % 2 ^ suc j * 2 ^ m + p / 2 ^ suc j ≡ p / 2 ^ j % 2 * 2 ^ 31 + (p % 2 ^ j * 2 ^ m + p / 2 ^ suc j) =
    ap (λ x. x + p / 2 ^ suc j) (split_low j m p ∙ ap (λ y. p / 2 ^ j % 2 * y + p % 2 ^ j * 2 ^ m) product) ∙ omega arith in
    let up : p % 2 ^ j * 2 ^ suc m ≡ p % 2 ^ j * 2 ^ m * 2 = omega (arith, ap (λ y. p % 2 ^ j * y) (pow-suc 2 m)) in
    ap (around_left 32) all
    ∙ left_step (p / 2 ^ j % 2) (p % 2 ^ j * 2 ^ m + p / 2 ^ suc j) (omega arith) (omega arith)
    ∙ omega arith

times_turned : (m j p : ℕ) → j + m ≡ 32 → p < 2 ^ 32 → times m (around_left 32) p ≡ p % 2 ^ j * 2 ^ m + p / 2 ^ j
unfolding times
times_turned zero j p e h =
    let all : 32 ≡ j = omega arith in
    let same : p ≡ p % 2 ^ 32 * 2 ^ 0 + p / 2 ^ 32 = omega arith in
    same ∙ ap (λ k. p % 2 ^ k * 2 ^ 0 + p / 2 ^ k) all
times_turned (suc m) j p e h =
    ap (around_left 32) (times_turned m (suc j) p (omega arith) h) ∙ turn_more j m p (omega arith) h

-- 32 steps lead back
left_around : (p : ℕ) → p < 2 ^ 32 → times 32 (around_left 32) p ≡ p
left_around p h = times_turned 32 0 p refl h ∙ omega arith

right_around : (p : ℕ) → p < 2 ^ 32 → times 32 (around_right 32) p ≡ p
right_around p h = ap (times 32 (around_right 32)) (sym (left_around p h)) ∙ times_undone 32 p h

turns : (q m : ℕ) (f : ℕ → ℕ) (p : ℕ) → times 32 f p ≡ p → times (m + q * 32) f p ≡ times m f p
turns zero m f p e = let none : m + zero * 32 ≡ m = omega arith in ap (λ k. times k f p) none
turns (suc q) m f p e =
    let more : m + suc q * 32 ≡ m + q * 32 + 32 = omega arith in
    ap (λ k. times k f p) more ∙ times-add (m + q * 32) 32 f p ∙ ap (times (m + q * 32) f) e ∙ turns q m f p e

less_than_around : (n : ℕ) (f : ℕ → ℕ) (p : ℕ) → times 32 f p ≡ p → times n f p ≡ times (n % 32) f p
less_than_around n f p e =
    let whole : n ≡ n % 32 + n / 32 * 32 = omega arith in
    ap (λ k. times k f p) whole ∙ turns (n / 32) (n % 32) f p e

stays : (p j m : ℕ) → p * 2 ^ m % 2 ^ (j + m) ≡ p % 2 ^ j * 2 ^ m
stays p j m =
    mod-pow-add (p * 2 ^ m) j m
    ∙ ap (λ x. x % 2 ^ j * 2 ^ m + p * 2 ^ m % 2 ^ m) (mul-div_left p (pow_pos m))
    ∙ ap (λ y. p % 2 ^ j * 2 ^ m + y) (mul-mod_left p (2 ^ m))
    ∙ omega arith

leaves : (p j m : ℕ) → p * 2 ^ m / 2 ^ (j + m) ≡ p / 2 ^ j
leaves p j m = ap (λ q. p * 2 ^ m / q) (pow-add 2 j m) ∙ mul-div-mul_right p (2 ^ j) (pow_pos m)

turned_is : (p j m : ℕ) → j + m ≡ 32 → p % 2 ^ j * 2 ^ m + p / 2 ^ j ≡ p * 2 ^ m % 2 ^ 32 + p * 2 ^ m / 2 ^ 32
turned_is p j m e =
    ap (λ x. x + p / 2 ^ j) (sym (stays p j m) ∙ ap (λ k. p * 2 ^ m % 2 ^ k) e)
    ∙ ap (λ y. p * 2 ^ m % 2 ^ 32 + y) (sym (leaves p j m) ∙ ap (λ k. p * 2 ^ m / 2 ^ k) e)

pub around_left_times : (n p : ℕ) → p < 2 ^ 32 → times n (around_left 32) p ≡ p * 2 ^ (n % 32) % 2 ^ 32 + p * 2 ^ (n % 32) / 2 ^ 32
around_left_times n p h =
    let all : 32 - n % 32 + n % 32 ≡ 32 = omega arith in
    less_than_around n (around_left 32) p (left_around p h)
    ∙ times_turned (n % 32) (32 - n % 32) p all h
    ∙ turned_is p (32 - n % 32) (n % 32) all

-- m steps to the right are what is left to a whole turn to the left
right_is_left : (m j p : ℕ) → m + j ≡ 32 → p < 2 ^ 32 → times m (around_right 32) p ≡ times j (around_left 32) p
right_is_left m j p e h =
    let back : times m (around_left 32) (times j (around_left 32) p) ≡ p =
    sym (times-add m j (around_left 32) p) ∙ ap (λ k. times k (around_left 32) p) e ∙ left_around p h in
    ap (times m (around_right 32)) (sym back) ∙ times_undone m (times j (around_left 32) p) (around_left_times_below j p h)

pub around_right_times_left : (n p : ℕ) → p < 2 ^ 32 → times n (around_right 32) p ≡ times (32 - n % 32) (around_left 32) p
around_right_times_left n p h =
    less_than_around n (around_right 32) p (right_around p h) ∙ right_is_left (n % 32) (32 - n % 32) p (omega arith) h

pub around_right_times : (n p : ℕ) → p < 2 ^ 32 → times n (around_right 32) p ≡ p / 2 ^ (n % 32) + p % 2 ^ (n % 32) * 2 ^ (32 - n % 32)
around_right_times n p h =
    around_right_times_left n p h ∙ times_turned (32 - n % 32) (n % 32) p (omega arith) h ∙ omega arith
