-- Patterns of bits as signed numbers. The highest bit of a pattern is the sign, and a number that has no room in so
-- many bits is wrapped.
-- Held against: the manual's chapter 'Integer Math'.
use Rattle.std.specs.Prelude.{ℕ, ◌-◌, ◌^◌, ◌%◌, nat_lt, ℤ, pos, negsuc, neg_ℤ, int_lt, Bool, ◌||◌, if◌then◌else◌}

-- the pattern of k bits of a number: the number modulo 2 ^ k
abbrev pub pattern : ℕ → ℤ → ℕ
pattern k (pos n) = n % 2 ^ k
pattern k (negsuc n) = 2 ^ k - 1 - n % 2 ^ k

-- the number of a pattern of k bits, its highest bit being the sign
abbrev pub number : ℕ → ℕ → ℤ
number k n = if nat_lt n (2 ^ (k - 1)) then pos n else negsuc (2 ^ k - 1 - n)

-- a number cut to k bits, its highest bit being the sign
abbrev pub wrapped : ℕ → ℤ → ℤ
wrapped k z = number k (pattern k z)

-- a number lies outside the range of k bits, from -2 ^ (k - 1) to 2 ^ (k - 1) - 1
abbrev pub is_over : ℕ → ℤ → Bool
is_over k z = int_lt z (neg_ℤ (pos (2 ^ (k - 1)))) || int_lt (pos (2 ^ (k - 1) - 1)) z
