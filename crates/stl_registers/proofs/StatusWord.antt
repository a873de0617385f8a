-- The status word has its bits in a low word.
use Rattle.std.proofs.Common.{◌≡◌, ◌==◌, ℕ, ◌%◌, ◌^◌, ap, arith}
use Rattle.std.specs.Int.{bit_at}
use Rattle.status_word.specs.Flags.{bits_of, has_bit, place}
use Rattle.status_word.specs.declared.test.Flag.{Flag}
use Rattle.status_word.specs.declared.test.Flag.TheVariants as flag

low_bit : (f : Flag) (a : ℕ) → bit_at (a % 2 ^ 16) (place f) ≡ bit_at a (place f)
low_bit flag.Nfc a = omega arith
low_bit flag.Rlo a = omega arith
low_bit flag.Sta a = omega arith
low_bit flag.Orb a = omega arith
low_bit flag.Os a = omega arith
low_bit flag.Ov a = omega arith
low_bit flag.Cc0 a = omega arith
low_bit flag.Cc1 a = omega arith
low_bit flag.Br a = omega arith

has_low_bit : (f : Flag) (a : ℕ) → has_bit (a % 2 ^ 16) f ≡ has_bit a f
unfolding has_bit
has_low_bit f a = ap (λ k. k == 1) (low_bit f a)

pub low_bits : (a : ℕ) → bits_of (a % 2 ^ 16) ≡ bits_of a
unfolding bits_of
low_bits a = simp has_low_bit
