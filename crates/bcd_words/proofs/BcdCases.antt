-- Patterns and what they say, computed.
use Rattle.std.proofs.Common.{◌≡◌, refl, Some, None, Ok, Err, pos}
use Rattle.std.specs.Prelude.{neg_ℤ}
use Rattle.bcd_words.specs.Bcd.{bcd_value, bcd_of}
use Rattle.s7_base.specs.declared.outcome.Fault.TheVariants.{BcdDigit}

-- three digits read

plain : bcd_value 3 0x0123 ≡ Ok (pos 123)
plain = refl

negative : bcd_value 3 0xF123 ≡ Ok (neg_ℤ (pos 123))
negative = refl

top_bit_alone : bcd_value 3 0x8123 ≡ Ok (neg_ℤ (pos 123))
top_bit_alone = refl

other_sign_bits : bcd_value 3 0x7123 ≡ Ok (pos 123)
other_sign_bits = refl

minus_zero : bcd_value 3 0x8000 ≡ Ok (pos 0)
minus_zero = refl

middle_digit : bcd_value 3 0x09A1 ≡ Err BcdDigit
middle_digit = refl

last_digit : bcd_value 3 0x000A ≡ Err BcdDigit
last_digit = refl

first_digit : bcd_value 3 0xFA00 ≡ Err BcdDigit
first_digit = refl

-- three digits written

of_zero : bcd_of 3 (pos 0) ≡ Some 0
of_zero = refl

of_negative : bcd_of 3 (neg_ℤ (pos 123)) ≡ Some 0xF123
of_negative = refl

of_greatest : bcd_of 3 (pos 999) ≡ Some 0x0999
of_greatest = refl

of_least : bcd_of 3 (neg_ℤ (pos 999)) ≡ Some 0xF999
of_least = refl

past_greatest : bcd_of 3 (pos 1000) ≡ None
past_greatest = refl

past_least : bcd_of 3 (neg_ℤ (pos 1000)) ≡ None
past_least = refl

-- seven digits

wide : bcd_value 7 0x01234567 ≡ Ok (pos 1234567)
wide = refl

wide_least : bcd_value 7 0xF9999999 ≡ Ok (neg_ℤ (pos 9999999))
wide_least = refl

wide_top_bit : bcd_value 7 0x80000010 ≡ Ok (neg_ℤ (pos 10))
wide_top_bit = refl

wide_digit : bcd_value 7 0x0A000000 ≡ Err BcdDigit
wide_digit = refl

of_wide_least : bcd_of 7 (neg_ℤ (pos 9999999)) ≡ Some 0xF9999999
of_wide_least = refl

of_wide : bcd_of 7 (pos 1234567) ≡ Some 0x01234567
of_wide = refl

past_wide : bcd_of 7 (pos 10000000) ≡ None
past_wide = refl

past_wide_least : bcd_of 7 (neg_ℤ (pos 10000000)) ≡ None
past_wide_least = refl
