-- Conversions in ACCU1. Numbers to and from decimal digits, the sign extended, bits inverted, bytes in reverse order.
-- Held against: the manual's chapter 'Conversion'.
use Rattle.std.specs.Prelude.{ℕ, ◌-◌, ◌^◌, ℤ, true, false, reverse, Option, Some, None, Result, Ok, Err}
use Rattle.bcd_words.specs.Bcd.{bcd_of, bcd_value}
use Rattle.memory_areas.specs.Areas.{bytes_of_dword, bytes_of_word, dword_at, word_at}
use Rattle.s7_base.specs.SignedNumbers.{pattern}
use Rattle.s7_base.specs.declared.outcome.Fault.{Fault}
use Rattle.s7_base.specs.declared.word.Width.{Width}
use Rattle.s7_base.specs.declared.word.Width.TheVariants as width
use Rattle.status_word.specs.Results.{after_converted}
use Rattle.memory_areas.specs.Access.{bits_wide}
use Rattle.stl_tree.specs.Accumulators.{part, signed_part, with_number, with_part}
use Rattle.stl_tree.specs.Arithmetic.{after_negation}
use Rattle.stl_tree.specs.Registers.{RegisterValues}
use Rattle.stl_tree.specs.declared.accumulator.UnaryRow.{UnaryRow}
use Rattle.stl_tree.specs.declared.accumulator.UnaryRow.TheVariants as row

-- a part of ACCU1 takes other bits
abbrev pub with_accu1_part : Width → ℕ → RegisterValues → RegisterValues
with_accu1_part w p r = record r { accu1 = with_part w r.accu1 p }

-- BTI and BTD: a part of ACCU1 takes the number that its digits say, where each is a decimal one
abbrev pub with_value_of_digits : Width → RegisterValues → Result ℤ Fault → Result RegisterValues Fault
with_value_of_digits w r (Ok z) = Ok (record r { accu1 = with_number w r.accu1 z })
with_value_of_digits w r (Err f) = Err f

abbrev pub from_digits : Width → ℕ → RegisterValues → Result RegisterValues Fault
from_digits w count r = with_value_of_digits w r (bcd_value count (part w r.accu1))

-- ITB and DTB: a part of ACCU1 takes the digits of its number, where it has no more than these; else ACCU1 stays
-- and it is an overflow
abbrev pub with_digits : Width → Option ℕ → RegisterValues → RegisterValues
with_digits w (Some p) r = record r { accu1 = with_part w r.accu1 p; status = after_converted false r.status }
with_digits w None r = record r { status = after_converted true r.status }

abbrev pub to_digits : Width → ℕ → RegisterValues → RegisterValues
to_digits w count r = with_digits w (bcd_of count (signed_part w r.accu1)) r

-- ITD: the low word of ACCU1, extended by its sign
abbrev pub after_extension : RegisterValues → RegisterValues
after_extension r = record r { accu1 = pattern 32 (signed_part width.Word r.accu1) }

-- INVI and INVD: each bit of a part of ACCU1 inverted
abbrev pub after_inversion : Width → RegisterValues → RegisterValues
after_inversion w r = with_accu1_part w (2 ^ bits_wide w - 1 - part w r.accu1) r

-- CAW: the two bytes of the low word of ACCU1, the other way round
abbrev pub word_reversed : RegisterValues → RegisterValues
word_reversed r = with_accu1_part width.Word (word_at (reverse (bytes_of_word (part width.Word r.accu1))) 0) r

-- CAD: the four bytes of ACCU1, the other way round
abbrev pub dword_reversed : RegisterValues → RegisterValues
dword_reversed r = with_accu1_part width.Dword (dword_at (reverse (bytes_of_dword (part width.Dword r.accu1))) 0) r

-- the registers after each instruction on ACCU1 alone, or its fault
abbrev pub after_conversion : UnaryRow → RegisterValues → Result RegisterValues Fault
after_conversion row.Bti r = from_digits width.Word 3 r
after_conversion row.Btd r = from_digits width.Dword 7 r
after_conversion row.Itb r = Ok (to_digits width.Word 3 r)
after_conversion row.Dtb r = Ok (to_digits width.Dword 7 r)
after_conversion row.Itd r = Ok (after_extension r)
after_conversion row.Invi r = Ok (after_inversion width.Word r)
after_conversion row.Invd r = Ok (after_inversion width.Dword r)
after_conversion row.Caw r = Ok (word_reversed r)
after_conversion row.Cad r = Ok (dword_reversed r)
after_conversion row.Negi r = Ok (after_negation width.Word r)
after_conversion row.Negd r = Ok (after_negation width.Dword r)
