-- Images and what they give.
use Rattle.std.proofs.Common.{◌≡◌, refl, [], ◌∷◌, ◌++◌, Ok, Err}
use Rattle.std.specs.Prelude.{codes, replicate}
use Rattle.memory_areas.specs.Areas.{with_areas}
use Rattle.image_text.specs.Image.{image_of}
use Rattle.image_text.specs.declared.refusal.ImageRefusal.TheVariants.{BadLine, BadByte, OutsideArea}

leading_zero : image_of (codes "I 00: 01") [] ≡ Err (BadLine (record { 0 = 1 }))
leading_zero = refl

leading_zero_of_block : image_of (codes "DB05 0: 01") [] ≡ Err (BadLine (record { 0 = 1 }))
leading_zero_of_block = refl

small_letter : image_of (codes "i 0: 00") [] ≡ Err (BadLine (record { 0 = 1 }))
small_letter = refl

no_field : image_of (codes "M 0:") [] ≡ Err (BadLine (record { 0 = 1 }))
no_field = refl

blank_behind_colon : image_of (codes "M 0: ") [] ≡ Err (BadLine (record { 0 = 1 }))
blank_behind_colon = refl

blank_behind_field : image_of (codes "M 0: 00 ") [] ≡ Err (BadLine (record { 0 = 1 }))
blank_behind_field = refl

two_blanks : image_of (codes "M 0: 00  11") [] ≡ Err (BadLine (record { 0 = 1 }))
two_blanks = refl

one_blank : image_of (codes " ") [] ≡ Err (BadLine (record { 0 = 1 }))
one_blank = refl

two_blanks_in_front : image_of (codes "I  0: 00") [] ≡ Err (BadLine (record { 0 = 1 }))
two_blanks_in_front = refl

no_colon : image_of (codes "I 0 00") [] ≡ Err (BadLine (record { 0 = 1 }))
no_colon = refl

no_number : image_of (codes "DB 0: 00") [] ≡ Err (BadLine (record { 0 = 1 }))
no_number = refl

a_blank_before_the_colon : image_of (codes "I 0 : 00") [] ≡ Err (BadLine (record { 0 = 1 }))
a_blank_before_the_colon = refl

a_blank_in_front : image_of (codes " I 0: 00") [] ≡ Err (BadLine (record { 0 = 1 }))
a_blank_in_front = refl

area_line_before_fields : image_of (codes "M 0: 0G ") [] ≡ Err (BadLine (record { 0 = 1 }))
area_line_before_fields = refl

bad_digit : image_of (codes "M 0: 0G") [] ≡ Err (BadByte (record { 0 = 1 }))
bad_digit = refl

field_before_place : image_of (codes "DB99 0: 0G x") [] ≡ Err (BadByte (record { 0 = 1 }))
field_before_place = refl

second_return : image_of (codes "M 0: 00\r\r\n") [] ≡ Err (BadByte (record { 0 = 1 }))
second_return = refl

three_digits : image_of (codes "M 0: 000") [] ≡ Err (BadByte (record { 0 = 1 }))
three_digits = refl

last_field : image_of (codes "DB70000 0: 00 11 2") [] ≡ Err (BadByte (record { 0 = 1 }))
last_field = refl

past_the_area : image_of (codes "M 8191: 00 00") [] ≡ Err (OutsideArea (record { 0 = 1 }))
past_the_area = refl

block_0 : image_of (codes "DB0 0: 00") [] ≡ Err (OutsideArea (record { 0 = 1 }))
block_0 = refl

block_missing : image_of (codes "DB99 0: 00") [] ≡ Err (OutsideArea (record { 0 = 1 }))
block_missing = refl

block_past_16_bits : image_of (codes "DB70000 0: 00") [] ≡ Err (OutsideArea (record { 0 = 1 }))
block_past_16_bits = refl

number_past_32_bits : image_of (codes "I 99999999999999999999: 00") [] ≡ Err (OutsideArea (record { 0 = 1 }))
number_past_32_bits = refl

second_line : image_of (codes "M 0: 00\nM 8192: 00\nx") [] ≡ Err (OutsideArea (record { 0 = 2 }))
second_line = refl

later_lines : image_of (codes "# x\r\n\n\r\nM 0: 1\r\nM 0: 1") [] ≡ Err (BadByte (record { 0 = 4 }))
later_lines = refl

nothing : image_of (codes "") [] ≡ Ok (with_areas (record { inputs = replicate 2048 0; outputs = replicate 2048 0; markers = replicate 8192 0; blocks = [] }))
nothing = refl

empty_lines : image_of (codes "\n\r\n# I 0: 01\n\r") []
    ≡ Ok (with_areas (record { inputs = replicate 2048 0; outputs = replicate 2048 0; markers = replicate 8192 0; blocks = [] }))
empty_lines = refl

tab : image_of (codes "I\t0:\t00") []
    ≡ Ok (with_areas (record { inputs = replicate 2048 0; outputs = replicate 2048 0; markers = replicate 8192 0; blocks = [] }))
tab = refl

digits : image_of (codes "M 0: 0a fF\nI 1: 09\r") []
    ≡ Ok (with_areas (record { inputs = 0 ∷ 9 ∷ replicate 2046 0; outputs = replicate 2048 0; markers = 10 ∷ 255 ∷ replicate 8190 0; blocks = [] }))
digits = refl

in_order : image_of (codes "Q 0: 01 02\r\nQ 1: 03\n") []
    ≡ Ok (with_areas (record { inputs = replicate 2048 0; outputs = 1 ∷ 3 ∷ replicate 2046 0; markers = replicate 8192 0; blocks = [] }))
in_order = refl

block : image_of (codes "DB5 1: 07\n") (record { number = 5; bytes = 1 ∷ 2 ∷ 3 ∷ [] } ∷ []) ≡ Ok (with_areas
    (record { inputs = replicate 2048 0; outputs = replicate 2048 0; markers = replicate 8192 0; blocks = record { number = 5; bytes = 1 ∷ 7 ∷ 3 ∷ [] } ∷ [] }))
block = refl

last_byte : image_of (codes "I 2047: ff") []
    ≡ Ok (with_areas (record { inputs = replicate 2047 0 ++ 255 ∷ []; outputs = replicate 2048 0; markers = replicate 8192 0; blocks = [] }))
last_byte = refl
