-- Pointers, what they name and what is added to them, computed.
use Rattle.std.proofs.Common.{◌≡◌, refl, Ok, Err, pos}
use Rattle.std.specs.Prelude.{neg_ℤ}
use Rattle.s7_base.specs.declared.outcome.Fault.TheVariants.{AreaCode}
use Rattle.memory_areas.specs.Pointers.{bit_of_pointer, byte_of_pointer, code_of_pointer, pointer_plus, with_offset}
use Rattle.memory_areas.specs.declared.place.Area.TheVariants as area
use Rattle.memory_areas.specs.Access.{place_aimed, aim_of_pointer}

-- P#M 10.3

code : code_of_pointer 0x83000053 ≡ 0x83
code = refl

byte : byte_of_pointer 0x83000053 ≡ 10
byte = refl

bit : bit_of_pointer 0x83000053 ≡ 3
bit = refl

-- all bits but 19 to 23, and all of them

greatest : byte_of_pointer 0x8307FFFF ≡ 65535
greatest = refl

ignored : byte_of_pointer 0x83F80053 ≡ 10
ignored = refl

-- an offset: 0.6 to 10.3 is 11.1, and 65535.7 goes on with 0.0

carry : with_offset 0x83000053 6 ≡ 0x83000059
carry = refl

offset_wraps : with_offset 0x8307FFFF 1 ≡ 0x83000000
offset_wraps = refl

offset_keeps : with_offset 0x83F80053 6 ≡ 0x83F80059
offset_keeps = refl

offset_past : with_offset 0x84000008 0xFFF80008 ≡ 0x84000010
offset_past = refl

-- an amount: on, back, and past both ends of 24 bits

on : pointer_plus 0x83000053 (pos 6) ≡ 0x83000059
on = refl

back : pointer_plus 0x83000059 (neg_ℤ (pos 6)) ≡ 0x83000053
back = refl

past_19_bits : pointer_plus 0x8307FFFF (pos 1) ≡ 0x83080000
past_19_bits = refl

wraps : pointer_plus 0x83FFFFFF (pos 1) ≡ 0x83000000
wraps = refl

wraps_back : pointer_plus 0x83000000 (neg_ℤ (pos 1)) ≡ 0x83FFFFFF
wraps_back = refl

least : pointer_plus 0x85000001 (neg_ℤ (pos 0x80000000)) ≡ 0x85000001
least = refl

-- the areas of the codes; no other code has one

inputs : place_aimed (aim_of_pointer 0x81000053 20 30 4) ≡ Ok (record { area = area.I; byte = 10; bit = 3 })
inputs = refl

outputs : place_aimed (aim_of_pointer 0x82000053 20 30 4) ≡ Ok (record { area = area.Q; byte = 10; bit = 3 })
outputs = refl

markers : place_aimed (aim_of_pointer 0x83000053 20 30 4) ≡ Ok (record { area = area.M; byte = 10; bit = 3 })
markers = refl

db : place_aimed (aim_of_pointer 0x84000053 20 30 4) ≡ Ok (record { area = area.Db 20; byte = 10; bit = 3 })
db = refl

di : place_aimed (aim_of_pointer 0x85000053 20 30 4) ≡ Ok (record { area = area.Db 30; byte = 10; bit = 3 })
di = refl

local : place_aimed (aim_of_pointer 0x86000053 20 30 4) ≡ Ok (record { area = area.Local 4; byte = 10; bit = 3 })
local = refl

closed : place_aimed (aim_of_pointer 0x84000000 0 30 4) ≡ Ok (record { area = area.Db 0; byte = 0; bit = 0 })
closed = refl

below : place_aimed (aim_of_pointer 0x80000053 20 30 4) ≡ Err AreaCode
below = refl

above : place_aimed (aim_of_pointer 0x87000053 20 30 4) ≡ Err AreaCode
above = refl

none : place_aimed (aim_of_pointer 0x00000053 20 30 4) ≡ Err AreaCode
none = refl
