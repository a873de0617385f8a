-- Shifts and rotations. One step of each, and that step taken as often as the count says.
-- Held against: the manual's chapter 'Shift and Rotate'.
use Rattle.std.specs.Prelude.{ℕ, zero, suc, ◌+◌, ◌-◌, ◌*◌, ◌/◌, ◌%◌, ◌^◌, ◌==◌, nat_le, Bool, if◌then◌else◌, Option, Some, None}
use Rattle.std.specs.Int.{from_bool}
use Rattle.s7_base.specs.declared.word.Width.{Width}
use Rattle.s7_base.specs.declared.word.Width.TheVariants as width
use Rattle.status_word.specs.Results.{after_shifted}
use Rattle.stl_tree.specs.Accumulators.{part, with_part}
use Rattle.stl_tree.specs.Registers.{RegisterValues}
use Rattle.stl_tree.specs.declared.accumulator.ShiftRow.{ShiftRow}
use Rattle.stl_tree.specs.declared.accumulator.ShiftRow.TheVariants as row

-- One step, of a pattern of k bits

-- the highest bit of a pattern of k bits
abbrev pub top : ℕ → ℕ → Bool
top k p = nat_le (2 ^ (k - 1)) p

-- the lowest bit of a pattern
abbrev pub bottom : ℕ → Bool
bottom p = p % 2 == 1

-- one step to the left or to the right, with a zero shifted in
abbrev pub left : ℕ → ℕ → ℕ
left k p = p * 2 % 2 ^ k

abbrev pub right : ℕ → ℕ
right p = p / 2

-- one step to the right, with the sign shifted in
abbrev pub right_signed : ℕ → ℕ → ℕ
right_signed k p = from_bool (top k p) * 2 ^ (k - 1) + p / 2

-- one step around to the left or to the right: the bit that is shifted out comes in on the other side
abbrev pub around_left : ℕ → ℕ → ℕ
around_left k p = p * 2 % 2 ^ k + from_bool (top k p)

abbrev pub around_right : ℕ → ℕ → ℕ
around_right k p = from_bool (bottom p) * 2 ^ (k - 1) + p / 2

-- the width that a shift or a rotation works on
abbrev pub width_of : ShiftRow → Width
width_of row.Slw = width.Word
width_of row.Srw = width.Word
width_of row.Ssi = width.Word
width_of row.Sld = width.Dword
width_of row.Srd = width.Dword
width_of row.Ssd = width.Dword
width_of row.Rld = width.Dword
width_of row.Rrd = width.Dword

-- the greatest count that a shift or a rotation may have as a constant
abbrev pub most_steps : ShiftRow → ℕ
most_steps row.Slw = 15
most_steps row.Srw = 15
most_steps row.Ssi = 15
most_steps row.Sld = 32
most_steps row.Srd = 32
most_steps row.Ssd = 32
most_steps row.Rld = 32
most_steps row.Rrd = 32

-- one step of a shift or a rotation
abbrev pub step : ShiftRow → ℕ → ℕ
step row.Slw p = left 16 p
step row.Srw p = right p
step row.Ssi p = right_signed 16 p
step row.Sld p = left 32 p
step row.Srd p = right p
step row.Ssd p = right_signed 32 p
step row.Rld p = around_left 32 p
step row.Rrd p = around_right 32 p

-- the bit that is shifted out in a step
abbrev pub leaving : ShiftRow → ℕ → Bool
leaving row.Slw p = top 16 p
leaving row.Srw p = bottom p
leaving row.Ssi p = bottom p
leaving row.Sld p = top 32 p
leaving row.Srd p = bottom p
leaving row.Ssd p = bottom p
leaving row.Rld p = top 32 p
leaving row.Rrd p = bottom p

-- a pattern after n steps
unfoldable pub times : ℕ → (ℕ → ℕ) → ℕ → ℕ
times zero f p = p
times (suc n) f p = f (times n f p)

-- Instructions

-- the registers after n steps of a shift or a rotation: a count of 0 changes nothing; else CC1 is the bit that was
-- shifted out last
abbrev pub after_shift_steps : ShiftRow → ℕ → RegisterValues → RegisterValues
after_shift_steps s n r =
    if n == 0 then r
    else record r {
      accu1 = with_part (width_of s) r.accu1 (times n (step s) (part (width_of s) r.accu1));
      status = after_shifted (leaving s (times (n - 1) (step s) (part (width_of s) r.accu1))) r.status;
    }

-- the count of a shift or a rotation: a constant, or the lowest byte of ACCU2
abbrev pub count_of : Option ℕ → RegisterValues → ℕ
count_of (Some n) r = n
count_of None r = part width.Byte r.accu2

-- the registers after a shift or a rotation
abbrev pub after_shift : ShiftRow → Option ℕ → RegisterValues → RegisterValues
after_shift s count r = after_shift_steps s (count_of count r) r

-- RLDA: ACCU1 and CC1, 33 bits, rotated by one step to the left
abbrev pub around_left_through_cc1 : RegisterValues → RegisterValues
around_left_through_cc1 r =
    record r { accu1 = left 32 r.accu1 + from_bool r.status.cc1; status = after_shifted (top 32 r.accu1) r.status }

-- RRDA: ACCU1 and CC1, 33 bits, rotated by one step to the right
abbrev pub around_right_through_cc1 : RegisterValues → RegisterValues
around_right_through_cc1 r =
    record r {
      accu1 = from_bool r.status.cc1 * 2 ^ 31 + right r.accu1;
      status = after_shifted (bottom r.accu1) r.status;
    }
