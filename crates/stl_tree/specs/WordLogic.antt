-- Word logic, bit by bit. ACCU1, or its low word, is combined with ACCU2 or a constant.
-- Held against: the manual's chapter 'Word Logic'.
use Rattle.std.specs.Prelude.{ℕ, ◌==◌, bit_and, bit_or, bit_xor, not, Option, Some, None}
use Rattle.s7_base.specs.declared.word.Width.{Width}
use Rattle.s7_base.specs.declared.word.Width.TheVariants as width
use Rattle.status_word.specs.Results.{after_logic}
use Rattle.stl_tree.specs.Accumulators.{part, with_part}
use Rattle.stl_tree.specs.Registers.{RegisterValues}
use Rattle.stl_tree.specs.declared.accumulator.LogicRow.{LogicRow}
use Rattle.stl_tree.specs.declared.accumulator.LogicRow.TheVariants as row

-- the width that a word logic instruction works on
abbrev pub width_of : LogicRow → Width
width_of row.Aw = width.Word
width_of row.Ow = width.Word
width_of row.Xow = width.Word
width_of row.Ad = width.Dword
width_of row.Od = width.Dword
width_of row.Xod = width.Dword

-- the result of a word logic instruction on two patterns, bit by bit
abbrev pub combination_of : LogicRow → ℕ → ℕ → ℕ
combination_of row.Aw p q = bit_and p q
combination_of row.Ow p q = bit_or p q
combination_of row.Xow p q = bit_xor p q
combination_of row.Ad p q = bit_and p q
combination_of row.Od p q = bit_or p q
combination_of row.Xod p q = bit_xor p q

-- a part of ACCU1 takes a pattern; CC1 says whether it is other than zero
abbrev pub logic_result : Width → ℕ → RegisterValues → RegisterValues
logic_result w p r = record r { accu1 = with_part w r.accu1 p; status = after_logic (not (p == 0)) r.status }

-- what ACCU1 is combined with: a constant, or ACCU2
abbrev pub other_of : Option ℕ → RegisterValues → ℕ
other_of (Some c) r = c
other_of None r = r.accu2

-- the registers after a word logic instruction
abbrev pub after_word_logic : LogicRow → Option ℕ → RegisterValues → RegisterValues
after_word_logic l c r =
    logic_result (width_of l) (combination_of l (part (width_of l) r.accu1) (part (width_of l) (other_of c r))) r
