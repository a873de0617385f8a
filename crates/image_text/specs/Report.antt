-- The report of a run. It says how the run ended, and shows the memory as it then was.
-- Held against: this project's own reports.
use Rattle.std.specs.Prelude.{ℕ, ◌+◌, ◌/◌, ◌%◌, Bool, true, false, not, ◌==◌, ◌||◌, if◌then◌else◌, List, [], ◌∷◌, ◌++◌, take, codes, decimal, flat_map, Option, Some, None}
use Rattle.std.specs.List.{list_any}
use Rattle.digit_texts.specs.Digits.{hex_digit}
use Rattle.s7_base.specs.declared.outcome.Fault.{Fault}
use Rattle.s7_base.specs.declared.outcome.Fault.TheVariants as fault
use Rattle.s7_base.specs.declared.outcome.Outcome.{Outcome}
use Rattle.s7_base.specs.declared.outcome.Outcome.TheVariants.{Ended, Going}
use Rattle.memory_areas.specs.Areas.{Areas}
use Rattle.memory_areas.specs.declared.data_block.DataBlock.{DataBlock}

-- the name of a fault
abbrev pub fault_name : Fault → List ℕ
fault_name fault.DbNotOpen = codes "DbNotOpen"
fault_name fault.DbMissing = codes "DbMissing"
fault_name fault.AreaCode = codes "AreaCode"
fault_name fault.Alignment = codes "Alignment"
fault_name fault.AreaLength = codes "AreaLength"
fault_name fault.BcdDigit = codes "BcdDigit"
fault_name fault.DivideByZero = codes "DivideByZero"

-- a blank and the two digits of a byte
abbrev pub byte_text : ℕ → List ℕ
byte_text b = 32 ∷ hex_digit (b / 16) ∷ hex_digit (b % 16) ∷ []

-- the line of an area with a name: the bytes from byte `at` on
abbrev pub row_text : List ℕ → ℕ → List ℕ → List ℕ
row_text name at row = name ++ codes " " ++ decimal at ++ codes ":" ++ flat_map byte_text row ++ codes "\n"

-- a byte is not zero
abbrev pub is_set : ℕ → Bool
is_set b = not (b == 0)

-- a line of a report, which is shown where all are or where a byte of it is not zero
abbrev pub row_shown : Bool → List ℕ → ℕ → List ℕ → List ℕ
row_shown all name at row = if all || list_any is_set row then row_text name at row else []

-- the lines of an area from byte `at` on, one of 16 bytes at each multiple of 16
abbrev pub area_text : Bool → List ℕ → ℕ → List ℕ → List ℕ
area_text all name at [] = []
area_text all name at (b ∷ rest) =
    (if at % 16 == 0 then row_shown all name at (take 16 (b ∷ rest)) else []) ++ area_text all name (at + 1) rest

-- the lines of a data block, all of them
abbrev pub block_text : DataBlock → List ℕ
block_text block = area_text true (codes "DB" ++ decimal block.number) 0 block.bytes

-- the lines of a memory
abbrev pub memory_text : Areas → List ℕ
memory_text m =
    area_text false (codes "I") 0 m.inputs ++ area_text false (codes "Q") 0 m.outputs
    ++ area_text false (codes "M") 0 m.markers ++ flat_map block_text m.blocks

-- how a run ended
abbrev pub end_text : Option Fault → List ℕ
end_text None = codes "# ENDED\n"
end_text (Some f) = codes "# FAULT " ++ fault_name f ++ codes "\n"

-- the report of a run, with the memory at its end
abbrev pub report : Outcome → Areas → List ℕ
report (Ended f) m = end_text f ++ memory_text m
report Going m = codes "# GOING\n"
