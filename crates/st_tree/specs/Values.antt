-- The values of each type. What a number leaves in a type, and the patterns and truth values that values are.
-- Held against: IEC 61131-3, 'Data types' and 'Data type conversion functions'.
use Rattle.std.specs.Prelude.{ℕ, ℤ, pos, Bool, true, false, not}
use Rattle.std.specs.Ordering.{int_eq}
pub use Rattle.s7_base.specs.SignedNumbers.{pattern, number}
use Rattle.s7_base.specs.declared.word.Width.{Width}
use Rattle.s7_base.specs.declared.word.Width.TheVariants as width
use Rattle.st_tree.specs.declared.expr.StType.{StType}
use Rattle.st_tree.specs.declared.expr.StType.TheVariants as type
pub use Rattle.st_tree.specs.declared.state.Value.{Value}

-- how many bits a value of a type has
abbrev pub width_of : StType → ℕ
width_of type.Bool = 1
width_of type.Byte = 8
width_of type.Word = 16
width_of type.Dword = 32
width_of type.Int = 16
width_of type.Dint = 32
width_of type.Lint = 64

-- the bit type of a width
abbrev pub type_of_width : Width → StType
type_of_width width.Bit = type.Bool
type_of_width width.Byte = type.Byte
type_of_width width.Word = type.Word
type_of_width width.Dword = type.Dword

-- the width of a place that holds a value of a type; no place holds a LINT
abbrev pub width_at : StType → Width
width_at type.Bool = width.Bit
width_at type.Byte = width.Byte
width_at type.Word = width.Word
width_at type.Dword = width.Dword
width_at type.Int = width.Word
width_at type.Dint = width.Dword
width_at type.Lint = width.Dword

-- the number of a type that a number becomes: a bit type has its pattern, and a number type wraps
abbrev pub fit : StType → ℤ → ℤ
fit type.Bool z = pos (pattern 1 z)
fit type.Byte z = pos (pattern 8 z)
fit type.Word z = pos (pattern 16 z)
fit type.Dword z = pos (pattern 32 z)
fit type.Int z = number 16 (pattern 16 z)
fit type.Dint z = number 32 (pattern 32 z)
fit type.Lint z = number 64 (pattern 64 z)

-- the value of a type that a number becomes
abbrev pub typed : StType → ℤ → Value
typed ty z = record { ty = ty; n = fit ty z }

-- the value of a type that has this pattern
abbrev pub of_bits : StType → ℕ → Value
of_bits ty bits = typed ty (pos bits)

-- the pattern of a value
abbrev pub bits_of : Value → ℕ
bits_of v = pattern (width_of v.ty) v.n

-- the number of a truth value: 0 of FALSE and 1 of TRUE
abbrev pub number_of : Bool → ℤ
number_of false = pos 0
number_of true = pos 1

-- a truth value as a BOOL
abbrev pub flag : Bool → Value
flag b = record { ty = type.Bool; n = number_of b }

-- a BOOL is TRUE
abbrev pub is_set : Value → Bool
is_set v = not (int_eq v.n (pos 0))
