-- Parts of the accumulators, as expressions.
pub use Rattle.template_parts.specs.Builders.{with_low_of}
use Rattle.std.specs.Prelude.{ℕ, pos}
use Rattle.template_parts.specs.Builders.{and_of, binary_of, constant_of, convert_of, or_of, read_of, select_of}
use Rattle.s7_base.specs.declared.register.Reg.TheVariants as reg
use Rattle.s7_base.specs.declared.word.Width.{Width}
use Rattle.s7_base.specs.declared.word.Width.TheVariants as width
use Rattle.st_tree.specs.declared.expr.BinaryOp.TheVariants as binary
use Rattle.st_tree.specs.declared.expr.Expr.{Expr}
use Rattle.st_tree.specs.declared.expr.StType.TheVariants as type

-- a DWORD as a constant
abbrev pub dword_of : ℕ → Expr
dword_of n = constant_of type.Dword (pos n)

-- a DWORD is other than zero in the bits of a mask
abbrev pub any_bit_of : Expr → ℕ → Expr
any_bit_of e mask = binary_of binary.Ne (and_of e (dword_of mask)) (dword_of 0)

-- a DWORD that has the bits of a mask where a BOOL is TRUE
abbrev pub bits_where_of : Expr → ℕ → Expr
bits_where_of e mask = select_of e (dword_of 0) (dword_of mask)

-- the lowest bits of a DWORD, as many as a width has
abbrev pub lowest_bits_of : Width → Expr → Expr
lowest_bits_of width.Bit e = any_bit_of e 1
lowest_bits_of width.Byte e = convert_of type.Dword type.Byte e
lowest_bits_of width.Word e = convert_of type.Dword type.Word e
lowest_bits_of width.Dword e = e

-- a pattern of a width as a DWORD, extended by zeros
abbrev pub zero_extension_of : Width → Expr → Expr
zero_extension_of width.Bit e = bits_where_of e 1
zero_extension_of width.Byte e = convert_of type.Byte type.Dword e
zero_extension_of width.Word e = convert_of type.Word type.Dword e
zero_extension_of width.Dword e = e

-- ACCU1 with its lowest byte zero
abbrev pub above_byte : Expr
above_byte = and_of (read_of reg.Accu1) (dword_of 0xFFFFFF00)

-- ACCU1 with another lowest byte
abbrev pub with_byte_of : Expr → Expr
with_byte_of e = or_of above_byte (zero_extension_of width.Byte e)
