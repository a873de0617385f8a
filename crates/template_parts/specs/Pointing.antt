-- Pointers as a row takes them: with the code of its operand's area put in, or with that of an address register.
use Rattle.std.specs.Prelude.{ℕ, ◌*◌, ◌^◌, pos}
use Rattle.memory_areas.specs.declared.place.AreaName.{AreaName}
use Rattle.memory_areas.specs.Access.{code_of}
use Rattle.stl_tree.specs.Reads.{register_of}
use Rattle.stl_tree.specs.declared.program.Ar.{Ar}
use Rattle.st_tree.specs.declared.expr.BinaryOp.TheVariants as binary
use Rattle.st_tree.specs.declared.expr.Expr.{Expr}
use Rattle.st_tree.specs.declared.expr.StType.TheVariants as type
use Rattle.template_parts.specs.Builders.{and_of, binary_of, constant_of, convert_of, or_of, read_of}

-- the byte and bit number of a pointer, which are its lowest 19 bits
abbrev pub place_in_of : Expr → Expr
place_in_of p = and_of p (constant_of type.Dword (pos 0x0007FFFF))

-- the byte and bit number of a pointer, with the code of an area above them
abbrev pub in_area_of : AreaName → Expr → Expr
in_area_of a p = or_of (place_in_of p) (constant_of type.Dword (pos (code_of a * 2 ^ 24)))

-- an address register and an offset, added
abbrev pub sum_of : Ar → ℕ → Expr
sum_of r offset =
    convert_of type.Dint type.Dword
    (binary_of binary.Add (convert_of type.Dword type.Dint (read_of (register_of r)))
    (constant_of type.Dint (pos offset)))

-- the byte and bit number of the sum, and above them the bits that the address register has there
abbrev pub crossing_of : Ar → ℕ → Expr
crossing_of r offset =
    or_of (and_of (read_of (register_of r)) (constant_of type.Dword (pos 0xFFF80000))) (place_in_of (sum_of r offset))
