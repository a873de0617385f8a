-- The address registers: what they take, where they go, and what is added to them.
use Rattle.std.specs.Prelude.{ℕ, ◌==◌, pos, if◌then◌else◌, List, [], ◌∷◌, ◌++◌, Option, Some, None}
use Rattle.template_parts.specs.Builders.{and_of, binary_of, constant_of, convert_of, local_of, or_of, read_of, set_local_of, set_of}
use Rattle.template_parts.specs.Fetching.{fetch_of, fetched_value_of, reach_of, types_fetched, types_reached, writing_of}
use Rattle.s7_base.specs.declared.register.Reg.TheVariants as reg
use Rattle.s7_base.specs.declared.word.Width.TheVariants as width
use Rattle.st_tree.specs.declared.expr.BinaryOp.TheVariants as binary
use Rattle.st_tree.specs.declared.expr.Expr.{Expr}
use Rattle.st_tree.specs.declared.expr.StType.{StType}
use Rattle.st_tree.specs.declared.expr.StType.TheVariants as type
use Rattle.st_tree.specs.declared.program.Stmt.{Stmt}
use Rattle.stl_tree.specs.AddressRegisters.{other_of}
use Rattle.stl_tree.specs.Reads.{register_of}
use Rattle.stl_tree.specs.declared.program.Ar.{Ar}
use Rattle.stl_tree.specs.declared.program.ArLoad.{ArLoad}
use Rattle.stl_tree.specs.declared.program.ArLoad.TheVariants as load
use Rattle.stl_tree.specs.declared.program.ArStore.{ArStore}
use Rattle.stl_tree.specs.declared.program.ArStore.TheVariants as store

-- an address register takes a pointer
abbrev pub pointed_of : Ar → Expr → List Stmt
pointed_of a e = set_of (register_of a) e ∷ []

-- the statements of LAR1 and LAR2: a double word in memory is fetched into the locals from this one on
abbrev pub pointer_load_of : ℕ → Ar → ArLoad → List Stmt
pointer_load_of first a load.Accu1 = pointed_of a (read_of reg.Accu1)
pointer_load_of first a (load.Constant p) = pointed_of a (constant_of type.Dword (pos p))
pointer_load_of first a (load.At o) =
    fetch_of first o width.Dword ++ pointed_of a (fetched_value_of first o width.Dword)
pointer_load_of first a load.OtherAr = pointed_of a (read_of (register_of (other_of a)))

-- the types of the locals of LAR1 and LAR2
abbrev pub types_of_pointer_load : ArLoad → List StType
types_of_pointer_load (load.At o) = types_fetched o width.Dword
types_of_pointer_load other = []

-- ACCU2 takes ACCU1, and ACCU1 takes the value of an address register
abbrev pub pointer_taken_of : Ar → List Stmt
pointer_taken_of a = set_of reg.Accu2 (read_of reg.Accu1) ∷ set_of reg.Accu1 (read_of (register_of a)) ∷ []

-- the statements of TAR1 and TAR2, whose locals, from this one on, lead to the operand
abbrev pub pointer_store_of : ℕ → Ar → ArStore → List Stmt
pointer_store_of first a store.Accu1 = pointer_taken_of a
pointer_store_of first a (store.At o) =
    reach_of first o ++ (writing_of first o width.Dword (read_of (register_of a)) ∷ [])
pointer_store_of first a store.OtherAr = pointed_of (other_of a) (read_of (register_of a))

-- the types of the locals of TAR1 and TAR2
abbrev pub types_of_pointer_store : ArStore → List StType
types_of_pointer_store (store.At o) = types_reached o
types_of_pointer_store other = []

-- the statements of CAR
abbrev pub pointer_exchange_of : ℕ → List Stmt
pointer_exchange_of first =
    set_local_of first (read_of reg.Ar1) ∷ set_of reg.Ar1 (read_of reg.Ar2) ∷ set_of reg.Ar2 (local_of first) ∷ []

-- the types of the locals of CAR
abbrev pub types_of_pointer_exchange : List StType
types_of_pointer_exchange = type.Dword ∷ []

-- the low word of ACCU1 with its sign, as a DINT
abbrev pub low_number : Expr
low_number = convert_of type.Int type.Dint (convert_of type.Dword type.Int (read_of reg.Accu1))

-- the area code of the pointer of an address register
abbrev pub area_code_of : Ar → Expr
area_code_of a = and_of (read_of (register_of a)) (constant_of type.Dword (pos 0xFF000000))

-- the pointer of an address register and an amount, added as numbers
abbrev pub moved_sum_of : Ar → Expr → Expr
moved_sum_of a amount = binary_of binary.Add (convert_of type.Dword type.Dint (read_of (register_of a))) amount

-- the bits below the area code of an address register, with an amount added
abbrev pub moved_number_of : Ar → Expr → Expr
moved_number_of a amount =
    and_of (convert_of type.Dint type.Dword (moved_sum_of a amount)) (constant_of type.Dword (pos 0x00FFFFFF))

-- the pointer of an address register with an amount added, which does not change its area code
abbrev pub pointer_sum_of : Ar → Expr → Expr
pointer_sum_of a amount = or_of (area_code_of a) (moved_number_of a amount)

-- the statements of +AR1 and +AR2; an offset 0 changes nothing, and then nothing is read
abbrev pub pointer_move_of : Ar → Option ℕ → List Stmt
pointer_move_of a None = pointed_of a (pointer_sum_of a low_number)
pointer_move_of a (Some offset) =
    if offset == 0 then [] else pointed_of a (pointer_sum_of a (constant_of type.Dint (pos offset)))
