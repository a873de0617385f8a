-- The way to an operand. What stands before an access to it opens its data block, or puts into a local the pointer that
-- it is found by. What may fault is then read into a local of its own, before the row that works on it.
use Rattle.std.specs.Prelude.{ℕ, ◌+◌, pos, Bool, true, false, if◌then◌else◌, List, [], ◌∷◌, ◌++◌, length}
use Rattle.memory_areas.specs.declared.place.AreaName.TheVariants as area
use Rattle.s7_base.specs.declared.register.Reg.TheVariants as reg
use Rattle.s7_base.specs.declared.word.Width.{Width}
use Rattle.s7_base.specs.declared.word.Width.TheVariants as width
use Rattle.stl_tree.specs.declared.program.Operand.{Operand}
use Rattle.stl_tree.specs.declared.program.Operand.TheVariants as operand
use Rattle.st_tree.specs.Values.{type_of_width}
use Rattle.st_tree.specs.declared.expr.Expr.{Expr}
use Rattle.st_tree.specs.declared.expr.Expr.TheVariants as expr
use Rattle.st_tree.specs.declared.expr.StType.{StType}
use Rattle.st_tree.specs.declared.expr.StType.TheVariants as type
use Rattle.st_tree.specs.declared.expr.Var.TheVariants as var
use Rattle.st_tree.specs.declared.program.Stmt.{Stmt}
use Rattle.st_tree.specs.declared.program.Stmt.TheVariants as stmt
use Rattle.template_parts.specs.Builders.{constant_of, local_of, set_local_of, set_of}
use Rattle.template_parts.specs.Pointing.{crossing_of, in_area_of, sum_of}

-- Access

-- the statements before an access to an operand, whose locals are those from this one on
abbrev pub reach_of : ℕ → Operand → List Stmt
reach_of first (operand.Direct a byte bit) = []
reach_of first (operand.Opened n byte bit) = set_of reg.DbNo (constant_of type.Word (pos n)) ∷ []
reach_of first (operand.Formal k) = []
reach_of first (operand.ByMemory a pointer_area byte) =
    set_local_of first (expr.Read (var.Direct pointer_area byte 0 width.Dword))
    ∷ set_local_of (first + 1) (in_area_of a (local_of first)) ∷ []
reach_of first (operand.ByRegister a r offset) = set_local_of first (in_area_of a (sum_of r offset)) ∷ []
reach_of first (operand.Crossing r offset) = set_local_of first (crossing_of r offset) ∷ []

-- the types of the locals that lead to an operand
abbrev pub types_reached : Operand → List StType
types_reached (operand.Direct a byte bit) = []
types_reached (operand.Opened n byte bit) = []
types_reached (operand.Formal k) = []
types_reached (operand.ByMemory a pointer_area byte) = type.Dword ∷ type.Dword ∷ []
types_reached (operand.ByRegister a r offset) = type.Dword ∷ []
types_reached (operand.Crossing r offset) = type.Dword ∷ []

-- the local with the pointer to an operand: the last one, where there are any
abbrev pub pointer_local : ℕ → Operand → ℕ
pointer_local first (operand.ByMemory a pointer_area byte) = first + 1
pointer_local first o = first

-- the value of an operand that was reached
abbrev pub reading_of : ℕ → Operand → Width → Expr
reading_of first (operand.Direct a byte bit) w = expr.Read (var.Direct a byte bit w)
reading_of first (operand.Opened n byte bit) w = expr.Read (var.Direct area.Db byte bit w)
reading_of first (operand.Formal k) w = expr.Read (var.Formal k)
reading_of first o w = expr.AreaRead w (local_of (pointer_local first o))

-- a write of an operand that was reached
abbrev pub writing_of : ℕ → Operand → Width → Expr → Stmt
writing_of first (operand.Direct a byte bit) w e = stmt.Assign (var.Direct a byte bit w) e
writing_of first (operand.Opened n byte bit) w e = stmt.Assign (var.Direct area.Db byte bit w) e
writing_of first (operand.Formal k) w e = stmt.Assign (var.Formal k) e
writing_of first o w e = stmt.AreaWrite w (local_of (pointer_local first o)) e

-- Fetching

-- an access to an operand may fault: it lies in a data block, or is found by a pointer; a formal stands for what may
abbrev pub may_fault : Operand → Bool
may_fault (operand.Direct area.Db byte bit) = true
may_fault (operand.Direct area.Di byte bit) = true
may_fault (operand.Direct a byte bit) = false
may_fault other = true

-- the statements before an instruction that reads an operand: they lead to it, and read what may fault into the next
-- local
abbrev pub fetch_of : ℕ → Operand → Width → List Stmt
fetch_of first o w =
    reach_of first o
    ++ (if may_fault o then set_local_of (first + length (types_reached o)) (reading_of first o w) ∷ [] else [])

-- the operand as the instruction reads it
abbrev pub fetched_value_of : ℕ → Operand → Width → Expr
fetched_value_of first o w = if may_fault o then local_of (first + length (types_reached o)) else reading_of first o w

-- the types of the locals of an operand that is fetched
abbrev pub types_fetched : Operand → Width → List StType
types_fetched o w = types_reached o ++ (if may_fault o then type_of_width w ∷ [] else [])
