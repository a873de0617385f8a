-- Word logic.
use Rattle.std.specs.Prelude.{ℕ, ◌==◌, pos, false, not, if◌then◌else◌, List, [], ◌∷◌, ◌++◌, Option, Some, None}
use Rattle.accumulator_templates.specs.AccumulatorParts.{lowest_bits_of, dword_of, with_low_of}
use Rattle.template_parts.specs.Builders.{binary_of, constant_of, literal_of, local_of, read_of, set_local_of, set_of}
use Rattle.s7_base.specs.declared.register.Reg.TheVariants as reg
use Rattle.st_tree.specs.Values.{type_of_width}
use Rattle.st_tree.specs.declared.expr.BinaryOp.{BinaryOp}
use Rattle.st_tree.specs.declared.expr.BinaryOp.TheVariants as binary
use Rattle.st_tree.specs.declared.expr.Expr.{Expr}
use Rattle.st_tree.specs.declared.expr.StType.{StType}
use Rattle.st_tree.specs.declared.program.Stmt.{Stmt}
use Rattle.stl_tree.specs.Reads.{is_fixed}
use Rattle.stl_tree.specs.WordLogic.{width_of}
use Rattle.stl_tree.specs.declared.accumulator.LogicRow.{LogicRow}
use Rattle.stl_tree.specs.declared.accumulator.LogicRow.TheVariants as row

-- the type of the patterns of a word logic instruction
abbrev pub type_of_logic : LogicRow → StType
type_of_logic l = type_of_width (width_of l)

-- the operator of a word logic instruction
abbrev pub operator_of : LogicRow → BinaryOp
operator_of row.Aw = binary.And
operator_of row.Ow = binary.Or
operator_of row.Xow = binary.Xor
operator_of row.Ad = binary.And
operator_of row.Od = binary.Or
operator_of row.Xod = binary.Xor

-- what ACCU1 is combined with: a constant, or ACCU2
abbrev pub other_of : LogicRow → Option ℕ → Expr
other_of l (Some c) = constant_of (type_of_logic l) (pos c)
other_of l None = lowest_bits_of (width_of l) (read_of reg.Accu2)

-- the result of a word logic instruction, a pattern of its type
abbrev pub logic_value_of : LogicRow → Option ℕ → Expr
logic_value_of l c = binary_of (operator_of l) (lowest_bits_of (width_of l) (read_of reg.Accu1)) (other_of l c)

-- ACCU1 with a pattern in the part that a word logic instruction changes
abbrev pub with_pattern_of : LogicRow → Expr → Expr
with_pattern_of row.Ad e = e
with_pattern_of row.Od e = e
with_pattern_of row.Xod e = e
with_pattern_of l e = with_low_of e

-- the flags of a result: CC1 says whether it is other than zero, CC0 and OV are cleared
abbrev pub shown_of : Expr → List Stmt
shown_of nonzero = set_of reg.Cc1 nonzero ∷ set_of reg.Cc0 (literal_of false) ∷ set_of reg.Ov (literal_of false) ∷ []

-- the flags of a result, and ACCU1 takes it
abbrev pub result_of : Expr → Expr → List Stmt
result_of nonzero accu1 = shown_of nonzero ++ (set_of reg.Accu1 accu1 ∷ [])

-- the statements where the constant fixes the result, and nothing is read
abbrev pub fixed_of : ℕ → List Stmt
fixed_of c = result_of (literal_of (not (c == 0))) (dword_of c)

-- the result in a local is other than zero
abbrev pub nonzero_of : ℕ → LogicRow → Expr
nonzero_of first l = binary_of binary.Ne (local_of first) (constant_of (type_of_logic l) (pos 0))

-- the statements where a local takes the result
abbrev pub computed_of : ℕ → LogicRow → Option ℕ → List Stmt
computed_of first l c =
    set_local_of first (logic_value_of l c)
    ∷ result_of (nonzero_of first l) (with_pattern_of l (local_of first))

-- the statements of a word logic instruction, with a constant or with ACCU2
abbrev pub logic_of : ℕ → LogicRow → Option ℕ → List Stmt
logic_of first l None = computed_of first l None
logic_of first l (Some c) = if is_fixed l c then fixed_of c else computed_of first l (Some c)

-- the types of the locals of a word logic instruction
abbrev pub types_of_logic : LogicRow → Option ℕ → List StType
types_of_logic l None = type_of_logic l ∷ []
types_of_logic l (Some c) = if is_fixed l c then [] else type_of_logic l ∷ []
