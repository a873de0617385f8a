-- The statements of jumps. A local takes what the exit of the node tests, before the instruction changes what it tests.
use Rattle.std.specs.Prelude.{ℕ, pos, negsuc, Bool, true, false, if◌then◌else◌, List, [], ◌∷◌, ◌++◌}
use Rattle.accumulator_templates.specs.Sums.{add_word_of}
use Rattle.bit_templates.specs.Bits.{answer_of, rlo_set, saved_of}
use Rattle.s7_base.specs.declared.register.Reg.{Reg}
use Rattle.s7_base.specs.declared.register.Reg.TheVariants as reg
use Rattle.st_tree.specs.declared.expr.BinaryOp.TheVariants as binary
use Rattle.st_tree.specs.declared.expr.Expr.{Expr}
use Rattle.st_tree.specs.declared.expr.StType.{StType}
use Rattle.st_tree.specs.declared.expr.StType.TheVariants as type
use Rattle.st_tree.specs.declared.program.Stmt.{Stmt}
use Rattle.stl_tree.specs.declared.program.JumpTest.{JumpTest}
use Rattle.stl_tree.specs.declared.program.JumpTest.TheVariants as jump
use Rattle.template_parts.specs.Builders.{and_of, binary_of, clear_or, constant_of, convert_of, literal_of, local_of, not_of, read_of, set_local_of, set_of}

-- Jumps

-- whether a bit is the one that is wanted
abbrev pub bit_as : Bool → Reg → Expr
bit_as wanted r = if wanted then read_of r else not_of (read_of r)

-- what a jump tests
abbrev pub question_of : JumpTest → Expr
question_of jump.Always = literal_of true
question_of (jump.Rlo wanted) = bit_as wanted reg.Rlo
question_of (jump.RloSaved wanted) = bit_as wanted reg.Rlo
question_of (jump.Br wanted) = bit_as wanted reg.Br
question_of jump.Overflow = read_of reg.Ov
question_of jump.StoredOverflow = read_of reg.Os
question_of (jump.Result t) = answer_of t

-- what a jump makes of the status bits, whether it is made or not
abbrev pub behind_jump : JumpTest → List Stmt
behind_jump jump.Always = []
behind_jump (jump.Rlo wanted) = rlo_set true
behind_jump (jump.RloSaved wanted) = saved_of ++ rlo_set true
behind_jump (jump.Br wanted) = clear_or false
behind_jump jump.Overflow = []
behind_jump jump.StoredOverflow = set_of reg.Os (literal_of false) ∷ []
behind_jump (jump.Result t) = []

-- the statements of a jump: JU has none
abbrev pub jump_of : ℕ → JumpTest → List Stmt
jump_of first jump.Always = []
jump_of first t = set_local_of first (question_of t) ∷ behind_jump t

-- the types of its locals
abbrev pub types_of_jump : JumpTest → List StType
types_of_jump jump.Always = []
types_of_jump t = type.Bool ∷ []

-- LOOP, JL and BEC

-- whether the low word of ACCU1 is not 0
abbrev pub is_counting_of : Expr
is_counting_of =
    binary_of binary.Ne (convert_of type.Dword type.Word (read_of reg.Accu1)) (constant_of type.Word (pos 0))

-- the statements of LOOP: the low word is counted down, and then tested
abbrev pub loop_of : ℕ → List Stmt
loop_of first = add_word_of (negsuc 0) ++ set_local_of first is_counting_of ∷ []

-- the lowest byte of ACCU1, as a DINT
abbrev pub low_byte_of : Expr
low_byte_of = convert_of type.Byte type.Dint (convert_of type.Dword type.Byte (read_of reg.Accu1))

-- the statements of JL
abbrev pub list_of : ℕ → List Stmt
list_of first = set_local_of first low_byte_of ∷ []

-- the statements of BEC: the chain ends, and OS is cleared where the block does; there the RLO is 1 already
abbrev pub end_if_of : ℕ → List Stmt
end_if_of first =
    set_local_of first (read_of reg.Rlo) ∷ set_of reg.Os (and_of (read_of reg.Os) (not_of (local_of first)))
    ∷ rlo_set true

-- the types of the locals of LOOP and BEC, and of JL
abbrev pub types_of_test : List StType
types_of_test = type.Bool ∷ []

abbrev pub types_of_list : List StType
types_of_list = type.Dint ∷ []
