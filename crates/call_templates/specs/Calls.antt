-- The statements of calls and of the end word. The calling unit saves DBNO and DINO before a call, and puts them back
-- directly after it. A function is given a variable for each of its formals; a function block has its formals in its
-- instance, from and to which the calling unit copies.
use Rattle.std.specs.Prelude.{ℕ, ◌+◌, ◌==◌, pos, true, false, if◌then◌else◌, List, [], ◌∷◌, ◌++◌}
use Rattle.memory_areas.specs.declared.place.AreaName.TheVariants as area
use Rattle.s7_base.specs.declared.register.Reg.TheVariants as reg
use Rattle.s7_base.specs.declared.word.Width.{Width}
use Rattle.stl_tree.specs.Calls.{is_given_back, is_taken}
use Rattle.stl_tree.specs.declared.program.Actual.{Actual}
use Rattle.stl_tree.specs.declared.program.Actual.TheVariants as actual
use Rattle.stl_tree.specs.declared.program.BlockCall.{BlockCall}
use Rattle.stl_tree.specs.declared.program.Formal.{Formal}
use Rattle.stl_tree.specs.declared.program.Operand.{Operand}
use Rattle.stl_tree.specs.declared.program.Operand.TheVariants as operand
use Rattle.st_tree.specs.Values.{type_of_width}
use Rattle.st_tree.specs.declared.expr.Expr.{Expr}
use Rattle.st_tree.specs.declared.expr.Expr.TheVariants as expr
use Rattle.st_tree.specs.declared.expr.StType.{StType}
use Rattle.st_tree.specs.declared.expr.StType.TheVariants as type
use Rattle.st_tree.specs.declared.expr.Var.{Var}
use Rattle.st_tree.specs.declared.expr.Var.TheVariants as var
use Rattle.st_tree.specs.declared.program.Stmt.{Stmt}
use Rattle.st_tree.specs.declared.program.Stmt.TheVariants as stmt
use Rattle.template_parts.specs.Builders.{clear_or, constant_of, literal_of, local_of, read_of, set_local_of, set_of}

-- Around each call

-- the statements of the end word, and of each call before it is made: OR, /FC and OS are cleared
abbrev pub end_word_of : List Stmt
end_word_of = clear_or false ++ set_of reg.Os (literal_of false) ∷ []

-- DBNO and DINO are saved in two locals
abbrev pub saved_of : ℕ → List Stmt
saved_of first = set_local_of first (read_of reg.DbNo) ∷ set_local_of (first + 1) (read_of reg.DiNo) ∷ []

-- and put back
abbrev pub put_back_of : ℕ → List Stmt
put_back_of first = set_of reg.DbNo (local_of first) ∷ set_of reg.DiNo (local_of (first + 1)) ∷ []

-- the types of these locals
abbrev pub types_saved : List StType
types_saved = type.Word ∷ type.Word ∷ []

-- Actuals

-- how many actuals a formal is given
abbrev pub one_if_given : Actual → ℕ
one_if_given actual.Missing = 0
one_if_given other = 1

-- the variable that names an actual in place; an operand that is found by a pointer is none
abbrev pub variable_of : Operand → Width → Var
variable_of (operand.Direct a byte x) w = var.Direct a byte x w
variable_of (operand.Opened n byte x) w = var.InBlock n byte x w
variable_of (operand.Formal k) w = var.Formal k
variable_of pointed w = var.Direct area.I 0 0 w

-- a constant of a width
abbrev pub number_of_width : Width → ℕ → Expr
number_of_width w c = constant_of (type_of_width w) (pos c)

-- Functions

-- each constant among the actuals of a function is put into a local, from this one on
abbrev pub constants_set : ℕ → List Formal → List Actual → List Stmt
constants_set next [] actuals = []
constants_set next (f ∷ formals) [] = []
constants_set next (f ∷ formals) (actual.Constant c ∷ actuals) =
    set_local_of next (number_of_width f.width c) ∷ constants_set (next + 1) formals actuals
constants_set next (f ∷ formals) (other ∷ actuals) = constants_set next formals actuals

-- the types of these locals
abbrev pub types_of_constants : List Formal → List Actual → List StType
types_of_constants [] actuals = []
types_of_constants (f ∷ formals) [] = []
types_of_constants (f ∷ formals) (actual.Constant c ∷ actuals) =
    type_of_width f.width ∷ types_of_constants formals actuals
types_of_constants (f ∷ formals) (other ∷ actuals) = types_of_constants formals actuals

-- the variables that a function is given: the local of a constant, and what an operand names
abbrev pub variables_given : ℕ → List Formal → List Actual → List Var
variables_given next [] actuals = []
variables_given next (f ∷ formals) [] = []
variables_given next (f ∷ formals) (actual.Constant c ∷ actuals) =
    var.Local next ∷ variables_given (next + 1) formals actuals
variables_given next (f ∷ formals) (actual.At o ∷ actuals) =
    variable_of o f.width ∷ variables_given next formals actuals
variables_given next (f ∷ formals) (actual.Missing ∷ actuals) = variables_given next formals actuals

-- the statements of a call of a function, whose unit has this number
abbrev pub function_call_of : ℕ → ℕ → List Formal → List Actual → List Stmt
function_call_of first unit formals actuals =
    saved_of first ++ constants_set (first + 2) formals actuals ++ end_word_of
    ++ stmt.Invoke unit (variables_given (first + 2) formals actuals) ∷ put_back_of first

-- Function blocks

-- each operand among the actuals of a function block is read into a local, from this one on: so all of them are found
-- before anything is copied
abbrev pub operands_read : ℕ → List Formal → List Actual → List Stmt
operands_read next [] actuals = []
operands_read next (f ∷ formals) [] = []
operands_read next (f ∷ formals) (actual.At o ∷ actuals) =
    set_local_of next (expr.Read (variable_of o f.width)) ∷ operands_read (next + 1) formals actuals
operands_read next (f ∷ formals) (other ∷ actuals) = operands_read next formals actuals

-- the types of these locals
abbrev pub types_of_operands : List Formal → List Actual → List StType
types_of_operands [] actuals = []
types_of_operands (f ∷ formals) [] = []
types_of_operands (f ∷ formals) (actual.At o ∷ actuals) = type_of_width f.width ∷ types_of_operands formals actuals
types_of_operands (f ∷ formals) (other ∷ actuals) = types_of_operands formals actuals

-- a formal in an instance
abbrev pub in_instance : ℕ → Formal → Var
in_instance instance f = var.InBlock instance f.byte f.bit f.width

-- an actual is copied to its formal, if that takes it
abbrev pub copy_in : ℕ → Formal → Actual → List Stmt
copy_in instance f actual.Missing = []
copy_in instance f (actual.Constant c) =
    if is_taken f.mode then stmt.Assign (in_instance instance f) (number_of_width f.width c) ∷ [] else []
copy_in instance f (actual.At o) =
    if is_taken f.mode then stmt.Assign (in_instance instance f) (expr.Read (variable_of o f.width)) ∷ [] else []

-- a formal is copied to its actual, if it gives its value back
abbrev pub copy_back : ℕ → Formal → Actual → List Stmt
copy_back instance f (actual.At o) =
    if is_given_back f.mode then stmt.Assign (variable_of o f.width) (expr.Read (in_instance instance f)) ∷ [] else []
copy_back instance f other = []

-- a copy for each formal, in their order
abbrev pub copies : (Formal → Actual → List Stmt) → List Formal → List Actual → List Stmt
copies copy [] actuals = []
copies copy (f ∷ formals) [] = []
copies copy (f ∷ formals) (a ∷ actuals) = copy f a ++ copies copy formals actuals

-- the call itself: the instance is opened before it
abbrev pub opened_call_of : ℕ → ℕ → ℕ → List Stmt
opened_call_of first unit instance =
    set_of reg.DiNo (constant_of type.Word (pos instance)) ∷ stmt.Invoke unit [] ∷ put_back_of first

-- the statements of a call of a function block, whose unit has this number
abbrev pub function_block_call_of : ℕ → ℕ → ℕ → List Formal → List Actual → List Stmt
function_block_call_of first unit instance formals actuals =
    saved_of first ++ operands_read (first + 2) formals actuals ++ copies (copy_in instance) formals actuals
    ++ end_word_of ++ opened_call_of first unit instance ++ copies (copy_back instance) formals actuals

-- Each call

-- the statements of a call of a block with these formals, whose unit has this number: one without an instance is that
-- of a function
abbrev pub call_of : ℕ → ℕ → List Formal → BlockCall → List Stmt
call_of first unit formals call =
    if call.instance == 0 then function_call_of first unit formals call.actuals
    else function_block_call_of first unit call.instance formals call.actuals

-- the types of its locals
abbrev pub types_of_call : List Formal → BlockCall → List StType
types_of_call formals call =
    types_saved
    ++ (if call.instance == 0 then types_of_constants formals call.actuals else types_of_operands formals call.actuals)

-- Calls by CC

-- a call without actuals, where a local is TRUE
abbrev pub guarded_of : ℕ → ℕ → ℕ → Stmt
guarded_of first question unit =
    stmt.If (record { test = local_of question; body = saved_of first ++ stmt.Invoke unit [] ∷ put_back_of first } ∷ [])
    []

-- the statements of CC: a local takes the RLO, which is 1 after it, before the call is made or left out
abbrev pub call_if_of : ℕ → ℕ → List Stmt
call_if_of first unit =
    set_local_of first (read_of reg.Rlo) ∷ set_of reg.Rlo (literal_of true) ∷ end_word_of
    ++ guarded_of (first + 1) first unit ∷ []

-- the types of its locals
abbrev pub types_of_call_if : List StType
types_of_call_if = type.Bool ∷ types_saved
