-- Which statements are well typed. They are judged by the positions of what they name. A unit sees of the others
-- their heads alone.
-- Held against: IEC 61131-3, 'Statements'.
use Rattle.std.specs.Prelude.{ℕ, ℤ, Bool, true, false, not, ◌&&◌, List, [], ◌∷◌, ◌++◌, map, slice_get, Option, Some, None}
use Rattle.std.specs.List.{list_all}
use Rattle.std.specs.Ordering.{int_eq}
use Rattle.memory_areas.specs.declared.place.AreaName.TheVariants as area
use Rattle.st_tree.specs.Naming.{is_conversion, is_new, key_of}
use Rattle.st_tree.specs.PlaceRules.{is_block_number, is_place}
use Rattle.st_tree.specs.State.{type_of_register}
use Rattle.st_tree.specs.TypeRules.{is_selector, is_type, type_of_binary, type_of_choice, type_of_conversion, type_of_read, type_of_shift, type_of_unary, where_true}
use Rattle.st_tree.specs.Values.{fit, type_of_width}
use Rattle.st_tree.specs.declared.expr.Expr.{Expr, fold-Expr}
use Rattle.st_tree.specs.declared.expr.Expr.TheOpen as E
use Rattle.st_tree.specs.declared.expr.StType.{StType}
use Rattle.st_tree.specs.declared.expr.StType.TheVariants as type
use Rattle.st_tree.specs.declared.expr.Var.{Var}
use Rattle.st_tree.specs.declared.expr.Var.TheVariants as var
use Rattle.st_tree.specs.declared.program.Arm.{Arm, Arm-F, fold-Arm}
use Rattle.st_tree.specs.declared.program.CaseArm.{CaseArm, CaseArm-F, fold-CaseArm}
use Rattle.st_tree.specs.declared.program.Local.{Local}
use Rattle.st_tree.specs.declared.program.Located.{Located}
use Rattle.st_tree.specs.declared.program.Pou.{Pou}
use Rattle.st_tree.specs.declared.program.StProgram.{StProgram}
use Rattle.st_tree.specs.declared.program.Stmt.{Stmt, fold-Stmt}
use Rattle.st_tree.specs.declared.program.Stmt.TheOpen as S

-- What may be named

-- the head of a unit, which is all that its calls depend on
pub record Head : Type 0 where
  pub program : Bool
  pub name : List ℕ
  pub formals : List Local

-- the head of a unit
abbrev pub head_of : Pou → Head
head_of unit = record { program = unit.program; name = unit.name; formals = unit.formals }

-- what the statements of a unit may name, by position
pub record UnitScope : Type 0 where
  pub globals : List Located
  pub heads : List Head
  pub formals : List Local
  pub locals : List Local

-- the variables and units that a unit may name: the globals and the heads of all units, its own formals and its own
-- locals
abbrev pub unit_scope_of : List Located → List Head → Pou → UnitScope
unit_scope_of globals heads unit =
    record { globals = globals; heads = heads; formals = unit.formals; locals = unit.locals }

-- what the statements of a unit of a tree may name
abbrev pub unit_scope_in : StProgram → Pou → UnitScope
unit_scope_in tree unit = unit_scope_of tree.globals (map head_of tree.pous) unit

-- the keys of some formals or locals
abbrev pub keys_of : List Local → List (List ℕ)
keys_of locals = map (λ (l : Local). key_of l.name) locals

-- no formal and no local hides the global or the unit of this name
abbrev pub is_seen : UnitScope → List ℕ → Bool
is_seen sight name = is_new (key_of name) (keys_of sight.formals ++ keys_of sight.locals)

-- Expressions

-- the type of a formal or a local
abbrev pub type_inside : Option Local → Option StType
type_inside None = None
type_inside (Some local) = Some local.ty

-- the type of a global that is not hidden
abbrev pub type_outside : UnitScope → Option Located → Option StType
type_outside sight None = None
type_outside sight (Some global) = where_true (is_seen sight global.name) global.ty

-- the type of a variable that the unit may name
abbrev pub variable_type : UnitScope → Var → Option StType
variable_type sight (var.Register r) = Some (type_of_register r)
variable_type sight (var.Local i) = type_inside (slice_get sight.locals i)
variable_type sight (var.Formal i) = type_inside (slice_get sight.formals i)
variable_type sight (var.Global i) = type_outside sight (slice_get sight.globals i)
variable_type sight (var.Direct a byte bit w) = where_true (is_place a w byte bit) (type_of_width w)
variable_type sight (var.InBlock n byte bit w) =
    where_true (is_block_number n && is_place area.Db w byte bit) (type_of_width w)

-- a type has this value: it does not change the number
abbrev pub is_value : StType → ℤ → Bool
is_value ty n = int_eq (fit ty n) n

-- the type by that of an operand, if it has one
abbrev pub on_type : Option StType → (StType → Option StType) → Option StType
on_type None rule = None
on_type (Some ty) rule = rule ty

-- the type of an expression by those of its operands, where they fit
abbrev pub expression_step : UnitScope → E.Expr-F (Option StType) → Option StType
expression_step sight (E.Literal ty n) = where_true (is_value ty n) ty
expression_step sight (E.Read v) = variable_type sight v
expression_step sight (E.Unary op a) = on_type a (type_of_unary op)
expression_step sight (E.Binary op a b) = on_type a (λ ty. on_type b (type_of_binary op ty))
expression_step sight (E.Convert from to a) =
    on_type a (λ ty. on_type (type_of_conversion from to ty) (where_true (is_conversion from to)))
expression_step sight (E.Select gate a b) =
    on_type gate (λ g. on_type a (λ ty. on_type b (type_of_choice g ty)))
expression_step sight (E.Shift op a count) = on_type a (λ ty. on_type count (type_of_shift ty))
expression_step sight (E.AreaRead w p) = on_type p (type_of_read w)

-- the type of a well typed expression; none of one that is not well typed
abbrev pub expression_type : UnitScope → Expr → Option StType
expression_type sight = fold-Expr (Option StType) (expression_step sight)

-- Calls

-- a type exists, and it is this one
abbrev pub has_type : StType → Option StType → Bool
has_type ty None = false
has_type ty (Some found) = is_type found ty

-- each formal is given a variable of its type, and there are no more
abbrev pub are_given : UnitScope → List Local → List Var → Bool
are_given sight [] [] = true
are_given sight [] (v ∷ vars) = false
are_given sight (formal ∷ formals) [] = false
are_given sight (formal ∷ formals) (v ∷ vars) =
    has_type formal.ty (variable_type sight v) && are_given sight formals vars

-- a call of a function that is not hidden gives each formal a variable of its type
abbrev pub is_call : UnitScope → Option Head → List Var → Bool
is_call sight None vars = false
is_call sight (Some head) vars = not head.program && is_seen sight head.name && are_given sight head.formals vars

-- Statements

-- both sides of an assignment have one type
abbrev pub is_assigned : Option StType → Option StType → Bool
is_assigned None e = false
is_assigned (Some ty) e = has_type ty e

-- whether a part is well typed, inside a WHILE or not
abbrev pub Check : Type 0
Check = Bool → Bool

-- whether an arm of a CASE is well typed, by the type of the selector
abbrev pub CaseCheck : Type 0
CaseCheck = StType → Check

-- each of some parts is well typed
abbrev pub each : Bool → List Check → Bool
each inside parts = list_all (λ (part : Check). part inside) parts

-- each arm of a CASE is well typed
abbrev pub each_case : StType → Bool → List CaseCheck → Bool
each_case ty inside arms = list_all (λ (arm : CaseCheck). arm ty inside) arms

-- a list is not empty
abbrev pub is_some_of : {T : Type 0} → List T → Bool
is_some_of [] = false
is_some_of (first ∷ more) = true

-- the arms of a CASE are well typed, where its selector is an INT or a DINT
abbrev pub are_cases : Option StType → Bool → List CaseCheck → Bool
are_cases None inside arms = false
are_cases (Some ty) inside arms = is_selector ty && is_some_of arms && each_case ty inside arms

-- a statement is well typed by its parts: both sides of an assignment have one type, a pointer is a DWORD, a test a
-- BOOL, and EXIT and CONTINUE are inside a WHILE
abbrev pub statement_step : UnitScope → S.Stmt-F Check Check CaseCheck → Check
statement_step sight (S.Assign v e) inside =
    is_assigned (variable_type sight v) (expression_type sight e)
statement_step sight (S.AreaWrite w p e) inside =
    has_type type.Dword (expression_type sight p) && has_type (type_of_width w) (expression_type sight e)
statement_step sight (S.Invoke n vars) inside = is_call sight (slice_get sight.heads n) vars
statement_step sight (S.If arms other) inside = is_some_of arms && each inside arms && each inside other
statement_step sight (S.Case e arms other) inside =
    are_cases (expression_type sight e) inside arms && each inside other
statement_step sight (S.While e body) inside = has_type type.Bool (expression_type sight e) && each true body
statement_step sight S.Exit inside = inside
statement_step sight S.Continue inside = inside
statement_step sight S.Return inside = true

-- an arm of an IF is well typed by its parts: its test is a BOOL
abbrev pub arm_step : UnitScope → Arm-F Check Check CaseCheck → Check
arm_step sight arm inside = has_type type.Bool (expression_type sight arm.test) && each inside arm.body

-- an arm of a CASE is well typed by its parts: it has a label, and the selector's type has each label
abbrev pub case_step : CaseArm-F Check Check CaseCheck → CaseCheck
case_step arm ty inside = is_some_of arm.labels && list_all (is_value ty) arm.labels && each inside arm.body

-- a statement is well typed
abbrev pub is_well_typed : UnitScope → Stmt → Check
is_well_typed sight = fold-Stmt Check Check CaseCheck (statement_step sight) (arm_step sight) case_step

-- an arm of an IF is well typed
abbrev pub is_arm : UnitScope → Arm → Check
is_arm sight = fold-Arm Check Check CaseCheck (statement_step sight) (arm_step sight) case_step

-- an arm of a CASE is well typed
abbrev pub is_case_arm : UnitScope → CaseArm → CaseCheck
is_case_arm sight = fold-CaseArm Check Check CaseCheck (statement_step sight) (arm_step sight) case_step

-- the statements of a body are well typed, inside a WHILE or not
abbrev pub are_well_typed : UnitScope → Bool → List Stmt → Bool
are_well_typed sight inside body = each inside (map (is_well_typed sight) body)
