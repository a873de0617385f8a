-- The calls in a unit's statements. They are calls of functions, with their lines, in the order of the text.
-- Held against: IEC 61131-3, 'Functions'.
use Rattle.std.specs.Prelude.{ℕ, ◌++◌, List, [], ◌∷◌, map, Result, Ok, Err}
use Rattle.std.specs.List.{flat_map}
use Rattle.s7_base.specs.declared.reason.Line.{Line}
use Rattle.s7_base.specs.declared.reason.Reason.{Reason}
use Rattle.st_tree.specs.declared.raw.RawArm.{RawArm, RawArm-F, fold-RawArm}
use Rattle.st_tree.specs.declared.raw.RawCaseArm.{RawCaseArm, RawCaseArm-F, fold-RawCaseArm}
use Rattle.st_tree.specs.declared.raw.RawStmt.{RawStmt, RawStmt-F, fold-RawStmt}
use Rattle.st_tree.specs.declared.raw.RawStmtKind.{RawStmtKind, fold-RawStmtKind}
use Rattle.st_tree.specs.declared.raw.RawStmtKind.TheOpen as K
use Rattle.st_rules.specs.Invocations.{callee}
use Rattle.st_tree.specs.Naming.{key_of}
use Rattle.st_names.specs.Scopes.{meaning_in}
use Rattle.call_chains.specs.declared.call.Call.{Call}
use Rattle.st_names.specs.declared.scope.NameScope.{NameScope}

-- all calls of some parts
abbrev pub join_calls : List (List Call) → List Call
join_calls parts = flat_map (λ (calls : List Call). calls) parts

-- the call of a function on a line
abbrev pub call_on : Line → Result ℕ Reason → List Call
call_on line (Ok i) = record { line = line; callee = i } ∷ []
call_on line (Err rule) = []

-- the calls of a statement, which waits for its line, by those of its parts
abbrev pub OnLine : Type 0
OnLine = Line → List Call

-- the calls of what a statement does, on its line, by those of the statements in it; a name that is no
-- function calls nothing
abbrev pub kind_step : NameScope → K.RawStmtKind-F OnLine (List Call) (List Call) (List Call) → OnLine
kind_step scope (K.Assign v e) line = []
kind_step scope (K.AreaWrite w p e) line = []
kind_step scope (K.Invoke name actuals) line = call_on line (callee (meaning_in scope (key_of name)))
kind_step scope (K.If arms other) line = join_calls arms ++ join_calls other
kind_step scope (K.Case e arms other) line = join_calls arms ++ join_calls other
kind_step scope (K.While e body) line = join_calls body
kind_step scope K.Exit line = []
kind_step scope K.Continue line = []
kind_step scope K.Return line = []

-- the calls of an arm of an IF, in the order of its statements
abbrev pub arm_step : RawArm-F OnLine (List Call) (List Call) (List Call) → List Call
arm_step a = join_calls a.body

-- the calls of an arm of a CASE, in the order of its statements
abbrev pub case_arm_step : RawCaseArm-F OnLine (List Call) (List Call) (List Call) → List Call
case_arm_step a = join_calls a.body

-- the calls of a statement, whose own call is on its line
abbrev pub statement_step : RawStmt-F OnLine (List Call) (List Call) (List Call) → List Call
statement_step s = s.kind s.line

-- the calls of a statement, in the order of the text
abbrev pub calls_of : NameScope → RawStmt → List Call
calls_of scope =
    fold-RawStmt OnLine (List Call) (List Call) (List Call) (kind_step scope) arm_step case_arm_step statement_step

-- the calls of an arm of an IF
abbrev pub calls_of_arm : NameScope → RawArm → List Call
calls_of_arm scope =
    fold-RawArm OnLine (List Call) (List Call) (List Call) (kind_step scope) arm_step case_arm_step statement_step

-- the calls of an arm of a CASE
abbrev pub calls_of_case_arm : NameScope → RawCaseArm → List Call
calls_of_case_arm scope =
    fold-RawCaseArm OnLine (List Call) (List Call) (List Call) (kind_step scope) arm_step case_arm_step statement_step

-- the calls of what a statement does, once its line is known
abbrev pub calls_of_action : NameScope → RawStmtKind → OnLine
calls_of_action scope =
    fold-RawStmtKind OnLine (List Call) (List Call) (List Call) (kind_step scope) arm_step case_arm_step statement_step

-- the calls of a list of statements
abbrev pub all_calls : NameScope → List RawStmt → List Call
all_calls scope body = join_calls (map (calls_of scope) body)
