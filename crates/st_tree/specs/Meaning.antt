-- What statements do to a state. They work within a number of units, of which each test of a WHILE takes one first.
-- What a call does, and the units that it takes, is given.
-- Held against: IEC 61131-3, 'Statements'.
use Rattle.std.specs.Prelude.{ℕ, zero, suc, if◌then◌else◌, ℤ, List, [], ◌∷◌, map, Result, Ok, Err}
use Rattle.std.specs.List.{list_any}
use Rattle.std.specs.Ordering.{int_eq}
use Rattle.memory_areas.specs.Access.{and_then}
use Rattle.s7_base.specs.declared.outcome.Fault.{Fault}
use Rattle.s7_base.specs.declared.word.Width.{Width}
use Rattle.st_tree.specs.State.{State, area_write, write}
use Rattle.st_tree.specs.Value.{Worth, value}
use Rattle.st_tree.specs.Values.{Value, is_set}
use Rattle.st_tree.specs.declared.expr.Expr.{Expr}
use Rattle.st_tree.specs.declared.expr.Var.{Var}
use Rattle.st_tree.specs.declared.program.Arm.{Arm, fold-Arm}
use Rattle.st_tree.specs.declared.program.CaseArm.{CaseArm, fold-CaseArm}
use Rattle.st_tree.specs.declared.program.Located.{Located}
use Rattle.st_tree.specs.declared.program.Stmt.{Stmt, fold-Stmt}
use Rattle.st_tree.specs.declared.program.Stmt.TheOpen as S

-- the end of statements: at their end, by EXIT, CONTINUE or RETURN, each with the units that are left; by a fault; or
-- because no unit is left; and the state then
pub data Out : Type 0 where
  Normal : ℕ → State → Out
  Exits : ℕ → State → Out
  Continues : ℕ → State → Out
  Returns : ℕ → State → Out
  Faults : Fault → State → Out
  NoUnits : State → Out

-- what statements do with some units and a state
abbrev pub Sem : Type 0
Sem = ℕ → State → Out

-- Statements in their order

-- statements, and then others where the first came to their end
abbrev pub then_do : Out → Sem → Out
then_do (Normal units s) more = more units s
then_do (Exits units s) more = Exits units s
then_do (Continues units s) more = Continues units s
then_do (Returns units s) more = Returns units s
then_do (Faults f s) more = Faults f s
then_do (NoUnits s) more = NoUnits s

-- statements in their order
abbrev pub in_order : List Sem → Sem
in_order [] units s = Normal units s
in_order (first ∷ rest) units s = then_do (first units s) (in_order rest)

-- Assignments

-- the state after a change, or a fault, which leaves the state as it was
abbrev pub state_or_fault : Result State Fault → Sem
state_or_fault (Ok new) units s = Normal units new
state_or_fault (Err f) units s = Faults f s

-- an assignment evaluates its expression, then locates its variable, then writes
abbrev pub assignment : List Located → Var → Expr → State → Result State Fault
assignment globals v e s = and_then (value globals e s) (λ w. write globals v w s)

-- an area write evaluates its pointer, then its expression, then locates and writes
abbrev pub area_assignment : List Located → Width → Expr → Expr → State → Result State Fault
area_assignment globals w p e s =
    and_then (value globals p s) (λ at. and_then (value globals e s) (λ v. area_write w at v s))

-- Choices

-- what is done with a value, or the fault instead of it
abbrev pub with_value : Result Value Fault → ℕ → State → (Value → Out) → Out
with_value (Ok v) units s next = next v
with_value (Err f) units s next = Faults f s

-- an arm of an IF: the value of its test, and what its statements do
abbrev pub Guarded : Type 0
Guarded = Worth × Sem

-- an arm of a CASE: its labels, and what its statements do
abbrev pub Labelled : Type 0
Labelled = List ℤ × Sem

-- the statements of the first arm whose test is TRUE, or else those after ELSE
abbrev pub first_true : List Guarded → Sem → Sem
first_true [] other units s = other units s
first_true (arm ∷ rest) other units s =
    with_value (arm.0 s) units s (λ v. if is_set v then arm.1 units s else first_true rest other units s)

-- the statements of the first arm that has the value, or else those after ELSE
abbrev pub first_with : ℤ → List Labelled → Sem → Sem
first_with n [] other units s = other units s
first_with n (arm ∷ rest) other units s =
    if list_any (λ label. int_eq label n) arm.0 then arm.1 units s else first_with n rest other units s

-- Loops

-- what follows the body of a loop: EXIT ends the loop, and after its end and CONTINUE the test is evaluated again
abbrev pub after_body : Out → Sem → Out
after_body (Normal units s) again = again units s
after_body (Exits units s) again = Normal units s
after_body (Continues units s) again = again units s
after_body (Returns units s) again = Returns units s
after_body (Faults f s) again = Faults f s
after_body (NoUnits s) again = NoUnits s

-- a turn of a loop: a unit is taken, then the test is evaluated
abbrev pub turn : Worth → Sem → Sem → Sem
turn test body again zero s = NoUnits s
turn test body again (suc units) s =
    with_value (test s) units s (λ v. if is_set v then after_body (body units s) again else Normal units s)

-- at most this many turns
abbrev pub turns : ℕ → Worth → Sem → Sem
turns zero test body units s = NoUnits s
turns (suc most) test body units s = turn test body (turns most test body) units s

-- a loop; since each turn takes a unit, it has no more turns than units
abbrev pub loop : Worth → Sem → Sem
loop test body units s = turns units test body units s

-- Calls

-- all that a call of the unit at a position does, with these actuals: the units that it takes, the locating
-- of its actuals, and what the unit does
abbrev pub Calls : Type 0
Calls = ℕ → List Var → Sem

-- Each statement

-- one layer of a statement, in a text with these globals and calls
abbrev pub stmt_step : List Located → Calls → S.Stmt-F Sem Guarded Labelled → Sem
stmt_step globals calls (S.Assign v e) units s = state_or_fault (assignment globals v e s) units s
stmt_step globals calls (S.AreaWrite w p e) units s = state_or_fault (area_assignment globals w p e s) units s
stmt_step globals calls (S.Invoke n actuals) units s = calls n actuals units s
stmt_step globals calls (S.If arms other) units s = first_true arms (in_order other) units s
stmt_step globals calls (S.Case e arms other) units s =
    with_value (value globals e s) units s (λ v. first_with v.n arms (in_order other) units s)
stmt_step globals calls (S.While test body) units s = loop (value globals test) (in_order body) units s
stmt_step globals calls S.Exit units s = Exits units s
stmt_step globals calls S.Continue units s = Continues units s
stmt_step globals calls S.Return units s = Returns units s

-- an arm of an IF, by what its statements do
abbrev pub arm_step : List Located → S.Arm-F Sem Guarded Labelled → Guarded
arm_step globals arm = (value globals arm.test, in_order arm.body)

-- an arm of a CASE, by what its statements do
abbrev pub case_step : S.CaseArm-F Sem Guarded Labelled → Labelled
case_step arm = (arm.labels, in_order arm.body)

-- what a statement does
abbrev pub meaning : List Located → Calls → Stmt → Sem
meaning globals calls = fold-Stmt Sem Guarded Labelled (stmt_step globals calls) (arm_step globals) case_step

-- what the statements of a body do
abbrev pub body_meaning : List Located → Calls → List Stmt → Sem
body_meaning globals calls body = in_order (map (meaning globals calls) body)

-- the test of an arm of an IF, and what its statements do
abbrev pub arm_meaning : List Located → Calls → Arm → Guarded
arm_meaning globals calls = fold-Arm Sem Guarded Labelled (stmt_step globals calls) (arm_step globals) case_step

-- the labels of an arm of a CASE, and what its statements do
abbrev pub case_meaning : List Located → Calls → CaseArm → Labelled
case_meaning globals calls = fold-CaseArm Sem Guarded Labelled (stmt_step globals calls) (arm_step globals) case_step
