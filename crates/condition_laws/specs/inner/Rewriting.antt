-- What the code makes of each statement, of units and of trees.
use Rattle.std.specs.Prelude.{ℕ, ◌-◌, pos, Bool, true, false, ◌&&◌, nat_lt, if◌then◌else◌, List, [], ◌∷◌, ◌++◌, map}
use Rattle.std.specs.Ordering.{int_eq}
use Rattle.condition_laws.specs.inner.Negation.{has_low_negation, is_low, negation}
use Rattle.st_tree.specs.declared.expr.Expr.{Expr}
use Rattle.st_tree.specs.declared.expr.Expr.TheVariants as expr
use Rattle.st_tree.specs.declared.program.Arm.{Arm, Arm-F, fold-Arm}
use Rattle.st_tree.specs.declared.program.CaseArm.{CaseArm, CaseArm-F, fold-CaseArm}
use Rattle.st_tree.specs.declared.program.Pou.{Pou}
use Rattle.st_tree.specs.declared.program.StProgram.{StProgram}
use Rattle.st_tree.specs.declared.program.Stmt.{Stmt, fold-Stmt, out-Stmt}
use Rattle.st_tree.specs.declared.program.Stmt.TheOpen as S
use Rattle.st_tree.specs.declared.program.Stmt.TheVariants as stmt

-- Choices

-- a statement is an IF
abbrev pub is_if : S.Stmt-F Stmt Arm CaseArm → Bool
is_if (S.If arms other) = true
is_if other = false

-- statements are one IF
abbrev pub is_choice : List Stmt → Bool
is_choice [] = false
is_choice (x ∷ y ∷ rest) = false
is_choice (x ∷ []) = is_if (out-Stmt x)

-- an IF with one statement after its ELSE, by that statement's layer
abbrev pub choice_step : List Arm → Stmt → S.Stmt-F Stmt Arm CaseArm → Stmt
choice_step arms x (S.If more last) = stmt.If (arms ++ more) last
choice_step arms x other = stmt.If arms (x ∷ [])

-- an IF, which takes the arms and the ELSE of an IF that stands alone after its own ELSE
abbrev pub choice_of : List Arm → List Stmt → Stmt
choice_of arms [] = stmt.If arms []
choice_of arms (x ∷ y ∷ rest) = stmt.If arms (x ∷ y ∷ rest)
choice_of arms (x ∷ []) = choice_step arms x (out-Stmt x)

-- Loops

-- a test is TRUE
abbrev pub is_always : Expr → Bool
is_always (expr.Literal ty n) = int_eq n (pos 1)
is_always other = false

-- a statement is EXIT
abbrev pub is_exit_step : S.Stmt-F Stmt Arm CaseArm → Bool
is_exit_step S.Exit = true
is_exit_step other = false

-- a body is EXIT alone
abbrev pub is_exit : List Stmt → Bool
is_exit [] = false
is_exit (x ∷ y ∷ rest) = false
is_exit (x ∷ []) = is_exit_step (out-Stmt x)

-- there are no arms
abbrev pub is_empty : List Arm → Bool
is_empty [] = true
is_empty (arm ∷ more) = false

-- an IF leaves its loop in its first arm, or in an ELSE after its only arm, by a test that may be that of a WHILE
abbrev pub arms_lead_out : List Arm → List Stmt → Bool
arms_lead_out [] other = false
arms_lead_out (arm ∷ more) other =
    if is_exit arm.body then has_low_negation arm.test else is_empty more && is_exit other && is_low arm.test 32

-- a statement leaves its loop so
abbrev pub leads_step : S.Stmt-F Stmt Arm CaseArm → Bool
leads_step (S.If arms other) = arms_lead_out arms other
leads_step other = false

-- the first statement of a body does
abbrev pub leads_out : List Stmt → Bool
leads_out [] = false
leads_out (x ∷ rest) = leads_step (out-Stmt x)

-- what an IF does where its first arm is not met
abbrev pub otherwise : List Arm → List Stmt → List Stmt
otherwise [] other = other
otherwise (arm ∷ more) other = stmt.If (arm ∷ more) other ∷ []

-- a loop with the test of an arm, by which its first statement leaves it
abbrev pub loop_by : Arm → List Arm → List Stmt → List Stmt → Stmt
loop_by arm more other rest =
    if is_exit arm.body then stmt.While (negation arm.test) (otherwise more other ++ rest)
    else stmt.While arm.test (arm.body ++ rest)

-- so with any arms; without one there is none
abbrev pub loop_by_arms : List Arm → List Stmt → List Stmt → Stmt
loop_by_arms [] other rest = stmt.Exit
loop_by_arms (arm ∷ more) other rest = loop_by arm more other rest

-- so by the layer of the first statement
abbrev pub loop_step : S.Stmt-F Stmt Arm CaseArm → List Stmt → Stmt
loop_step (S.If arms other) rest = loop_by_arms arms other rest
loop_step other rest = stmt.Exit

-- a loop with the test by which its first statement leaves it
abbrev pub loop_with_test : List Stmt → Stmt
loop_with_test [] = stmt.Exit
loop_with_test (x ∷ rest) = loop_step (out-Stmt x) rest

-- a loop, where there is room with the test by which its first statement leaves it
abbrev pub loop_of : ℕ → Expr → List Stmt → Stmt
loop_of room test body =
    if nat_lt 0 room && is_always test && leads_out body then loop_with_test body else stmt.While test body

-- Each statement

-- what is made with some room
abbrev pub Rewrite : Type 0
Rewrite = ℕ → Stmt

abbrev pub ArmRewrite : Type 0
ArmRewrite = ℕ → Arm

abbrev pub CaseRewrite : Type 0
CaseRewrite = ℕ → CaseArm

-- what is made of each part
abbrev pub at : {X : Type 0} → ℕ → List (ℕ → X) → List X
at {X} room parts = map (λ (part : ℕ → X). part room) parts

-- a statement, by what is made of its parts
abbrev pub rewrite_step : S.Stmt-F Rewrite ArmRewrite CaseRewrite → Rewrite
rewrite_step (S.Assign v e) room = stmt.Assign v e
rewrite_step (S.AreaWrite w p e) room = stmt.AreaWrite w p e
rewrite_step (S.Invoke n vars) room = stmt.Invoke n vars
rewrite_step (S.If arms other) room = choice_of (at (room - 1) arms) (at (room - 1) other)
rewrite_step (S.Case e arms other) room = stmt.Case e (at (room - 1) arms) (at (room - 1) other)
rewrite_step (S.While test body) room = loop_of room test (at (room - 1) body)
rewrite_step S.Exit room = stmt.Exit
rewrite_step S.Continue room = stmt.Continue
rewrite_step S.Return room = stmt.Return

-- an arm of an IF
abbrev pub arm_step : Arm-F Rewrite ArmRewrite CaseRewrite → ArmRewrite
arm_step arm room = record { test = arm.test; body = at room arm.body }

-- an arm of a CASE
abbrev pub case_step : CaseArm-F Rewrite ArmRewrite CaseRewrite → CaseRewrite
case_step arm room = record { labels = arm.labels; body = at room arm.body }

-- a statement
abbrev pub rewrite : Stmt → Rewrite
rewrite = fold-Stmt Rewrite ArmRewrite CaseRewrite rewrite_step arm_step case_step

abbrev pub rewrite_arm : Arm → ArmRewrite
rewrite_arm = fold-Arm Rewrite ArmRewrite CaseRewrite rewrite_step arm_step case_step

abbrev pub rewrite_case : CaseArm → CaseRewrite
rewrite_case = fold-CaseArm Rewrite ArmRewrite CaseRewrite rewrite_step arm_step case_step

-- Trees

-- a unit
abbrev pub rewrite_unit : Pou → Pou
rewrite_unit unit = record unit { body = at 131 (map rewrite unit.body) }

-- a tree
abbrev pub rewrite_program : StProgram → StProgram
rewrite_program tree = record tree { pous = map rewrite_unit tree.pous }
