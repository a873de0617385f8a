-- The steps of a node have one test of IF for each IF among them, since what an IF guards has none.
use Rattle.std.proofs.Common.{◌≡◌, ℕ, ◌+◌, List, [], ◌∷◌, ◌++◌, length, refl, ap, ◌∙◌, arith}
use Rattle.std.specs.Prelude.{All}
use Rattle.std.proofs.lemmas.List.{append-nil, length-append}
use Rattle.std.proofs.lemmas.List.Elements.{All-head, All-tail}
use Rattle.graph_rules.specs.Plain.{AreSteps, IsGuarded, IsStep}
use Rattle.graph_rules.specs.Runs.{bodies_in, bodies_step}
use Rattle.region_laws.proofs.Steps.{each_guarded}
use Rattle.st_tree.specs.BodyParts.{statements_in}
use Rattle.st_tree.specs.declared.expr.Expr.{Expr}
use Rattle.st_tree.specs.declared.expr.Var.{Var}
use Rattle.st_tree.specs.declared.program.Arm.{Arm}
use Rattle.st_tree.specs.declared.program.CaseArm.{CaseArm}
use Rattle.st_tree.specs.declared.program.Stmt.{Stmt, out-Stmt, roll-out-Stmt}
use Rattle.st_tree.specs.declared.program.Stmt.TheOpen as S
use Rattle.st_tree.specs.declared.program.Stmt.TheVariants as stmt
use Rattle.st_tree.proofs.PartEquations.{inner_bodies}
use Rattle.text_shapes.proofs.Counting.{count_append, count_first, own_sum}
use Rattle.text_shapes.specs.Shape.{count_in, tests}

-- a statement has no test
abbrev HasNoTest : Stmt → Type 0
HasNoTest x = count_in tests (x ∷ []) ≡ 0

assign_tests : (v : Var) (e : Expr) → HasNoTest (stmt.Assign v e)
assign_tests v e = count_first tests (S.Assign v e) (stmt.Assign v e) (stmt.rolls-Assign v e) []

call_tests : (n : ℕ) (vars : List Var) → HasNoTest (stmt.Invoke n vars)
call_tests n vars = count_first tests (S.Invoke n vars) (stmt.Invoke n vars) (stmt.rolls-Invoke n vars) []

no_tests : (xs : List Stmt) → All HasNoTest xs → count_in tests xs ≡ 0
no_tests [] h = refl
no_tests (x ∷ rest) h =
    omega (arith, count_append tests (x ∷ []) rest, All-head HasNoTest x rest h, no_tests rest (All-tail HasNoTest x rest h))

guarded_tests : (xs : List Stmt) → IsGuarded xs → count_in tests xs ≡ 0
guarded_tests xs h = no_tests xs (each_guarded HasNoTest assign_tests call_tests xs h)

-- a step, by its layer
layer_tests : (y : S.Stmt-F Stmt Arm CaseArm) → IsStep y → tests y + own_sum tests (inner_bodies y) ≡ length (bodies_step y)
layer_tests (S.Assign v e) h = refl
layer_tests (S.AreaWrite w p e) h = refl
layer_tests (S.Invoke n vars) h = refl
layer_tests (S.If (arm ∷ []) []) h =
    let none : count_in tests arm.body ≡ 0 = guarded_tests arm.body h.1 in
    let inner : own_sum tests (inner_bodies (S.If (arm ∷ []) [])) ≡ count_in tests arm.body =
    ap (own_sum tests) (append-nil (statements_in arm.body ++ []) ∙ append-nil (statements_in arm.body)) in
    omega (arith, none, inner)
layer_tests y h = absurd h

pub steps_tests : (xs : List Stmt) → AreSteps xs → count_in tests xs ≡ length (bodies_in xs)
steps_tests [] h = refl
steps_tests (x ∷ rest) h =
    omega (
      arith,
      count_first tests (out-Stmt x) x (roll-out-Stmt x) rest,
      layer_tests (out-Stmt x) h.0,
      steps_tests rest h.1,
      length-append (bodies_step (out-Stmt x)) (bodies_in rest),
    )
