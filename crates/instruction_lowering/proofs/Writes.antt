-- Statements that write one thing each: they are steps of a node, and have no others inside.
use Rattle.std.proofs.Common.{◌≡◌, List, [], ◌∷◌, ◌++◌, refl, sym, ap, subst, ◌∙◌}
use Rattle.graph_rules.specs.Plain.{AreSteps, IsStep}
use Rattle.graph_rules.specs.Runs.{bodies_in, bodies_step}
use Rattle.graph_rules.specs.Writes.{AreWrites}
use Rattle.st_tree.proofs.PartEquations.{inner_rolled, out_area_write, out_assign}
use Rattle.st_tree.specs.BodyParts.{inner_statements, statements_in}
use Rattle.st_tree.specs.declared.program.Arm.{Arm}
use Rattle.st_tree.specs.declared.program.CaseArm.{CaseArm}
use Rattle.st_tree.specs.declared.program.Stmt.{Stmt}
use Rattle.st_tree.specs.declared.program.Stmt.TheOpen as S
use Rattle.st_tree.specs.declared.program.Stmt.TheVariants as stmt

pub no_bodies : (xs : List Stmt) → AreWrites xs → bodies_in xs ≡ []
no_bodies [] h = refl
no_bodies (stmt.Assign v e ∷ rest) h =
    ap (λ (y : S.Stmt-F Stmt Arm CaseArm). bodies_step y ++ bodies_in rest) (out_assign v e) ∙ no_bodies rest h
no_bodies (stmt.AreaWrite w p e ∷ rest) h =
    ap (λ (y : S.Stmt-F Stmt Arm CaseArm). bodies_step y ++ bodies_in rest) (out_area_write w p e) ∙ no_bodies rest h
no_bodies (x ∷ rest) h = elim h [ ]

pub are_steps : (xs : List Stmt) → AreWrites xs → AreSteps xs
are_steps [] h = tt
are_steps (stmt.Assign v e ∷ rest) h = (subst IsStep (sym (out_assign v e)) tt, are_steps rest h)
are_steps (stmt.AreaWrite w p e ∷ rest) h = (subst IsStep (sym (out_area_write w p e)) tt, are_steps rest h)
are_steps (x ∷ rest) h = elim h [ ]

inner_none : (x : Stmt) (rest : List Stmt) → inner_statements x ≡ [] → statements_in rest ≡ rest
    → statements_in (x ∷ rest) ≡ x ∷ rest
inner_none x rest e f = ap (λ (inside : List Stmt). x ∷ inside ++ statements_in rest) e ∙ ap (λ (ys : List Stmt). x ∷ ys) f

pub no_inner : (xs : List Stmt) → AreWrites xs → statements_in xs ≡ xs
no_inner [] h = refl
no_inner (stmt.Assign v e ∷ rest) h =
    inner_none (stmt.Assign v e) rest (ap inner_statements (sym (stmt.rolls-Assign v e)) ∙ inner_rolled (S.Assign v e)) (no_inner rest h)
no_inner (stmt.AreaWrite w p e ∷ rest) h =
    inner_none (stmt.AreaWrite w p e) rest
    (ap inner_statements (sym (stmt.rolls-AreaWrite w p e)) ∙ inner_rolled (S.AreaWrite w p e)) (no_inner rest h)
no_inner (x ∷ rest) h = elim h [ ]
