-- What holds of each statement that a step may be holds of each step; so with the statements of a guarded call.
use Rattle.std.proofs.Common.{◌≡◌, ℕ, List, [], ◌∷◌, Some, sym, subst}
use Rattle.std.specs.Prelude.{All, slice_get}
use Rattle.std.proofs.lemmas.List.Elements.{All-cons, All-nil}
use Rattle.s7_base.specs.declared.register.Reg.TheVariants as reg
use Rattle.s7_base.specs.declared.word.Width.{Width}
use Rattle.st_tree.specs.declared.expr.Expr.{Expr}
use Rattle.st_tree.specs.declared.expr.Expr.TheVariants as expr
use Rattle.st_tree.specs.declared.expr.Var.{Var}
use Rattle.st_tree.specs.declared.expr.Var.TheVariants as var
use Rattle.st_tree.specs.declared.graph.StNode.{StNode}
use Rattle.st_tree.specs.declared.program.Arm.{Arm}
use Rattle.st_tree.specs.declared.program.CaseArm.{CaseArm}
use Rattle.st_tree.specs.declared.program.Stmt.{Stmt, out-Stmt, roll-Stmt, roll-out-Stmt}
use Rattle.st_tree.specs.declared.program.Stmt.TheOpen as S
use Rattle.st_tree.specs.declared.program.Stmt.TheVariants as stmt
use Rattle.graph_rules.specs.Plain.{ArePutBack, AreSteps, IsGuarded, IsStep}

module _ (P : Stmt → Type 0) (assigns : (v : Var) (e : Expr) → P (stmt.Assign v e)) where
  put_back : (xs : List Stmt) → ArePutBack xs → All P xs
  put_back [] h = All-nil P
  put_back (stmt.Assign (var.Register reg.DbNo) (expr.Read (var.Local i)) ∷ rest) h =
      All-cons P _ rest (assigns (var.Register reg.DbNo) (expr.Read (var.Local i))) (put_back rest h)
  put_back (stmt.Assign (var.Register reg.DiNo) (expr.Read (var.Local i)) ∷ rest) h =
      All-cons P _ rest (assigns (var.Register reg.DiNo) (expr.Read (var.Local i))) (put_back rest h)
  put_back (x ∷ rest) h = elim h [ ]

  module _ (calls : (n : ℕ) (vars : List Var) → P (stmt.Invoke n vars)) where
    pub each_guarded : (xs : List Stmt) → IsGuarded xs → All P xs
    each_guarded [] h = elim h [ ]
    each_guarded (stmt.Assign (var.Local i) e ∷ rest) h = All-cons P _ rest (assigns (var.Local i) e) (each_guarded rest h)
    each_guarded (stmt.Invoke n vars ∷ rest) h = All-cons P _ rest (calls n vars) (put_back rest h)
    each_guarded (x ∷ rest) h = elim h [ ]

    module _ (writes : (w : Width) (p e : Expr) → P (stmt.AreaWrite w p e))
        (guards : (arm : Arm) → IsGuarded arm.body → P (stmt.If (arm ∷ []) []))
      where
        of_layer : (y : S.Stmt-F Stmt Arm CaseArm) → IsStep y → P (roll-Stmt y)
        of_layer (S.Assign v e) h = subst P (sym (stmt.rolls-Assign v e)) (assigns v e)
        of_layer (S.AreaWrite w p e) h = subst P (sym (stmt.rolls-AreaWrite w p e)) (writes w p e)
        of_layer (S.Invoke n vars) h = subst P (sym (stmt.rolls-Invoke n vars)) (calls n vars)
        of_layer (S.If (arm ∷ []) []) h = subst P (sym (stmt.rolls-If (arm ∷ []) [])) (guards arm h.1)
        of_layer y h = elim h [ ]

        pub each_step : (xs : List Stmt) → AreSteps xs → All P xs
        each_step [] h = All-nil P
        each_step (x ∷ rest) h = All-cons P x rest (subst P (roll-out-Stmt x) (of_layer (out-Stmt x) h.0)) (each_step rest h.1)

-- the steps of each node are those of a plain graph
abbrev pub HavePlainSteps : List StNode → Type 0
HavePlainSteps nodes = (i : ℕ) (node : StNode) → slice_get nodes i ≡ Some node → AreSteps node.steps
