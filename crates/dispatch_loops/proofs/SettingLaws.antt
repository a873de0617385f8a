-- Statements that put literals into register variables, one by one.
use Rattle.std.proofs.Common.{◌≡◌, ℕ, zero, suc, ◌<◌, List, [], ◌∷◌, length, get_or, sym, subst, arith}
use Rattle.st_tree.specs.declared.expr.Expr.TheVariants as expr
use Rattle.st_tree.specs.declared.expr.Var.TheVariants as var
use Rattle.st_tree.specs.declared.program.Stmt.{Stmt}
use Rattle.st_tree.specs.declared.program.Stmt.TheVariants as stmt
use Rattle.graph_rules.specs.Plain.{AreSettings}

-- each of them does
pub setting_there : (xs : List Stmt) (i : ℕ) (x : Stmt) → AreSettings xs → i < length xs → x ≡ get_or xs i x → AreSettings (x ∷ [])
setting_there [] i x settings within there = absurd (omega arith)
setting_there (stmt.Assign (var.Register r) (expr.Literal ty n) ∷ rest) zero x settings within there =
    subst (λ (y : Stmt). AreSettings (y ∷ [])) (sym there) tt
setting_there (stmt.Assign (var.Register r) (expr.Literal ty n) ∷ rest) (suc i) x settings within there =
    setting_there rest i x settings (omega arith) there
setting_there (other ∷ rest) i x settings within there = absurd settings
