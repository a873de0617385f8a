-- Exits that test a local: their expressions have no fault, and as statements they are well typed, low and without calls.
use Rattle.std.proofs.Common.{◌≡◌, ℕ, pos, Bool, true, false, List, [], ◌∷◌, Some, arith}
use Rattle.st_tree.proofs.Equations.{fold_read}
use Rattle.st_tree.proofs.PartEquations.{part_equations}
use Rattle.st_tree.proofs.TypingEquations.{good_equations, nesting_equations}
use Rattle.st_tree.specs.BodyParts.{calls_in, expressions_in}
use Rattle.st_tree.specs.Nesting.{body_nesting}
use Rattle.st_tree.specs.WellTyped.{UnitScope, are_well_typed, variable_type}
use Rattle.st_tree.specs.declared.expr.Expr.{Expr}
use Rattle.st_tree.specs.declared.expr.Expr.TheVariants as expr
use Rattle.st_tree.specs.declared.expr.StType.TheVariants as type
use Rattle.st_tree.specs.declared.expr.Var.TheVariants as var
use Rattle.st_tree.specs.declared.program.Stmt.{Stmt}
use Rattle.st_tree.specs.declared.program.Stmt.TheVariants as stmt
use Rattle.graph_rules.specs.Plain.{faultless_step, is_faultless}

module _ (i : ℕ) where
  abbrev tested : Expr
  tested = expr.Read (var.Local i)

  pub sure_local : is_faultless tested ≡ true
  sure_local = fold_read Bool faultless_step (var.Local i)

  -- as an IF

  abbrev choice : List Stmt
  choice = stmt.If (record { test = tested; body = [] } ∷ []) [] ∷ []

  pub choice_typed : (sight : UnitScope) → variable_type sight (var.Local i) ≡ Some type.Bool → are_well_typed sight false choice ≡ true
  choice_typed sight h = simp (good_equations, h)

  pub choice_nesting : body_nesting choice ≡ 1
  choice_nesting = simp nesting_equations (omega arith)

  pub choice_expressions : expressions_in choice ≡ tested ∷ []
  choice_expressions = simp part_equations

  pub choice_calls : calls_in choice ≡ []
  choice_calls = simp part_equations

  -- as a CASE

  abbrev selection : List Stmt
  selection = stmt.Case tested (record { labels = pos 0 ∷ []; body = [] } ∷ []) [] ∷ []

  pub selection_typed : (sight : UnitScope) → variable_type sight (var.Local i) ≡ Some type.Dint → are_well_typed sight false selection ≡ true
  selection_typed sight h = simp (good_equations, h)

  pub selection_nesting : body_nesting selection ≡ 1
  selection_nesting = simp nesting_equations (omega arith)

  pub selection_expressions : expressions_in selection ≡ tested ∷ []
  selection_expressions = simp part_equations

  pub selection_calls : calls_in selection ≡ []
  selection_calls = simp part_equations
