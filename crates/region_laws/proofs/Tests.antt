-- The test of an exit, as a statement that is well typed.
use Rattle.std.proofs.Common.{◌≡◌, Bool, true, false, ◌&&◌, List, [], ◌∷◌, map, pos, Option, Some, None, refl, sym, ◌∙◌}
use Rattle.st_tree.specs.TypeRules.{is_selector}
use Rattle.st_tree.specs.WellTyped.{CaseCheck, UnitScope, are_cases, are_well_typed, each_case, expression_type, is_case_arm, is_some_of}
use Rattle.st_tree.specs.declared.expr.Expr.{Expr}
use Rattle.st_tree.specs.declared.expr.StType.{StType}
use Rattle.st_tree.specs.declared.expr.StType.TheVariants as type
use Rattle.st_tree.specs.declared.program.Arm.{Arm}
use Rattle.st_tree.specs.declared.program.CaseArm.{CaseArm}
use Rattle.st_tree.specs.declared.program.Stmt.TheVariants as stmt
use Rattle.st_tree.proofs.Common.{and_parts}
use Rattle.st_tree.proofs.TypedParts.{parts_of_arm, parts_of_arms, parts_of_body, parts_of_if}
use Rattle.st_tree.proofs.TypingEquations.{good_case, type_had}

-- an expression has a type by which a CASE may choose
pub record Selects (o : Option StType) : Type 0 where
  pub type : StType
  pub has : o ≡ Some type
  pub selects : is_selector type ≡ true

selector_of : (o : Option StType) (inside : Bool) (arms : List CaseCheck) → are_cases o inside arms ≡ true → Selects o
selector_of None inside arms h = cc
selector_of (Some ty) inside arms h =
    let parts = and_parts (is_selector ty && is_some_of arms) (each_case ty inside arms) h in
    record { type = ty; has = refl; selects = (and_parts (is_selector ty) (is_some_of arms) parts.0).0 }

module _ (sight : UnitScope) (e : Expr) where
  abbrev guard : Arm
  guard = record { test = e; body = [] }

  abbrev first_arm : CaseArm
  first_arm = record { labels = pos 0 ∷ []; body = [] }

  -- that of a branch is a BOOL
  pub has_type_of_test : are_well_typed sight false (stmt.If (guard ∷ []) [] ∷ []) ≡ true → expression_type sight e ≡ Some type.Bool
  has_type_of_test h =
      let whole = parts_of_body sight false (stmt.If (guard ∷ []) []) [] h in
      let arms = parts_of_if sight false (guard ∷ []) [] whole.0 in
      let arm = parts_of_arms sight false guard [] arms.0 in
      type_had type.Bool (expression_type sight e) (parts_of_arm sight false guard arm.0).0

  -- that of a table is a selector
  pub tests_type : are_well_typed sight false (stmt.Case e (first_arm ∷ []) [] ∷ []) ≡ true → Selects (expression_type sight e)
  tests_type h =
      let whole = parts_of_body sight false (stmt.Case e (first_arm ∷ []) []) [] h in
      let parts = and_parts _ _ (sym (good_case sight false e (first_arm ∷ []) []) ∙ whole.0) in
      selector_of (expression_type sight e) false (map (is_case_arm sight) (first_arm ∷ [])) parts.0
