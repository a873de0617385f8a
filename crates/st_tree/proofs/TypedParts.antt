-- What the parts of a well typed statement keep.
use Rattle.st_tree.proofs.Common.{◌≡◌, Bool, true, List, ◌∷◌, map, Option, Some, None, refl, sym, ◌∙◌, and_parts, CaseCheck, UnitScope, are_well_typed, each, each_case, expression_type, has_type, is_arm, is_assigned, is_case_arm, is_well_typed, Expr, StType, Arm, CaseArm, Stmt}
use Rattle.st_tree.specs.WellTyped.{are_cases}
use Rattle.st_tree.specs.declared.expr.StType.TheVariants as type
use Rattle.st_tree.specs.declared.program.Stmt.TheVariants as stmt
use Rattle.st_tree.proofs.TypingEquations.{good_arm, good_case, good_case_arm, good_if, good_while, type_had}

-- both sides of an assignment have this type
pub record HaveType (a b : Option StType) : Type 0 where
  pub type : StType
  pub left : a ≡ Some type
  pub right : b ≡ Some type

pub both_sides : (a b : Option StType) → is_assigned a b ≡ true → HaveType a b
both_sides None b h = cc
both_sides (Some ty) b h = record { type = ty; left = refl; right = type_had ty b h }

-- a selector has this type, and so have the labels of the arms
pub record AreCases (o : Option StType) (inside : Bool) (checks : List CaseCheck) : Type 0 where
  pub type : StType
  pub selector : o ≡ Some type
  pub arms : each_case type inside checks ≡ true

cases_are : (o : Option StType) (inside : Bool) (arms : List CaseCheck) → are_cases o inside arms ≡ true
    → AreCases o inside arms
cases_are None inside arms h = cc
cases_are (Some ty) inside arms h = record { type = ty; selector = refl; arms = (and_parts _ _ h).1 }

module _ (sight : UnitScope) (inside : Bool) where
  pub parts_of_body : (x : Stmt) (xs : List Stmt) → are_well_typed sight inside (x ∷ xs) ≡ true
      → (is_well_typed sight x inside ≡ true) × (are_well_typed sight inside xs ≡ true)
  parts_of_body x xs h = and_parts (is_well_typed sight x inside) (are_well_typed sight inside xs) h

  pub parts_of_arm : (x : Arm) → is_arm sight x inside ≡ true
      → (has_type type.Bool (expression_type sight x.test) ≡ true) × (are_well_typed sight inside x.body ≡ true)
  parts_of_arm x h = and_parts _ _ (sym (good_arm sight inside x) ∙ h)

  pub parts_of_arms : (x : Arm) (xs : List Arm) → each inside (map (is_arm sight) (x ∷ xs)) ≡ true
      → (is_arm sight x inside ≡ true) × (each inside (map (is_arm sight) xs) ≡ true)
  parts_of_arms x xs h = and_parts (is_arm sight x inside) (each inside (map (is_arm sight) xs)) h

  pub body_of_case : (x : CaseArm) (ty : StType) → is_case_arm sight x ty inside ≡ true
      → are_well_typed sight inside x.body ≡ true
  body_of_case x ty h = (and_parts _ _ (sym (good_case_arm sight inside x ty) ∙ h)).1

  pub parts_of_cases : (ty : StType) (x : CaseArm) (xs : List CaseArm)
      → each_case ty inside (map (is_case_arm sight) (x ∷ xs)) ≡ true
      → (is_case_arm sight x ty inside ≡ true) × (each_case ty inside (map (is_case_arm sight) xs) ≡ true)
  parts_of_cases ty x xs h =
      and_parts (is_case_arm sight x ty inside) (each_case ty inside (map (is_case_arm sight) xs)) h

  pub parts_of_if : (arms : List Arm) (other : List Stmt) → is_well_typed sight (stmt.If arms other) inside ≡ true
      → (each inside (map (is_arm sight) arms) ≡ true) × (are_well_typed sight inside other ≡ true)
  parts_of_if arms other h =
      let parts = and_parts _ _ (sym (good_if sight inside arms other) ∙ h) in
      ((and_parts _ _ parts.0).1, parts.1)

  pub parts_of_case : (e : Expr) (arms : List CaseArm) (other : List Stmt)
      → is_well_typed sight (stmt.Case e arms other) inside ≡ true
      → AreCases (expression_type sight e) inside (map (is_case_arm sight) arms)
      × (are_well_typed sight inside other ≡ true)
  parts_of_case e arms other h =
      let parts = and_parts _ _ (sym (good_case sight inside e arms other) ∙ h) in
      (cases_are (expression_type sight e) inside (map (is_case_arm sight) arms) parts.0, parts.1)

  pub parts_of_while : (test : Expr) (body : List Stmt) → is_well_typed sight (stmt.While test body) inside ≡ true
      → (has_type type.Bool (expression_type sight test) ≡ true) × (are_well_typed sight true body ≡ true)
  parts_of_while test body h = and_parts _ _ (sym (good_while sight inside test body) ∙ h)
