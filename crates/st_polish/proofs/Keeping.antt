-- What statements keep where globals stand in the place of their places: what is counted of them, what each keeps to, and
-- their expressions.
use Rattle.std.proofs.Common.{◌≡◌, ℕ, ◌+◌, List, [], ◌∷◌, ◌++◌, map, sym, subst, ap, ◌∙◌, refl}
use Rattle.std.specs.Prelude.{All, flat_map}
use Rattle.std.specs.List.{sum_by}
use Rattle.std.proofs.lemmas.List.Elements.{All-cons, All-head, All-nil, All-tail}
use Rattle.std.proofs.lemmas.List.Sums.{sum_by-cons}
use Rattle.st_globals.proofs.Kept.{kinds_kept, map_both, statements_kept}
use Rattle.st_globals.proofs.With.{both, with_arm}
use Rattle.st_globals.specs.KeptLaws.{layer_with}
use Rattle.st_globals.specs.WithVariables.{arm_with, body_with, expr_with, stmt_with}
use Rattle.st_tree.specs.BodyParts.{expressions_in, expressions_step, statements_in}
use Rattle.st_tree.specs.declared.expr.Expr.{Expr}
use Rattle.st_tree.specs.declared.expr.Var.{Var}
use Rattle.st_tree.specs.declared.program.Arm.{Arm}
use Rattle.st_tree.specs.declared.program.CaseArm.{CaseArm}
use Rattle.st_tree.specs.declared.program.Stmt.{Stmt, out-Stmt}
use Rattle.st_tree.specs.declared.program.Stmt.TheOpen as S
use Rattle.text_shapes.specs.Shape.{count_in}

abbrev pub Layer : Type 0
Layer = S.Stmt-F Stmt Arm CaseArm

module _ (f : Var → Var) where
  -- Counts

  module _ (count : Layer → ℕ) (same : (y : Layer) → count (layer_with f y) ≡ count y) where
    abbrev own : Stmt → ℕ
    own x = count (out-Stmt x)

    sum_kept : (xs : List Stmt) → sum_by own (body_with f xs) ≡ sum_by own xs
    sum_kept [] = refl
    sum_kept (x ∷ xs) =
        let one : own (stmt_with f x) ≡ own x = ap count (kinds_kept f x) ∙ same (out-Stmt x) in
        sum_by-cons own (stmt_with f x) (body_with f xs) ∙ both (λ (m n : ℕ). m + n) one (sum_kept xs) ∙ sym (sum_by-cons own x xs)

    pub count_kept : (body : List Stmt) → count_in count (body_with f body) ≡ count_in count body
    count_kept body = ap (sum_by own) (statements_kept f body) ∙ sum_kept (statements_in body)

  -- Properties of each statement

  module _ (P : Layer → Type 0) (hand : (y : Layer) → P y → P (layer_with f y)) where
    abbrev Own : Stmt → Type 0
    Own x = P (out-Stmt x)

    each_kept : (xs : List Stmt) → All Own xs → All Own (body_with f xs)
    each_kept [] h = All-nil Own
    each_kept (x ∷ xs) h =
        All-cons Own (stmt_with f x) (body_with f xs) (subst P (sym (kinds_kept f x)) (hand (out-Stmt x) (All-head Own x xs h)))
        (each_kept xs (All-tail Own x xs h))

    pub all_kept : (body : List Stmt) → All Own (statements_in body) → All Own (statements_in (body_with f body))
    all_kept body h = subst (All Own) (sym (statements_kept f body)) (each_kept (statements_in body) h)

  -- Expressions

  tests_kept : (arms : List Arm) → map (λ (arm : Arm). arm.test) (map (arm_with f) arms)
      ≡ map (expr_with f) (map (λ (arm : Arm). arm.test) arms)
  tests_kept [] = refl
  tests_kept (x ∷ xs) = both (λ (e : Expr) (es : List Expr). e ∷ es) (ap (λ (arm : Arm). arm.test) (with_arm f x)) (tests_kept xs)

  pub layer_expressions : (y : Layer) → expressions_step (layer_with f y) ≡ map (expr_with f) (expressions_step y)
  layer_expressions (S.If arms other) = tests_kept arms
  layer_expressions (S.Assign v e) = refl
  layer_expressions (S.AreaWrite w p e) = refl
  layer_expressions (S.Invoke n vars) = refl
  layer_expressions (S.Case e arms other) = refl
  layer_expressions (S.While test body) = refl
  layer_expressions S.Exit = refl
  layer_expressions S.Continue = refl
  layer_expressions S.Return = refl

  abbrev own_expressions : Stmt → List Expr
  own_expressions x = expressions_step (out-Stmt x)

  each_expressions : (xs : List Stmt) → flat_map own_expressions (body_with f xs) ≡ map (expr_with f) (flat_map own_expressions xs)
  each_expressions [] = refl
  each_expressions (x ∷ xs) =
      both (λ (es more : List Expr). es ++ more) (ap expressions_step (kinds_kept f x) ∙ layer_expressions (out-Stmt x))
      (each_expressions xs)
      ∙ sym (map_both (expr_with f) (own_expressions x) (flat_map own_expressions xs))

  pub expressions_kept : (body : List Stmt) → expressions_in (body_with f body) ≡ map (expr_with f) (expressions_in body)
  expressions_kept body = ap (flat_map own_expressions) (statements_kept f body) ∙ each_expressions (statements_in body)

  pub all_with : (P : Expr → Type 0) → ((e : Expr) → P e → P (expr_with f e)) → (es : List Expr) → All P es
      → All P (map (expr_with f) es)
  all_with P hand [] h = All-nil P
  all_with P hand (e ∷ es) h =
      All-cons P (expr_with f e) (map (expr_with f) es) (hand e (All-head P e es h)) (all_with P hand es (All-tail P e es h))
