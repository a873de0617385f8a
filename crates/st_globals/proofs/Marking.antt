-- The keys of the places that expressions and statements name, part by part.
use Rattle.std.proofs.Common.{◌≡◌, ℕ, ◌+◌, ◌<◌, get_or, length, take, List, [], ◌∷◌, ◌++◌, map, refl, sym, ap, ◌∙◌}
use Rattle.std.specs.Prelude.{fold}
use Rattle.std.specs.List.{flat_map}
use Rattle.std.proofs.lemmas.List.Folds.{flat_map-map}
use Rattle.std.proofs.lemmas.List.Sums.{fold-append, fold_more}
use Rattle.st_tree.specs.BodyParts.{reads_of}
use Rattle.st_tree.specs.declared.expr.Expr.{Expr}
use Rattle.st_tree.specs.declared.expr.Var.{Var}
use Rattle.st_tree.specs.declared.program.Arm.{Arm}
use Rattle.st_tree.specs.declared.program.CaseArm.{CaseArm}
use Rattle.st_tree.specs.declared.program.Pou.{Pou}
use Rattle.st_tree.specs.declared.program.Stmt.{Stmt}
use Rattle.st_tree.specs.declared.program.Stmt.TheOpen as S
use Rattle.st_tree.specs.declared.program.Stmt.TheVariants as stmt
use Rattle.st_globals.specs.Variables.{all_of, arm_variables, case_variables, variables_of}
use Rattle.st_globals.specs.inner.Tables.{PlaceKey, with_arm_keys, with_case_keys, with_expr_keys, with_key, with_keys, with_stmt_keys, with_unit_keys}
use Rattle.st_globals.proofs.VariablesKept.{of_arm, of_case, variables_at}

-- several lists of variables, one after another
pub keys_of_all : {X : Type 0} (vars_of : X → List Var) (xs : List X) (keys : List PlaceKey)
    → with_keys keys (flat_map vars_of xs) ≡ fold (λ ks x. with_keys ks (vars_of x)) keys xs
keys_of_all vars_of [] keys = refl
keys_of_all vars_of (x ∷ xs) keys =
    fold-append with_key keys (vars_of x) (flat_map vars_of xs) ∙ keys_of_all vars_of xs (with_keys keys (vars_of x))

pub both_keys : (xs ys : List Var) (keys : List PlaceKey) → with_keys keys (xs ++ ys) ≡ with_keys (with_keys keys xs) ys
both_keys xs ys keys = fold-append with_key keys xs ys

-- those of several parts
pub keys_of_parts : {X : Type 0} (vars_of : X → List Var) (xs : List X) (keys : List PlaceKey)
    → with_keys keys (flat_map (λ (vars : List Var). vars) (map vars_of xs)) ≡ fold (λ ks x. with_keys ks (vars_of x)) keys xs
keys_of_parts vars_of xs keys =
    ap (with_keys keys) (flat_map-map (λ (vars : List Var). vars) vars_of xs) ∙ keys_of_all vars_of xs keys

pub arm_keys : (arm : Arm) (keys : List PlaceKey) → fold with_stmt_keys (with_expr_keys keys arm.test) arm.body ≡ with_arm_keys keys arm
arm_keys arm keys =
    sym
    (ap (with_keys keys) (of_arm arm) ∙ both_keys (reads_of arm.test) (all_of (map variables_of arm.body)) keys
    ∙ keys_of_parts variables_of arm.body (with_keys keys (reads_of arm.test)))

pub case_keys : (arm : CaseArm) (keys : List PlaceKey) → fold with_stmt_keys keys arm.body ≡ with_case_keys keys arm
case_keys arm keys = sym (ap (with_keys keys) (of_case arm) ∙ keys_of_parts variables_of arm.body keys)

pub if_keys : (arms : List Arm) (other : List Stmt) (keys : List PlaceKey)
    → fold with_stmt_keys (fold with_arm_keys keys arms) other ≡ with_stmt_keys keys (stmt.If arms other)
if_keys arms other keys =
    sym
    (ap (with_keys keys) (variables_at (S.If arms other) (stmt.rolls-If arms other))
    ∙ both_keys (all_of (map arm_variables arms)) (all_of (map variables_of other)) keys
    ∙ ap (λ (ks : List PlaceKey). with_keys ks (all_of (map variables_of other))) (keys_of_parts arm_variables arms keys)
    ∙ keys_of_parts variables_of other (fold with_arm_keys keys arms))

pub choice_keys : (e : Expr) (arms : List CaseArm) (other : List Stmt) (keys : List PlaceKey)
    → fold with_stmt_keys (fold with_case_keys (with_expr_keys keys e) arms) other ≡ with_stmt_keys keys (stmt.Case e arms other)
choice_keys e arms other keys =
    sym
    (ap (with_keys keys) (variables_at (S.Case e arms other) (stmt.rolls-Case e arms other))
    ∙ both_keys (reads_of e) (all_of (map case_variables arms) ++ all_of (map variables_of other)) keys
    ∙ both_keys (all_of (map case_variables arms)) (all_of (map variables_of other)) (with_keys keys (reads_of e))
    ∙ ap (λ (ks : List PlaceKey). with_keys ks (all_of (map variables_of other)))
    (keys_of_parts case_variables arms (with_keys keys (reads_of e)))
    ∙ keys_of_parts variables_of other (fold with_case_keys (with_keys keys (reads_of e)) arms))

pub while_keys : (test : Expr) (body : List Stmt) (keys : List PlaceKey)
    → fold with_stmt_keys (with_expr_keys keys test) body ≡ with_stmt_keys keys (stmt.While test body)
while_keys test body keys =
    sym
    (ap (with_keys keys) (variables_at (S.While test body) (stmt.rolls-While test body))
    ∙ both_keys (reads_of test) (all_of (map variables_of body)) keys
    ∙ keys_of_parts variables_of body (with_keys keys (reads_of test)))

pub unit_keys : (unit : Pou) (keys : List PlaceKey) → fold with_stmt_keys keys unit.body ≡ with_unit_keys keys unit
unit_keys unit keys = sym (keys_of_all variables_of unit.body keys)

-- one part more of several
pub next_keys : {X : Type 0} (more : List PlaceKey → X → List PlaceKey) (start : List PlaceKey) (xs : List X) (i : ℕ) (x : X)
    → i < length xs → x ≡ get_or xs i x → (old new : List PlaceKey) → old ≡ fold more start (take i xs) → new ≡ more old x
    → new ≡ fold more start (take (i + 1) xs)
next_keys more start xs i x lt is old new e h =
    h ∙ ap (λ (keys : List PlaceKey). more keys x) e ∙ ap (more (fold more start (take i xs))) is
    ∙ sym (fold_more more start xs i x lt)
