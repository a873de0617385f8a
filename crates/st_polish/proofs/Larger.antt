-- Statements in which globals stand in the place of places are no larger, and keep ELSIF. And of three bodies: what is no
-- larger than the second is no larger than the first, where the second is.
use Rattle.std.proofs.Common.{◌≡◌, ℕ, ◌+◌, ◌≤◌, List, [], ◌∷◌, Option, if◌then◌else◌, Bool, refl, sym, subst, ap, arith}
use Rattle.std.specs.Prelude.{All}
use Rattle.std.proofs.lemmas.List.{length-map}
use Rattle.condition_laws.specs.Depth.{arm_step, body_depth, case_step, depth_step}
use Rattle.condition_laws.specs.Elsif.{HasElsif, IsNoIf}
use Rattle.condition_laws.specs.NoLarger.{AreLow, IsNoLarger}
use Rattle.s7_base.specs.Numbers.{greatest}
use Rattle.st_globals.proofs.Kept.{heights_kept, kinds_kept}
use Rattle.st_globals.proofs.With.{body_fold, both, stmt_layer}
use Rattle.st_globals.specs.Globals.{named_var}
use Rattle.st_globals.specs.KeptLaws.{layer_with}
use Rattle.st_globals.specs.WithVariables.{arm_with, body_with, case_with}
use Rattle.st_polish.proofs.Keeping.{Layer, all_kept, all_with, count_kept, expressions_kept}
use Rattle.st_polish.proofs.Selector.{selector_kept, selector_same}
use Rattle.st_tree.specs.BodyParts.{expressions_in, height, statements_in}
use Rattle.st_tree.specs.declared.expr.Expr.{Expr}
use Rattle.st_tree.specs.declared.expr.Var.{Var}
use Rattle.st_tree.specs.declared.program.Located.{Located}
use Rattle.st_tree.specs.declared.program.Stmt.{Stmt, out-Stmt}
use Rattle.st_tree.specs.declared.program.Stmt.TheOpen as S
use Rattle.text_shapes.specs.Shape.{KeepsSelector, count_in, loops, one_if_any, other_cases, selector_arms, selector_cases, tests}

module _ (f : Var → Var) where
  loop_layers : (y : Layer) → loops (layer_with f y) ≡ loops y
  loop_layers (S.While test body) = refl
  loop_layers (S.If arms other) = refl
  loop_layers (S.Case e arms other) = refl
  loop_layers (S.Assign v e) = refl
  loop_layers (S.AreaWrite w p e) = refl
  loop_layers (S.Invoke n vars) = refl
  loop_layers S.Exit = refl
  loop_layers S.Continue = refl
  loop_layers S.Return = refl

  test_layers : (y : Layer) → tests (layer_with f y) ≡ tests y
  test_layers (S.If arms other) = length-map arms (arm_with f)
  test_layers (S.While test body) = refl
  test_layers (S.Case e arms other) = refl
  test_layers (S.Assign v e) = refl
  test_layers (S.AreaWrite w p e) = refl
  test_layers (S.Invoke n vars) = refl
  test_layers S.Exit = refl
  test_layers S.Continue = refl
  test_layers S.Return = refl

  depth_layers : (y : S.Stmt-F ℕ ℕ ℕ) → depth_step (stmt_layer f y) ≡ depth_step y
  depth_layers (S.If arms other) = refl
  depth_layers (S.While test body) = refl
  depth_layers (S.Case e arms other) = refl
  depth_layers (S.Assign v e) = refl
  depth_layers (S.AreaWrite w p e) = refl
  depth_layers (S.Invoke n vars) = refl
  depth_layers S.Exit = refl
  depth_layers S.Continue = refl
  depth_layers S.Return = refl

  depth_kept : (body : List Stmt) → body_depth (body_with f body) ≡ body_depth body
  depth_kept body =
      ap greatest
      (body_fold f depth_step depth_step arm_step arm_step case_step case_step depth_layers (λ y. refl) (λ y. refl) body)

  low_kept : (body : List Stmt) → AreLow body → AreLow (body_with f body)
  low_kept body h =
      subst (All (λ (e : Expr). height e ≤ 32)) (sym (expressions_kept f body))
      (all_with f (λ (e : Expr). height e ≤ 32)
      (λ e low. subst (λ (n : ℕ). n ≤ 32) (sym ((heights_kept f e).height)) low) (expressions_in body) h)

  -- ELSIF

  stays_no_if : (y : Layer) → IsNoIf y → IsNoIf (layer_with f y)
  stays_no_if (S.If arms other) h = absurd h
  stays_no_if (S.While test body) h = tt
  stays_no_if (S.Case e arms other) h = tt
  stays_no_if (S.Assign v e) h = tt
  stays_no_if (S.AreaWrite w p e) h = tt
  stays_no_if (S.Invoke n vars) h = tt
  stays_no_if S.Exit h = tt
  stays_no_if S.Continue h = tt
  stays_no_if S.Return h = tt

  elsif_layers : (y : Layer) → HasElsif y → HasElsif (layer_with f y)
  elsif_layers (S.If arms []) h = tt
  elsif_layers (S.If arms (x ∷ [])) h = subst IsNoIf (sym (kinds_kept f x)) (stays_no_if (out-Stmt x) h)
  elsif_layers (S.If arms (x ∷ y ∷ rest)) h = tt
  elsif_layers (S.While test body) h = tt
  elsif_layers (S.Case e arms other) h = tt
  elsif_layers (S.Assign v e) h = tt
  elsif_layers (S.AreaWrite w p e) h = tt
  elsif_layers (S.Invoke n vars) h = tt
  elsif_layers S.Exit h = tt
  elsif_layers S.Continue h = tt
  elsif_layers S.Return h = tt

  pub elsif_kept : (body : List Stmt) → All (λ (x : Stmt). HasElsif (out-Stmt x)) (statements_in body)
      → All (λ (x : Stmt). HasElsif (out-Stmt x)) (statements_in (body_with f body))
  elsif_kept body h = all_kept f HasElsif elsif_layers body h

  any_with : (xs : List Stmt) → one_if_any (body_with f xs) ≡ one_if_any xs
  any_with [] = refl
  any_with (x ∷ xs) = refl

module _ (globals : List Located) where
  abbrev name : Var → Var
  name = named_var globals

  arm_layers : (next : Option ℕ) (y : Layer) → selector_arms next (layer_with name y) ≡ selector_arms next y
  arm_layers next (S.Case e arms other) =
      both (λ (b : Bool) (n : ℕ). if b then n else 0) (selector_same globals next e)
      (both (λ (m n : ℕ). m + n) (length-map arms (case_with name)) (any_with name other))
  arm_layers next (S.If arms other) = refl
  arm_layers next (S.While test body) = refl
  arm_layers next (S.Assign v e) = refl
  arm_layers next (S.AreaWrite w p e) = refl
  arm_layers next (S.Invoke n vars) = refl
  arm_layers next S.Exit = refl
  arm_layers next S.Continue = refl
  arm_layers next S.Return = refl

  selector_layers : (next : Option ℕ) (y : Layer) → selector_cases next (layer_with name y) ≡ selector_cases next y
  selector_layers next (S.Case e arms other) = ap (λ (b : Bool). if b then 1 else 0) (selector_same globals next e)
  selector_layers next (S.If arms other) = refl
  selector_layers next (S.While test body) = refl
  selector_layers next (S.Assign v e) = refl
  selector_layers next (S.AreaWrite w p e) = refl
  selector_layers next (S.Invoke n vars) = refl
  selector_layers next S.Exit = refl
  selector_layers next S.Continue = refl
  selector_layers next S.Return = refl

  other_layers : (next : Option ℕ) (y : Layer) → other_cases next (layer_with name y) ≡ other_cases next y
  other_layers next (S.Case e arms other) = ap (λ (b : Bool). if b then 0 else 1) (selector_same globals next e)
  other_layers next (S.If arms other) = refl
  other_layers next (S.While test body) = refl
  other_layers next (S.Assign v e) = refl
  other_layers next (S.AreaWrite w p e) = refl
  other_layers next (S.Invoke n vars) = refl
  other_layers next S.Exit = refl
  other_layers next S.Continue = refl
  other_layers next S.Return = refl

  no_more : (m n : ℕ) → m ≡ n → m ≤ n
  no_more m n e = omega arith

  pub named_no_larger : (body : List Stmt) → IsNoLarger body (body_with name body)
  named_no_larger body =
      record {
        loops = no_more (count_in loops (body_with name body)) (count_in loops body) (count_kept name loops (loop_layers name) body);
        tests = no_more (count_in tests (body_with name body)) (count_in tests body) (count_kept name tests (test_layers name) body);
        selectors = λ next.
            no_more (count_in (selector_cases next) (body_with name body)) (count_in (selector_cases next) body)
            (count_kept name (selector_cases next) (selector_layers next) body);
        arms = λ next.
            no_more (count_in (selector_arms next) (body_with name body)) (count_in (selector_arms next) body)
            (count_kept name (selector_arms next) (arm_layers next) body);
        cases = λ next.
            no_more (count_in (other_cases next) (body_with name body)) (count_in (other_cases next) body)
            (count_kept name (other_cases next) (other_layers next) body);
        selector = λ next h. all_kept name (KeepsSelector next) (selector_kept globals next) body h;
        low = low_kept name body;
        depth = no_more (body_depth (body_with name body)) (body_depth body) (depth_kept name body);
      }

pub no_larger_than : (first second third : List Stmt) → IsNoLarger first second → IsNoLarger second third → IsNoLarger first third
no_larger_than first second third h k =
    record {
      loops = (let a = h.loops in let b = k.loops in omega arith);
      tests = (let a = h.tests in let b = k.tests in omega arith);
      selectors = λ next. (let a = h.selectors next in let b = k.selectors next in omega arith);
      arms = λ next. (let a = h.arms next in let b = k.arms next in omega arith);
      cases = λ next. (let a = h.cases next in let b = k.cases next in omega arith);
      selector = λ next s. k.selector next (h.selector next s);
      low = λ s. k.low (h.low s);
      depth = (let a = h.depth in let b = k.depth in omega arith);
    }
