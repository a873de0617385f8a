-- What is made of statements stands no deeper than they do.
use Rattle.std.proofs.Common.{◌≡◌, ℕ, suc, ◌-◌, ◌≤◌, max, List, [], ◌∷◌, ◌++◌, map, arith}
use Rattle.condition_laws.specs.Depth.{arm_depth, arm_step, body_depth, case_depth, case_step, depth_of, depth_step}
use Rattle.condition_laws.specs.inner.Negation.{negation}
use Rattle.condition_laws.specs.inner.Rewriting.{otherwise}
use Rattle.condition_laws.proofs.Rewrites.{Rules, arms_with, bodies, cases_with, handed_on}
use Rattle.s7_base.specs.Numbers.{greatest}
use Rattle.st_tree.proofs.Equations.{fold_stmt}
use Rattle.st_tree.proofs.Induction.{Each}
use Rattle.st_tree.specs.declared.expr.Expr.{Expr}
use Rattle.st_tree.specs.declared.program.Arm.{Arm, fold_out-Arm}
use Rattle.st_tree.specs.declared.program.CaseArm.{CaseArm, fold_out-CaseArm}
use Rattle.st_tree.specs.declared.program.Stmt.{Stmt, map-Stmt, roll-Stmt}
use Rattle.st_tree.specs.declared.program.Stmt.TheOpen as S
use Rattle.st_tree.specs.declared.program.Stmt.TheVariants as stmt

depth_is : {x : Stmt} (y : S.Stmt-F Stmt Arm CaseArm) → roll-Stmt y ≡ x
    → depth_of x ≡ depth_step (map-Stmt Stmt Arm CaseArm ℕ ℕ ℕ depth_of arm_depth case_depth y)
depth_is y e = fold_stmt ℕ ℕ ℕ depth_step arm_step case_step y e

depth_if : (arms : List Arm) (other : List Stmt) → depth_of (stmt.If arms other) ≡ suc (max (greatest (map arm_depth arms)) (body_depth other))
depth_if arms other = depth_is (S.If arms other) (stmt.rolls-If arms other)

depth_case : (e : Expr) (arms : List CaseArm) (other : List Stmt)
    → depth_of (stmt.Case e arms other) ≡ suc (max (greatest (map case_depth arms)) (body_depth other))
depth_case e arms other = depth_is (S.Case e arms other) (stmt.rolls-Case e arms other)

depth_while : (test : Expr) (body : List Stmt) → depth_of (stmt.While test body) ≡ suc (body_depth body)
depth_while test body = depth_is (S.While test body) (stmt.rolls-While test body)

depth_arm : (x : Arm) → arm_depth x ≡ body_depth x.body
depth_arm x = fold_out-Arm ℕ ℕ ℕ depth_step arm_step case_step x

depth_case_arm : (x : CaseArm) → case_depth x ≡ body_depth x.body
depth_case_arm x = fold_out-CaseArm ℕ ℕ ℕ depth_step arm_step case_step x

append_depth : (xs ys : List Stmt) → body_depth (xs ++ ys) ≡ max (body_depth xs) (body_depth ys)
append_depth [] ys = omega arith
append_depth (x ∷ xs) ys = let rest : body_depth (xs ++ ys) ≡ max (body_depth xs) (body_depth ys) = append_depth xs ys in omega arith

arms_append : (xs ys : List Arm) → greatest (map arm_depth (xs ++ ys)) ≡ max (greatest (map arm_depth xs)) (greatest (map arm_depth ys))
arms_append [] ys = omega arith
arms_append (x ∷ xs) ys =
    let rest : greatest (map arm_depth (xs ++ ys)) ≡ max (greatest (map arm_depth xs)) (greatest (map arm_depth ys)) = arms_append xs ys in
    omega arith

-- it stands no deeper
abbrev NoDeeper : ℕ → List Stmt → List Stmt → Type 0
NoDeeper room xs ys = body_depth ys ≤ body_depth xs

arms_no_deeper : (room : ℕ) (g : List Stmt → List Stmt) (arms : List Arm) → Each (λ (arm : Arm). NoDeeper room arm.body (g arm.body)) arms
    → greatest (map arm_depth (arms_with g arms)) ≤ greatest (map arm_depth arms)
arms_no_deeper room g [] all = omega arith
arms_no_deeper room g (x ∷ xs) all =
    let old : arm_depth x ≡ body_depth x.body = depth_arm x in
    let new : arm_depth (record { test = x.test; body = g x.body }) ≡ body_depth (g x.body) = depth_arm (record { test = x.test; body = g x.body }) in
    let own : body_depth (g x.body) ≤ body_depth x.body = all.0 in
    let rest : greatest (map arm_depth (arms_with g xs)) ≤ greatest (map arm_depth xs) = arms_no_deeper room g xs all.1 in
    omega arith

cases_no_deeper : (room : ℕ) (g : List Stmt → List Stmt) (arms : List CaseArm)
    → Each (λ (arm : CaseArm). NoDeeper room arm.body (g arm.body)) arms
    → greatest (map case_depth (cases_with g arms)) ≤ greatest (map case_depth arms)
cases_no_deeper room g [] all = omega arith
cases_no_deeper room g (x ∷ xs) all =
    let old : case_depth x ≡ body_depth x.body = depth_case_arm x in
    let new : case_depth (record { labels = x.labels; body = g x.body }) ≡ body_depth (g x.body)
    = depth_case_arm (record { labels = x.labels; body = g x.body }) in
    let own : body_depth (g x.body) ≤ body_depth x.body = all.0 in
    let rest : greatest (map case_depth (cases_with g xs)) ≤ greatest (map case_depth xs) = cases_no_deeper room g xs all.1 in
    omega arith

same : (xs : List Stmt) → body_depth xs ≤ body_depth xs
same xs = omega arith

more_no_deeper : (x y : Stmt) (xs ys : List Stmt) → body_depth (y ∷ []) ≤ body_depth (x ∷ []) → body_depth ys ≤ body_depth xs
    → body_depth (y ∷ ys) ≤ body_depth (x ∷ xs)
more_no_deeper x y xs ys h k = omega (arith, h, k)

choice_no_deeper : (room : ℕ) (g : List Stmt → List Stmt) (arms : List Arm) (other : List Stmt)
    → Each (λ (arm : Arm). NoDeeper (room - 1) arm.body (g arm.body)) arms → body_depth (g other) ≤ body_depth other
    → body_depth (stmt.If (arms_with g arms) (g other) ∷ []) ≤ body_depth (stmt.If arms other ∷ [])
choice_no_deeper room g arms other all rest =
    omega (arith, depth_if arms other, depth_if (arms_with g arms) (g other), arms_no_deeper (room - 1) g arms all, rest)

selection_no_deeper : (room : ℕ) (g : List Stmt → List Stmt) (e : Expr) (arms : List CaseArm) (other : List Stmt)
    → Each (λ (arm : CaseArm). NoDeeper (room - 1) arm.body (g arm.body)) arms → body_depth (g other) ≤ body_depth other
    → body_depth (stmt.Case e (cases_with g arms) (g other) ∷ []) ≤ body_depth (stmt.Case e arms other ∷ [])
selection_no_deeper room g e arms other all rest =
    omega (arith, depth_case e arms other, depth_case e (cases_with g arms) (g other), cases_no_deeper (room - 1) g arms all, rest)

loop_no_deeper : (g : List Stmt → List Stmt) (test : Expr) (body : List Stmt) → body_depth (g body) ≤ body_depth body
    → body_depth (stmt.While test (g body) ∷ []) ≤ body_depth (stmt.While test body ∷ [])
loop_no_deeper g test body h = omega (arith, depth_while test body, depth_while test (g body), h)

join_no_deeper : (arms more : List Arm) (last : List Stmt)
    → body_depth (stmt.If (arms ++ more) last ∷ []) ≤ body_depth (stmt.If arms (stmt.If more last ∷ []) ∷ [])
join_no_deeper arms more last =
    omega (arith, depth_if arms (stmt.If more last ∷ []), depth_if more last, depth_if (arms ++ more) last, arms_append arms more)

lead_no_deeper : (always : Expr) (arm : Arm) (rest : List Stmt)
    → body_depth (stmt.While arm.test (arm.body ++ rest) ∷ [])
    ≤ body_depth (stmt.While always (stmt.If (arm ∷ []) (stmt.Exit ∷ []) ∷ rest) ∷ [])
lead_no_deeper always arm rest =
    let old = depth_while always (stmt.If (arm ∷ []) (stmt.Exit ∷ []) ∷ rest) in
    let choice = depth_if (arm ∷ []) (stmt.Exit ∷ []) in
    let own = depth_arm arm in
    let new = depth_while arm.test (arm.body ++ rest) in
    omega (arith, old, choice, own, new, append_depth arm.body rest)

otherwise_no_deeper : (arm : Arm) (more : List Arm) (other : List Stmt) → body_depth (otherwise more other) ≤ depth_of (stmt.If (arm ∷ more) other)
otherwise_no_deeper arm [] other = omega (arith, depth_if (arm ∷ []) other)
otherwise_no_deeper arm (x ∷ xs) other = omega (arith, depth_if (arm ∷ x ∷ xs) other, depth_if (x ∷ xs) other)

opposite_no_deeper : (always : Expr) (arm : Arm) (more : List Arm) (other rest : List Stmt)
    → body_depth (stmt.While (negation arm.test) (otherwise more other ++ rest) ∷ [])
    ≤ body_depth (stmt.While always (stmt.If (arm ∷ more) other ∷ rest) ∷ [])
opposite_no_deeper always arm more other rest =
    let old = depth_while always (stmt.If (arm ∷ more) other ∷ rest) in
    let new = depth_while (negation arm.test) (otherwise more other ++ rest) in
    omega (arith, old, new, append_depth (otherwise more other) rest, otherwise_no_deeper arm more other)

depth_rules : Rules NoDeeper
depth_rules =
    record {
      assign = λ room v e. same (stmt.Assign v e ∷ []);
      area_write = λ room w p e. same (stmt.AreaWrite w p e ∷ []);
      invoke = λ room n vars. same (stmt.Invoke n vars ∷ []);
      exit = λ room. same (stmt.Exit ∷ []);
      continue = λ room. same (stmt.Continue ∷ []);
      return = λ room. same (stmt.Return ∷ []);
      none = λ room. same [];
      more = λ room x y xs ys h k. more_no_deeper x y xs ys h k;
      choice = choice_no_deeper;
      selection = selection_no_deeper;
      loop = λ room g test body h. loop_no_deeper g test body h;
      join = λ room xs arms more last h. let step = join_no_deeper arms more last in omega (arith, h, step);
      lead = λ room xs always arm rest a some high h. let step = lead_no_deeper always arm rest in omega (arith, h, step);
      opposite = λ room xs always arm more other rest a some high is h.
          let step = opposite_no_deeper always arm more other rest in omega (arith, h, step);
    }

pub no_deeper : (room : ℕ) (body : List Stmt) → body_depth (bodies room body) ≤ body_depth body
no_deeper room body = handed_on NoDeeper depth_rules room body
