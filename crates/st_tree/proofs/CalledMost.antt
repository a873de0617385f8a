-- The greatest of what the units give that a body calls, by its statements.
use Rattle.st_tree.proofs.Common.{◌≡◌, ℕ, max, List, [], ◌∷◌, ◌++◌, map, ap, ◌∙◌, arith, append_assoc, flat_map-append, Width, called_in, greatest, call_step, calls_in, statements_in, Expr, Var, Arm, CaseArm, Stmt, out-Stmt, roll-Stmt}
use Rattle.std.specs.List.{flat_map}
use Rattle.st_tree.specs.declared.program.Stmt.TheOpen as S
use Rattle.st_tree.specs.declared.program.Stmt.TheVariants as stmt
use Rattle.st_tree.proofs.PartEquations.{gathered_append, gathered_first, inner_bodies}

module _ (f : ℕ → ℕ) where
  -- the greatest that the units of some calls give
  abbrev most : List (ℕ × List Var) → ℕ
  most calls = greatest (map f (map (λ (call : ℕ × List Var). call.0) calls))

  both : (xs ys : List (ℕ × List Var)) → most (xs ++ ys) ≡ max (most xs) (most ys)
  both [] ys = omega arith
  both (x ∷ xs) ys = omega (arith, both xs ys)

  -- the greatest that the units give that a body calls
  abbrev pub called_most : List Stmt → ℕ
  called_most body = greatest (map f (called_in body))

  -- and the one that some statements call, apart from those in them
  abbrev called_by : List Stmt → ℕ
  called_by xs = most (flat_map (λ (x : Stmt). call_step (out-Stmt x)) xs)

  called_both : (xs ys : List Stmt) → called_by (xs ++ ys) ≡ max (called_by xs) (called_by ys)
  called_both xs ys =
      ap most (flat_map-append (λ (x : Stmt). call_step (out-Stmt x)) xs ys)
      ∙ both (flat_map (λ (x : Stmt). call_step (out-Stmt x)) xs) (flat_map (λ (x : Stmt). call_step (out-Stmt x)) ys)

  abbrev pub called_in_arm : Arm → ℕ
  called_in_arm arm = called_most arm.body

  abbrev pub called_in_case : CaseArm → ℕ
  called_in_case arm = called_most arm.body

  pub called_first : (x : Stmt) (rest : List Stmt)
      → called_most (x ∷ rest) ≡ max (called_most (x ∷ [])) (called_most rest)
  called_first x rest =
      ap most (gathered_append call_step (x ∷ []) rest) ∙ both (calls_in (x ∷ [])) (calls_in rest)

  pub called_last : (xs : List Stmt) (x : Stmt)
      → called_most (xs ++ x ∷ []) ≡ max (called_most xs) (called_most (x ∷ []))
  called_last xs x = ap most (gathered_append call_step xs (x ∷ [])) ∙ both (calls_in xs) (calls_in (x ∷ []))

  -- of one statement, by its layer
  one : {x : Stmt} (y : S.Stmt-F Stmt Arm CaseArm) → roll-Stmt y ≡ x
      → called_most (x ∷ []) ≡ max (most (call_step y)) (called_by (inner_bodies y))
  one y e =
      let inner : List (ℕ × List Var) = flat_map (λ (x : Stmt). call_step (out-Stmt x)) (inner_bodies y) in
      omega (arith, ap most (gathered_first call_step y e []), both (call_step y) (inner ++ []), both inner [])

  pub called_assign : (v : Var) (e : Expr) → called_most (stmt.Assign v e ∷ []) ≡ 0
  called_assign v e = one (S.Assign v e) (stmt.rolls-Assign v e)

  pub called_area_write : (w : Width) (p e : Expr) → called_most (stmt.AreaWrite w p e ∷ []) ≡ 0
  called_area_write w p e = one (S.AreaWrite w p e) (stmt.rolls-AreaWrite w p e)

  pub called_invoke : (n : ℕ) (actuals : List Var) → called_most (stmt.Invoke n actuals ∷ []) ≡ f n
  called_invoke n actuals = omega (arith, one (S.Invoke n actuals) (stmt.rolls-Invoke n actuals))

  -- of the arms of an IF or of a CASE, and of what stands after ELSE
  over_bodies : {X : Type 0} (body_of : X → List Stmt) (arms : List X) (other : List Stmt)
      → called_by (flat_map (λ (x : X). statements_in (body_of x)) arms ++ statements_in other)
      ≡ max (greatest (map (λ (x : X). called_most (body_of x)) arms)) (called_most other)
  over_bodies body_of [] other = omega arith
  over_bodies {X} body_of (x ∷ xs) other =
      let more = flat_map (λ (x : X). statements_in (body_of x)) xs in
      let split = called_both (statements_in (body_of x)) (more ++ statements_in other) in
      let same = append_assoc (statements_in (body_of x)) more (statements_in other) in
      omega (arith, ap called_by same, split, over_bodies body_of xs other)

  pub called_if : (arms : List Arm) (other : List Stmt) → called_most (stmt.If arms other ∷ [])
      ≡ max (greatest (map called_in_arm arms)) (called_most other)
  called_if arms other =
      let bodies = over_bodies (λ (arm : Arm). arm.body) arms other in
      omega (arith, one (S.If arms other) (stmt.rolls-If arms other), bodies)

  pub called_case : (e : Expr) (arms : List CaseArm) (other : List Stmt)
      → called_most (stmt.Case e arms other ∷ [])
      ≡ max (greatest (map called_in_case arms)) (called_most other)
  called_case e arms other =
      let bodies = over_bodies (λ (arm : CaseArm). arm.body) arms other in
      omega (arith, one (S.Case e arms other) (stmt.rolls-Case e arms other), bodies)

  pub called_while : (test : Expr) (body : List Stmt) → called_most (stmt.While test body ∷ []) ≡ called_most body
  called_while test body = omega (arith, one (S.While test body) (stmt.rolls-While test body))

  pub called_exit : called_most (stmt.Exit ∷ []) ≡ 0
  called_exit = one S.Exit stmt.rolls-Exit

  pub called_continue : called_most (stmt.Continue ∷ []) ≡ 0
  called_continue = one S.Continue stmt.rolls-Continue

  pub called_return : called_most (stmt.Return ∷ []) ≡ 0
  called_return = one S.Return stmt.rolls-Return
