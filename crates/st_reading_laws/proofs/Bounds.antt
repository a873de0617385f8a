-- The greatest that the units cost which some calls call, by the parts of statements.
use Rattle.st_tree.proofs.Common.{◌≡◌, ℕ, ◌≤◌, max, ◌++◌, ℤ, List, [], ◌∷◌, map, ap, ◌∙◌, arith, Line, greatest}
use Rattle.call_chains.specs.declared.call.Call.{Call}
use Rattle.st_reading_laws.proofs.Actions.{calls_arm, calls_at, calls_case_arm, on_line, raw_arm, raw_case}
use Rattle.st_reading_laws.proofs.Lists.{map_last}
use Rattle.st_rules.proofs.Common.{all_calls, calls_of, calls_of_arm, calls_of_case_arm, join_calls, StType, RawArm, RawCaseArm, RawExpr, RawStmt}
use Rattle.st_names.specs.declared.scope.NameScope.{NameScope}
use Rattle.st_tree.specs.declared.raw.RawStmtKind.TheOpen as K
use Rattle.st_tree.specs.declared.raw.RawStmtKind.TheVariants as raw

-- the greatest that the called units cost
abbrev pub bound : (ℕ → ℕ) → List Call → ℕ
bound f [] = 0
bound f (c ∷ cs) = max (f c.callee) (bound f cs)

pub bound_joined : (f : ℕ → ℕ) (xs ys : List Call) → bound f (xs ++ ys) ≡ max (bound f xs) (bound f ys)
bound_joined f [] ys = omega arith
bound_joined f (x ∷ xs) ys = omega (arith, bound_joined f xs ys)

pub bound_none : (f : ℕ → ℕ) (cs : List Call) (n : ℕ) → cs ≡ [] → bound f cs ≤ n
bound_none f cs n e = let none : bound f cs ≡ 0 = ap (bound f) e in omega (arith, none)

bound_last : (f : ℕ → ℕ) (parts : List (List Call)) (cs : List Call)
    → bound f (join_calls (parts ++ cs ∷ [])) ≡ max (bound f (join_calls parts)) (bound f cs)
bound_last f [] cs = omega (arith, bound_joined f cs [])
bound_last f (first ∷ parts) cs = omega (
  arith,
  bound_joined f first (join_calls (parts ++ cs ∷ [])),
  bound_last f parts cs,
  bound_joined f first (join_calls parts),
)

-- the greatest of some numbers and one more
pub greatest_last : {X : Type 0} (f : X → ℕ) (xs : List X) (x : X)
    → greatest (map f (xs ++ x ∷ [])) ≡ max (greatest (map f xs)) (f x)
greatest_last f [] x = omega arith
greatest_last f (y ∷ xs) x = omega (arith, greatest_last f xs x)

module _ (f : ℕ → ℕ) (s : NameScope) where
  abbrev pub bound_all : List RawStmt → ℕ
  bound_all xs = bound f (all_calls s xs)

  abbrev pub bound_arms : List RawArm → ℕ
  bound_arms xs = bound f (join_calls (map (calls_of_arm s) xs))

  abbrev pub bound_cases : List RawCaseArm → ℕ
  bound_cases xs = bound f (join_calls (map (calls_of_case_arm s) xs))

  pub all_last : (xs : List RawStmt) (x : RawStmt)
      → bound_all (xs ++ x ∷ []) ≡ max (bound_all xs) (bound f (calls_of s x))
  all_last xs x = ap (λ z. bound f (join_calls z)) (map_last (calls_of s) xs x)
      ∙ bound_last f (map (calls_of s) xs) (calls_of s x)

  pub arms_last : (xs : List RawArm) (e : RawExpr) (body : List RawStmt)
      → bound_arms (xs ++ raw_arm e body ∷ []) ≡ max (bound_arms xs) (bound_all body)
  arms_last xs e body =
      ap (λ z. bound f (join_calls z)) (map_last (calls_of_arm s) xs (raw_arm e body))
      ∙ bound_last f (map (calls_of_arm s) xs) (calls_of_arm s (raw_arm e body))
      ∙ ap (λ z. max (bound_arms xs) (bound f z)) (calls_arm s e body)

  pub cases_last : (xs : List RawCaseArm) (labels : List (StType × ℤ)) (body : List RawStmt)
      → bound_cases (xs ++ raw_case labels body ∷ []) ≡ max (bound_cases xs) (bound_all body)
  cases_last xs labels body =
      ap (λ z. bound f (join_calls z)) (map_last (calls_of_case_arm s) xs (raw_case labels body))
      ∙ bound_last f (map (calls_of_case_arm s) xs) (calls_of_case_arm s (raw_case labels body))
      ∙ ap (λ z. max (bound_cases xs) (bound f z)) (calls_case_arm s labels body)

  pub bound_if : (l : Line) (arms : List RawArm) (other : List RawStmt)
      → bound f (calls_of s (on_line l (raw.If arms other))) ≡ max (bound_arms arms) (bound_all other)
  bound_if l arms other = ap (bound f) (calls_at s l (K.If arms other) (raw.rolls-If arms other))
      ∙ bound_joined f (join_calls (map (calls_of_arm s) arms)) (all_calls s other)

  pub bound_case : (l : Line) (e : RawExpr) (arms : List RawCaseArm) (other : List RawStmt)
      → bound f (calls_of s (on_line l (raw.Case e arms other))) ≡ max (bound_cases arms) (bound_all other)
  bound_case l e arms other =
      ap (bound f) (calls_at s l (K.Case e arms other) (raw.rolls-Case e arms other))
      ∙ bound_joined f (join_calls (map (calls_of_case_arm s) arms)) (all_calls s other)

  pub bound_while : (l : Line) (e : RawExpr) (body : List RawStmt)
      → bound f (calls_of s (on_line l (raw.While e body))) ≡ bound_all body
  bound_while l e body = ap (bound f) (calls_at s l (K.While e body) (raw.rolls-While e body))
