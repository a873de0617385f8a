-- The statements of the nodes of a plain unit nest at most 64 deep.
use Rattle.std.proofs.Common.{◌≡◌, ℕ, suc, ◌+◌, ◌*◌, ◌≤◌, pos, max, List, [], ◌∷◌, ◌++◌, refl, ap, ◌∙◌, subst, arith}
use Rattle.std.specs.Prelude.{All, flat_map}
use Rattle.std.proofs.lemmas.List.{append-nil}
use Rattle.std.proofs.lemmas.List.Elements.{All-head, All-tail}
use Rattle.graph_rules.proofs.Nesting.{nests_at_most_twice}
use Rattle.graph_rules.specs.Plain.{AreSteps, IsGuarded, node_statements, test_of}
use Rattle.region_laws.proofs.Steps.{HavePlainSteps, each_guarded, each_step}
use Rattle.region_types.proofs.Lists.{all_parts}
use Rattle.region_types.proofs.Nests.{append_nests, choice_nests, test_nests, value_nests}
use Rattle.region_types.specs.ProperLaw.{PlainNodesAreLow}
use Rattle.s7_base.specs.declared.word.Width.{Width}
use Rattle.st_tree.specs.BodyParts.{expressions_in, expressions_step, height, statements_in}
use Rattle.st_tree.specs.Nesting.{body_nesting, expression_nesting, nesting}
use Rattle.st_tree.specs.declared.expr.Expr.{Expr}
use Rattle.st_tree.specs.declared.expr.Var.{Var}
use Rattle.st_tree.specs.declared.graph.StExit.{StExit}
use Rattle.st_tree.specs.declared.graph.StExit.TheVariants as exit
use Rattle.st_tree.specs.declared.graph.StNode.{StNode}
use Rattle.st_tree.specs.declared.program.Arm.{Arm}
use Rattle.st_tree.specs.declared.program.Stmt.{Stmt, out-Stmt}
use Rattle.st_tree.specs.declared.program.Stmt.TheOpen as S
use Rattle.st_tree.specs.declared.program.Stmt.TheVariants as stmt
use Rattle.st_tree.proofs.PartEquations.{expressions_in_append, expressions_in_area_write, expressions_in_assign, gathered_first}
use Rattle.st_tree.proofs.TypingEquations.{nesting_area_write, nesting_assign, nesting_invoke}

-- the expressions of some statements, but those inside them
abbrev expressions_of : List Stmt → List Expr
expressions_of xs = flat_map (λ (x : Stmt). expressions_step (out-Stmt x)) xs

abbrev Low : Expr → Type 0
Low e = height e ≤ 32

-- the expressions of some statements are low
abbrev AreLow : List Stmt → Type 0
AreLow xs = All Low (expressions_in xs)

low_parts : (xs ys : List Stmt) → AreLow (xs ++ ys) → AreLow xs × AreLow ys
low_parts xs ys h = all_parts Low (expressions_in xs) (expressions_in ys) (subst (All Low) (expressions_in_append xs ys) h)

low_nests : (e : Expr) → Low e → expression_nesting e ≤ 62
low_nests e h = let twice : expression_nesting e + 2 ≤ 2 * height e = nests_at_most_twice e in omega arith

-- a statement opens at most so many levels where its expressions are low
abbrev Nests : ℕ → Stmt → Type 0
Nests k x = AreLow (x ∷ []) → nesting x ≤ k

all_nest : (k : ℕ) (xs : List Stmt) → All (Nests k) xs → AreLow xs → body_nesting xs ≤ k
all_nest k [] all low = omega arith
all_nest k (x ∷ xs) all low =
    let parts = low_parts (x ∷ []) xs low in
    let own : nesting x ≤ k = All-head (Nests k) x xs all parts.0 in
    let rest : body_nesting xs ≤ k = all_nest k xs (All-tail (Nests k) x xs all) parts.1 in
    omega arith

module _ (k : ℕ) (enough : 63 ≤ k) where
  assign_nests : (v : Var) (e : Expr) → Nests k (stmt.Assign v e)
  assign_nests v e low =
      let flat : expression_nesting e ≤ 62 = low_nests e (All-head Low e [] (subst (All Low) (expressions_in_assign v e []) low)) in
      let own : nesting (stmt.Assign v e) ≡ expression_nesting e = nesting_assign v e in
      omega arith

  write_nests : (w : Width) (p e : Expr) → Nests k (stmt.AreaWrite w p e)
  write_nests w p e low =
      let all : All Low (p ∷ e ∷ []) = subst (All Low) (expressions_in_area_write w p e []) low in
      let one : expression_nesting p ≤ 62 = low_nests p (All-head Low p (e ∷ []) all) in
      let two : expression_nesting e ≤ 62 = low_nests e (All-head Low e [] (All-tail Low p (e ∷ []) all)) in
      let own : nesting (stmt.AreaWrite w p e) ≡ suc (max (expression_nesting p) (expression_nesting e)) = nesting_area_write w p e in
      omega arith

  call_nests : (n : ℕ) (vars : List Var) → Nests k (stmt.Invoke n vars)
  call_nests n vars low = omega (arith, nesting_invoke n vars)

-- the test of a guarded call, and what is inside it
guard_low : (arm : Arm) → AreLow (stmt.If (arm ∷ []) [] ∷ []) → Low arm.test × AreLow arm.body
guard_low arm h =
    let all : All Low (arm.test ∷ expressions_in arm.body) = subst (All Low) same h in
    (All-head Low arm.test (expressions_in arm.body) all, All-tail Low arm.test (expressions_in arm.body) all)
  where
    same : expressions_in (stmt.If (arm ∷ []) [] ∷ []) ≡ arm.test ∷ expressions_in arm.body
    same =
        gathered_first expressions_step (S.If (arm ∷ []) []) (stmt.rolls-If (arm ∷ []) []) []
        ∙ ap (λ (es : List Expr). arm.test ∷ es)
        (append-nil (expressions_of ((statements_in arm.body ++ []) ++ []))
        ∙ ap expressions_of (append-nil (statements_in arm.body ++ []) ∙ append-nil (statements_in arm.body)))

guard_nests : (arm : Arm) → IsGuarded arm.body → Nests 64 (stmt.If (arm ∷ []) [])
guard_nests arm guarded low =
    let parts = guard_low arm low in
    let test : expression_nesting arm.test ≤ 62 = low_nests arm.test parts.0 in
    let calls = each_guarded (Nests 63) (assign_nests 63 (omega arith)) (call_nests 63 (omega arith)) arm.body guarded in
    choice_nests 63 arm.test arm.body [] (omega arith) (all_nest 63 arm.body calls parts.1) (omega arith)

steps_nest : (xs : List Stmt) → AreSteps xs → AreLow xs → body_nesting xs ≤ 64
steps_nest xs h =
    all_nest 64 xs (each_step (Nests 64) (assign_nests 64 (omega arith)) (call_nests 64 (omega arith)) (write_nests 64 (omega arith)) guard_nests xs h)

branch_nests : (e : Expr) → AreLow (test_of (exit.EndIf e)) → body_nesting (test_of (exit.EndIf e)) ≤ 64
branch_nests e low =
    let test : expression_nesting e ≤ 62 = low_nests e (guard_low (record { test = e; body = [] }) low).0 in omega (arith, test_nests e)

table_nests : (e : Expr) → AreLow (test_of (exit.Table e [] 0)) → body_nesting (test_of (exit.Table e [] 0)) ≤ 64
table_nests e low =
    let all = subst (All Low)
    (gathered_first expressions_step (S.Case e (record { labels = pos 0 ∷ []; body = [] } ∷ []) [])
    (stmt.rolls-Case e (record { labels = pos 0 ∷ []; body = [] } ∷ []) []) []) low in
    let value : expression_nesting e ≤ 62 = low_nests e (All-head Low e [] all) in
    omega (arith, value_nests e)

exit_nests : (x : StExit) → AreLow (test_of x) → body_nesting (test_of x) ≤ 64
exit_nests exit.Fall low = omega arith
exit_nests (exit.Jump j) low = omega arith
exit_nests (exit.Branch e j) low = branch_nests e low
exit_nests (exit.EndIf e) low = branch_nests e low
exit_nests (exit.Table e targets last) low = table_nests e low
exit_nests exit.End low = omega arith

nodes_nest : (nodes : List StNode) → HavePlainSteps nodes → AreLow (node_statements nodes)
    → body_nesting (node_statements nodes) ≤ 64
nodes_nest [] plain low = omega arith
nodes_nest (x ∷ rest) plain low =
    let parts = low_parts (x.steps ++ test_of x.exit) (node_statements rest) low in
    let own = low_parts x.steps (test_of x.exit) parts.0 in
    let steps : body_nesting x.steps ≤ 64 = steps_nest x.steps (plain 0 x refl) own.0 in
    let test : body_nesting (test_of x.exit) ≤ 64 = exit_nests x.exit own.1 in
    let more : body_nesting (node_statements rest) ≤ 64 = nodes_nest rest (λ i. plain (suc i)) parts.1 in
    let first : body_nesting (x.steps ++ test_of x.exit) ≡ max (body_nesting x.steps) (body_nesting (test_of x.exit)) =
    append_nests x.steps (test_of x.exit) in
    let whole : body_nesting ((x.steps ++ test_of x.exit) ++ node_statements rest)
    ≡ max (body_nesting (x.steps ++ test_of x.exit)) (body_nesting (node_statements rest)) =
    append_nests (x.steps ++ test_of x.exit) (node_statements rest) in
    omega arith

pub plain_nodes_are_low : PlainNodesAreLow
plain_nodes_are_low unit plain = nodes_nest unit.graph.nodes (λ i x e. (plain.nodes i x e).steps) plain.low
