-- How deep the text of a region that fits nests.
use Rattle.std.proofs.Common.{◌≡◌, ℕ, zero, suc, ◌+◌, ◌≤◌, pos, max, Bool, true, List, [], ◌∷◌, ◌++◌, map, ap, ◌∙◌, subst, arith}
use Rattle.std.specs.List.{AllByRecursion}
use Rattle.graph_rules.specs.Plain.{node_statements, test_of}
use Rattle.region_laws.specs.NextLocal.{arm_with_label, set_next}
use Rattle.region_laws.specs.Regions.{Region, again, choice, choose, cycle, ended, forever, fork, arms_of_nodes, arms_with_labels, labels_from, leaves, positions_of, node, off, quit, selector, table, text_of, turn_to}
use Rattle.region_types.proofs.Labels.{each_from, each_label}
use Rattle.region_types.proofs.Made.{IsMade, each_node, parts_of}
use Rattle.region_laws.specs.RegionDepth.{depth, most_of}
use Rattle.region_types.specs.TextLaws.{TextIsLow, is_inside}
use Rattle.s7_base.specs.Numbers.{greatest}
use Rattle.st_tree.specs.Nesting.{arm_nesting, body_nesting, case_nesting, expression_nesting, form_nesting, nesting}
use Rattle.st_tree.specs.declared.expr.Expr.{Expr}
use Rattle.st_tree.specs.declared.expr.Expr.TheVariants as expr
use Rattle.st_tree.specs.declared.expr.StType.TheVariants as type
use Rattle.st_tree.specs.declared.expr.Var.TheVariants as var
use Rattle.st_tree.specs.declared.graph.StExit.TheVariants as exit
use Rattle.st_tree.specs.declared.program.Stmt.{Stmt}
use Rattle.st_tree.specs.declared.program.Stmt.TheVariants as stmt
use Rattle.st_tree.proofs.Equations.{canon_literal, canon_read}
use Rattle.st_tree.proofs.TypingEquations.{nesting_arm, nesting_assign, nesting_case, nesting_case_arm, nesting_continue, nesting_exit, nesting_if, nesting_return, nesting_while}

pub append_nests : (xs ys : List Stmt) → body_nesting (xs ++ ys) ≡ max (body_nesting xs) (body_nesting ys)
append_nests [] ys = omega arith
append_nests (x ∷ xs) ys = let rest : body_nesting (xs ++ ys) ≡ max (body_nesting xs) (body_nesting ys) = append_nests xs ys in omega arith

parts_nest : (w : ℕ) (xs ys : List Stmt) → body_nesting (xs ++ ys) ≤ w → (body_nesting xs ≤ w) × (body_nesting ys ≤ w)
parts_nest w xs ys h = let same : body_nesting (xs ++ ys) ≡ max (body_nesting xs) (body_nesting ys) = append_nests xs ys in (omega arith, omega arith)

-- Tests

pub test_nests : (e : Expr) → body_nesting (test_of (exit.EndIf e)) ≡ suc (expression_nesting e)
test_nests e =
    let is : nesting (choice e [] []) ≡ suc (max (max (arm_nesting (record { test = e; body = [] })) 0) 0) =
    nesting_if (record { test = e; body = [] } ∷ []) [] in
    let arm : arm_nesting (record { test = e; body = [] }) ≡ max (expression_nesting e) 0 = nesting_arm (record { test = e; body = [] }) in
    omega arith

pub value_nests : (e : Expr) → body_nesting (test_of (exit.Table e [] 0)) ≡ suc (expression_nesting e)
value_nests e =
    let is : nesting (stmt.Case e (record { labels = pos 0 ∷ []; body = [] } ∷ []) [])
    ≡ suc (max (expression_nesting e) (max (max (case_nesting (record { labels = pos 0 ∷ []; body = [] })) 0) 0)) =
    nesting_case e (record { labels = pos 0 ∷ []; body = [] } ∷ []) [] in
    let arm : case_nesting (record { labels = pos 0 ∷ []; body = [] }) ≡ 0 = nesting_case_arm (record { labels = pos 0 ∷ []; body = [] }) in
    omega arith

-- Statements

pub choice_nests : (k : ℕ) (e : Expr) (there behind : List Stmt) → expression_nesting e ≤ k → body_nesting there ≤ k → body_nesting behind ≤ k
    → nesting (choice e there behind) ≤ suc k
choice_nests k e there behind h l m =
    let is : nesting (choice e there behind) ≡ suc (max (max (arm_nesting (record { test = e; body = there })) 0) (body_nesting behind)) =
    nesting_if (record { test = e; body = there } ∷ []) behind in
    let arm : arm_nesting (record { test = e; body = there }) ≡ max (expression_nesting e) (body_nesting there) =
    nesting_arm (record { test = e; body = there }) in
    omega arith

forever_nests : (body : List Stmt) → nesting (forever body) ≡ suc (body_nesting body)
forever_nests body =
    let is : nesting (forever body) ≡ suc (max (expression_nesting (expr.Literal type.Bool (pos 1))) (body_nesting body)) =
    nesting_while (expr.Literal type.Bool (pos 1)) body in
    let flat : expression_nesting (expr.Literal type.Bool (pos 1)) ≡ 0 = ap form_nesting (canon_literal type.Bool (pos 1)) in
    omega arith

set_nests : (next j : ℕ) → nesting (set_next next j) ≡ 0
set_nests next j =
    nesting_assign (var.Local next) (expr.Literal type.Dint (pos j)) ∙ ap form_nesting (canon_literal type.Dint (pos j))

labelled_nests : (w : ℕ) (bodies : ℕ → List Stmt) (deep : ℕ → ℕ) (labels : List ℕ) → AllByRecursion (λ n. body_nesting (bodies n) ≤ suc (deep n + w)) labels
    → greatest (map case_nesting (arms_with_labels bodies labels)) ≤ suc (most_of deep labels + w)
labelled_nests w bodies deep [] h = omega arith
labelled_nests w bodies deep (n ∷ labels) h =
    let arm : case_nesting (arm_with_label n (bodies n)) ≡ body_nesting (bodies n) = nesting_case_arm (arm_with_label n (bodies n)) in
    let own : body_nesting (bodies n) ≤ suc (deep n + w) = h.0 in
    let rest : greatest (map case_nesting (arms_with_labels bodies labels)) ≤ suc (most_of deep labels + w) = labelled_nests w bodies deep labels h.1 in
    omega arith

listed_nests : (w : ℕ) (targets : List ℕ) (bodies : ℕ → List Stmt) (deep : ℕ → ℕ) (nodes : List ℕ)
    → AllByRecursion (λ n. body_nesting (bodies n) ≤ suc (deep n + w)) nodes
    → greatest (map case_nesting (arms_of_nodes targets bodies nodes)) ≤ suc (most_of deep nodes + w)
listed_nests w targets bodies deep [] h = omega arith
listed_nests w targets bodies deep (n ∷ nodes) h =
    let arm : case_nesting (record { labels = positions_of n 0 targets; body = bodies n }) ≡ body_nesting (bodies n) =
    nesting_case_arm (record { labels = positions_of n 0 targets; body = bodies n }) in
    let own : body_nesting (bodies n) ≤ suc (deep n + w) = h.0 in
    let rest : greatest (map case_nesting (arms_of_nodes targets bodies nodes)) ≤ suc (most_of deep nodes + w) = listed_nests w targets bodies deep nodes h.1 in
    omega arith

-- the last of some labels, and those before it
record IsLast (deep : ℕ → ℕ) (before all : List ℕ) (last : ℕ) : Type 0 where
  more : most_of deep before ≤ most_of deep all
  own : deep last ≤ most_of deep all

last_from : (deep : ℕ → ℕ) (label count last : ℕ) → label + count ≡ last → IsLast deep (labels_from label count) (labels_from label (suc count)) last
last_from deep label zero last e =
    let same : label ≡ last = omega arith in
    let own : deep label ≡ deep last = ap deep same in
    record { more = omega arith; own = omega arith }
last_from deep label (suc count) last e =
    let rest = last_from deep (suc label) count last (omega arith) in
    let more : most_of deep (labels_from (suc label) count) ≤ most_of deep (labels_from (suc label) (suc count)) = rest.more in
    let own : deep last ≤ most_of deep (labels_from (suc label) (suc count)) = rest.own in
    record { more = omega arith; own = omega arith }

-- Regions

module _ (next many w : ℕ) where
  abbrev Within : List Stmt → Type 0
  Within xs = body_nesting xs ≤ w

  -- steps before other statements
  behind_steps : (k : ℕ) (xs ys : List Stmt) → body_nesting xs ≤ w → body_nesting ys ≤ suc (k + w) → body_nesting (xs ++ ys) ≤ suc (k + w)
  behind_steps k xs ys h l = let same : body_nesting (xs ++ ys) ≡ max (body_nesting xs) (body_nesting ys) = append_nests xs ys in omega arith

  first_nests : (k j : ℕ) (x : Stmt) (xs : List Stmt) → nesting x ≤ suc (k + w) → body_nesting xs ≤ suc (j + w) → body_nesting (x ∷ xs) ≤ suc (max k j + w)
  first_nests k j x xs h l = omega arith

  region_nests : (inside : Bool) (r : Region) → IsMade Within (λ n. Unit {0}) many inside r → body_nesting (text_of next r) ≤ suc (depth r + w)
  region_nests inside off h = omega arith
  region_nests inside leaves h = omega (arith, nesting_exit)
  region_nests inside again h = omega (arith, nesting_continue)
  region_nests inside ended h = omega (arith, nesting_return)
  region_nests inside (node steps rest) h = behind_steps (depth rest) steps (text_of next rest) h.0 (region_nests inside rest h.1)
  region_nests inside (fork steps e there behind join rest) h =
      let one : body_nesting (text_of next there) ≤ suc (depth there + w) = region_nests inside there h.2 in
      let two : body_nesting (text_of next behind) ≤ suc (depth behind + w) = region_nests inside behind h.3 in
      let test : suc (expression_nesting e) ≤ w = subst (λ (n : ℕ). n ≤ w) (test_nests e) h.1 in
      let both : nesting (choice e (text_of next there) (text_of next behind)) ≤ suc (suc (max (depth there) (depth behind) + w)) =
      choice_nests (suc (max (depth there) (depth behind) + w)) e (text_of next there) (text_of next behind) (omega arith) (omega arith) (omega arith) in
      behind_steps (depth (fork steps e there behind join rest)) steps (choice e (text_of next there) (text_of next behind) ∷ text_of next rest) h.0
      (first_nests (suc (max (depth there) (depth behind))) (depth rest) (choice e (text_of next there) (text_of next behind)) (text_of next rest) (omega arith)
      (region_nests inside rest h.4))
  region_nests inside (quit steps e rest) h =
      let test : suc (expression_nesting e) ≤ w = subst (λ (n : ℕ). n ≤ w) (test_nests e) h.1 in
      let own : nesting (choice e (stmt.Return ∷ []) []) ≤ suc (suc w) =
      choice_nests (suc w) e (stmt.Return ∷ []) [] (omega arith) (omega (arith, nesting_return)) (omega arith) in
      behind_steps (depth (quit steps e rest)) steps (choice e (stmt.Return ∷ []) [] ∷ text_of next rest) h.0
      (first_nests 1 (depth rest) (choice e (stmt.Return ∷ []) []) (text_of next rest) (omega arith) (region_nests inside rest h.2))
  region_nests inside (table steps e count arms join rest) h =
      let test : suc (expression_nesting e) ≤ w = subst (λ (n : ℕ). n ≤ w) (value_nests e) h.1 in
      let last = last_from (λ n. depth (arms n)) 0 count count (omega arith) in
      let more : most_of (λ n. depth (arms n)) (labels_from 0 count) ≤ most_of (λ n. depth (arms n)) (labels_from 0 (suc count)) = last.more in
      let own : depth (arms count) ≤ most_of (λ n. depth (arms n)) (labels_from 0 (suc count)) = last.own in
      let each : greatest (map case_nesting (arms_with_labels (λ n. text_of next (arms n)) (labels_from 0 count)))
      ≤ suc (most_of (λ n. depth (arms n)) (labels_from 0 count) + w) =
      labelled_nests w (λ n. text_of next (arms n)) (λ n. depth (arms n)) (labels_from 0 count)
      (each_from (λ n. body_nesting (text_of next (arms n)) ≤ suc (depth (arms n) + w)) 0 count (λ n l. region_nests inside (arms n) (h.3 n (omega arith)))) in
      let other : body_nesting (text_of next (arms count)) ≤ suc (depth (arms count) + w) = region_nests inside (arms count) (h.3 count (omega arith)) in
      let is : nesting (stmt.Case e (arms_with_labels (λ n. text_of next (arms n)) (labels_from 0 count)) (text_of next (arms count)))
      ≡ suc (max (expression_nesting e) (max (greatest (map case_nesting (arms_with_labels (λ n. text_of next (arms n)) (labels_from 0 count))))
      (body_nesting (text_of next (arms count))))) =
      nesting_case e (arms_with_labels (λ n. text_of next (arms n)) (labels_from 0 count)) (text_of next (arms count)) in
      behind_steps (depth (table steps e count arms join rest)) steps
      (stmt.Case e (arms_with_labels (λ n. text_of next (arms n)) (labels_from 0 count)) (text_of next (arms count)) ∷ text_of next rest) h.0
      (first_nests (suc (most_of (λ n. depth (arms n)) (labels_from 0 (suc count)))) (depth rest)
      (stmt.Case e (arms_with_labels (λ n. text_of next (arms n)) (labels_from 0 count)) (text_of next (arms count))) (text_of next rest) (omega arith)
      (region_nests inside rest h.4))
  region_nests inside (choose steps e targets nodes arms other join rest) h =
      let test : suc (expression_nesting e) ≤ w = subst (λ (n : ℕ). n ≤ w) (value_nests e) h.1 in
      let each : greatest (map case_nesting (arms_of_nodes targets (λ j. text_of next (arms j)) nodes)) ≤ suc (most_of (λ j. depth (arms j)) nodes + w) =
      listed_nests w targets (λ j. text_of next (arms j)) (λ j. depth (arms j)) nodes
      (each_label (λ j. body_nesting (text_of next (arms j)) ≤ suc (depth (arms j) + w)) nodes (λ j l. region_nests inside (arms j) (h.4 j l).1)) in
      let last : body_nesting (text_of next other) ≤ suc (depth other + w) = region_nests inside other h.5 in
      let is : nesting (stmt.Case e (arms_of_nodes targets (λ j. text_of next (arms j)) nodes) (text_of next other))
      ≡ suc (max (expression_nesting e) (max (greatest (map case_nesting (arms_of_nodes targets (λ j. text_of next (arms j)) nodes)))
      (body_nesting (text_of next other)))) =
      nesting_case e (arms_of_nodes targets (λ j. text_of next (arms j)) nodes) (text_of next other) in
      behind_steps (depth (choose steps e targets nodes arms other join rest)) steps
      (stmt.Case e (arms_of_nodes targets (λ j. text_of next (arms j)) nodes) (text_of next other) ∷ text_of next rest) h.0
      (first_nests (suc (max (most_of (λ j. depth (arms j)) nodes) (depth other))) (depth rest)
      (stmt.Case e (arms_of_nodes targets (λ j. text_of next (arms j)) nodes) (text_of next other)) (text_of next rest) (omega arith)
      (region_nests inside rest h.6))
  region_nests inside (cycle body behind rest) h =
      let one : body_nesting (text_of next body) ≤ suc (depth body + w) = region_nests true body h.0 in
      first_nests (suc (depth body)) (depth rest) (forever (text_of next body)) (text_of next rest) (omega (arith, forever_nests (text_of next body)))
      (region_nests inside rest h.1)
  region_nests inside (turn_to j rest) h =
      let own : nesting (set_next next j) ≡ 0 = set_nests next j in
      let more : body_nesting (text_of next rest) ≤ suc (depth rest + w) = region_nests inside rest h in
      omega arith
  region_nests inside (selector labels arms behind rest) h =
      let each : greatest (map case_nesting (arms_with_labels (λ n. text_of next (arms n)) labels)) ≤ suc (most_of (λ n. depth (arms n)) labels + w) =
      labelled_nests w (λ n. text_of next (arms n)) (λ n. depth (arms n)) labels
      (each_label (λ n. body_nesting (text_of next (arms n)) ≤ suc (depth (arms n) + w)) labels (λ n l. region_nests true (arms n) (h.0 n l).1)) in
      let flat : expression_nesting (expr.Read (var.Local next)) ≡ 0 = ap form_nesting (canon_read (var.Local next)) in
      let is : nesting (stmt.Case (expr.Read (var.Local next)) (arms_with_labels (λ n. text_of next (arms n)) labels) [])
      ≡ suc (max (expression_nesting (expr.Read (var.Local next)))
      (max (greatest (map case_nesting (arms_with_labels (λ n. text_of next (arms n)) labels))) 0)) =
      nesting_case (expr.Read (var.Local next)) (arms_with_labels (λ n. text_of next (arms n)) labels) [] in
      let whole : nesting (forever (stmt.Case (expr.Read (var.Local next)) (arms_with_labels (λ n. text_of next (arms n)) labels) [] ∷ []))
      ≡ suc (max (nesting (stmt.Case (expr.Read (var.Local next)) (arms_with_labels (λ n. text_of next (arms n)) labels) [])) 0) =
      forever_nests (stmt.Case (expr.Read (var.Local next)) (arms_with_labels (λ n. text_of next (arms n)) labels) [] ∷ []) in
      first_nests (suc (suc (most_of (λ n. depth (arms n)) labels))) (depth rest)
      (forever (stmt.Case (expr.Read (var.Local next)) (arms_with_labels (λ n. text_of next (arms n)) labels) [] ∷ [])) (text_of next rest) (omega arith)
      (region_nests inside rest h.1)

pub text_is_low : TextIsLow
text_is_low next unit turn region place follow around fits =
    region_nests next _ (body_nesting (node_statements unit.nodes)) (is_inside around) region
    (parts_of unit (λ xs. body_nesting xs ≤ body_nesting (node_statements unit.nodes)) (λ n. Unit {0})
    (record {
      parts =
          each_node (λ xs. body_nesting xs ≤ body_nesting (node_statements unit.nodes)) (parts_nest (body_nesting (node_statements unit.nodes))) unit.nodes
          (omega arith);
      tables = λ i x e targets last there same. tt;
    }) turn region place follow around fits)
