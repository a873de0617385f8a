-- The text of a region nests no deeper than its lists stand in one another, and its nodes.
use Rattle.std.proofs.Common.{◌≡◌, ℕ, zero, suc, ◌+◌, ◌*◌, ◌<◌, ◌≤◌, ◌==◌, max, pos, Bool, true, false, ◌||◌, List, [], ◌∷◌, ◌++◌, map, slice_get, Some, refl, sym, ap, ◌∙◌, subst, arith}
use Rattle.std.specs.List.{list_any}
use Rattle.std.specs.Prelude.{All}
use Rattle.std.proofs.lemmas.Bool.{eq-eqb, eqb-true, or_left, or_right}
use Rattle.std.proofs.lemmas.List.Elements.{All-head}
use Rattle.s7_base.specs.Numbers.{greatest}
use Rattle.st_tree.specs.BodyParts.{height}
use Rattle.st_tree.specs.Nesting.{arm_nesting, body_nesting, case_nesting, expression_nesting, nesting}
use Rattle.st_tree.specs.declared.expr.Expr.{Expr}
use Rattle.st_tree.specs.declared.expr.Expr.TheVariants as expr
use Rattle.st_tree.specs.declared.expr.StType.TheVariants as type
use Rattle.st_tree.specs.declared.expr.Var.TheVariants as var
use Rattle.st_tree.specs.declared.graph.StExit.{StExit}
use Rattle.st_tree.specs.declared.graph.StExit.TheVariants as exit
use Rattle.st_tree.specs.declared.graph.StNode.{StNode}
use Rattle.st_tree.specs.declared.program.Arm.{Arm}
use Rattle.st_tree.specs.declared.program.CaseArm.{CaseArm}
use Rattle.st_tree.specs.declared.program.Stmt.{Stmt}
use Rattle.st_tree.specs.declared.program.Stmt.TheVariants as stmt
use Rattle.st_tree.proofs.Equations.{canon_literal, canon_read}
use Rattle.st_tree.proofs.TypingEquations.{nesting_arm, nesting_assign, nesting_case, nesting_case_arm, nesting_continue, nesting_exit, nesting_if, nesting_return, nesting_while}
use Rattle.graph_rules.proofs.Nesting.{nests_at_most_twice}
use Rattle.graph_rules.specs.Plain.{tests_of}
use Rattle.region_laws.specs.NextLocal.{arm_with_label, set_next}
use Rattle.region_laws.specs.RegionDepth.{depth, most_of}
use Rattle.region_laws.specs.Regions.{Around, Fits, IsNode, Mark, Marked, Place, Region, again, arm_of, arms_of_nodes, at, choice, choose, cycle, ended, forever, fork, inside, is_among, is_arm, arms_with_labels, labels_from, leaves, loop_head, node, off, positions_of, quit, selected, selector, table, text_of, turn_to, unmarked}
use Rattle.region_plans.specs.RegionLaws.{TextNests}
use Rattle.region_plans.specs.TextCounts.{IsLow}

-- Statements

body_append : (xs ys : List Stmt) → body_nesting (xs ++ ys) ≡ max (body_nesting xs) (body_nesting ys)
body_append [] ys = omega arith
body_append (x ∷ xs) ys = let h = body_append xs ys in omega arith

low_test : (e : Expr) → height e ≤ 32 → expression_nesting e ≤ 62
low_test e h = let twice : expression_nesting e + 2 ≤ 2 * height e = nests_at_most_twice e in omega arith

if_nests : (e : Expr) (body other : List Stmt) → expression_nesting e ≤ 64
    → nesting (stmt.If (record { test = e; body = body } ∷ []) other) ≤ suc (max 64 (max (body_nesting body) (body_nesting other)))
if_nests e body other low =
    let arm : Arm = record { test = e; body = body } in
    let is : nesting (stmt.If (arm ∷ []) other) ≡ suc (max (max (arm_nesting arm) 0) (body_nesting other)) = nesting_if (arm ∷ []) other in
    let own : arm_nesting arm ≡ max (expression_nesting e) (body_nesting body) = nesting_arm arm in omega arith

choice_nests : (e : Expr) (there behind : List Stmt) → height e ≤ 32
    → nesting (choice e there behind) ≤ suc (max 64 (max (body_nesting there) (body_nesting behind)))
choice_nests e there behind low = let l = low_test e low in if_nests e there behind (omega arith)

forever_nests : (body : List Stmt) → nesting (forever body) ≡ suc (body_nesting body)
forever_nests body =
    let e = expr.Literal type.Bool (pos 1) in
    let is : nesting (forever body) ≡ suc (max (expression_nesting e) (body_nesting body)) = nesting_while e body in
    let flat : expression_nesting e ≡ 0 = rw (canon_literal type.Bool (pos 1)) refl in omega arith

set_flat : (next j : ℕ) → nesting (set_next next j) ≡ 0
set_flat next j = nesting_assign (var.Local next) (expr.Literal type.Dint (pos j)) ∙ rw (canon_literal type.Dint (pos j)) refl

-- arms of a CASE, each of which nests as deep as its region and its nodes
arms_nest : (bodies : ℕ → List Stmt) (deep : ℕ → ℕ) (labels : List ℕ)
    → ((n : ℕ) → list_any (λ label. label == n) labels ≡ true → body_nesting (bodies n) ≤ deep n + 64)
    → greatest (map case_nesting (arms_with_labels bodies labels)) ≤ most_of deep labels + 64
arms_nest bodies deep [] each = omega arith
arms_nest bodies deep (n ∷ labels) each =
    let own : case_nesting (arm_with_label n (bodies n)) ≡ body_nesting (bodies n) = nesting_case_arm (arm_with_label n (bodies n)) in
    let l : body_nesting (bodies n) ≤ deep n + 64 = each n (or_left (n == n) (list_any (λ label. label == n) labels) (eq-eqb n n refl)) in
    let more : greatest (map case_nesting (arms_with_labels bodies labels)) ≤ most_of deep labels + 64
    = arms_nest bodies deep labels (λ m e. each m (or_right (n == m) (list_any (λ label. label == m) labels) e)) in omega arith

-- those of nodes
node_arms_nest : (targets : List ℕ) (bodies : ℕ → List Stmt) (deep : ℕ → ℕ) (nodes : List ℕ)
    → ((j : ℕ) → is_among j nodes ≡ true → body_nesting (bodies j) ≤ deep j + 64)
    → greatest (map case_nesting (arms_of_nodes targets bodies nodes)) ≤ most_of deep nodes + 64
node_arms_nest targets bodies deep [] each = omega arith
node_arms_nest targets bodies deep (j ∷ nodes) each =
    let arm : CaseArm = record { labels = positions_of j 0 targets; body = bodies j } in
    let own : case_nesting arm ≡ body_nesting (bodies j) = nesting_case_arm arm in
    let l : body_nesting (bodies j) ≤ deep j + 64 = each j (or_left (j == j) (is_among j nodes) (eq-eqb j j refl)) in
    let more : greatest (map case_nesting (arms_of_nodes targets bodies nodes)) ≤ most_of deep nodes + 64
    = node_arms_nest targets bodies deep nodes (λ m e. each m (or_right (j == m) (is_among m nodes) e)) in omega arith

-- of labels from one on, the last one
last_most : (deep : ℕ → ℕ) (label n : ℕ) → most_of deep (labels_from label (suc n)) ≡ max (most_of deep (labels_from label n)) (deep (label + n))
last_most deep label zero = let e : label ≡ label + zero = omega arith in let f = ap deep e in omega arith
last_most deep label (suc n) =
    let h = last_most deep (suc label) n in let e : suc label + n ≡ label + suc n = omega arith in let f = ap deep e in omega arith

-- labels from one on are before their end
label_before : (label n m : ℕ) → list_any (λ l. l == m) (labels_from label n) ≡ true → m < label + n
label_before label zero m e = absurd cc
label_before label (suc n) m e = by (label == m) refl e (λ f. label_before (suc label) n m f)
  where
    by : (t : Bool) → label == m ≡ t → t || list_any (λ l. l == m) (labels_from (suc label) n) ≡ true
        → (list_any (λ l. l == m) (labels_from (suc label) n) ≡ true → m < suc label + n) → m < label + suc n
    by true f e more = let same : label ≡ m = eqb-true label m f in omega arith
    by false f e more = let l : m < suc label + n = more e in omega arith

arm_mark : (k : ℕ) (mark : Mark) → is_arm k mark ≡ true → mark ≡ arm_of k
arm_mark k unmarked e = absurd cc
arm_mark k loop_head e = absurd cc
arm_mark k (arm_of j) e = ap arm_of (eqb-true j k e)

module _ (unit : Marked) (next : ℕ) (low : (i : ℕ) (n : StNode) → slice_get unit.nodes i ≡ Some n → IsLow n) where
  steps_low : (turn : Bool) (i : ℕ) (steps : List Stmt) (y : StExit) → IsNode unit turn i steps y → body_nesting steps ≤ 64
  steps_low turn i steps y is = subst (λ steps. body_nesting steps ≤ 64) is.steps_are (low i is.node is.there).steps

  test_low : (turn : Bool) (i : ℕ) (steps : List Stmt) (y : StExit) (e : Expr) → tests_of y ≡ e ∷ [] → IsNode unit turn i steps y → height e ≤ 32
  test_low turn i steps y e tests is =
      All-head (λ (e : Expr). height e ≤ 32) e []
      (subst (All (λ (e : Expr). height e ≤ 32)) (ap tests_of is.exit_is ∙ tests) (low i is.node is.there).tests)

  nests : (r : Region) (turn : Bool) (p follow : Place) (a : Around) → Fits unit turn r p follow a → body_nesting (text_of next r) ≤ depth r + 64
  nests off turn p follow a fit = omega arith
  nests leaves turn p follow a fit = let e = nesting_exit in omega arith
  nests again turn p follow a fit = let e = nesting_continue in omega arith
  nests ended turn p follow a fit = let e = nesting_return in omega arith
  nests (node steps rest) turn p follow a (i, x, q, e, is, leads, fits) =
      let s = steps_low turn i steps x is in let n = body_append steps (text_of next rest) in
      let h = nests rest false q follow a fits in omega arith
  nests (fork steps e there behind join rest) turn p follow a (i, j, q, is, fit, fit', fits) =
      let s = steps_low turn i steps (exit.Branch e j) is in
      let n = body_append steps (choice e (text_of next there) (text_of next behind) ∷ text_of next rest) in
      let c = choice_nests e (text_of next there) (text_of next behind) (test_low turn i steps (exit.Branch e j) e refl is) in
      let h = nests there false (at j) join a fit in let h' = nests behind false (at (suc i)) join a fit' in
      let h'' = nests rest false join follow a fits in omega arith
  nests (quit steps e rest) turn p follow a (i, q, is, fits) =
      let s = steps_low turn i steps (exit.EndIf e) is in
      let n = body_append steps (choice e (stmt.Return ∷ []) [] ∷ text_of next rest) in
      let c = choice_nests e (stmt.Return ∷ []) [] (test_low turn i steps (exit.EndIf e) e refl is) in
      let f = nesting_return in let h = nests rest false (at (suc i)) follow a fits in omega arith
  nests (table steps e count arms join rest) turn p follow a (i, targets, last, q, is, many, each, fits) =
      let s = steps_low turn i steps (exit.Table e targets last) is in
      let l = low_test e (test_low turn i steps (exit.Table e targets last) e refl is) in
      let bodies : ℕ → List Stmt = λ n. text_of next (arms n) in
      let choosing = stmt.Case e (arms_with_labels bodies (labels_from 0 count)) (text_of next (arms count)) in
      let n = body_append steps (choosing ∷ text_of next rest) in
      let listed = arms_with_labels bodies (labels_from 0 count) in
      let c : nesting choosing ≡ suc (max (expression_nesting e) (max (greatest (map case_nesting listed)) (body_nesting (bodies count))))
      = nesting_case e listed (text_of next (arms count)) in
      let d = arms_nest bodies (λ n. depth (arms n)) (labels_from 0 count)
      (λ m f. let b : m < 0 + count = label_before 0 count m f in nests (arms m) false _ join a (each m (omega arith))) in
      let m = last_most (λ n. depth (arms n)) 0 count in let same : 0 + count ≡ count = omega arith in
      let own : depth (arms (0 + count)) ≡ depth (arms count) = ap (λ (n : ℕ). depth (arms n)) same in
      let h = nests (arms count) false _ join a (each count (omega arith)) in
      let h' = nests rest false join follow a fits in omega arith
  nests (choose steps e targets nodes arms other join rest) turn p follow a (i, last, q, is, have, each, own, fits) =
      let s = steps_low turn i steps (exit.Table e targets last) is in
      let l = low_test e (test_low turn i steps (exit.Table e targets last) e refl is) in
      let bodies : ℕ → List Stmt = λ j. text_of next (arms j) in
      let listed = arms_of_nodes targets bodies nodes in
      let choosing = stmt.Case e listed (text_of next other) in
      let n = body_append steps (choosing ∷ text_of next rest) in
      let c : nesting choosing ≡ suc (max (expression_nesting e) (max (greatest (map case_nesting listed)) (body_nesting (text_of next other))))
      = nesting_case e listed (text_of next other) in
      let d = node_arms_nest targets bodies (λ j. depth (arms j)) nodes (λ j f. nests (arms j) false (at j) join a (each j f)) in
      let h = nests other false (at last) join a own in
      let h' = nests rest false join follow a fits in omega arith
  nests (cycle body behind rest) turn p follow a (h, t, e, m, fit, fits) =
      let f = forever_nests (text_of next body) in let i = nests body true (at h) (at h) (inside (at h) behind) fit in
      let j = nests rest false behind follow a fits in omega arith
  nests (turn_to j rest) turn p follow a (k, t, e, m, fits) =
      let f = set_flat next j in let i = nests rest false (selected k) follow a fits in omega arith
  nests (selector labels arms behind rest) turn p follow a (k, t, e, named, each, fits) =
      let bodies : ℕ → List Stmt = λ n. text_of next (arms n) in
      let v = expr.Read (var.Local next) in
      let choosing = stmt.Case v (arms_with_labels bodies labels) [] in
      let c : nesting choosing ≡ suc (max (expression_nesting v) (max (greatest (map case_nesting (arms_with_labels bodies labels))) 0))
      = nesting_case v (arms_with_labels bodies labels) [] in
      let flat : expression_nesting v ≡ 0 = rw (canon_read (var.Local next)) refl in
      let f = forever_nests (choosing ∷ []) in
      let d = arms_nest bodies (λ n. depth (arms n)) labels
      (λ m g. nests (arms m) true (at m) (selected k) (inside (selected k) behind) (each m (arm_mark k (unit.marks m) (sym (named m) ∙ g)))) in
      let j = nests rest false behind follow a fits in omega arith

pub text_nests : TextNests
text_nests unit next r turn p follow a fit low = nests unit next low r turn p follow a fit
