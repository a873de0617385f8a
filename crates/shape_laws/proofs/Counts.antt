-- What is counted of CASE statements in the text of a region that fits, where the steps of its nodes have none.
use Rattle.std.proofs.Common.{◌≡◌, ℕ, suc, ◌+◌, ◌<◌, pos, Bool, true, false, List, [], ◌∷◌, ◌++◌, slice_get, Some, refl, sym, ap, ◌∙◌, subst, arith}
use Rattle.std.specs.List.{flat_map}
use Rattle.std.specs.Prelude.{All}
use Rattle.std.proofs.lemmas.List.Elements.{All-head}
use Rattle.std.proofs.lemmas.List.Sums.{sum_by-append}
use Rattle.s7_base.specs.declared.register.Reg.TheVariants as reg
use Rattle.st_tree.specs.BodyParts.{statements_in}
use Rattle.st_tree.specs.declared.expr.Expr.{Expr}
use Rattle.st_tree.specs.declared.expr.Expr.TheVariants as expr
use Rattle.st_tree.specs.declared.expr.StType.TheVariants as type
use Rattle.st_tree.specs.declared.expr.Var.TheVariants as var
use Rattle.st_tree.specs.declared.graph.StExit.{StExit}
use Rattle.st_tree.specs.declared.graph.StExit.TheVariants as exit
use Rattle.st_tree.specs.declared.graph.StNode.{StNode}
use Rattle.st_tree.specs.declared.program.Arm.{Arm, out-Arm}
use Rattle.st_tree.specs.declared.program.CaseArm.{CaseArm}
use Rattle.st_tree.specs.declared.program.Stmt.{Stmt, out-Stmt, roll-Stmt, roll-out-Stmt}
use Rattle.st_tree.specs.declared.program.Stmt.TheOpen as S
use Rattle.st_tree.specs.declared.program.Stmt.TheVariants as stmt
use Rattle.st_tree.proofs.PartEquations.{inner_bodies}
use Rattle.graph_rules.specs.Plain.{ArePutBack, AreSteps, IsGuarded, IsStep, tests_of}
use Rattle.region_laws.specs.Regions.{Around, Fits, IsNode, Marked, Place, Region, again, arms_of_nodes, arms_with_labels, at, choice, choose, cycle, ended, forever, fork, inside, labels_from, leaves, node, off, quit, selected, selector, table, text_of, turn_to}
use Rattle.region_plans.specs.RegionCounts.{sum_of}
use Rattle.region_plans.proofs.Counting.{sum_where}
use Rattle.text_shapes.specs.Shape.{count_in}
use Rattle.text_shapes.proofs.Counting.{Layer, count_append, count_first, own_sum}
use Rattle.shape_laws.proofs.Texts.{arm_mark, label_before}

-- a statement is no CASE
abbrev pub is_no_case : Layer → Bool
is_no_case (S.Case e arms other) = false
is_no_case other = true

-- Steps

module _ (count : Layer → ℕ) (idle : (y : Layer) → is_no_case y ≡ true → count y ≡ 0) where
  -- a statement with no others inside
  pub single_counts : (y : Layer) (x : Stmt) → roll-Stmt y ≡ x → inner_bodies y ≡ [] → (rest : List Stmt)
      → count_in count (x ∷ rest) ≡ count y + count_in count rest
  single_counts y x e none rest =
      let f = count_first count y x e rest in let i : own_sum count (inner_bodies y) ≡ 0 = ap (own_sum count) none in omega arith

  put_back_none : (xs : List Stmt) → ArePutBack xs → count_in count xs ≡ 0
  put_back_none [] h = refl
  put_back_none (stmt.Assign (var.Register reg.DbNo) (expr.Read (var.Local i)) ∷ rest) h =
      let v = var.Register reg.DbNo in let e = expr.Read (var.Local i) in
      let f = single_counts (S.Assign v e) (stmt.Assign v e) (stmt.rolls-Assign v e) refl rest in
      let g = idle (S.Assign v e) refl in let m = put_back_none rest h in omega arith
  put_back_none (stmt.Assign (var.Register reg.DiNo) (expr.Read (var.Local i)) ∷ rest) h =
      let v = var.Register reg.DiNo in let e = expr.Read (var.Local i) in
      let f = single_counts (S.Assign v e) (stmt.Assign v e) (stmt.rolls-Assign v e) refl rest in
      let g = idle (S.Assign v e) refl in let m = put_back_none rest h in omega arith
  put_back_none (x ∷ rest) h = elim h [ ]

  guarded_none : (xs : List Stmt) → IsGuarded xs → count_in count xs ≡ 0
  guarded_none [] h = elim h [ ]
  guarded_none (stmt.Assign (var.Local i) e ∷ rest) h =
      let v = var.Local i in
      let f = single_counts (S.Assign v e) (stmt.Assign v e) (stmt.rolls-Assign v e) refl rest in
      let g = idle (S.Assign v e) refl in let m = guarded_none rest h in omega arith
  guarded_none (stmt.Invoke n vars ∷ rest) h =
      let f = single_counts (S.Invoke n vars) (stmt.Invoke n vars) (stmt.rolls-Invoke n vars) refl rest in
      let g = idle (S.Invoke n vars) refl in let m = put_back_none rest h in omega arith
  guarded_none (x ∷ rest) h = elim h [ ]

  step_none : (y : Layer) → IsStep y → count y + own_sum count (inner_bodies y) ≡ 0
  step_none (S.Assign v e) h = let g = idle (S.Assign v e) refl in omega arith
  step_none (S.AreaWrite w p e) h = let g = idle (S.AreaWrite w p e) refl in omega arith
  step_none (S.Invoke n vars) h = let g = idle (S.Invoke n vars) refl in omega arith
  step_none (S.If (arm ∷ []) []) h =
      let body = (out-Arm arm).body in
      let g = idle (S.If (arm ∷ []) []) refl in let m = guarded_none body h.1 in
      let f = sum_by-append (λ (x : Stmt). count (out-Stmt x)) (statements_in body ++ []) [] in
      let k = sum_by-append (λ (x : Stmt). count (out-Stmt x)) (statements_in body) [] in
      let i : own_sum count ((statements_in body ++ []) ++ []) ≡ 0 = omega arith in omega arith
  step_none y h = elim h [ ]

  pub steps_none : (xs : List Stmt) → AreSteps xs → count_in count xs ≡ 0
  steps_none [] h = refl
  steps_none (x ∷ rest) h =
      let f = count_first count (out-Stmt x) x (roll-out-Stmt x) rest in
      let g = step_none (out-Stmt x) h.0 in let m = steps_none rest h.1 in omega arith

-- Regions

-- what is counted of a region by its tables, where each is one or none, and by its dispatch loops
pub record Measures (M : Region → ℕ) (one : ℕ) (f : List ℕ → ℕ) : Type 0 where
  pub off : M off ≡ 0
  pub leaves : M leaves ≡ 0
  pub again : M again ≡ 0
  pub ended : M ended ≡ 0
  pub node : (steps : List Stmt) (rest : Region) → M (node steps rest) ≡ M rest
  pub fork : (steps : List Stmt) (e : Expr) (there behind : Region) (join : Place) (rest : Region)
      → M (fork steps e there behind join rest) ≡ M there + M behind + M rest
  pub quit : (steps : List Stmt) (e : Expr) (rest : Region) → M (quit steps e rest) ≡ M rest
  pub table : (steps : List Stmt) (e : Expr) (n : ℕ) (arms : ℕ → Region) (join : Place) (rest : Region)
      → M (table steps e n arms join rest) ≡ one + sum_of (λ k. M (arms k)) (labels_from 0 n) + M (arms n) + M rest
  pub choose : (steps : List Stmt) (e : Expr) (targets listed : List ℕ) (arms : ℕ → Region) (other : Region) (join : Place) (rest : Region)
      → M (choose steps e targets listed arms other join rest) ≡ one + sum_of (λ j. M (arms j)) listed + M other + M rest
  pub cycle : (body : Region) (behind : Place) (rest : Region) → M (cycle body behind rest) ≡ M body + M rest
  pub turn_to : (j : ℕ) (rest : Region) → M (turn_to j rest) ≡ M rest
  pub selector : (labels : List ℕ) (arms : ℕ → Region) (behind : Place) (rest : Region)
      → M (selector labels arms behind rest) ≡ f labels + sum_of (λ k. M (arms k)) labels + M rest

-- a count of CASE statements alone: so many of one by a good test, and of one over the selector by its labels
pub record CountsCases (count : Layer → ℕ) (Good : Expr → Type 0) (next one : ℕ) (f : List ℕ → ℕ) : Type 0 where
  pub idle : (y : Layer) → is_no_case y ≡ true → count y ≡ 0
  pub choose : (e : Expr) → Good e → (arms : List CaseArm) (other : List Stmt) → count (S.Case e arms other) ≡ one
  pub select : (bodies : ℕ → List Stmt) (labels : List ℕ)
      → count (S.Case (expr.Read (var.Local next)) (arms_with_labels bodies labels) []) ≡ f labels

module _ (count : Layer → ℕ) (Good : Expr → Type 0) (next one : ℕ) (f : List ℕ → ℕ) (ok : CountsCases count Good next one f)
    (M : Region → ℕ) (is_measure : Measures M one f) (unit : Marked)
    (nodes : (i : ℕ) (n : StNode) → slice_get unit.nodes i ≡ Some n → AreSteps n.steps × All Good (tests_of n.exit)) where
  abbrev counted : List Stmt → ℕ
  counted = count_in count

  steps_free : (turn : Bool) (i : ℕ) (steps : List Stmt) (y : StExit) → IsNode unit turn i steps y → counted steps ≡ 0
  steps_free turn i steps y is =
      subst (λ (steps : List Stmt). counted steps ≡ 0) is.steps_are
      (steps_none count ok.idle is.node.steps (nodes i is.node is.there).0)

  test_good : (turn : Bool) (i : ℕ) (steps : List Stmt) (y : StExit) (e : Expr) → tests_of y ≡ e ∷ [] → IsNode unit turn i steps y → Good e
  test_good turn i steps y e tests is =
      All-head Good e [] (subst (All Good) (ap tests_of is.exit_is ∙ tests) (nodes i is.node is.there).1)

  choice_counts : (e : Expr) (there behind rest : List Stmt)
      → counted (choice e there behind ∷ rest) ≡ counted there + counted behind + counted rest
  choice_counts e there behind rest =
      let arm : Arm = record { test = e; body = there } in
      let g = count_first count (S.If (arm ∷ []) behind) (stmt.If (arm ∷ []) behind) (stmt.rolls-If (arm ∷ []) behind) rest in
      let t = ok.idle (S.If (arm ∷ []) behind) refl in
      let i : own_sum count ((statements_in there ++ []) ++ statements_in behind) ≡ own_sum count (statements_in there ++ []) + counted behind
      = sum_by-append (λ (x : Stmt). count (out-Stmt x)) (statements_in there ++ []) (statements_in behind) in
      let k : own_sum count (statements_in there ++ []) ≡ counted there + 0
      = sum_by-append (λ (x : Stmt). count (out-Stmt x)) (statements_in there) [] in
      omega arith

  forever_counts : (body rest : List Stmt) → counted (forever body ∷ rest) ≡ counted body + counted rest
  forever_counts body rest =
      let e = expr.Literal type.Bool (pos 1) in
      let g = count_first count (S.While e body) (stmt.While e body) (stmt.rolls-While e body) rest in
      let t = ok.idle (S.While e body) refl in omega arith

  arms_count : (bodies : ℕ → List Stmt) (labels : List ℕ)
      → own_sum count (flat_map (λ (arm : CaseArm). statements_in arm.body) (arms_with_labels bodies labels)) ≡ sum_of (λ n. counted (bodies n)) labels
  arms_count bodies [] = refl
  arms_count bodies (n ∷ labels) =
      let i = sum_by-append (λ (x : Stmt). count (out-Stmt x)) (statements_in (bodies n))
      (flat_map (λ (arm : CaseArm). statements_in arm.body) (arms_with_labels bodies labels)) in
      let h = arms_count bodies labels in omega arith

  listed_count : (targets : List ℕ) (bodies : ℕ → List Stmt) (listed : List ℕ)
      → own_sum count (flat_map (λ (arm : CaseArm). statements_in arm.body) (arms_of_nodes targets bodies listed)) ≡ sum_of (λ n. counted (bodies n)) listed
  listed_count targets bodies [] = refl
  listed_count targets bodies (n ∷ listed) =
      let i = sum_by-append (λ (x : Stmt). count (out-Stmt x)) (statements_in (bodies n))
      (flat_map (λ (arm : CaseArm). statements_in arm.body) (arms_of_nodes targets bodies listed)) in
      let h = listed_count targets bodies listed in omega arith

  whole_counts : (e : Expr) (arms : List CaseArm) (other rest : List Stmt)
      → counted (stmt.Case e arms other ∷ rest)
      ≡ count (S.Case e arms other) + own_sum count (flat_map (λ (arm : CaseArm). statements_in arm.body) arms) + counted other + counted rest
  whole_counts e arms other rest =
      let g = count_first count (S.Case e arms other) (stmt.Case e arms other) (stmt.rolls-Case e arms other) rest in
      let i = sum_by-append (λ (x : Stmt). count (out-Stmt x)) (flat_map (λ (arm : CaseArm). statements_in arm.body) arms) (statements_in other) in
      omega arith

  case_counts : (e : Expr) (bodies : ℕ → List Stmt) (labels : List ℕ) (other rest : List Stmt)
      → counted (stmt.Case e (arms_with_labels bodies labels) other ∷ rest)
      ≡ count (S.Case e (arms_with_labels bodies labels) other) + sum_of (λ n. counted (bodies n)) labels + counted other + counted rest
  case_counts e bodies labels other rest =
      let g = whole_counts e (arms_with_labels bodies labels) other rest in let h = arms_count bodies labels in omega arith

  pub counts : (r : Region) (turn : Bool) (p follow : Place) (a : Around) → Fits unit turn r p follow a → counted (text_of next r) ≡ M r
  counts off turn p follow a fit = sym is_measure.off
  counts leaves turn p follow a fit =
      let g = single_counts count ok.idle S.Exit stmt.Exit stmt.rolls-Exit refl [] in let e = ok.idle S.Exit refl in let m = is_measure.leaves in omega arith
  counts again turn p follow a fit =
      let g = single_counts count ok.idle S.Continue stmt.Continue stmt.rolls-Continue refl [] in let e = ok.idle S.Continue refl in
      let m = is_measure.again in omega arith
  counts ended turn p follow a fit =
      let g = single_counts count ok.idle S.Return stmt.Return stmt.rolls-Return refl [] in let e = ok.idle S.Return refl in
      let m = is_measure.ended in omega arith
  counts (node steps rest) turn p follow a (i, x, q, e, is, leads, fits) =
      let s = steps_free turn i steps x is in let n = count_append count steps (text_of next rest) in
      let h = counts rest false q follow a fits in let m = is_measure.node steps rest in omega arith
  counts (fork steps e there behind join rest) turn p follow a (i, j, q, is, fit, fit', fits) =
      let s = steps_free turn i steps (exit.Branch e j) is in
      let n = count_append count steps (choice e (text_of next there) (text_of next behind) ∷ text_of next rest) in
      let c = choice_counts e (text_of next there) (text_of next behind) (text_of next rest) in
      let h = counts there false (at j) join a fit in let h' = counts behind false (at (suc i)) join a fit' in
      let h'' = counts rest false join follow a fits in let m = is_measure.fork steps e there behind join rest in omega arith
  counts (quit steps e rest) turn p follow a (i, q, is, fits) =
      let s = steps_free turn i steps (exit.EndIf e) is in
      let n = count_append count steps (choice e (stmt.Return ∷ []) [] ∷ text_of next rest) in
      let c = choice_counts e (stmt.Return ∷ []) [] (text_of next rest) in
      let g = single_counts count ok.idle S.Return stmt.Return stmt.rolls-Return refl [] in let z = ok.idle S.Return refl in
      let h = counts rest false (at (suc i)) follow a fits in let m = is_measure.quit steps e rest in omega arith
  counts (table steps e n arms join rest) turn p follow a (i, targets, last, q, is, many, each, fits) =
      let s = steps_free turn i steps (exit.Table e targets last) is in
      let good = test_good turn i steps (exit.Table e targets last) e refl is in
      let bodies : ℕ → List Stmt = λ k. text_of next (arms k) in
      let d = count_append count steps (stmt.Case e (arms_with_labels bodies (labels_from 0 n)) (text_of next (arms n)) ∷ text_of next rest) in
      let c = case_counts e bodies (labels_from 0 n) (text_of next (arms n)) (text_of next rest) in
      let o = ok.choose e good (arms_with_labels bodies (labels_from 0 n)) (text_of next (arms n)) in
      let same = sum_where (λ k. counted (text_of next (arms k))) (λ k. M (arms k)) (labels_from 0 n)
      (λ k g. let b : k < 0 + n = label_before 0 n k g in counts (arms k) false _ join a (each k (omega arith))) in
      let h = counts (arms n) false _ join a (each n (omega arith)) in
      let h' = counts rest false join follow a fits in let m = is_measure.table steps e n arms join rest in omega arith
  counts (choose steps e targets listed arms other join rest) turn p follow a (i, last, q, is, have, each, fit, fits) =
      let s = steps_free turn i steps (exit.Table e targets last) is in
      let good = test_good turn i steps (exit.Table e targets last) e refl is in
      let bodies : ℕ → List Stmt = λ j. text_of next (arms j) in
      let d = count_append count steps (stmt.Case e (arms_of_nodes targets bodies listed) (text_of next other) ∷ text_of next rest) in
      let c = whole_counts e (arms_of_nodes targets bodies listed) (text_of next other) (text_of next rest) in
      let b = listed_count targets bodies listed in
      let o = ok.choose e good (arms_of_nodes targets bodies listed) (text_of next other) in
      let same = sum_where (λ j. counted (text_of next (arms j))) (λ j. M (arms j)) listed
      (λ j g. counts (arms j) false (at j) join a (each j g)) in
      let h = counts other false (at last) join a fit in
      let h' = counts rest false join follow a fits in let m = is_measure.choose steps e targets listed arms other join rest in omega arith
  counts (cycle body behind rest) turn p follow a (h, t, e, mark, fit, fits) =
      let g = forever_counts (text_of next body) (text_of next rest) in
      let i = counts body true (at h) (at h) (inside (at h) behind) fit in
      let j = counts rest false behind follow a fits in let m = is_measure.cycle body behind rest in omega arith
  counts (turn_to j rest) turn p follow a (k, t, e, mark, fits) =
      let v = var.Local next in let e = expr.Literal type.Dint (pos j) in
      let g = single_counts count ok.idle (S.Assign v e) (stmt.Assign v e) (stmt.rolls-Assign v e) refl (text_of next rest) in
      let z = ok.idle (S.Assign v e) refl in
      let h = counts rest false (selected k) follow a fits in let m = is_measure.turn_to j rest in omega arith
  counts (selector labels arms behind rest) turn p follow a (k, t, e, named, each, fits) =
      let bodies : ℕ → List Stmt = λ n. text_of next (arms n) in let v = expr.Read (var.Local next) in
      let g = forever_counts (stmt.Case v (arms_with_labels bodies labels) [] ∷ []) (text_of next rest) in
      let c = case_counts v bodies labels [] [] in let o = ok.select bodies labels in
      let same = sum_where (λ n. counted (text_of next (arms n))) (λ n. M (arms n)) labels
      (λ n g. counts (arms n) true (at n) (selected k) (inside (selected k) behind) (each n (arm_mark k (unit.marks n) (sym (named n) ∙ g)))) in
      let j = counts rest false behind follow a fits in let m = is_measure.selector labels arms behind rest in omega arith
