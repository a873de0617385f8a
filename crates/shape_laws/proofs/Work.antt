-- What the steps of nodes do is counted of the text of a region as of these steps, however it takes the place of jumps.
use Rattle.std.proofs.Common.{◌≡◌, ℕ, ◌+◌, pos, List, [], ◌∷◌, ◌++◌, refl, ap, arith}
use Rattle.std.specs.List.{flat_map}
use Rattle.std.proofs.lemmas.List.Sums.{sum_by-append}
use Rattle.st_tree.specs.BodyParts.{statements_in}
use Rattle.st_tree.specs.declared.expr.Expr.{Expr}
use Rattle.st_tree.specs.declared.expr.Expr.TheVariants as expr
use Rattle.st_tree.specs.declared.expr.StType.TheVariants as type
use Rattle.st_tree.specs.declared.expr.Var.TheVariants as var
use Rattle.st_tree.specs.declared.program.Arm.{Arm}
use Rattle.st_tree.specs.declared.program.CaseArm.{CaseArm}
use Rattle.st_tree.specs.declared.program.Stmt.{Stmt, out-Stmt, roll-Stmt}
use Rattle.st_tree.specs.declared.program.Stmt.TheOpen as S
use Rattle.st_tree.specs.declared.program.Stmt.TheVariants as stmt
use Rattle.st_tree.proofs.PartEquations.{inner_bodies}
use Rattle.graph_rules.specs.Plain.{AreSettings}
use Rattle.region_laws.specs.Regions.{Region, again, arms_of_nodes, arms_with_labels, choice, choose, cycle, ended, forever, fork, labels_from, leaves, node, off, quit, selector, table, text_of, turn_to}
use Rattle.region_plans.specs.RegionCounts.{Weights, sum_of, weight}
use Rattle.text_shapes.specs.Shape.{count_in}
use Rattle.text_shapes.proofs.Counting.{Layer, count_append, count_first, own_sum}
use Rattle.shape_laws.specs.EachOnce.{CountsWork}

-- steps alone have weight
abbrev pub of_work : (Layer → ℕ) → Weights
of_work count = record { leave = 0; test = 0; turn = 0; select = 0; set = 0; steps = count_in count }

sum_same : (f g : ℕ → ℕ) → ((n : ℕ) → f n ≡ g n) → (labels : List ℕ) → sum_of f labels ≡ sum_of g labels
sum_same f g same [] = refl
sum_same f g same (n ∷ labels) = let e = same n in let h = sum_same f g same labels in omega arith

module _ (count : Layer → ℕ) (ok : CountsWork count) where
  abbrev counted : List Stmt → ℕ
  counted = count_in count

  -- a statement with no others inside
  single_counts : (y : Layer) (x : Stmt) → roll-Stmt y ≡ x → inner_bodies y ≡ [] → (rest : List Stmt)
      → counted (x ∷ rest) ≡ count y + counted rest
  single_counts y x e none rest =
      let f = count_first count y x e rest in let i : own_sum count (inner_bodies y) ≡ 0 = ap (own_sum count) none in omega arith

  choice_counts : (e : Expr) (there behind rest : List Stmt)
      → counted (choice e there behind ∷ rest) ≡ counted there + counted behind + counted rest
  choice_counts e there behind rest =
      let arm : Arm = record { test = e; body = there } in
      let g = count_first count (S.If (arm ∷ []) behind) (stmt.If (arm ∷ []) behind) (stmt.rolls-If (arm ∷ []) behind) rest in
      let t = ok.test (arm ∷ []) behind in
      let i : own_sum count ((statements_in there ++ []) ++ statements_in behind) ≡ own_sum count (statements_in there ++ []) + counted behind
      = sum_by-append (λ (x : Stmt). count (out-Stmt x)) (statements_in there ++ []) (statements_in behind) in
      let k : own_sum count (statements_in there ++ []) ≡ counted there + 0
      = sum_by-append (λ (x : Stmt). count (out-Stmt x)) (statements_in there) [] in
      omega arith

  forever_counts : (body rest : List Stmt) → counted (forever body ∷ rest) ≡ counted body + counted rest
  forever_counts body rest =
      let e = expr.Literal type.Bool (pos 1) in
      let g = count_first count (S.While e body) (stmt.While e body) (stmt.rolls-While e body) rest in
      let t = ok.turn e body in omega arith

  arms_count : (bodies : ℕ → List Stmt) (labels : List ℕ)
      → own_sum count (flat_map (λ (arm : CaseArm). statements_in arm.body) (arms_with_labels bodies labels)) ≡ sum_of (λ n. counted (bodies n)) labels
  arms_count bodies [] = refl
  arms_count bodies (n ∷ labels) =
      let i = sum_by-append (λ (x : Stmt). count (out-Stmt x)) (statements_in (bodies n))
      (flat_map (λ (arm : CaseArm). statements_in arm.body) (arms_with_labels bodies labels)) in
      let h = arms_count bodies labels in omega arith

  listed_count : (targets : List ℕ) (bodies : ℕ → List Stmt) (listed : List ℕ)
      → own_sum count (flat_map (λ (arm : CaseArm). statements_in arm.body) (arms_of_nodes targets bodies listed)) ≡ sum_of (λ n. counted (bodies n)) listed
  listed_count targets bodies [] = refl
  listed_count targets bodies (n ∷ listed) =
      let i = sum_by-append (λ (x : Stmt). count (out-Stmt x)) (statements_in (bodies n))
      (flat_map (λ (arm : CaseArm). statements_in arm.body) (arms_of_nodes targets bodies listed)) in
      let h = listed_count targets bodies listed in omega arith

  whole_counts : (e : Expr) (arms : List CaseArm) (other rest : List Stmt)
      → counted (stmt.Case e arms other ∷ rest)
      ≡ own_sum count (flat_map (λ (arm : CaseArm). statements_in arm.body) arms) + counted other + counted rest
  whole_counts e arms other rest =
      let g = count_first count (S.Case e arms other) (stmt.Case e arms other) (stmt.rolls-Case e arms other) rest in
      let t = ok.select e arms other in
      let i = sum_by-append (λ (x : Stmt). count (out-Stmt x)) (flat_map (λ (arm : CaseArm). statements_in arm.body) arms) (statements_in other) in
      omega arith

  case_counts : (e : Expr) (bodies : ℕ → List Stmt) (labels : List ℕ) (other rest : List Stmt)
      → counted (stmt.Case e (arms_with_labels bodies labels) other ∷ rest)
      ≡ sum_of (λ n. counted (bodies n)) labels + counted other + counted rest
  case_counts e bodies labels other rest =
      let g = whole_counts e (arms_with_labels bodies labels) other rest in let h = arms_count bodies labels in omega arith

  pub text_counts : (next : ℕ) (r : Region) → counted (text_of next r) ≡ weight (of_work count) r
  text_counts next off = refl
  text_counts next leaves = let f = single_counts S.Exit stmt.Exit stmt.rolls-Exit refl [] in let e = ok.exit in omega arith
  text_counts next again = let f = single_counts S.Continue stmt.Continue stmt.rolls-Continue refl [] in let e = ok.again in omega arith
  text_counts next ended = let f = single_counts S.Return stmt.Return stmt.rolls-Return refl [] in let e = ok.ended in omega arith
  text_counts next (node steps rest) =
      let a = count_append count steps (text_of next rest) in let h = text_counts next rest in omega arith
  text_counts next (fork steps e there behind join rest) =
      let a = count_append count steps (choice e (text_of next there) (text_of next behind) ∷ text_of next rest) in
      let b = choice_counts e (text_of next there) (text_of next behind) (text_of next rest) in
      let h = text_counts next there in let i = text_counts next behind in let j = text_counts next rest in omega arith
  text_counts next (quit steps e rest) =
      let a = count_append count steps (choice e (stmt.Return ∷ []) [] ∷ text_of next rest) in
      let b = choice_counts e (stmt.Return ∷ []) [] (text_of next rest) in
      let f = single_counts S.Return stmt.Return stmt.rolls-Return refl [] in let r = ok.ended in let j = text_counts next rest in omega arith
  text_counts next (table steps e n arms join rest) =
      let bodies : ℕ → List Stmt = λ k. text_of next (arms k) in
      let a = count_append count steps (stmt.Case e (arms_with_labels bodies (labels_from 0 n)) (text_of next (arms n)) ∷ text_of next rest) in
      let b = case_counts e bodies (labels_from 0 n) (text_of next (arms n)) (text_of next rest) in
      let same = sum_same (λ k. counted (text_of next (arms k))) (λ k. weight (of_work count) (arms k)) (λ k. text_counts next (arms k)) (labels_from 0 n) in
      let h = text_counts next (arms n) in let j = text_counts next rest in omega arith
  text_counts next (choose steps e targets listed arms other join rest) =
      let bodies : ℕ → List Stmt = λ j. text_of next (arms j) in
      let a = count_append count steps (stmt.Case e (arms_of_nodes targets bodies listed) (text_of next other) ∷ text_of next rest) in
      let b = whole_counts e (arms_of_nodes targets bodies listed) (text_of next other) (text_of next rest) in
      let c = listed_count targets bodies listed in
      let same = sum_same (λ j. counted (text_of next (arms j))) (λ j. weight (of_work count) (arms j)) (λ j. text_counts next (arms j)) listed in
      let h = text_counts next other in let j = text_counts next rest in omega arith
  text_counts next (cycle body behind rest) =
      let b = forever_counts (text_of next body) (text_of next rest) in
      let h = text_counts next body in let j = text_counts next rest in omega arith
  text_counts next (turn_to i rest) =
      let v = var.Local next in let e = expr.Literal type.Dint (pos i) in
      let f = single_counts (S.Assign v e) (stmt.Assign v e) (stmt.rolls-Assign v e) refl (text_of next rest) in
      let s = ok.set v type.Dint (pos i) in let j = text_counts next rest in omega arith
  text_counts next (selector labels arms behind rest) =
      let bodies : ℕ → List Stmt = λ k. text_of next (arms k) in let e = expr.Read (var.Local next) in
      let b = forever_counts (stmt.Case e (arms_with_labels bodies labels) [] ∷ []) (text_of next rest) in
      let d = case_counts e bodies labels [] [] in
      let same = sum_same (λ k. counted (text_of next (arms k))) (λ k. weight (of_work count) (arms k)) (λ k. text_counts next (arms k)) labels in
      let j = text_counts next rest in omega arith

  -- settings do no work
  pub settings_none : (xs : List Stmt) → AreSettings xs → counted xs ≡ 0
  settings_none [] h = refl
  settings_none (stmt.Assign (var.Register r) (expr.Literal ty n) ∷ rest) h =
      let v = var.Register r in let e = expr.Literal ty n in
      let f = single_counts (S.Assign v e) (stmt.Assign v e) (stmt.rolls-Assign v e) refl rest in
      let t = ok.set v ty n in let m = settings_none rest h in omega arith
  settings_none (x ∷ rest) h = elim h [ ]
