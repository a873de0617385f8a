-- The text of a region that fits calls what nodes of its unit call.
use Rattle.std.proofs.Common.{ℕ, pos, Bool, true, List, [], ◌∷◌, ◌++◌, sym, subst, arith}
use Rattle.std.specs.List.{AllByRecursion, flat_map}
use Rattle.std.specs.Prelude.{All, Contains}
use Rattle.std.proofs.lemmas.List.Elements.{All-append, All-contains_itself, All-nil}
use Rattle.graph_rules.specs.Plain.{node_statements}
use Rattle.region_laws.specs.NextLocal.{set_next}
use Rattle.region_laws.specs.Regions.{Region, again, choice, choose, cycle, ended, forever, fork, arms_of_nodes, arms_with_labels, labels_from, leaves, node, off, quit, selector, table, text_of, turn_to}
use Rattle.region_types.proofs.Labels.{each_from, each_label}
use Rattle.region_types.proofs.Lists.{all_parts}
use Rattle.region_types.proofs.Made.{IsMade, each_node, parts_of}
use Rattle.region_types.specs.TextLaws.{TextCalls, is_inside}
use Rattle.st_tree.specs.BodyParts.{call_step, calls_in, statements_in}
use Rattle.st_tree.specs.declared.expr.Expr.{Expr}
use Rattle.st_tree.specs.declared.expr.Expr.TheVariants as expr
use Rattle.st_tree.specs.declared.expr.StType.TheVariants as type
use Rattle.st_tree.specs.declared.expr.Var.{Var}
use Rattle.st_tree.specs.declared.expr.Var.TheVariants as var
use Rattle.st_tree.specs.declared.program.CaseArm.{CaseArm}
use Rattle.st_tree.specs.declared.program.Stmt.{Stmt, out-Stmt}
use Rattle.st_tree.specs.declared.program.Stmt.TheOpen as S
use Rattle.st_tree.specs.declared.program.Stmt.TheVariants as stmt
use Rattle.st_tree.proofs.Common.{flat_map-append}
use Rattle.st_tree.proofs.PartEquations.{calls_in_assign, gathered_append, gathered_first}

abbrev pub Call : Type 0
Call = ℕ × List Var

-- the calls of some statements, but those inside them
abbrev calls_of : List Stmt → List Call
calls_of xs = flat_map (λ (x : Stmt). call_step (out-Stmt x)) xs

module _ (P : Call → Type 0) where
  -- each call in some statements
  abbrev Calls : List Stmt → Type 0
  Calls xs = All P (calls_in xs)

  parts_call : (xs ys : List Stmt) → Calls (xs ++ ys) → Calls xs × Calls ys
  parts_call xs ys h = all_parts P (calls_in xs) (calls_in ys) (subst (All P) (gathered_append call_step xs ys) h)

  append_calls : (xs ys : List Stmt) → Calls xs → Calls ys → Calls (xs ++ ys)
  append_calls xs ys h k = subst (All P) (sym (gathered_append call_step xs ys)) (All-append P (calls_in xs) (calls_in ys) h k)

  first_calls : (x : Stmt) (xs : List Stmt) → Calls (x ∷ []) → Calls xs → Calls (x ∷ xs)
  first_calls x xs h k = append_calls (x ∷ []) xs h k

  both_calls : (xs ys : List Stmt) → All P (calls_of xs) → All P (calls_of ys) → All P (calls_of (xs ++ ys))
  both_calls xs ys h k =
      subst (All P) (sym (flat_map-append (λ (x : Stmt). call_step (out-Stmt x)) xs ys)) (All-append P (calls_of xs) (calls_of ys) h k)

  choice_calls : (e : Expr) (there behind : List Stmt) → Calls there → Calls behind → Calls (choice e there behind ∷ [])
  choice_calls e there behind h k =
      subst (All P)
      (sym (gathered_first call_step (S.If (record { test = e; body = there } ∷ []) behind) (stmt.rolls-If (record { test = e; body = there } ∷ []) behind) []))
      (All-append P (calls_of ((statements_in there ++ []) ++ statements_in behind)) []
      (both_calls (statements_in there ++ []) (statements_in behind) (both_calls (statements_in there) [] h (All-nil P)) k) (All-nil P))

  labelled_calls : (bodies : ℕ → List Stmt) (labels : List ℕ) → AllByRecursion (λ n. Calls (bodies n)) labels
      → All P (calls_of (flat_map (λ (arm : CaseArm). statements_in arm.body) (arms_with_labels bodies labels)))
  labelled_calls bodies [] h = All-nil P
  labelled_calls bodies (n ∷ labels) h =
      both_calls (statements_in (bodies n)) (flat_map (λ (arm : CaseArm). statements_in arm.body) (arms_with_labels bodies labels)) h.0
      (labelled_calls bodies labels h.1)

  node_calls : (targets : List ℕ) (bodies : ℕ → List Stmt) (nodes : List ℕ) → AllByRecursion (λ n. Calls (bodies n)) nodes
      → All P (calls_of (flat_map (λ (arm : CaseArm). statements_in arm.body) (arms_of_nodes targets bodies nodes)))
  node_calls targets bodies [] h = All-nil P
  node_calls targets bodies (n ∷ nodes) h =
      both_calls (statements_in (bodies n)) (flat_map (λ (arm : CaseArm). statements_in arm.body) (arms_of_nodes targets bodies nodes)) h.0
      (node_calls targets bodies nodes h.1)

  arms_call : (e : Expr) (arms : List CaseArm) (other : List Stmt)
      → All P (calls_of (flat_map (λ (arm : CaseArm). statements_in arm.body) arms)) → Calls other → Calls (stmt.Case e arms other ∷ [])
  arms_call e arms other h k =
      subst (All P) (sym (gathered_first call_step (S.Case e arms other) (stmt.rolls-Case e arms other) []))
      (All-append P (calls_of (flat_map (λ (arm : CaseArm). statements_in arm.body) arms ++ statements_in other)) []
      (both_calls (flat_map (λ (arm : CaseArm). statements_in arm.body) arms) (statements_in other) h k) (All-nil P))

  case_calls : (e : Expr) (bodies : ℕ → List Stmt) (labels : List ℕ) (other : List Stmt) → AllByRecursion (λ n. Calls (bodies n)) labels → Calls other
      → Calls (stmt.Case e (arms_with_labels bodies labels) other ∷ [])
  case_calls e bodies labels other h k = arms_call e (arms_with_labels bodies labels) other (labelled_calls bodies labels h) k

  forever_calls : (body : List Stmt) → Calls body → Calls (forever body ∷ [])
  forever_calls body h =
      subst (All P)
      (sym (gathered_first call_step (S.While (expr.Literal type.Bool (pos 1)) body) (stmt.rolls-While (expr.Literal type.Bool (pos 1)) body) []))
      (All-append P (calls_of (statements_in body)) [] h (All-nil P))

  exit_calls : Calls (stmt.Exit ∷ [])
  exit_calls = subst (All P) (sym (gathered_first call_step S.Exit stmt.rolls-Exit [])) (All-nil P)

  continue_calls : Calls (stmt.Continue ∷ [])
  continue_calls = subst (All P) (sym (gathered_first call_step S.Continue stmt.rolls-Continue [])) (All-nil P)

  return_calls : Calls (stmt.Return ∷ [])
  return_calls = subst (All P) (sym (gathered_first call_step S.Return stmt.rolls-Return [])) (All-nil P)

  set_calls : (next j : ℕ) → Calls (set_next next j ∷ [])
  set_calls next j = subst (All P) (sym (calls_in_assign (var.Local next) (expr.Literal type.Dint (pos j)) [])) (All-nil P)

  region_calls : (next many : ℕ) (inside : Bool) (r : Region) → IsMade Calls (λ n. Unit {0}) many inside r → Calls (text_of next r)
  region_calls next many inside off h = All-nil P
  region_calls next many inside leaves h = exit_calls
  region_calls next many inside again h = continue_calls
  region_calls next many inside ended h = return_calls
  region_calls next many inside (node steps rest) h = append_calls steps (text_of next rest) h.0 (region_calls next many inside rest h.1)
  region_calls next many inside (fork steps e there behind join rest) h =
      append_calls steps (choice e (text_of next there) (text_of next behind) ∷ text_of next rest) h.0
      (first_calls (choice e (text_of next there) (text_of next behind)) (text_of next rest)
      (choice_calls e (text_of next there) (text_of next behind) (region_calls next many inside there h.2) (region_calls next many inside behind h.3))
      (region_calls next many inside rest h.4))
  region_calls next many inside (quit steps e rest) h =
      append_calls steps (choice e (stmt.Return ∷ []) [] ∷ text_of next rest) h.0
      (first_calls (choice e (stmt.Return ∷ []) []) (text_of next rest) (choice_calls e (stmt.Return ∷ []) [] return_calls (All-nil P))
      (region_calls next many inside rest h.2))
  region_calls next many inside (table steps e count arms join rest) h =
      append_calls steps (stmt.Case e (arms_with_labels (λ n. text_of next (arms n)) (labels_from 0 count)) (text_of next (arms count)) ∷ text_of next rest) h.0
      (first_calls (stmt.Case e (arms_with_labels (λ n. text_of next (arms n)) (labels_from 0 count)) (text_of next (arms count))) (text_of next rest)
      (case_calls e (λ n. text_of next (arms n)) (labels_from 0 count) (text_of next (arms count))
      (each_from (λ n. Calls (text_of next (arms n))) 0 count (λ n l. region_calls next many inside (arms n) (h.3 n (omega arith))))
      (region_calls next many inside (arms count) (h.3 count (omega arith))))
      (region_calls next many inside rest h.4))
  region_calls next many inside (choose steps e targets nodes arms other join rest) h =
      append_calls steps (stmt.Case e (arms_of_nodes targets (λ j. text_of next (arms j)) nodes) (text_of next other) ∷ text_of next rest) h.0
      (first_calls (stmt.Case e (arms_of_nodes targets (λ j. text_of next (arms j)) nodes) (text_of next other)) (text_of next rest)
      (arms_call e (arms_of_nodes targets (λ j. text_of next (arms j)) nodes) (text_of next other)
      (node_calls targets (λ j. text_of next (arms j)) nodes
      (each_label (λ j. Calls (text_of next (arms j))) nodes (λ j l. region_calls next many inside (arms j) (h.4 j l).1)))
      (region_calls next many inside other h.5))
      (region_calls next many inside rest h.6))
  region_calls next many inside (cycle body behind rest) h =
      first_calls (forever (text_of next body)) (text_of next rest) (forever_calls (text_of next body) (region_calls next many true body h.0))
      (region_calls next many inside rest h.1)
  region_calls next many inside (turn_to j rest) h =
      first_calls (set_next next j) (text_of next rest) (set_calls next j) (region_calls next many inside rest h)
  region_calls next many inside (selector labels arms behind rest) h =
      first_calls (forever (stmt.Case (expr.Read (var.Local next)) (arms_with_labels (λ n. text_of next (arms n)) labels) [] ∷ [])) (text_of next rest)
      (forever_calls (stmt.Case (expr.Read (var.Local next)) (arms_with_labels (λ n. text_of next (arms n)) labels) [] ∷ [])
      (case_calls (expr.Read (var.Local next)) (λ n. text_of next (arms n)) labels []
      (each_label (λ n. Calls (text_of next (arms n))) labels (λ n l. region_calls next many true (arms n) (h.0 n l).1)) (All-nil P)))
      (region_calls next many inside rest h.1)

pub text_calls : TextCalls
text_calls next unit turn region place follow around fits =
    region_calls (Contains (calls_in (node_statements unit.nodes))) next _ (is_inside around) region
    (parts_of unit (Calls (Contains (calls_in (node_statements unit.nodes)))) (λ n. Unit {0})
    (record {
      parts =
          each_node (Calls (Contains (calls_in (node_statements unit.nodes)))) (parts_call (Contains (calls_in (node_statements unit.nodes)))) unit.nodes
          (All-contains_itself (calls_in (node_statements unit.nodes)));
      tables = λ i x e targets last there same. tt;
    }) turn region place follow around fits)
