-- Nodes whose steps and tests are well typed, as those of a plain graph program, and where their exits lead in states that are
-- near.
use Rattle.std.proofs.Common.{◌≡◌, ℕ, zero, suc, ◌≤◌, Bool, true, false, if◌then◌else◌, List, [], ◌∷◌, ◌++◌, length, map, Some, Result, Ok, refl, ap, ◌∙◌, subst, arith}
use Rattle.std.specs.Prelude.{option_map, slice_get}
use Rattle.std.proofs.lemmas.Option.{slice_get-map}
use Rattle.memory_areas.specs.Access.{and_then}
use Rattle.s7_base.specs.Numbers.{greatest}
use Rattle.s7_base.specs.declared.outcome.Fault.{Fault}
use Rattle.st_tree.specs.GraphRun.{Counting, chosen_node, graph_calls, longest, nodes_do, out, to, way_of}
use Rattle.st_tree.specs.Meaning.{Calls}
use Rattle.st_tree.specs.Proper.{IsProperUnit}
use Rattle.st_tree.specs.State.{State}
use Rattle.st_tree.specs.Values.{is_set}
use Rattle.st_tree.specs.WellTyped.{Head, UnitScope, are_well_typed, head_of, is_well_typed}
use Rattle.st_tree.specs.declared.graph.GraphPou.{GraphPou}
use Rattle.st_tree.specs.declared.graph.GraphProgram.{GraphProgram}
use Rattle.st_tree.specs.declared.graph.StExit.{StExit}
use Rattle.st_tree.specs.declared.graph.StExit.TheVariants as exit
use Rattle.st_tree.specs.declared.graph.StNode.{StNode}
use Rattle.st_tree.specs.declared.program.Located.{Located}
use Rattle.st_tree.specs.declared.program.Pou.{Pou}
use Rattle.st_tree.specs.declared.program.Stmt.{Stmt}
use Rattle.st_tree.specs.declared.state.Value.{Value}
use Rattle.st_tree.proofs.FittingCalls.{at_position}
use Rattle.st_tree.proofs.TypedParts.{parts_of_body}
use Rattle.graph_rules.specs.Plain.{AreSteps, IsPlainUnit, Plain, listed_text, node_statements, test_of}
use Rattle.region_laws.proofs.Near.{Near, Shape, same_value}
use Rattle.region_laws.proofs.Steps.{HavePlainSteps}
use Rattle.region_laws.proofs.Tests.{has_type_of_test, tests_type}

-- Statements in two parts

module _ (sight : UnitScope) (inside : Bool) where
  first_typed : (x : Stmt) (xs : List Stmt) → is_well_typed sight x inside ≡ true → are_well_typed sight inside xs ≡ true
      → are_well_typed sight inside (x ∷ xs) ≡ true
  first_typed x xs h k = rw (h, k) refl

  -- of statements in two parts, each part
  pub both_typed : (xs ys : List Stmt) → are_well_typed sight inside (xs ++ ys) ≡ true
      → (are_well_typed sight inside xs ≡ true) × (are_well_typed sight inside ys ≡ true)
  both_typed [] ys h = (refl, h)
  both_typed (x ∷ xs) ys h =
      let p = parts_of_body sight inside x (xs ++ ys) h in
      let q = both_typed xs ys p.1 in
      (first_typed x xs p.0 q.0, q.1)

-- Nodes

-- what is asked of a node: its steps are those of a plain graph, and they and the test of its exit are well typed
pub record IsTyped (sight : UnitScope) (node : StNode) : Type 0 where
  pub plain : AreSteps node.steps
  pub steps : are_well_typed sight false node.steps ≡ true
  pub test : are_well_typed sight false (test_of node.exit) ≡ true

module _ (sight : UnitScope) where
  pub nodes_typed : (nodes : List StNode) → are_well_typed sight false (node_statements nodes) ≡ true → HavePlainSteps nodes
      → (i : ℕ) (node : StNode) → slice_get nodes i ≡ Some node → IsTyped sight node
  nodes_typed [] h plain i node e = cc
  nodes_typed (x ∷ rest) h plain zero node e =
      let same : x ≡ node = cc in
      let own = both_typed sight false (x.steps ++ test_of x.exit) (node_statements rest) h in
      let parts = both_typed sight false x.steps (test_of x.exit) own.0 in
      subst (IsTyped sight) same (record { plain = plain 0 x refl; steps = parts.0; test = parts.1 })
  nodes_typed (x ∷ rest) h plain (suc i) node e =
      let own = both_typed sight false (x.steps ++ test_of x.exit) (node_statements rest) h in nodes_typed rest own.1 (λ k. plain (suc k)) i node e

module _ (g : List Located) (sight : UnitScope) (shape : Shape) (known : length sight.locals ≤ shape.shared shape.waiting) where
  -- exits lead the same way in states that are near
  pub same_way : (s t : State) → Near shape s t → (i : ℕ) (x : StExit) → are_well_typed sight false (test_of x) ≡ true
      → way_of g i x s ≡ way_of g i x t
  same_way s t near i exit.Fall h = refl
  same_way s t near i (exit.Jump j) h = refl
  same_way s t near i (exit.Branch e j) h =
      ap (λ (r : Result Value Fault). and_then r (λ v. Ok (if is_set v then to j else to (suc i))))
      (same_value shape s t near g sight known e _ (has_type_of_test sight e h))
  same_way s t near i (exit.EndIf e) h =
      ap (λ (r : Result Value Fault). and_then r (λ v. Ok (if is_set v then out else to (suc i))))
      (same_value shape s t near g sight known e _ (has_type_of_test sight e h))
  same_way s t near i (exit.Table e targets last) h =
      let ty = tests_type sight e h in
      ap (λ (r : Result Value Fault). and_then r (λ v. Ok (to (chosen_node v.n targets last))))
      (same_value shape s t near g sight known e ty.type ty.has)
  same_way s t near i exit.End h = refl

-- Units

pub within_longest : (units : List GraphPou) (n : ℕ) (unit : GraphPou) → slice_get units n ≡ Some unit
    → length unit.graph.nodes ≤ greatest (map (λ (u : GraphPou). length u.graph.nodes) units)
within_longest [] n unit e = cc
within_longest (x ∷ xs) zero unit e = let there : x ≡ unit = cc in omega (arith, ap (λ (u : GraphPou). length u.graph.nodes) there)
within_longest (x ∷ xs) (suc n) unit e = omega (arith, within_longest xs n unit e)

module _ (graph : GraphProgram) (heads : List Head) where
  abbrev pub sight_of : GraphPou → UnitScope
  sight_of u = record { globals = graph.globals; heads = heads; formals = u.head.formals; locals = u.head.locals }

  -- what is asked of a unit
  pub record IsTypedUnit (u : GraphPou) : Type 0 where
    pub typed : are_well_typed (sight_of u) false (node_statements u.graph.nodes) ≡ true
    pub plain : HavePlainSteps u.graph.nodes
    pub few : length u.graph.nodes ≤ longest graph

module _ (graph : GraphProgram) where
  -- one more than the longest unit has nodes
  abbrev pub wide : ℕ
  wide = suc (longest graph)

  -- the calls of a node after which so many nodes may follow
  abbrev pub calls_of : Counting → ℕ → Calls
  calls_of counts most = graph_calls (λ begun. nodes_do counts graph most begun 0) graph

-- a unit as it is listed
abbrev pub listed_unit : GraphPou → Pou
listed_unit u = record u.head { body = node_statements u.graph.nodes }

-- the heads of the units of a graph program
abbrev pub heads_in : GraphProgram → List Head
heads_in graph = map head_of (listed_text graph).pous

pub typed_at : (graph : GraphProgram) → Plain graph → (n : ℕ) (u : GraphPou) → slice_get graph.pous n ≡ Some u → IsTypedUnit graph (heads_in graph) u
typed_at graph plain n u e =
    let proper = at_position (IsProperUnit graph.globals (heads_in graph)) (map listed_unit graph.pous) n (listed_unit u) plain.text.units
    (slice_get-map listed_unit graph.pous n ∙ ap (option_map listed_unit) e) in
    let own = at_position IsPlainUnit graph.pous n u plain.units e in
    record { typed = proper.typed; plain = λ i node q. (own.nodes i node q).steps; few = within_longest graph.pous n u e }
