-- From the nodes of a graph program to calls by nodes: twice as many units of work are enough.
use Rattle.std.proofs.Common.{◌≡◌, ℕ, zero, suc, ◌*◌, ◌<◌, ◌≤◌, true, false, List, length, map, Option, Some, None, Result, Ok, Err, refl, sym, subst, arith}
use Rattle.std.specs.Prelude.{option_map, slice_get}
use Rattle.memory_areas.specs.Areas.{Areas}
use Rattle.memory_areas.specs.End.{Ended}
use Rattle.memory_areas.specs.declared.call.Call.{Call}
use Rattle.s7_base.specs.declared.outcome.Fault.{Fault}
use Rattle.st_tree.specs.Calls.{enter_with, located_actuals, state_on_entry}
use Rattle.st_tree.specs.GraphRun as run
use Rattle.st_tree.specs.GraphRun.{Way, each_node, exit_meaning, follow, most_nodes, node_meaning, nodes_do, run_of_graph, unit_begun, way_of}
use Rattle.st_tree.specs.Meaning.{Calls, Out, body_meaning}
use Rattle.st_tree.specs.StRun.{end_seen, state_at_start}
use Rattle.st_tree.specs.State.{State}
use Rattle.st_tree.specs.WellTyped.{Head, UnitScope}
use Rattle.st_tree.specs.declared.graph.GraphPou.{GraphPou}
use Rattle.st_tree.specs.declared.graph.GraphProgram.{GraphProgram}
use Rattle.st_tree.specs.declared.graph.StNode.{StNode}
use Rattle.st_tree.specs.declared.program.Located.{Located}
use Rattle.st_tree.specs.declared.state.Reference.{Reference}
use Rattle.st_tree.proofs.Locals.{with_own}
use Rattle.region_laws.specs.Regions.{IsOnward, Mark, arm_of, loop_head, unmarked}
use Rattle.region_laws.proofs.Arrivals.{next_there, second_reach, shared_zeros, typed_of, unit_at}
use Rattle.region_laws.proofs.Entering.{AreInside, actuals_inside, count_at, inner_shape, near_entered, same_actuals}
use Rattle.region_laws.proofs.Matches.{CallsMatch, Matches, Twice, all_match, ended_matches, left_matches, then_matches, wider}
use Rattle.region_laws.proofs.Means.{exit_by, node_step, on_way, reach}
use Rattle.region_laws.proofs.Near.{Near, Shape, near_next}
use Rattle.region_laws.proofs.Starts.{near_second, text_second}
use Rattle.region_laws.proofs.Statements.{at_node}
use Rattle.region_laws.proofs.Typed.{IsTypedUnit, calls_of, nodes_typed, same_way, sight_of}
use Rattle.region_laws.proofs.Units.{Translated, arrival_of, graph_unit, marked_of, next_of, unit_begins, unit_walk, walk_calls, walk_of}
use Rattle.region_laws.proofs.Walks.{AllWays, ways_onward}

module _ (graph : GraphProgram) (heads : List Head) (zs : List Translated) (units : map graph_unit zs ≡ graph.pous)
    (typed : (n : ℕ) (u : GraphPou) → slice_get graph.pous n ≡ Some u → IsTypedUnit graph heads u)
  where
    abbrev g : List Located
    g = graph.globals

    abbrev calls : ℕ → Calls
    calls deep = walk_calls g zs deep

    abbrev nodes_of : Translated → List StNode
    nodes_of z = z.0.graph.nodes

    -- the second state is the one of the text
    abbrev IsShaped : Shape → Translated → Type 0
    IsShaped shape z = (shape.shared shape.waiting ≡ length z.0.head.locals) × (shape.second shape.waiting ≡ length z.1.locals)

    abbrev NodesMatch : ℕ → Type 0
    NodesMatch most =
        (n : ℕ) (z : Translated) → slice_get zs n ≡ Some z → (shape : Shape) → IsShaped shape z → (deep i a b : ℕ) → z.2.reached i ≡ true
        → suc (2 * a) ≤ b → suc a ≤ deep → (s t : State) → Near shape s t
        → Matches shape (Twice a) (nodes_do each_node graph most (nodes_of z) i a s) (walk_of g (calls deep) z i b t)

    module _ (most : ℕ) (smaller : NodesMatch most) where
      -- a node that is arrived at
      arrived : (n : ℕ) (z : Translated) → slice_get zs n ≡ Some z → (shape : Shape) → IsShaped shape z → (deep j a b top : ℕ) → z.2.reached j ≡ true → a ≤ top
          → suc (suc (2 * a)) ≤ b → suc a ≤ deep → (s t : State) → Near shape s t → (m : Mark) → z.2.marks j ≡ m
          → Matches shape (Twice top) (nodes_do each_node graph most (nodes_of z) j a s) (reach g (next_of z) m j (walk_of g (calls deep) z j) b t)
      arrived n z e shape shaped deep j a zero top r h l k s t near m q = absurd (omega arith)
      arrived n z e shape shaped deep j a b top r h l k s t near unmarked q =
          wider shape (Twice a) (Twice top) (λ c d x. omega arith) _ _ (smaller n z e shape shaped deep j a b r (omega arith) k s t near)
      arrived n z e shape shaped deep j a (suc b) top r h l k s t near loop_head q =
          wider shape (Twice a) (Twice top) (λ c d x. omega arith) _ _ (smaller n z e shape shaped deep j a b r (omega arith) k s t near)
      arrived n z e shape shaped deep j a (suc b) top r h l k s t near (arm_of o) q =
          let beyond : shape.shared shape.waiting ≤ next_of z = omega (arith, shaped.0) in
          let there : next_of z < shape.second shape.waiting = omega (arith, shaped.1, next_there z j o q) in
          subst (λ (p : Out). Matches shape (Twice top) (nodes_do each_node graph most (nodes_of z) j a s) p)
          (sym (second_reach g (next_of z) shape beyond o j (suc b) (walk_of g (calls deep) z j) s t near there))
          (wider shape (Twice a) (Twice top) (λ c d x. omega arith) _ _
          (smaller n z e shape shaped deep j a b r (omega arith) k s (with_own (next_of z) (at_node j) t)
          (near_next shape s t near (next_of z) (at_node j) beyond)))

      -- Calls

      begun_forth : (deep top : ℕ) → top ≤ deep → (shape : Shape) (s t : State) → Near shape s t → (n : ℕ) (rs : List Reference) → AreInside shape (Ok rs)
          → (o : Option Translated) → slice_get zs n ≡ o → (a b : ℕ) → Twice top a (suc b)
          → Matches shape (Twice top) (unit_begun (λ begun. nodes_do each_node graph most begun 0) (option_map graph_unit o) rs a s)
          (unit_walk g (calls deep) o rs b t)
      begun_forth deep top low shape s t near n rs inside None e a b r = tt
      begun_forth deep top low shape s t near n rs inside (Some z) e zero b r = tt
      begun_forth deep top low shape s t near n rs inside (Some z) e (suc a) b r =
          let many : ℕ = length z.0.head.locals in
          let inner : Shape = inner_shape shape many many (length z.1.locals) in
          left_matches shape s t near many many (length z.1.locals) (Twice top) _ _
          (arrived n z e inner (count_at (suc shape.waiting) many shape.shared, count_at (suc shape.waiting) (length z.1.locals) shape.second)
          deep 0 a b top z.2.first (omega arith) (omega arith) (omega arith) (state_on_entry z.0.head rs s) (state_on_entry z.1 rs t)
          (near_entered shape s t near z.0.head z.1 rs inside many (shared_zeros z)) (z.2.marks 0) refl)

      located_forth : (deep top : ℕ) → top ≤ deep → (shape : Shape) (s t : State) → Near shape s t → (n : ℕ) (o : Result (List Reference) Fault)
          → AreInside shape o → (a b : ℕ) → Twice top a (suc b)
          → Matches shape (Twice top) (enter_with (unit_begun (λ begun. nodes_do each_node graph most begun 0) (slice_get graph.pous n)) o a s)
          (enter_with (unit_walk g (calls deep) (slice_get zs n)) o b t)
      located_forth deep top low shape s t near n (Err f) h a b r = (t, refl, near.memory)
      located_forth deep top low shape s t near n (Ok rs) h a b r =
          subst (λ (o : Option GraphPou). Matches shape (Twice top) (unit_begun (λ begun. nodes_do each_node graph most begun 0) o rs a s)
          (unit_walk g (calls deep) (slice_get zs n) rs b t)) (sym (unit_at graph zs units n))
          (begun_forth deep top low shape s t near n rs h (slice_get zs n) refl a b r)

      calls_forth : (deep top : ℕ) → suc top ≤ deep → (shape : Shape) (sight : UnitScope) → length sight.locals ≤ shape.shared shape.waiting
          → CallsMatch shape sight (Twice top) (calls_of graph each_node most) (calls deep)
      calls_forth zero top low shape sight known n vars good a b r s t near = absurd (omega arith)
      calls_forth (suc deep) top low shape sight known n vars good a zero r s t near = absurd (omega arith)
      calls_forth (suc deep) top low shape sight known n vars good a (suc b) r s t near =
          subst (λ (o : Result (List Reference) Fault). Matches shape (Twice top) (calls_of graph each_node most n vars a s)
          (enter_with (unit_walk g (calls deep) (slice_get zs n)) o b t)) (same_actuals shape s t near g vars)
          (located_forth deep top (omega arith) shape s t near n (located_actuals g vars s) (actuals_inside shape s t near g sight known n vars good) a b r)

      -- Nodes

      module _ (n : ℕ) (z : Translated) (e : slice_get zs n ≡ Some z) (shape : Shape) (shaped : IsShaped shape z) (deep top i : ℕ) (low : suc top ≤ deep) where
        way_forth : (w : Result Way Fault) → AllWays (IsOnward (marked_of z) i) w → (a b : ℕ) → Twice top a b → (s t : State) → Near shape s t
            → Matches shape (Twice top) (follow each_node (nodes_do each_node graph most (nodes_of z)) i w a s) (on_way (arrival_of g (calls deep) z) w b t)
        way_forth (Ok (run.to j)) o zero b r s t near = tt
        way_forth (Ok (run.to j)) o (suc a) b r s t near =
            arrived n z e shape shaped deep j a b top o.reached (omega arith) (omega arith) (omega arith) s t near (z.2.marks j) refl
        way_forth (Ok run.out) o a b r s t near = (b, t, refl, r, near)
        way_forth (Err f) o a b r s t near = (t, refl, near.memory)

        abbrev sight : UnitScope
        sight = sight_of graph heads z.0

        known : length sight.locals ≤ shape.shared shape.waiting
        known = omega (arith, shaped.0)

        node_forth : z.2.reached i ≡ true → (o : Option StNode) → slice_get (nodes_of z) i ≡ o → (a b : ℕ) → Twice top a b → (s t : State) → Near shape s t
            → Matches shape (Twice top) (node_meaning g each_node (calls_of graph each_node most) (nodes_do each_node graph most (nodes_of z)) i o a s)
            (node_step g (calls deep) (next_of z) z.2.marks (walk_of g (calls deep) z) i o b t)
        node_forth reached None q a b r s t near = tt
        node_forth reached (Some node) q a b r s t near =
            let h = typed_of graph heads zs units typed n z e in
            let own = nodes_typed sight (nodes_of z) h.typed h.plain i node q in
            then_matches shape (Twice top) (Twice top) (body_meaning g (calls_of graph each_node most) node.steps a s)
            (body_meaning g (calls deep) node.steps b t)
            (all_match shape (Twice top) g sight known (calls_of graph each_node most) (calls deep) (calls_forth deep top low shape sight known) false
            node.steps own.plain own.steps a b r s t near)
            (exit_meaning g each_node (nodes_do each_node graph most (nodes_of z)) i node.exit)
            (exit_by g (calls deep) (next_of z) z.2.marks (walk_of g (calls deep) z) i node.exit)
            (λ c d k x y l.
            subst (λ (w : Result Way Fault). Matches shape (Twice top) (exit_meaning g each_node (nodes_do each_node graph most (nodes_of z)) i node.exit c x)
            (on_way (arrival_of g (calls deep) z) w d y)) (same_way g sight shape known x y l i node.exit own.test)
            (way_forth (way_of g i node.exit x) (ways_onward g (marked_of z) i node.exit (z.2.onward i node reached q) x) c d k x y l))

    nodes_forth : (most : ℕ) → NodesMatch most
    nodes_forth zero n z e shape shaped deep i a b r h k s t near = tt
    nodes_forth (suc most) n z e shape shaped deep i a b r h k s t near =
        subst (λ (p : Out). Matches shape (Twice a) (nodes_do each_node graph (suc most) (nodes_of z) i a s) p) (sym (unit_begins g zs deep z i b t r))
        (node_forth most (nodes_forth most) n z e shape shaped deep a i k r (slice_get (nodes_of z) i) refl a b (omega arith, omega arith) s t near)

    pub run_forth : (call : Call) (memory : Areas) (n : ℕ) (z : Translated) → slice_get zs n ≡ Some z → (count : ℕ) (after : Areas) (fault : Option Fault)
        → run_of_graph each_node graph (Some z.0) call memory count ≡ Ended after fault
        → end_seen (arrival_of g (calls (2 * count)) z 0 (2 * count) (state_at_start z.1 call memory)) ≡ Ended after fault
    run_forth call memory n z e zero after fault q = cc
    run_forth call memory n z e (suc m) after fault q =
        ended_matches (text_second z.0 z.1) (Twice m) _ _
        (arrived (most_nodes graph (suc m)) (nodes_forth (most_nodes graph (suc m))) n z e (text_second z.0 z.1) (refl, refl) (2 * suc m) 0 m (2 * suc m) m
        z.2.first (omega arith) (omega arith) (omega arith) (state_at_start z.0.head call memory) (state_at_start z.1 call memory)
        (near_second z.2.without_next z.0 z.1 z.2.formals z.2.locals call memory) (z.2.marks 0) refl)
        after fault q
