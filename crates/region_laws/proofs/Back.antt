-- From calls by nodes to the nodes of a graph program: each unit of work of a pass is one of the text, and there is one more at
-- the start.
use Rattle.std.proofs.Common.{◌≡◌, ℕ, zero, suc, ◌+◌, ◌*◌, ◌<◌, ◌≤◌, Bool, true, false, not, List, length, map, Option, Some, None, Result, Ok, Err, refl, sym, ap, ◌∙◌, subst, arith}
use Rattle.std.specs.Prelude.{nat_lt, option_map, slice_get}
use Rattle.std.proofs.Math.Nat.{mul-le-mul_right, suc-mul}
use Rattle.std.proofs.lemmas.Bool.{ltb-false, ltb-true}
use Rattle.std.proofs.lemmas.Option.{slice_get_past, slice_get_within}
use Rattle.memory_areas.specs.Areas.{Areas}
use Rattle.memory_areas.specs.End.{Ended}
use Rattle.memory_areas.specs.declared.call.Call.{Call}
use Rattle.s7_base.specs.declared.outcome.Fault.{Fault}
use Rattle.st_tree.specs.Calls.{enter_with, located_actuals, state_on_entry}
use Rattle.st_tree.specs.GraphRun as run
use Rattle.st_tree.specs.GraphRun.{Way, counted_if, each_pass, exit_meaning, follow, longest, most_nodes, node_meaning, nodes_do, run_of_graph, unit_begun, way_of}
use Rattle.st_tree.specs.Meaning.{Calls, NoUnits, Out, body_meaning}
use Rattle.st_tree.specs.StRun.{end_seen, state_at_start}
use Rattle.st_tree.specs.State.{State}
use Rattle.st_tree.specs.WellTyped.{Head, UnitScope}
use Rattle.st_tree.specs.declared.graph.GraphPou.{GraphPou}
use Rattle.st_tree.specs.declared.graph.GraphProgram.{GraphProgram}
use Rattle.st_tree.specs.declared.graph.StNode.{StNode}
use Rattle.st_tree.specs.declared.program.Located.{Located}
use Rattle.st_tree.specs.declared.state.Reference.{Reference}
use Rattle.region_laws.specs.Regions.{IsOnward, arm_of}
use Rattle.region_laws.proofs.Arrivals.{arrival_matches, next_there, shared_zeros, typed_of, unit_at}
use Rattle.region_laws.proofs.Entering.{AreInside, actuals_inside, count_at, inner_shape, near_entered, same_actuals}
use Rattle.region_laws.proofs.Matches.{CallsMatch, Matches, all_match, ended_matches, left_matches, then_matches, wider}
use Rattle.region_laws.proofs.Means.{exit_by, node_step, on_way}
use Rattle.region_laws.proofs.Near.{Near, Shape}
use Rattle.region_laws.proofs.Starts.{near_first, text_first}
use Rattle.region_laws.proofs.Typed.{IsTypedUnit, calls_of, nodes_typed, same_way, sight_of, wide}
use Rattle.region_laws.proofs.Units.{Translated, arrival_of, graph_unit, marked_of, next_of, unit_begins, unit_walk, walk_calls, walk_of}
use Rattle.region_laws.proofs.Walks.{AllWays, ways_onward}

was_set : (b : Bool) → not b ≡ false → b ≡ true
was_set true e = refl
was_set false e = cc

was_not : (b : Bool) → not b ≡ true → b ≡ false
was_not true e = cc
was_not false e = refl

-- of the units of a text and of passes
abbrev NoMore : ℕ → ℕ → ℕ → Type 0
NoMore top a b = (a ≤ b) × (b ≤ top)

module _ (graph : GraphProgram) (heads : List Head) (zs : List Translated) (units : map graph_unit zs ≡ graph.pous)
    (typed : (n : ℕ) (u : GraphPou) → slice_get graph.pous n ≡ Some u → IsTypedUnit graph heads u)
  where
    abbrev g : List Located
    g = graph.globals

    abbrev most_wide : ℕ
    most_wide = wide graph

    abbrev calls : ℕ → Calls
    calls deep = walk_calls g zs deep

    abbrev nodes_of : Translated → List StNode
    nodes_of z = z.0.graph.nodes

    -- the first state is the one of the text
    abbrev IsShaped : Shape → Translated → Type 0
    IsShaped shape z = (shape.shared shape.waiting ≡ length z.0.head.locals) × (shape.first shape.waiting ≡ length z.1.locals)

    abbrev PassesMatch : ℕ → Type 0
    PassesMatch most =
        (n : ℕ) (z : Translated) → slice_get zs n ≡ Some z → (shape : Shape) → IsShaped shape z → (deep i a b : ℕ) → z.2.reached i ≡ true
        → a ≤ b → b * most_wide + most_wide ≤ most + i → (s t : State) → Near shape s t
        → Matches shape (NoMore b) (walk_of g (calls deep) z i a s) (nodes_do each_pass graph most (nodes_of z) i b t)

    module _ (most : ℕ) (smaller : PassesMatch most) where
      lower : (n : ℕ) (z : Translated) → slice_get zs n ≡ Some z → (shape : Shape) → IsShaped shape z → (deep j a b top : ℕ) → z.2.reached j ≡ true
          → NoMore top a b → b * most_wide + most_wide ≤ most + j → (s t : State) → Near shape s t
          → Matches shape (NoMore top) (walk_of g (calls deep) z j a s) (nodes_do each_pass graph most (nodes_of z) j b t)
      lower n z e shape shaped deep j a b top r h k s t near =
          wider shape (NoMore b) (NoMore top) (λ c d x. omega arith) _ _ (smaller n z e shape shaped deep j a b r h.0 k s t near)

      there : (z : Translated) (shape : Shape) → IsShaped shape z → (j k : ℕ) → z.2.marks j ≡ arm_of k → next_of z < shape.first shape.waiting
      there z shape shaped j k q = omega (arith, shaped.1, next_there z j k q)

      beyond : (z : Translated) (shape : Shape) → IsShaped shape z → shape.shared shape.waiting ≤ next_of z
      beyond z shape shaped = omega (arith, shaped.0)

      -- the first node of a unit
      pub first_back : (n : ℕ) (z : Translated) → slice_get zs n ≡ Some z → (shape : Shape) → IsShaped shape z → (deep a b top : ℕ) → NoMore top a b
          → b * most_wide + most_wide ≤ most → (s t : State) → Near shape s t
          → Matches shape (NoMore top) (arrival_of g (calls deep) z 0 a s) (nodes_do each_pass graph most (nodes_of z) 0 b t)
      first_back n z e shape shaped deep a b top h k s t near =
          arrival_matches g (next_of z) shape (beyond z shape shaped) (NoMore top) (nodes_do each_pass graph most (nodes_of z) 0 b t) t
          (walk_of g (calls deep) z 0) 0 (z.2.marks 0) (there z shape shaped 0) a s near
          (λ free. lower n z e shape shaped deep 0 a b top z.2.first h (omega arith) s t near)
          (λ v q x l. lower n z e shape shaped deep 0 v b top z.2.first (omega (arith, h.0, q), h.1) (omega arith) x t l)

      -- Calls

      begun_back : (deep top : ℕ) → top * most_wide ≤ most → (shape : Shape) (s t : State) → Near shape s t → (n : ℕ) (rs : List Reference)
          → AreInside shape (Ok rs) → (o : Option Translated) → slice_get zs n ≡ o → (a b : ℕ) → NoMore top (suc a) b
          → Matches shape (NoMore top) (unit_walk g (calls deep) o rs a s)
          (unit_begun (λ begun. nodes_do each_pass graph most begun 0) (option_map graph_unit o) rs b t)
      begun_back deep top room shape s t near n rs inside None e a b r = tt
      begun_back deep top room shape s t near n rs inside (Some z) e a zero r = absurd (omega (arith, r.0))
      begun_back deep top room shape s t near n rs inside (Some z) e a (suc b) r =
          let many : ℕ = length z.0.head.locals in
          let inner : Shape = inner_shape shape many (length z.1.locals) many in
          let l : suc b * most_wide ≤ top * most_wide = mul-le-mul_right most_wide r.1 in
          left_matches shape s t near many (length z.1.locals) many (NoMore top) _ _
          (first_back n z e inner (count_at (suc shape.waiting) many shape.shared, count_at (suc shape.waiting) (length z.1.locals) shape.first)
          deep a b top (omega (arith, r.0), omega (arith, r.1)) (omega (arith, suc-mul b most_wide)) (state_on_entry z.1 rs s) (state_on_entry z.0.head rs t)
          (near_entered shape s t near z.1 z.0.head rs inside many (λ i h. sym (shared_zeros z i h))))

      located_back : (deep top : ℕ) → top * most_wide ≤ most → (shape : Shape) (s t : State) → Near shape s t → (n : ℕ)
          → (o : Result (List Reference) Fault) → AreInside shape o → (a b : ℕ) → NoMore top (suc a) b
          → Matches shape (NoMore top) (enter_with (unit_walk g (calls deep) (slice_get zs n)) o a s)
          (enter_with (unit_begun (λ begun. nodes_do each_pass graph most begun 0) (slice_get graph.pous n)) o b t)
      located_back deep top room shape s t near n (Err f) h a b r = (t, refl, near.memory)
      located_back deep top room shape s t near n (Ok rs) h a b r =
          subst (λ (o : Option GraphPou). Matches shape (NoMore top) (unit_walk g (calls deep) (slice_get zs n) rs a s)
          (unit_begun (λ begun. nodes_do each_pass graph most begun 0) o rs b t)) (sym (unit_at graph zs units n))
          (begun_back deep top room shape s t near n rs h (slice_get zs n) refl a b r)

      calls_back : (deep top : ℕ) → top * most_wide ≤ most → (shape : Shape) (sight : UnitScope) → length sight.locals ≤ shape.shared shape.waiting
          → CallsMatch shape sight (NoMore top) (calls deep) (calls_of graph each_pass most)
      calls_back zero top room shape sight known n vars good a b r s t near = tt
      calls_back (suc deep) top room shape sight known n vars good zero b r s t near = tt
      calls_back (suc deep) top room shape sight known n vars good (suc a) b r s t near =
          subst (λ (o : Result (List Reference) Fault). Matches shape (NoMore top) (calls (suc deep) n vars (suc a) s)
          (enter_with (unit_begun (λ begun. nodes_do each_pass graph most begun 0) (slice_get graph.pous n)) o b t)) (same_actuals shape s t near g vars)
          (located_back deep top room shape s t near n (located_actuals g vars s) (actuals_inside shape s t near g sight known n vars good) a b r)

      -- Nodes

      module _ (n : ℕ) (z : Translated) (e : slice_get zs n ≡ Some z) (shape : Shape) (shaped : IsShaped shape z) (deep top i : ℕ) (low : i < most_wide)
          (room : top * most_wide + most_wide ≤ suc most + i)
        where
          free_back : (j : ℕ) → IsOnward (marked_of z) i j → i < j → (d : Bool) → each_pass i j ≡ d → (a b : ℕ) → NoMore top a b → (s t : State)
              → Near shape s t
              → Matches shape (NoMore top) (walk_of g (calls deep) z j a s) (counted_if d (nodes_do each_pass graph most (nodes_of z) j) b t)
          free_back j o ahead true q a b r s t near = let l = ltb-false i j (was_not (nat_lt i j) q) in absurd (omega arith)
          free_back j o ahead false q a b r s t near =
              let l : b * most_wide ≤ top * most_wide = mul-le-mul_right most_wide r.1 in
              lower n z e shape shaped deep j a b top o.reached r (omega arith) s t near

          paid_back : (j : ℕ) → IsOnward (marked_of z) i j → (d : Bool) → each_pass i j ≡ d → (a b : ℕ) → NoMore top (suc a) b → (s t : State) → Near shape s t
              → Matches shape (NoMore top) (walk_of g (calls deep) z j a s) (counted_if d (nodes_do each_pass graph most (nodes_of z) j) b t)
          paid_back j o true q a zero r s t near = absurd (omega (arith, r.0))
          paid_back j o true q a (suc b) r s t near =
              let l : suc b * most_wide ≤ top * most_wide = mul-le-mul_right most_wide r.1 in
              lower n z e shape shaped deep j a b top o.reached (omega (arith, r.0), omega (arith, r.1)) (omega (arith, suc-mul b most_wide)) s t near
          paid_back j o false q a b r s t near =
              let l : b * most_wide ≤ top * most_wide = mul-le-mul_right most_wide r.1 in
              let m : i < j = ltb-true i j (was_set (nat_lt i j) q) in
              lower n z e shape shaped deep j a b top o.reached (omega (arith, r.0), r.1) (omega arith) s t near

          way_back : (w : Result Way Fault) → AllWays (IsOnward (marked_of z) i) w → (a b : ℕ) → NoMore top a b → (s t : State) → Near shape s t
              → Matches shape (NoMore top) (on_way (arrival_of g (calls deep) z) w a s) (follow each_pass (nodes_do each_pass graph most (nodes_of z)) i w b t)
          way_back (Ok (run.to j)) o a b r s t near =
              arrival_matches g (next_of z) shape (beyond z shape shaped) (NoMore top)
              (counted_if (each_pass i j) (nodes_do each_pass graph most (nodes_of z) j) b t) t (walk_of g (calls deep) z j) j (z.2.marks j)
              (there z shape shaped j) a s near
              (λ free. free_back j o (o.behind free) (each_pass i j) refl a b r s t near)
              (λ v q x l. paid_back j o (each_pass i j) refl v b (omega (arith, r.0, q), r.1) x t l)
          way_back (Ok run.out) o a b r s t near = (b, t, refl, r, near)
          way_back (Err f) o a b r s t near = (t, refl, near.memory)

          abbrev sight : UnitScope
          sight = sight_of graph heads z.0

          known : length sight.locals ≤ shape.shared shape.waiting
          known = omega (arith, shaped.0)

          node_back : z.2.reached i ≡ true → (node : StNode) → slice_get (nodes_of z) i ≡ Some node → (a b : ℕ) → NoMore top a b → (s t : State)
              → Near shape s t
              → Matches shape (NoMore top) (node_step g (calls deep) (next_of z) z.2.marks (walk_of g (calls deep) z) i (Some node) a s)
              (node_meaning g each_pass (calls_of graph each_pass most) (nodes_do each_pass graph most (nodes_of z)) i (Some node) b t)
          node_back reached node q a b r s t near =
              let h = typed_of graph heads zs units typed n z e in
              let own = nodes_typed sight (nodes_of z) h.typed h.plain i node q in
              then_matches shape (NoMore top) (NoMore top) (body_meaning g (calls deep) node.steps a s)
              (body_meaning g (calls_of graph each_pass most) node.steps b t)
              (all_match shape (NoMore top) g sight known (calls deep) (calls_of graph each_pass most) (calls_back deep top (omega arith) shape sight known)
              false
              node.steps own.plain own.steps a b r s t near)
              (exit_by g (calls deep) (next_of z) z.2.marks (walk_of g (calls deep) z) i node.exit)
              (exit_meaning g each_pass (nodes_do each_pass graph most (nodes_of z)) i node.exit)
              (λ c d k x y l.
              subst (λ (w : Result Way Fault). Matches shape (NoMore top)
              (exit_by g (calls deep) (next_of z) z.2.marks (walk_of g (calls deep) z) i node.exit c x)
              (follow each_pass (nodes_do each_pass graph most (nodes_of z)) i w d y)) (same_way g sight shape known x y l i node.exit own.test)
              (way_back (way_of g i node.exit x) (ways_onward g (marked_of z) i node.exit (z.2.onward i node reached q) x) c d k x y l))

    by_node : (most : ℕ) → PassesMatch most → (n : ℕ) (z : Translated) → slice_get zs n ≡ Some z → (shape : Shape) → IsShaped shape z
        → (deep i a b : ℕ) → z.2.reached i ≡ true → a ≤ b → b * most_wide + most_wide ≤ suc most + i → (s t : State) → Near shape s t
        → (o : Option StNode) → slice_get (nodes_of z) i ≡ o
        → Matches shape (NoMore b) (node_step g (calls deep) (next_of z) z.2.marks (walk_of g (calls deep) z) i o a s)
        (node_meaning g each_pass (calls_of graph each_pass most) (nodes_do each_pass graph most (nodes_of z)) i o b t)
    by_node most smaller n z e shape shaped deep i a b r h k s t near None q = tt
    by_node most smaller n z e shape shaped deep i a b r h k s t near (Some node) q =
        let inside : i < length (nodes_of z) = slice_get_within (nodes_of z) i node q in
        let few : length (nodes_of z) ≤ longest graph = (typed_of graph heads zs units typed n z e).few in
        node_back most smaller n z e shape shaped deep b i (omega arith) k r node q a b (h, omega arith) s t near

    none_left : (n : ℕ) (z : Translated) → slice_get zs n ≡ Some z → (deep i a : ℕ) (s : State) → z.2.reached i ≡ true → most_wide ≤ i
        → walk_of g (calls deep) z i a s ≡ NoUnits s
    none_left n z e deep i a s r h =
        let few : length (nodes_of z) ≤ longest graph = (typed_of graph heads zs units typed n z e).few in
        unit_begins g zs deep z i a s r
        ∙ ap (λ (o : Option StNode). node_step g (calls deep) (next_of z) z.2.marks (walk_of g (calls deep) z) i o a s)
        (slice_get_past (nodes_of z) i (omega arith))

    passes_match : (most : ℕ) → PassesMatch most
    passes_match zero n z e shape shaped deep i a b r h k s t near =
        subst (λ (o : Out). Matches shape (NoMore b) o (NoUnits t)) (sym (none_left n z e deep i a s r (omega arith))) tt
    passes_match (suc most) n z e shape shaped deep i a b r h k s t near =
        subst (λ (o : Out). Matches shape (NoMore b) o (nodes_do each_pass graph (suc most) (nodes_of z) i b t)) (sym (unit_begins g zs deep z i a s r))
        (by_node most (passes_match most) n z e shape shaped deep i a b r h k s t near (slice_get (nodes_of z) i) refl)

    pub run_back : (call : Call) (memory : Areas) (n : ℕ) (z : Translated) → slice_get zs n ≡ Some z → (count : ℕ) (after : Areas) (fault : Option Fault)
        → end_seen (arrival_of g (calls count) z 0 count (state_at_start z.1 call memory)) ≡ Ended after fault
        → run_of_graph each_pass graph (Some z.0) call memory (suc count) ≡ Ended after fault
    run_back call memory n z e count after fault q =
        ended_matches (text_first z.0 z.1) (NoMore count) _ _
        (first_back (most_nodes graph (suc count)) (passes_match (most_nodes graph (suc count))) n z e (text_first z.0 z.1) (refl, refl) count count count count
        (omega arith, omega arith) (omega (arith, suc-mul count most_wide, suc-mul (suc count) most_wide))
        (state_at_start z.1 call memory) (state_at_start z.0.head call memory)
        (near_first z.2.without_next z.0 z.1 z.2.formals z.2.locals call memory))
        after fault q
