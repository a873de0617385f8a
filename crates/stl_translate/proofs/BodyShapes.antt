-- The nodes of a unit go on as the blocks of its body do, and have no more conditional jumps and jump lists than it.
use Rattle.std.proofs.Common.{◌≡◌, ℕ, suc, ◌+◌, ◌≤◌, Bool, ◌||◌, List, [], ◌∷◌, length, map, Some, refl, ap, ◌∙◌, arith}
use Rattle.std.specs.Prelude.{slice_get}
use Rattle.std.specs.List.{list_any, sum_by}
use Rattle.std.proofs.lemmas.List.Sums.{sum_by-cons}
use Rattle.flow_graph.specs.Graphs.{IsExitTo, IsGraphOf, extent_of, flow_of, way_by as way_by_exit}
use Rattle.flow_graph.specs.declared.graph.Exit.{Exit}
use Rattle.flow_graph.specs.declared.graph.Exit.TheVariants as way
use Rattle.flow_graph.specs.declared.graph.Graph.{Graph}
use Rattle.flow_graph.specs.declared.graph.Node.{Node}
use Rattle.graph_rules.specs.Flow.{flow_of as flow_of_nodes, way_by as way_by_node}
use Rattle.instruction_lowering.specs.Lowered.{AreNodesOf, IsExitOf, is_end_alone}
use Rattle.st_tree.specs.declared.graph.StExit.{StExit}
use Rattle.st_tree.specs.declared.graph.StExit.TheVariants as exit
use Rattle.st_tree.specs.declared.graph.StNode.{StNode}
use Rattle.stl_tree.specs.Blocks.{Extent, Way, always, if_made, instructions_of, one_of, way_of}
use Rattle.stl_tree.specs.Flows.{Flow}
use Rattle.stl_tree.specs.declared.program.Instr.{Instr}
use Rattle.text_shapes.specs.NodeCounts.{conditionals_of, lists_of, one_if_conditional, one_if_list}
use Rattle.text_shapes.specs.Shape.{count_in, tests}
use Rattle.stl_translate.proofs.BodyCounts.{choices_by, choices_count, counted_from, guards_in, same_choices, same_tables, tables_by, tables_count}
use Rattle.stl_translate.proofs.StepTests.{steps_tests}
use Rattle.stl_translate.specs.Shape.{conditionals_by, conditionals_in, lists_by, lists_in}

-- Ways

same_way : (e : Exit) (x : StExit) → IsExitOf e x → way_by_node x ≡ way_by_exit e
same_way way.Fall exit.Fall h = refl
same_way (way.Jump j) (exit.Jump k) h = ap always h
same_way (way.Branch j) (exit.Branch test k) h = ap if_made h
same_way way.EndIf (exit.EndIf test) h = refl
same_way (way.Table js j) (exit.Table selected ks k) h = ap (λ (ns : List ℕ). one_of ns k) h.0 ∙ ap (one_of js) h.1
same_way way.End exit.End h = refl
same_way e x h = absurd h

choices_of_exit : (x : StExit) → one_if_conditional x ≡ choices_by (way_by_node x)
choices_of_exit exit.Fall = refl
choices_of_exit x = refl

tables_of_exit : (x : StExit) → one_if_list x ≡ tables_by (way_by_node x)
tables_of_exit exit.Fall = refl
tables_of_exit x = refl

abbrev is_only_end : StNode → Bool
is_only_end node = node.only_end

module _ (body : List Instr) where
  ways_same : (blocks : List Node) (nodes : List StNode) → AreNodesOf body blocks nodes
      → map (λ (n : StNode). way_by_node n.exit) nodes ≡ map (λ (b : Node). way_by_exit b.exit) blocks
  ways_same [] [] h = refl
  ways_same [] (node ∷ nodes) h = absurd h
  ways_same (block ∷ blocks) [] h = absurd h
  ways_same (block ∷ blocks) (node ∷ nodes) h =
      ap (λ (w : Way). w ∷ map (λ (n : StNode). way_by_node n.exit) nodes) (same_way block.exit node.exit h.0.exit)
      ∙ ap (λ (ws : List Way). way_by_exit block.exit ∷ ws) (ways_same blocks nodes h.1)

  ends_same : (blocks : List Node) (nodes : List StNode) → AreNodesOf body blocks nodes
      → list_any is_only_end nodes ≡ list_any (is_end_alone body) blocks
  ends_same [] [] h = refl
  ends_same [] (node ∷ nodes) h = absurd h
  ends_same (block ∷ blocks) [] h = absurd h
  ends_same (block ∷ blocks) (node ∷ nodes) h =
      ap (λ (b : Bool). b || list_any is_only_end nodes) h.0.only_end
      ∙ ap (λ (b : Bool). is_end_alone body block || b) (ends_same blocks nodes h.1)

  pub flow_same : (blocks : List Node) (nodes : List StNode) → AreNodesOf body blocks nodes
      → flow_of_nodes nodes ≡ flow_of (length body) blocks
  flow_same blocks nodes h =
      ap (λ (ws : List Way). by ws (list_any is_only_end nodes)) (ways_same blocks nodes h)
      ∙ ap (by (map (λ (b : Node). way_by_exit b.exit) blocks)) (ends_same blocks nodes h)
    where
      by : List Way → Bool → Flow
      by ws b = record { ways = ws; ends_alone = b }

  -- the instructions of a block
  abbrev instructions : Node → List Instr
  instructions block = instructions_of body (extent_of block)

  -- each of some blocks has its exit
  abbrev HaveWays : List Node → List Node → Type 0
  HaveWays all blocks = (i : ℕ) (block : Node) → slice_get blocks i ≡ Some block → IsExitTo all (way_of (instructions block)) block.exit

  conditionals_from : (all blocks : List Node) (nodes : List StNode) → AreNodesOf body blocks nodes → HaveWays all blocks
      → conditionals_of nodes ≤ sum_by (λ (b : Node). conditionals_in (instructions b)) blocks
  conditionals_from all [] [] h ways = omega arith
  conditionals_from all [] (node ∷ nodes) h ways = absurd h
  conditionals_from all (block ∷ blocks) [] h ways = absurd h
  conditionals_from all (block ∷ blocks) (node ∷ nodes) h ways =
      let own : one_if_conditional node.exit ≡ choices_by (way_of (instructions block)) =
      choices_of_exit node.exit ∙ ap choices_by (same_way block.exit node.exit h.0.exit)
      ∙ same_choices all (way_of (instructions block)) block.exit (ways 0 block refl) in
      let guards : count_in tests node.steps ≡ guards_in (instructions block) = steps_tests node.steps h.0.steps ∙ h.0.guards in
      omega (
        arith,
        own,
        guards,
        choices_count (instructions block),
        conditionals_from all blocks nodes h.1 (λ i b e. ways (suc i) b e),
        sum_by-cons (λ (n : StNode). one_if_conditional n.exit + count_in tests n.steps) node nodes,
        sum_by-cons (λ (b : Node). conditionals_in (instructions b)) block blocks,
      )

  lists_from : (all blocks : List Node) (nodes : List StNode) → AreNodesOf body blocks nodes → HaveWays all blocks
      → lists_of nodes ≤ sum_by (λ (b : Node). lists_in (instructions b)) blocks
  lists_from all [] [] h ways = omega arith
  lists_from all [] (node ∷ nodes) h ways = absurd h
  lists_from all (block ∷ blocks) [] h ways = absurd h
  lists_from all (block ∷ blocks) (node ∷ nodes) h ways =
      let own : one_if_list node.exit ≡ tables_by (way_of (instructions block)) =
      tables_of_exit node.exit ∙ ap tables_by (same_way block.exit node.exit h.0.exit)
      ∙ same_tables all (way_of (instructions block)) block.exit (ways 0 block refl) in
      omega (
        arith,
        own,
        tables_count (instructions block),
        lists_from all blocks nodes h.1 (λ i b e. ways (suc i) b e),
        sum_by-cons (λ (n : StNode). one_if_list n.exit) node nodes,
        sum_by-cons (λ (b : Node). lists_in (instructions b)) block blocks,
      )

  -- the blocks of a graph are the whole body
  by_extents : (count : Instr → ℕ) (blocks : List Node)
      → sum_by (λ (b : Node). sum_by count (instructions b)) blocks
      ≡ sum_by (λ (b : Extent). sum_by count (instructions_of body b)) (map extent_of blocks)
  by_extents count [] = refl
  by_extents count (b ∷ blocks) =
      omega (
        arith,
        by_extents count blocks,
        sum_by-cons (λ (b : Node). sum_by count (instructions b)) b blocks,
        sum_by-cons (λ (b : Extent). sum_by count (instructions_of body b)) (extent_of b) (map extent_of blocks),
      )

  module _ (graph : Graph) (is_graph : IsGraphOf body graph) where
    whole : (count : Instr → ℕ) → sum_by (λ (b : Node). sum_by count (instructions b)) graph.nodes ≡ sum_by count body
    whole count = by_extents count graph.nodes ∙ counted_from count body 0 (map extent_of graph.nodes) is_graph.nodes

    pub conditionals_few : (nodes : List StNode) → AreNodesOf body graph.nodes nodes → conditionals_of nodes ≤ conditionals_in body
    conditionals_few nodes h =
        omega (arith, conditionals_from graph.nodes graph.nodes nodes h is_graph.exits, whole (λ (i : Instr). conditionals_by i.op))

    pub lists_few : (nodes : List StNode) → AreNodesOf body graph.nodes nodes → lists_of nodes ≤ lists_in body
    lists_few nodes h =
        omega (arith, lists_from graph.nodes graph.nodes nodes h is_graph.exits, whole (λ (i : Instr). lists_by i.op))
