-- The units that are made of the blocks of an accepted program: their heads, and a node for each block of a body.
use Rattle.std.proofs.Common.{◌≡◌, ℕ, suc, ◌+◌, ◌-◌, ◌*◌, ◌≤◌, List, [], ◌∷◌, ◌++◌, length, Some, refl, sym, ap, subst, ◌∙◌, arith}
use Rattle.std.specs.Prelude.{All, flat_map, slice_get}
use Rattle.std.specs.List.{sum_by}
use Rattle.std.proofs.lemmas.List.Elements.{All-head, All-tail}
use Rattle.std.proofs.lemmas.List.Sums.{sum_by-cons}
use Rattle.flow_graph.specs.Graphs.{IsGraphOf, extent_of}
use Rattle.flow_graph.specs.declared.graph.Graph.{Graph}
use Rattle.flow_graph.specs.declared.graph.Node.{Node}
use Rattle.graph_rules.specs.Plain.{tests_of}
use Rattle.instruction_lowering.proofs.Bodies.{HasBounds, actuals_in, guards_in, tests_in}
use Rattle.instruction_lowering.proofs.NodeBounds.{exit_is, few_tests, many, many_tests, nodes_of_tests, reads_none}
use Rattle.instruction_lowering.proofs.PlainGraph.{as_many, both_some, bounds, is as instructions_at, last, node_here, node_made, shape, widths}
use Rattle.instruction_lowering.proofs.PlainProgram.{Anything, heads, seen_at_all}
use Rattle.instruction_lowering.proofs.TemporaryNames.{are_named}
use Rattle.instruction_lowering.specs.Lowered.{AreNodesOf, AreUnitsOf, IsHeadOf, IsNodeOf, IsRead, IsUnitOf, actuals_of, guards_of}
use Rattle.instruction_lowering.specs.UnitNames.{in_order, unit_formals}
use Rattle.instruction_lowering.specs.inner.Lowering.{AreMadeOf, IsMadeOf, head_for, nodes_of, unit_of}
use Rattle.instruction_lowering.specs.inner.Temporaries.{types_in}
use Rattle.st_tree.specs.BodyParts.{reads_in, reads_of as variables_of}
use Rattle.st_tree.specs.WellTyped.{keys_of}
use Rattle.st_tree.specs.declared.graph.GraphPou.{GraphPou}
use Rattle.st_tree.specs.declared.graph.StNode.{StNode}
use Rattle.stl_tree.specs.Accepted.{BlockCallsRight, IsAccepted, IsAcceptedBlock}
use Rattle.stl_tree.specs.declared.program.Block.{Block}
use Rattle.stl_tree.specs.declared.program.Instr.{Instr}
use Rattle.stl_tree.specs.declared.program.Program.{Program}
use Rattle.template_parts.proofs.ReadRegisters.{both_read}

guards_sum : (is : List Instr) → guards_in is ≡ sum_by (λ (i : Instr). guards_of i.op) is
guards_sum [] = refl
guards_sum (i ∷ is) = omega (arith, guards_sum is, sum_by-cons (λ (i : Instr). guards_of i.op) i is)

actuals_sum : (is : List Instr) → actuals_in is ≡ sum_by (λ (i : Instr). actuals_of i.op) is
actuals_sum [] = refl
actuals_sum (i ∷ is) = omega (arith, actuals_sum is, sum_by-cons (λ (i : Instr). actuals_of i.op) i is)

head_is : (program : Program) (b : Block) → IsHeadOf b (head_for program.blocks b)
head_is program b =
    record {
      kind = refl;
      name = refl;
      formals = refl;
      locals = are_named (keys_of (unit_formals b.name b.formals)) 0 (types_in program.blocks b.body);
      body = refl;
    }

module _ (program : Program) (accepted : IsAccepted program) (units : List GraphPou) (made : AreMadeOf program.blocks (in_order program.blocks) units) where
  -- a node and its block
  module _ (b : Block) (h : IsAcceptedBlock b) (right : BlockCallsRight program b) (graph : Graph) (is_graph : IsGraphOf b.body graph) where
    node_is : (i : ℕ) (x : Node) (there : slice_get graph.nodes i ≡ Some x) → IsNodeOf b.body x (node_here program b h right graph is_graph i x there)
    node_is i x there =
        let bound =
        bounds program b h right graph is_graph accepted.dbs Anything (heads program accepted units made)
        (seen_at_all program accepted units made b h graph right) i x there in
        let is : List Instr = instructions_at program b h right graph is_graph i x there in
        let node : StNode = node_here program b h right graph is_graph i x there in
        let l : ℕ = last program b h right graph is_graph i x there in
        let few : many x.exit ≤ tests_in is =
        few_tests graph.nodes i (widths program b h right graph is_graph) is x.first x.exit (shape program b h right graph is_graph i x there).goes in
        record {
          exit = exit_is l x.exit;
          only_end = refl;
          steps = bound.steps;
          guards = bound.guarded ∙ guards_sum is;
          reads = both_read (IsRead is) (reads_in node.steps) (flat_map variables_of (tests_of node.exit)) bound.reads (reads_none (IsRead is) l x.exit);
          few = omega (arith, bound.few, many_tests l x.exit, actuals_sum is);
          small = omega (arith, bound.small, nodes_of_tests l x.exit, actuals_sum is);
        }

    -- there is one for each block
    each_is : (blocks : List Node) (nodes : List StNode) → length nodes ≡ length blocks
        → ((i : ℕ) (x : Node) (node : StNode) → slice_get blocks i ≡ Some x → slice_get nodes i ≡ Some node → IsNodeOf b.body x node)
        → AreNodesOf b.body blocks nodes
    each_is [] [] long each = tt
    each_is [] (n ∷ nodes) long each = cc
    each_is (x ∷ blocks) [] long each = cc
    each_is (x ∷ blocks) (n ∷ nodes) long each =
        (each 0 x n refl refl, each_is blocks nodes (omega (arith, long)) (λ i y m e f. each (suc i) y m e f))

    nodes_are : AreNodesOf b.body graph.nodes (nodes_of program.blocks b.body graph.nodes)
    nodes_are =
        each_is graph.nodes (nodes_of program.blocks b.body graph.nodes) (as_many program b h right graph is_graph)
        (λ i x node there e.
        let made_node = (node_made program b h right graph is_graph i x there).node in
        let here : StNode = node_here program b h right graph is_graph i x there in
        let same : here ≡ node = both_some here node (sym made_node ∙ e) in
        subst (IsNodeOf b.body x) same (node_is i x there))

  unit_is : (b : Block) → IsAcceptedBlock b → BlockCallsRight program b → (unit : GraphPou) → IsMadeOf program.blocks b unit → IsUnitOf b unit
  unit_is b h right unit is_made =
      subst (IsUnitOf b) (sym is_made.unit)
      (record {
        head = head_is program b;
        graph = is_made.graph;
        is_graph = is_made.is_graph;
        nodes = nodes_are b h right is_made.graph is_made.is_graph;
      })

  pub units_are : (blocks : List Block) (us : List GraphPou) → All IsAcceptedBlock blocks → All (BlockCallsRight program) blocks
      → AreMadeOf program.blocks blocks us → AreUnitsOf blocks us
  units_are [] [] h right made = tt
  units_are [] (u ∷ us) h right made = elim made [ ]
  units_are (b ∷ bs) [] h right made = elim made [ ]
  units_are (b ∷ bs) (u ∷ us) h right made = (
    unit_is b (All-head IsAcceptedBlock b bs h) (All-head (BlockCallsRight program) b bs right) u made.0,
    units_are bs us (All-tail IsAcceptedBlock b bs h) (All-tail (BlockCallsRight program) b bs right) made.1,
  )
