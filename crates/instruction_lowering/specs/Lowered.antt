-- A graph program that means the same as a program.
use Rattle.std.specs.Prelude.{◌≡◌, ℕ, ◌+◌, ◌*◌, ◌≤◌, ◌==◌, Bool, List, [], ◌∷◌, ◌++◌, ◌⊎◌, length, flat_map, All, Option}
use Rattle.std.specs.List.{sum_by}
use Rattle.call_templates.specs.Calls.{one_if_given}
use Rattle.flow_graph.specs.Graphs.{IsGraphOf, extent_of}
use Rattle.flow_graph.specs.declared.graph.Exit.{Exit}
use Rattle.flow_graph.specs.declared.graph.Exit.TheVariants as way
use Rattle.flow_graph.specs.declared.graph.Graph.{Graph}
use Rattle.flow_graph.specs.declared.graph.Node.{Node}
use Rattle.memory_areas.specs.Areas.{Areas, IsMemoryOf}
use Rattle.memory_areas.specs.End.{End, Ended}
use Rattle.memory_areas.specs.declared.data_block.DataBlock.{DataBlock}
use Rattle.s7_base.specs.declared.outcome.Fault.{Fault}
use Rattle.s7_base.specs.declared.register.Reg.{Reg}
use Rattle.st_tree.specs.BodyParts.{reads_in, reads_of as variables_of, statements_in}
use Rattle.stl_tree.specs.Blocks.{instructions_of}
use Rattle.stl_tree.specs.Reads.{reads_of}
use Rattle.stl_tree.specs.declared.program.Instr.{Instr}
use Rattle.stl_tree.specs.declared.program.Op.{Op}
use Rattle.stl_tree.specs.declared.program.Op.TheVariants as op
use Rattle.stl_tree.specs.StlRun.{Fits, HasNoInstance, size_of, stl_run}
use Rattle.stl_tree.specs.declared.program.Block.{Block}
use Rattle.memory_areas.specs.declared.call.Call.{Call}
use Rattle.stl_tree.specs.declared.program.Program.{Program}
use Rattle.st_tree.specs.GraphRun.{FitsGraph, graph_run, pass_run}
use Rattle.st_tree.specs.StRun.{called_name, is_program}
use Rattle.st_tree.specs.declared.graph.GraphPou.{GraphPou}
use Rattle.st_tree.specs.declared.graph.GraphProgram.{GraphProgram}
use Rattle.st_tree.specs.declared.graph.StExit.{StExit}
use Rattle.st_tree.specs.declared.graph.StExit.TheVariants as exit_of
use Rattle.st_tree.specs.declared.graph.StNode.{StNode}
use Rattle.st_tree.specs.declared.program.Pou.{Pou}
use Rattle.graph_rules.specs.Plain.{AreSteps, IsTemporary, tests_of}
use Rattle.graph_rules.specs.Runs.{bodies_in}
use Rattle.template_parts.specs.Nodes.{nodes, nodes_in}
use Rattle.template_parts.specs.Reading.{EachRegister, IsAmong}
use Rattle.instruction_lowering.specs.UnitNames.{in_order, unit_formals}

-- Nodes

-- the exit of a node goes on as a body does: with the node behind it, at a node, where a test is true, or at the node
-- that an expression selects
abbrev pub IsExitOf : Exit → StExit → Type 0
IsExitOf way.Fall exit_of.Fall = Unit {0}
IsExitOf (way.Jump j) (exit_of.Jump k) = k ≡ j
IsExitOf (way.Branch j) (exit_of.Branch test k) = k ≡ j
IsExitOf way.EndIf (exit_of.EndIf test) = Unit {0}
IsExitOf (way.Table js j) (exit_of.Table selected ks k) = (ks ≡ js) × (k ≡ j)
IsExitOf way.End exit_of.End = Unit {0}
IsExitOf way other = ⊥

-- a block is the end word of its body alone, which is the last instruction
abbrev pub is_end_alone : List Instr → Node → Bool
is_end_alone body block = block.first + 1 == length body

-- some instruction reads a register
abbrev pub IsRead : List Instr → Reg → Type 0
IsRead [] r = ⊥
IsRead (i ∷ rest) r = IsAmong r (reads_of i.op) ⊎ IsRead rest r

-- how many calls by CC an instruction is
abbrev pub guards_of : Op → ℕ
guards_of (op.CallIf c) = 1
guards_of other = 0

-- how many actuals an instruction gives to a call
abbrev pub actuals_of : Op → ℕ
actuals_of (op.Call c) = sum_by one_if_given c.actuals
actuals_of other = 0

-- a node is that of a block of a body: it has the exit of the block, and an IF for each CC of it and no other; its
-- steps and the test of its exit read only register variables that instructions of the block read, and have at most
-- eleven statements and 91 nodes of expressions for each of them, and three of each for each actual
pub record IsNodeOf (body : List Instr) (block : Node) (node : StNode) : Type 0 where
  pub exit : IsExitOf block.exit node.exit
  pub only_end : node.only_end ≡ is_end_alone body block
  pub steps : AreSteps node.steps
  pub guards : length (bodies_in node.steps)
      ≡ sum_by (λ (i : Instr). guards_of i.op) (instructions_of body (extent_of block))
  pub reads : EachRegister (IsRead (instructions_of body (extent_of block)))
      (reads_in node.steps ++ flat_map variables_of (tests_of node.exit))
  pub few : length (statements_in node.steps) + length (tests_of node.exit)
      ≤ 11 * length (instructions_of body (extent_of block))
      + 3 * sum_by (λ (i : Instr). actuals_of i.op) (instructions_of body (extent_of block))
  pub small : nodes_in node.steps + sum_by nodes (tests_of node.exit)
      ≤ 91 * length (instructions_of body (extent_of block))
      + 3 * sum_by (λ (i : Instr). actuals_of i.op) (instructions_of body (extent_of block))

-- there is a node for each block of a body, in the same order
abbrev pub AreNodesOf : List Instr → List Node → List StNode → Type 0
AreNodesOf body [] [] = Unit {0}
AreNodesOf body [] (node ∷ nodes) = ⊥
AreNodesOf body (block ∷ blocks) [] = ⊥
AreNodesOf body (block ∷ blocks) (node ∷ nodes) = IsNodeOf body block node × AreNodesOf body blocks nodes

-- Units

-- the head of a block's unit: it has the block's kind, name and formals, and its locals are temporaries
pub record IsHeadOf (block : Block) (head : Pou) : Type 0 where
  pub kind : head.program ≡ is_program block.name
  pub name : head.name ≡ called_name block.name
  pub formals : head.formals ≡ unit_formals block.name block.formals
  pub locals : All IsTemporary head.locals
  pub body : head.body ≡ []

-- a unit is that of a block: it has its head, and the nodes of the graph of its body
pub record IsUnitOf (block : Block) (unit : GraphPou) : Type 0 where
  pub head : IsHeadOf block unit.head
  pub graph : Graph
  pub is_graph : IsGraphOf block.body graph
  pub nodes : AreNodesOf block.body graph.nodes unit.graph.nodes

-- there is a unit for each block, in the same order
abbrev pub AreUnitsOf : List Block → List GraphPou → Type 0
AreUnitsOf [] [] = Unit {0}
AreUnitsOf [] (unit ∷ units) = ⊥
AreUnitsOf (block ∷ blocks) [] = ⊥
AreUnitsOf (block ∷ blocks) (unit ∷ units) = IsUnitOf block unit × AreUnitsOf blocks units

-- Runs

-- the runs of a program and of a graph from a memory of these data blocks are the same: where the first ends within
-- some steps, the graph ends with the same memory and the same fault within as many nodes; where the graph ends
-- within some passes, the program ends in this way within as many steps for each as the largest block has; so where
-- one goes on for ever, the other does
pub record SameGraphRuns (blocks : List DataBlock) (stl nodes passes : Areas → ℕ → End) (size : ℕ) : Type 0 where
  pub forth : (memory : Areas) → IsMemoryOf blocks memory → (n : ℕ) (after : Areas) (fault : Option Fault)
      → stl memory n ≡ Ended after fault → nodes memory n ≡ Ended after fault
  pub back : (memory : Areas) → IsMemoryOf blocks memory → (n : ℕ) (after : Areas) (fault : Option Fault)
      → passes memory n ≡ Ended after fault → stl memory (n * size) ≡ Ended after fault

-- a graph program has the data blocks of the program and a unit for each block, functions first, then function blocks,
-- then organization blocks, each by its number; each call that fits the program fits it, and its runs are the same; a
-- call without an instance that fits it fits the program
pub record Lowered (program : Program) (graph : GraphProgram) : Type 0 where
  pub blocks : graph.dbs ≡ program.dbs
  pub globals : graph.globals ≡ []
  pub units : AreUnitsOf (in_order program.blocks) graph.pous
  pub fits : (call : Call) → Fits program call → FitsGraph graph call
  pub fits_back : (call : Call) → HasNoInstance call.block → FitsGraph graph call → Fits program call
  pub runs : (call : Call) → Fits program call
      → SameGraphRuns program.dbs (stl_run program call) (graph_run graph call) (pass_run graph call) (size_of program)
