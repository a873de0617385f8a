-- The graph program of a program: a unit for each block, with the nodes of the graph of its body.
use Rattle.std.specs.Prelude.{◌≡◌, ℕ, ◌+◌, ◌-◌, ◌^◌, ◌<◌, ◌==◌, Bool, List, [], ◌∷◌, ◌++◌, length, take, drop}
use Rattle.flow_graph.specs.Graphs.{IsGraphOf}
use Rattle.flow_graph.specs.declared.graph.Exit.{Exit}
use Rattle.flow_graph.specs.declared.graph.Exit.TheVariants as way
use Rattle.flow_graph.specs.declared.graph.Graph.{Graph}
use Rattle.flow_graph.specs.declared.graph.Node.{Node}
use Rattle.stl_tree.specs.declared.program.Block.{Block}
use Rattle.stl_tree.specs.declared.program.Instr.{Instr}
use Rattle.stl_tree.specs.declared.program.Program.{Program}
use Rattle.st_tree.specs.declared.graph.GraphPou.{GraphPou}
use Rattle.st_tree.specs.declared.graph.GraphProgram.{GraphProgram}
use Rattle.st_tree.specs.declared.graph.StExit.{StExit}
use Rattle.st_tree.specs.declared.graph.StExit.TheVariants as exit
use Rattle.st_tree.specs.declared.graph.StNode.{StNode}
use Rattle.st_tree.specs.declared.program.Stmt.{Stmt}
use Rattle.st_tree.specs.StRun.{called_name, is_program}
use Rattle.st_tree.specs.WellTyped.{keys_of}
use Rattle.st_tree.specs.declared.program.Pou.{Pou}
use Rattle.instruction_lowering.specs.UnitNames.{unit_formals}
use Rattle.instruction_lowering.specs.inner.Temporaries.{temporaries, types_in}
use Rattle.instruction_lowering.specs.declared.statements.LoweringContext.{LoweringContext}
use Rattle.instruction_lowering.specs.inner.Templates.{context_after, context_from, statements_of}
use Rattle.template_parts.specs.Builders.{local_of}

-- Nodes

-- the statements of some instructions from a spot on, in a program with these blocks
abbrev pub steps_of : List Block → LoweringContext → List Instr → List Stmt
steps_of blocks p [] = []
steps_of blocks p (i ∷ rest) = statements_of blocks p i.op ++ steps_of blocks (context_after blocks i.op p) rest

-- how many locals there are after them
abbrev pub used_behind : List Block → LoweringContext → List Instr → ℕ
used_behind blocks p [] = p.used
used_behind blocks p (i ∷ rest) = used_behind blocks (context_after blocks i.op p) rest

-- the exit of a node: what it tests is in the last local that the node sets
abbrev pub exit_with : ℕ → Exit → StExit
exit_with last way.Fall = exit.Fall
exit_with last (way.Jump j) = exit.Jump j
exit_with last (way.Branch j) = exit.Branch (local_of last) j
exit_with last way.EndIf = exit.EndIf (local_of last)
exit_with last (way.Table js j) = exit.Table (local_of last) js j
exit_with last way.End = exit.End

-- the exit of a node after which there are so many locals
abbrev pub exit_behind : ℕ → Exit → StExit
exit_behind used way = exit_with (used - 1) way

-- the node with some steps, after which there are so many locals
abbrev pub node_with : List Stmt → ℕ → Exit → Bool → StNode
node_with steps used way alone = record { steps = steps; exit = exit_behind used way; only_end = alone }

-- the node of some instructions from a spot on
abbrev pub node_of : List Block → LoweringContext → List Instr → Exit → Bool → StNode
node_of program p is way alone = node_with (steps_of program p is) (used_behind program p is) way alone

-- how many instructions a block has
abbrev pub count_of : Node → ℕ
count_of block = block.past - block.first

-- the nodes of blocks with the instructions that follow, for a body of this length and with the locals from one on
abbrev pub nodes_from : List Block → ℕ → ℕ → List Instr → List Node → List StNode
nodes_from program size used rest [] = []
nodes_from program size used rest (block ∷ more) =
    node_of program (context_from used) (take (count_of block) rest) block.exit (block.first + 1 == size)
    ∷ nodes_from program size (used_behind program (context_from used) (take (count_of block) rest))
    (drop (count_of block) rest) more

-- the nodes of a body with such blocks
abbrev pub nodes_of : List Block → List Instr → List Node → List StNode
nodes_of program body blocks = nodes_from program (length body) 0 body blocks

-- the head of a block's unit, with its formals and the temporaries of its body
abbrev pub head_for : List Block → Block → Pou
head_for program b =
    let formals = unit_formals b.name b.formals in
    record {
      program = is_program b.name;
      name = called_name b.name;
      formals = formals;
      locals = temporaries (keys_of formals) 0 (types_in program b.body);
      body = [];
    }

-- a block has no more temporaries than have numbers of 32 bits
abbrev pub IsFew : List Block → Block → Type 0
IsFew program b = length (types_in program b.body) < 2 ^ 32

abbrev pub AreFew : List Block → List Block → Type 0
AreFew program [] = Unit {0}
AreFew program (b ∷ rest) = IsFew program b × AreFew program rest

-- the unit of a block, by the graph of its body
abbrev pub unit_of : List Block → Block → Graph → GraphPou
unit_of program b graph =
    record { head = head_for program b; graph = record { nodes = nodes_of program b.body graph.nodes } }

-- a unit is the one that is made of a block, by the graph of its body
pub record IsMadeOf (program : List Block) (b : Block) (pou : GraphPou) : Type 0 where
  pub graph : Graph
  pub is_graph : IsGraphOf b.body graph
  pub unit : pou ≡ unit_of program b graph

-- there is such a unit for each block, in the same order
abbrev pub AreMadeOf : List Block → List Block → List GraphPou → Type 0
AreMadeOf program [] [] = Unit {0}
AreMadeOf program [] (unit ∷ units) = ⊥
AreMadeOf program (b ∷ blocks) [] = ⊥
AreMadeOf program (b ∷ blocks) (unit ∷ units) = IsMadeOf program b unit × AreMadeOf program blocks units

-- the graph program of a program, with such units
abbrev pub graph_program_with : Program → List GraphPou → GraphProgram
graph_program_with p units = record { dbs = p.dbs; globals = []; pous = units }
