-- What is left of a block at a spot, and the nodes that a body has.
use Rattle.std.proofs.Common.{◌≡◌, ℕ, ◌+◌, ◌<◌, ◌≤◌, Bool, List, [], length, Option, Some, None}
use Rattle.std.specs.Prelude.{All, slice_get}
use Rattle.flow_graph.specs.Graphs.{BeginsAt}
use Rattle.flow_graph.specs.declared.graph.Node.{Node}
use Rattle.flow_laws.specs.Ways.{Goes, HasFrom, IsClosed}
use Rattle.instruction_lowering.specs.declared.statements.LoweringContext.{LoweringContext}
use Rattle.instruction_lowering.specs.inner.Lowering.{node_of, used_behind}
use Rattle.instruction_lowering.specs.inner.Templates.{context_from}
use Rattle.stl_tree.specs.Accepted.{CallsRight, HaveOperands, Widths, widths_named}
use Rattle.stl_tree.specs.declared.program.Block.{Block}
use Rattle.stl_tree.specs.declared.program.Instr.{Instr}
use Rattle.stl_tree.specs.declared.program.Program.{Program}
use Rattle.st_tree.specs.declared.graph.GraphPou.{GraphPou}
use Rattle.st_tree.specs.declared.graph.GraphProgram.{GraphProgram}
use Rattle.st_tree.specs.declared.graph.StNode.{StNode}
use Rattle.instruction_lowering.specs.UnitNames.{unit_position}

-- what is left of the block of a number from a position on, at a spot: its instructions, which have their operands and
-- whose calls are right; how it goes on; its brackets are closed at its end; at most so many locals are used then
pub record IsLeft (p : Program) (formals : Widths) (body : List Instr) (blocks : List Node)
    (total i : ℕ) (x : Node) (at : ℕ) (q : LoweringContext) (is : List Instr) : Type 0 where
  pub has : HasFrom body at is
  pub goes : Goes blocks i at is x.exit
  pub reach : at + length is ≡ x.past
  pub within : x.past ≤ length body
  pub operands : HaveOperands formals is
  pub calls : All (λ (i : Instr). CallsRight p formals i.op) is
  pub closed : IsClosed is (length q.brackets)
  pub room : used_behind p.blocks q is ≤ total

-- a node is there for the block of a number, with its instructions
pub record HasNode (p : Program) (formals : Widths) (body : List Instr) (blocks : List Node) (nodes : List StNode) (total i : ℕ) (x : Node) : Type 0 where
  pub used : ℕ
  pub alone : Bool
  pub is : List Instr
  pub some : 1 ≤ length is
  pub there : slice_get nodes i ≡ Some (node_of p.blocks (context_from used) is x.exit alone)
  pub left : IsLeft p formals body blocks total i x x.first (context_from used) is

-- the nodes of a body: the first block begins it, each has its node, and they follow one another
pub record HasNodes (p : Program) (formals : Widths) (body : List Instr) (blocks : List Node) (nodes : List StNode) (total : ℕ) : Type 0 where
  pub begins : BeginsAt blocks 0 0
  pub each : (i : ℕ) (x : Node) → slice_get blocks i ≡ Some x → HasNode p formals body blocks nodes total i x
  pub order : (i j : ℕ) (x y : Node) → i < j → slice_get blocks i ≡ Some x → slice_get blocks j ≡ Some y → x.past ≤ y.first

-- the widths of the formals that the block of a number names; none where it does not exist
abbrev pub widths_in : Option Block → Widths
widths_in None = []
widths_in (Some b) = widths_named b.name b.formals

-- the block of a number in a program, which is not longer than this; the nodes of its body; and its unit
pub record HasBlock (p : Program) (g : GraphProgram) (size n : ℕ) : Type 0 where
  pub block : Block
  pub there : slice_get p.blocks n ≡ Some block
  pub fits : length block.body ≤ size
  pub blocks : List Node
  pub nodes : List StNode
  pub total : ℕ
  pub unit : HasNodes p (widths_named block.name block.formals) block.body blocks nodes total
  pub pou : GraphPou
  pub stands : slice_get g.pous (unit_position p.blocks block.name) ≡ Some pou
  pub graph : pou.graph.nodes ≡ nodes
  pub many : length pou.head.locals ≡ total
