-- The shape of a text's units: each keeps to the body of its block. All instructions of a body count, reached or not.
-- Held against: this project's own readable texts.
use Rattle.std.specs.Prelude.{ℕ, List, [], ◌∷◌, length}
use Rattle.std.specs.List.{sum_by}
use Rattle.flow_graph.specs.Graphs.{IsGraphOf, flow_of}
use Rattle.flow_graph.specs.declared.graph.Graph.{Graph}
use Rattle.instruction_lowering.specs.UnitNames.{in_order}
use Rattle.st_tree.specs.declared.program.Pou.{Pou}
use Rattle.st_tree.specs.declared.program.StProgram.{StProgram}
use Rattle.stl_tree.specs.declared.program.Block.{Block}
use Rattle.stl_tree.specs.declared.program.Instr.{Instr}
use Rattle.stl_tree.specs.declared.program.JumpTest.TheVariants as jump
use Rattle.stl_tree.specs.declared.program.Op.{Op}
use Rattle.stl_tree.specs.declared.program.Op.TheVariants as op
use Rattle.stl_tree.specs.declared.program.Program.{Program}
use Rattle.text_shapes.specs.IsShaped.{IsShaped}
use Rattle.graph_texts.specs.NextOf.{next_of}

-- a conditional jump counts as one, and so do LOOP, BEC and CC
abbrev pub conditionals_by : Op → ℕ
conditionals_by (op.Jump jump.Always to) = 0
conditionals_by (op.Jump test to) = 1
conditionals_by (op.Loop to) = 1
conditionals_by op.BlockEndIf = 1
conditionals_by (op.CallIf call) = 1
conditionals_by other = 0

abbrev pub conditionals_in : List Instr → ℕ
conditionals_in body = sum_by (λ (i : Instr). conditionals_by i.op) body

-- a jump list counts as one
abbrev pub lists_by : Op → ℕ
lists_by (op.JumpList count label) = 1
lists_by other = 0

abbrev pub lists_in : List Instr → ℕ
lists_in body = sum_by (λ (i : Instr). lists_by i.op) body

-- the statements of a unit have the shape that the blocks of a body allow, with its conditional jumps and jump lists
pub record IsShapedBy (block : Block) (unit : Pou) : Type 0 where
  pub graph : Graph
  pub is_graph : IsGraphOf block.body graph
  pub shape : IsShaped (flow_of (length block.body) graph.nodes) (conditionals_in block.body) (lists_in block.body)
      (next_of unit.locals) unit.body

-- there is a unit for each block, in the same order
abbrev pub AreShapedBy : List Block → List Pou → Type 0
AreShapedBy [] [] = Unit {0}
AreShapedBy [] (unit ∷ units) = ⊥
AreShapedBy (block ∷ blocks) [] = ⊥
AreShapedBy (block ∷ blocks) (unit ∷ units) = IsShapedBy block unit × AreShapedBy blocks units

-- the units of a text have the shapes that a program's blocks allow
abbrev pub Shape : Program → StProgram → Type 0
Shape program tree = AreShapedBy (in_order program.blocks) tree.pous
