-- How a block of an accepted body goes on, by the instructions that are left of it and by its exit.
use Rattle.std.specs.Prelude.{◌≡◌, ℕ, suc, ◌+◌, List, [], ◌∷◌, length, slice_get, Some}
use Rattle.flow_graph.specs.Graphs.{BeginsAt}
use Rattle.flow_graph.specs.declared.graph.Exit.{Exit}
use Rattle.flow_graph.specs.declared.graph.Exit.TheVariants as way
use Rattle.flow_graph.specs.declared.graph.Node.{Node}
use Rattle.stl_tree.specs.Brackets.{WithNumber, open_behind}
use Rattle.stl_tree.specs.declared.program.Instr.{Instr}
use Rattle.stl_tree.specs.declared.program.JumpTest.TheVariants as jump
use Rattle.stl_tree.specs.declared.program.Op.{Op}
use Rattle.stl_tree.specs.declared.program.Op.TheVariants as op

-- an instruction is not the last one of its block by itself: it does not jump, nor end the block
abbrev pub IsInside : Op → Type 0
IsInside (op.Jump t to) = ⊥
IsInside (op.Loop to) = ⊥
IsInside (op.JumpList count label) = ⊥
IsInside op.BlockEnd = ⊥
IsInside op.BlockEndIf = ⊥
IsInside other = Unit {0}

-- a body has these instructions from a position on
abbrev pub HasFrom : List Instr → ℕ → List Instr → Type 0
HasFrom body at is = (j : ℕ) (i : Instr) → slice_get is j ≡ Some i → slice_get body (at + j) ≡ Some i

-- each instruction may be at its place, this many brackets being open before the first, and none is open after the last
abbrev pub IsClosed : List Instr → ℕ → Type 0
IsClosed [] n = n ≡ 0
IsClosed (i ∷ rest) n = WithNumber (open_behind i.op n) (IsClosed rest)

-- the node of a number in a table begins where the JU at its place in a jump list leads
abbrev pub AreListedTo : List Node → List Instr → List ℕ → Type 0
AreListedTo blocks [] [] = Unit {0}
AreListedTo blocks [] (j ∷ js) = ⊥
AreListedTo blocks (i ∷ is) [] = ⊥
AreListedTo blocks (i ∷ is) (j ∷ js) =
    ((to : ℕ) × (i.op ≡ op.Jump jump.Always to) × BeginsAt blocks j to) × AreListedTo blocks is js

-- a jump of the block of a number, at its end: the exit leads to the node that begins where it jumps, and the next node
-- begins behind it
pub record Branches (blocks : List Node) (i at to : ℕ) (rest : List Instr) (e : Exit) : Type 0 where
  pub last : rest ≡ []
  pub node : ℕ
  pub exit : e ≡ way.Branch node
  pub there : BeginsAt blocks node to
  pub behind : BeginsAt blocks (suc i) (at + 1)

pub record Jumps (blocks : List Node) (to : ℕ) (rest : List Instr) (e : Exit) : Type 0 where
  pub last : rest ≡ []
  pub node : ℕ
  pub exit : e ≡ way.Jump node
  pub there : BeginsAt blocks node to

-- a jump list of the block of a number, with its JU at the end: its label is where the next node begins
pub record Selects (blocks : List Node) (i size label : ℕ) (rest : List Instr) (e : Exit) : Type 0 where
  pub nodes : List ℕ
  pub node : ℕ
  pub exit : e ≡ way.Table nodes node
  pub next : node ≡ suc i
  pub count : length rest ≡ size
  pub listed : AreListedTo blocks rest nodes
  pub there : BeginsAt blocks node label

pub record Ends (rest : List Instr) (e : Exit) : Type 0 where
  pub last : rest ≡ []
  pub exit : e ≡ way.End

pub record EndsIf (blocks : List Node) (i at : ℕ) (rest : List Instr) (e : Exit) : Type 0 where
  pub last : rest ≡ []
  pub exit : e ≡ way.EndIf
  pub behind : BeginsAt blocks (suc i) (at + 1)

-- how the block of a number goes on by an instruction, what follows it in the block, and how it goes on by that
abbrev pub GoesBy : List Node → ℕ → ℕ → Op → List Instr → Exit → Type 0 → Type 0
GoesBy blocks i at (op.Jump jump.Always to) rest exit later = Jumps blocks to rest exit
GoesBy blocks i at (op.Jump t to) rest exit later = Branches blocks i at to rest exit
GoesBy blocks i at (op.Loop to) rest exit later = Branches blocks i at to rest exit
GoesBy blocks i at (op.JumpList count label) rest exit later = Selects blocks i count label rest exit
GoesBy blocks i at op.BlockEnd rest exit later = Ends rest exit
GoesBy blocks i at op.BlockEndIf rest exit later = EndsIf blocks i at rest exit
GoesBy blocks i at other rest exit later = later

-- how the block of a number goes on by the instructions that are left of it from a position on
abbrev pub Goes : List Node → ℕ → ℕ → List Instr → Exit → Type 0
Goes blocks i at [] exit = (exit ≡ way.Fall) × BeginsAt blocks (suc i) at
Goes blocks i at (x ∷ rest) exit = GoesBy blocks i at x.op rest exit (Goes blocks i (at + 1) rest exit)
