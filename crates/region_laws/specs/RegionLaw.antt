-- Texts whose units are those of a graph program with statements in place of jumps, and the law that they mean the
-- same.
-- Held against: this project's own segments.
use Rattle.std.specs.Prelude.{◌≡◌, ℕ, Bool, true, false, List, [], ◌∷◌, length, slice_get, Some}
use Rattle.graph_rules.specs.Plain.{Plain}
use Rattle.region_laws.specs.NextLocal.{locals_of_text}
use Rattle.region_laws.specs.Regions.{Fits, LeadsOnward, Mark, Marked, Region, at, is_arm, no_loop, out, text_of}
use Rattle.region_laws.specs.SameRuns.{SameAsGraph}
use Rattle.st_tree.specs.declared.graph.GraphPou.{GraphPou}
use Rattle.st_tree.specs.declared.graph.GraphProgram.{GraphProgram}
use Rattle.st_tree.specs.declared.graph.StNode.{StNode}
use Rattle.st_tree.specs.declared.program.Pou.{Pou}
use Rattle.st_tree.specs.declared.program.StProgram.{StProgram}

-- the nodes of a unit, which of them are reached, and what each is besides
abbrev pub marked_nodes : GraphPou → (ℕ → Bool) → (ℕ → Mark) → Marked
marked_nodes unit reached marks = record { nodes = unit.graph.nodes; reached = reached; marks = marks }

-- the text of a unit keeps its head, but that `NEXT` may be a local more; its statements are those of a region that
-- fits from the first node on. Without `NEXT` no node is one of a dispatch loop. The first node is reached, and so is
-- what exits of reached nodes lead to; they lead forward where no unit of work is taken
pub record IsUnitOf (unit : GraphPou) (text : Pou) : Type 0 where
  pub region : Region
  pub reached : ℕ → Bool
  pub marks : ℕ → Mark
  pub without_next : Bool
  pub kind : text.program ≡ unit.head.program
  pub name : text.name ≡ unit.head.name
  pub formals : text.formals ≡ unit.head.formals
  pub locals : text.locals ≡ locals_of_text without_next unit.head.locals
  pub arms : without_next ≡ true → (i k : ℕ) → is_arm k (marks i) ≡ false
  pub body : text.body ≡ text_of (length unit.head.locals) region
  pub first : reached 0 ≡ true
  pub fits : Fits (marked_nodes unit reached marks) false region (at 0) out no_loop
  pub onward : (i : ℕ) (node : StNode) → reached i ≡ true → slice_get unit.graph.nodes i ≡ Some node
      → LeadsOnward (marked_nodes unit reached marks) i node.exit

-- there is a text for each unit, in the same order
abbrev pub AreUnitsOf : List GraphPou → List Pou → Type 0
AreUnitsOf [] [] = Unit {0}
AreUnitsOf [] (text ∷ texts) = ⊥
AreUnitsOf (unit ∷ units) [] = ⊥
AreUnitsOf (unit ∷ units) (text ∷ texts) = IsUnitOf unit text × AreUnitsOf units texts

-- a text has the data blocks and the globals of a graph program, and the texts of its units
pub record HasRegions (graph : GraphProgram) (tree : StProgram) : Type 0 where
  pub blocks : tree.dbs ≡ graph.dbs
  pub globals : tree.globals ≡ graph.globals
  pub units : AreUnitsOf graph.pous tree.pous

-- a text of a plain graph program means the same
abbrev pub RegionsAreRight : Type 0
RegionsAreRight =
    (graph : GraphProgram) (tree : StProgram) → Plain graph → HasRegions graph tree → SameAsGraph graph tree
