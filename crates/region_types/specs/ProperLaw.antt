-- The texts of plain graph programs, where each unit is the statements of a region, are proper and mean the same.
-- Held against: this project's own bounds.
use Rattle.std.specs.Prelude.{◌≡◌, ◌≤◌, not, List, [], ◌∷◌, length}
use Rattle.graph_rules.specs.Plain.{IsPlainUnit, Plain, node_statements}
use Rattle.region_laws.specs.RegionLaw.{IsUnitOf}
use Rattle.region_laws.specs.SameRuns.{SameAsGraph}
use Rattle.region_laws.specs.RegionDepth.{depth}
use Rattle.region_types.specs.UsesNext.{UsesNext}
use Rattle.st_tree.specs.Nesting.{body_nesting}
use Rattle.st_tree.specs.Proper.{Proper}
use Rattle.st_tree.specs.declared.graph.GraphPou.{GraphPou}
use Rattle.st_tree.specs.declared.graph.GraphProgram.{GraphProgram}
use Rattle.st_tree.specs.declared.program.Pou.{Pou}
use Rattle.st_tree.specs.declared.program.StProgram.{StProgram}

-- the statements of the nodes of a plain unit nest at most 64 deep
abbrev pub PlainNodesAreLow : Type 0
PlainNodesAreLow = (unit : GraphPou) → IsPlainUnit unit → body_nesting (node_statements unit.graph.nodes) ≤ 64

-- the text of a unit is that of a region, which uses `NEXT` where it is a local, and is at most 135 deep
pub record IsProperText (unit : GraphPou) (text : Pou) : Type 0 where
  pub is : IsUnitOf unit text
  pub uses : UsesNext (not is.without_next) (length unit.graph.nodes) is.region
  pub low : depth is.region ≤ 135

-- each unit has such a text, in the same order
abbrev pub AreProperTexts : List GraphPou → List Pou → Type 0
AreProperTexts [] [] = Unit {0}
AreProperTexts [] (text ∷ texts) = ⊥
AreProperTexts (unit ∷ units) [] = ⊥
AreProperTexts (unit ∷ units) (text ∷ texts) = IsProperText unit text × AreProperTexts units texts

-- a tree has the data blocks and the globals of a graph program, and such texts of its units
pub record HasProperTexts (graph : GraphProgram) (tree : StProgram) : Type 0 where
  pub blocks : tree.dbs ≡ graph.dbs
  pub globals : tree.globals ≡ graph.globals
  pub units : AreProperTexts graph.pous tree.pous

-- then it is proper
abbrev pub TextIsProper : Type 0
TextIsProper = (graph : GraphProgram) (tree : StProgram) → Plain graph → HasProperTexts graph tree → Proper tree

-- and means the same
abbrev pub TextIsRight : Type 0
TextIsRight =
    (graph : GraphProgram) (tree : StProgram) → Plain graph → HasProperTexts graph tree → SameAsGraph graph tree
