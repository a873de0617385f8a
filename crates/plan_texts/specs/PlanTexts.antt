-- What is written of a segment that has a plan.
-- Held against: this project's own segments.
use Rattle.std.specs.Prelude.{◌≡◌, ℕ, Bool, List, ◌++◌, drop}
use Rattle.st_tree.specs.declared.graph.StNode.{StNode}
use Rattle.st_tree.specs.declared.program.Stmt.{Stmt}
use Rattle.region_laws.specs.Regions.{Region, text_of}
use Rattle.unit_regions.specs.UnitRegion.{falls_off}

-- the nodes before a block are taken from all nodes; the text of a region, where `NEXT` is the local at a position,
-- stands behind what was written before; and it is told whether the region may fall off its end
pub record IsWritten (all : List StNode) (past next : ℕ) (region : Region) (rest : List StNode) (old new : List Stmt)
    (goes_on : Bool) : Type 0 where
  pub nodes : rest ≡ drop past all
  pub text : new ≡ old ++ text_of next region
  pub falls : goes_on ≡ falls_off region
