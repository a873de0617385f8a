-- What a segment that is written as a dispatch loop adds to a text.
-- Held against: this project's own segments.
use Rattle.std.specs.Prelude.{◌≡◌, List, ◌++◌, drop}
use Rattle.st_tree.specs.declared.graph.StNode.{StNode}
use Rattle.st_tree.specs.declared.program.Stmt.{Stmt}
use Rattle.region_laws.specs.Regions.{text_of}
use Rattle.unit_regions.specs.UnitRegion.{dispatch_region, place_of}
use Rattle.segment_plans.specs.declared.blocks.Blocks.{Blocks}
use Rattle.dispatch_loops.specs.Charted.{chart_in}
use Rattle.dispatch_loops.specs.declared.dispatch.Turns.{Turns}

-- of the nodes of a unit those behind a segment are left, and the text of the segment stands behind what there was
pub record IsWrittenInTurns (all : List StNode) (blocks : Blocks) (turns : Turns) (left : List StNode)
    (before after : List Stmt) : Type 0 where
  pub left_behind : left ≡ drop turns.past all
  pub written : after
      ≡ before ++ text_of turns.selector
      (dispatch_region (chart_in all blocks) turns.first turns.past (place_of (chart_in all blocks) turns.past))
