-- The chart of a unit, by what is known of its blocks.
-- Held against: this project's own segments.
use Rattle.std.specs.Prelude.{List, []}
use Rattle.st_tree.specs.declared.graph.StNode.{StNode}
use Rattle.region_plans.specs.PlanRegion.{Chart}
use Rattle.unit_regions.specs.MadeCharts.{chart_of}
use Rattle.segment_plans.specs.Counts.{is_reached, last_of}
use Rattle.segment_plans.specs.declared.blocks.Blocks.{Blocks}

abbrev pub chart_in : List StNode → Blocks → Chart
chart_in nodes blocks = chart_of nodes (is_reached blocks) (last_of blocks) []
