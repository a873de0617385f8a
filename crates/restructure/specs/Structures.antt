-- What is asked of the nodes of a unit, and what its statements are then: the text of a region of these nodes.
-- Held against: this project's own segments.
use Rattle.std.specs.Prelude.{◌≢◌, ℕ, ◌≤◌, ◌==◌, Bool, List, [], length}
use Rattle.restructure.specs.declared.structured.Structured.{Structured}
use Rattle.st_tree.specs.declared.graph.StNode.{StNode}
use Rattle.unit_regions.specs.MadeCharts.{ArePlain}
use Rattle.unit_regions.specs.RegionOf.{IsRegionOf}

-- there are 1 to 32,769 nodes, and each is plain
pub record AreUnitNodes (nodes : List StNode) : Type 0 where
  pub some : nodes ≢ []
  pub few : length nodes ≤ 32769
  pub plain : ArePlain nodes

-- no statement chooses by the selector
abbrev pub needs_no_selector : Structured → Bool
needs_no_selector made = made.selectors == 0

-- the statements are those of a region of the unit, where the selector is the local at this position
abbrev pub IsStructured : List StNode → ℕ → Structured → Type 0
IsStructured nodes selector made = IsRegionOf nodes selector (needs_no_selector made) made.body
