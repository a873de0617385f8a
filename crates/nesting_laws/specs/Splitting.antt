-- Which segments are written without the selector: those that are well nested; and of those that are so by paths alone
-- the ones with at most one loop, where a loop over the selector would be no fewer.
-- Held against: this project's own segments.
use Rattle.std.specs.Prelude.{◌≡◌, ◌⊎◌, ℕ}
use Rattle.stl_tree.specs.Flows.{IsLoop, Segment}
use Rattle.stl_tree.specs.WellNested.{HasClosedArms, IsWellNestedByPaths}

-- a segment has at most one loop
abbrev pub HasOneLoop : Segment → Type 0
HasOneLoop g = (h l k m : ℕ) → IsLoop g h l → IsLoop g k m → h ≡ k

-- a segment may be written without the selector: by paths it is well nested, and blocks right before arms end them, or
-- some do not and it has at most one loop
abbrev pub MaySplit : Segment → Type 0
MaySplit g = IsWellNestedByPaths g × (HasClosedArms g ⊎ ((HasClosedArms g → ⊥) × HasOneLoop g))
