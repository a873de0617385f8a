-- The shape of the statements of a unit: how many of each kind there are, and how the selector is used, by the blocks
-- of the body that they were made from.
-- Held against: this project's own readable texts.
use Rattle.std.specs.Prelude.{◌≡◌, ℕ, ◌≤◌, List, Option, Some}
use Rattle.st_tree.specs.declared.program.Stmt.{Stmt}
use Rattle.stl_tree.specs.Flows.{Flow, Segment}
use Rattle.text_shapes.specs.Allowed.{AreAmong, AreJudged, AreSegmentsOf, Judgement, arms_allowed, loops_allowed, selectors_allowed}
use Rattle.text_shapes.specs.Shape.{KeepSelector, count_in, loops, other_cases, selector_arms, selector_cases, tests}

-- statements keep to the blocks of a body with so many conditional jumps and jump lists, where `next` is the position
-- of the selector, if the unit has one. The bounds are those of the segments that are written, which are some of all: a
-- segment more allows no less
pub record IsShaped (flow : Flow) (conditionals lists : ℕ) (next : Option ℕ) (body : List Stmt) : Type 0 where
  pub segments : List Segment
  pub written : List Segment
  pub judgements : List Judgement
  pub all : AreSegmentsOf flow segments
  pub some : AreAmong written segments
  pub judged : AreJudged written judgements
  -- there is a selector only where a segment is not well nested
  pub declared : (n : ℕ) → next ≡ Some n → 1 ≤ selectors_allowed judgements
  pub selector : KeepSelector next body
  pub selectors : count_in (selector_cases next) body ≤ selectors_allowed judgements
  pub arms : count_in (selector_arms next) body ≤ arms_allowed judgements
  pub cases : count_in (other_cases next) body ≤ lists
  pub loops : count_in loops body ≤ loops_allowed judgements
  pub tests : count_in tests body ≤ conditionals
