-- Where the arms of a jump list end, told from plain jumps alone: behind the last target, where a plain jump from an
-- arm before it leads; or there, where none does.
use Rattle.std.specs.Prelude.{◌≡◌, ◌⊎◌, ℕ, ◌<◌, ◌≤◌}
use Rattle.stl_tree.specs.Flows.{IsPlainJump, IsSegment, Segment}
use Rattle.stl_tree.specs.WellNested.{IsCaseEnd, IsTarget, IsWellNestedByPaths}
use Rattle.nesting_laws.specs.PlanLaws.{IsFlow}

-- the last target of a jump list
pub record IsLastTarget (g : Segment) (x w : ℕ) : Type 0 where
  pub target : IsTarget g x w
  pub last : (t : ℕ) → IsTarget g x t → t ≤ w

-- a plain jump from an arm before the last one leads behind the last target
pub record IsJumpOver (g : Segment) (x w s t : ℕ) : Type 0 where
  pub jump : IsPlainJump g s t
  pub from : x < s
  pub before : s < w
  pub behind : w < t

-- all such jumps lead to the end of all arms, and there is one, or the last arm is empty
abbrev pub EndByJumps : Type 0
EndByJumps = (g : Segment) → IsFlow g.flow → IsSegment g → IsWellNestedByPaths g
    → (x w e : ℕ) → IsLastTarget g x w → IsCaseEnd g x e
    → ((s t : ℕ) → IsJumpOver g x w s t → t ≡ e) × ((e ≡ w) ⊎ ((s : ℕ) × IsJumpOver g x w s e))
