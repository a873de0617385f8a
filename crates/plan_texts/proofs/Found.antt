-- What is found at a block is what a plan has there.
use Rattle.std.proofs.Common.{◌≡◌, ℕ, ◌<◌, Bool, Option}
use Rattle.stl_tree.specs.Flows.{IsSegment, Segment}
use Rattle.nesting_laws.specs.Plans.{IsNextArm, Plan}
use Rattle.segment_plans.specs.Arms.{next_arm}
use Rattle.segment_plans.specs.Known.{AreKnown}
use Rattle.segment_plans.specs.Planned.{AnswersPiece, IsPartOf, IsPlanIn}
use Rattle.segment_plans.specs.declared.blocks.Blocks.{Blocks}
use Rattle.segment_plans.specs.declared.planning.Part.{Part}
use Rattle.segment_plans.specs.declared.planning.Piece.{Piece}
use Rattle.segment_plans.proofs.ArmSteps.{planned_arm}
use Rattle.segment_plans.proofs.PlanPieces.{first_piece, planned_piece}
use Rattle.segment_plans.proofs.Site.{site_of}

pub piece_found : (g : Segment) (blocks : Blocks) → IsSegment g → AreKnown g.flow blocks → (part : Part) (paid : Bool) (at : ℕ) → IsPartOf g part at
    → at < part.past → (plan : Plan) (found : Option Piece) → IsPlanIn g plan paid at part → AnswersPiece g blocks part paid at found
    → found ≡ first_piece plan
piece_found g blocks segment known part paid at inside low plan found is answers =
    planned_piece g blocks (site_of g blocks segment known) part inside.high paid at low plan found is answers

-- the end of an arm of a jump list
pub arm_found : (g : Segment) (blocks : Blocks) → IsSegment g → AreKnown g.flow blocks → (x lo hi d : ℕ) → IsNextArm g x lo hi d
    → d ≡ next_arm blocks x lo hi
arm_found g blocks segment known x lo hi d is = planned_arm g blocks (site_of g blocks segment known) x lo hi d is
