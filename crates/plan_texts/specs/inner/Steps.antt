-- What a plan has at a block, and the regions of it and of what is left.
use Rattle.std.specs.Prelude.{◌≡◌, ℕ, suc, ◌+◌, ◌-◌, ◌<◌, Bool, ◌&&◌, List, [], ◌∷◌, ◌++◌, Option, Some, None, drop, slice_get}
use Rattle.st_tree.specs.declared.expr.Expr.{Expr}
use Rattle.st_tree.specs.declared.graph.StExit.{StExit}
use Rattle.st_tree.specs.declared.graph.StExit.TheVariants as exit
use Rattle.st_tree.specs.declared.graph.StNode.{StNode}
use Rattle.st_tree.specs.declared.program.Stmt.{Stmt}
use Rattle.stl_tree.specs.Flows.{Segment}
use Rattle.nesting_laws.specs.Plans.{Plan}
use Rattle.region_laws.specs.Regions.{Place, Region, at as place_at, off, text_of}
use Rattle.region_plans.specs.PlanRegion.{Chart, arm_from, cases_region, fork_region, loop_region, one_region, region_of, rest_from}
use Rattle.segment_plans.specs.Planned.{HasInner, HasPlan, IsPiece, after, arm, around_of, body, first_arm}
use Rattle.dispatch_loops.specs.Charted.{chart_in}
use Rattle.segment_plans.specs.declared.blocks.Blocks.{Blocks}
use Rattle.segment_plans.specs.declared.planning.Part.{Part}
use Rattle.segment_plans.specs.declared.planning.Piece.{Piece}
use Rattle.segment_plans.specs.declared.planning.Piece.TheVariants as piece
use Rattle.plan_texts.specs.declared.leads.Lead.{Lead}
use Rattle.plan_texts.specs.PlanTexts.{IsWritten}
use Rattle.plan_texts.specs.inner.Leads.{Adds, ForPart, place_in}

-- the region of a part from a block on
abbrev pub region_at : Chart → Place → Part → ℕ → Plan → Region
region_at c place part at plan = region_of c plan at part.past place (around_of part.around)

-- the region of a piece at a block, with that of the rest of the part
abbrev pub piece_region : Chart → Place → (g : Segment) (left : ℕ) (part : Part) (at : ℕ) (p : Piece)
    → HasInner g left part at p → Region → Region
piece_region c place g left part at piece.Skip inner rest = rest
piece_region c place g left part at piece.One inner rest =
    one_region c at part.past place (around_of part.around) rest (slice_get c.unit.nodes at)
piece_region c place g left part at (piece.Arm t d) inner rest =
    fork_region off (region_at c (place_at t) (arm part d t) (at + 1) inner.1.0) (place_at t) rest
    (slice_get c.unit.nodes at)
piece_region c place g left part at (piece.Arms t u d) inner rest =
    fork_region (region_at c (place_at u) (arm part d u) t inner.2.0)
    (region_at c (place_at u) (first_arm part t u) (at + 1) inner.1.0) (place_at u) rest (slice_get c.unit.nodes at)
piece_region c place g left part at (piece.Loop l leaves) inner rest =
    loop_region (leaves && c.unit.reached (suc l)) (region_at c (place_at at) (body at l leaves) at inner.1.0) l place
    rest
piece_region c place g left part at (piece.Cases e) inner rest =
    cases_region inner.1.0 e (arm_from c inner.1.0 (at + 1) e (around_of part.around))
    (arm_from c inner.1.0 (at + 1) e (around_of part.around) (at + 1))
    (rest_from c e part.past place (around_of part.around) rest) (slice_get c.unit.nodes at)

-- Pieces and parts

-- a piece is written: its nodes are taken, and the rest of the part is left
pub record Writes (c : Chart) (place : Place) (g : Segment) (left : ℕ) (part : Part) (at : ℕ) (p : Piece)
    (inner : HasInner g left part at p)
    (nodes : List StNode) (old new : List Stmt) (to : Lead) : Type 0 where
  pub taken : nodes ≡ drop (after at p) c.unit.nodes
  pub adds : (rest : Region) → Adds old new to (piece_region c place g left part at p inner rest) rest

-- a part is written as far as a block: the nodes before it are taken, and what is left has a plan
pub record Reaches (c : Chart) (place : Place) (g : Segment) (left : ℕ) (part : Part) (whole : Region) (old : List Stmt)
    (nodes : List StNode) (new : List Stmt) (to : Lead) (paid : Bool) (at : ℕ) : Type 0 where
  pub taken : nodes ≡ drop at c.unit.nodes
  pub rest : HasPlan g left part paid at
  pub adds : Adds old new to whole (region_at c place part at rest.0)

-- Nodes

-- the test of an exit that branches
abbrev pub test_in : StExit → Option Expr
test_in (exit.Branch e t) = Some e
test_in other = None

-- the value of an exit that is a jump list, and where its entries lead
abbrev pub list_in : StExit → Option (Expr × List ℕ)
list_in (exit.Table e targets last) = Some (e, targets)
list_in other = None

-- the first node is taken, and its steps are written
abbrev pub HasSteps : List StNode → List StNode → List Stmt → List Stmt → Option StExit → Type 0
HasSteps [] rest old new found = (rest ≡ []) × (new ≡ old) × (found ≡ None)
HasSteps (node ∷ more) rest old new found = (rest ≡ more) × (new ≡ old ++ node.steps) × (found ≡ Some node.exit)

-- Clauses

-- a piece that may stand at a block of a part is written
abbrev pub WritesPiece : Blocks → List Stmt → Bool → ℕ → Part → ℕ → Piece → List StNode → List StNode → List Stmt
    → List Stmt → Lead → Type 0
WritesPiece blocks steps tail left part at p nodes rest old new to =
    ForPart blocks steps part at (λ all g. (paid : Bool) (inner : HasInner g left part at p)
    → IsPiece g blocks part paid at p → nodes ≡ drop at all
    → Writes (chart_in all blocks) (place_in tail part) g left part at p inner rest old new to)

-- a part that has a plan is written
abbrev pub WritesPart : Blocks → List Stmt → Bool → ℕ → Part → ℕ → Bool → List StNode → List StNode → List Stmt
    → List Stmt → Bool → Type 0
WritesPart blocks steps tail left part first paid nodes rest old new goes_on =
    ForPart blocks steps part first (λ all g. (plan : HasPlan g left part paid first) (next : ℕ) → nodes ≡ drop first
    all
    → IsWritten all part.past next (region_at (chart_in all blocks) (place_in tail part) part first plan.0) rest old
    new goes_on)

-- a part one level deeper is written as a list of its own
abbrev pub WritesInner : Blocks → List Stmt → ℕ → Part → ℕ → Bool → List StNode → List StNode → List Stmt → Type 0
WritesInner blocks steps left part first paid nodes rest inner =
    ForPart blocks steps part first (λ all g. (plan : HasPlan g (left - 1) part paid first) → 0 < left → nodes ≡ drop
    first all
    → (rest ≡ drop part.past all)
    × ((next : ℕ) → inner ≡ text_of next (region_at (chart_in all blocks) (place_at part.follow) part first plan.0)))
