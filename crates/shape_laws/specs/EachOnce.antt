-- The text of a unit has what its blocks do exactly once, and nothing of a block that no path reaches.
-- Held against: this project's own readable texts.
use Rattle.std.specs.Prelude.{◌≡◌, ◌↔◌, ℕ, suc, ◌+◌, ℤ, Bool, true, if◌then◌else◌, List, [], ◌∷◌}
use Rattle.st_tree.specs.declared.expr.Expr.{Expr}
use Rattle.st_tree.specs.declared.expr.Expr.TheVariants as expr
use Rattle.st_tree.specs.declared.expr.StType.{StType}
use Rattle.st_tree.specs.declared.expr.Var.{Var}
use Rattle.st_tree.specs.declared.graph.StNode.{StNode}
use Rattle.st_tree.specs.declared.program.Arm.{Arm}
use Rattle.st_tree.specs.declared.program.CaseArm.{CaseArm}
use Rattle.st_tree.specs.declared.program.Stmt.{Stmt}
use Rattle.st_tree.specs.declared.program.Stmt.TheOpen as S
use Rattle.stl_tree.specs.Segments.{IsReached}
use Rattle.stl_tree.specs.Flows.{blocks_of}
use Rattle.graph_rules.specs.Flow.{flow_of}
use Rattle.text_shapes.specs.Shape.{count_in}
use Rattle.unit_regions.specs.MadeCharts.{ArePlain, IsMade}

-- only statements that do something are counted: not those that choose, repeat or leave, and not those that put a
-- literal into a variable, as a dispatch loop and an end of the unit do
pub record CountsWork (count : S.Stmt-F Stmt Arm CaseArm → ℕ) : Type 0 where
  pub exit : count S.Exit ≡ 0
  pub again : count S.Continue ≡ 0
  pub ended : count S.Return ≡ 0
  pub test : (arms : List Arm) (other : List Stmt) → count (S.If arms other) ≡ 0
  pub turn : (e : Expr) (body : List Stmt) → count (S.While e body) ≡ 0
  pub select : (e : Expr) (arms : List CaseArm) (other : List Stmt) → count (S.Case e arms other) ≡ 0
  pub set : (v : Var) (ty : StType) (n : ℤ) → count (S.Assign v (expr.Literal ty n)) ≡ 0

-- the sum over those of some nodes that are reached, by the number of each
abbrev pub reached_sum : (ℕ → Bool) → (StNode → ℕ) → List StNode → ℕ
reached_sum reached count [] = 0
reached_sum reached count (n ∷ rest) =
    (if reached 0 then count n else 0) + reached_sum (λ b. reached (suc b)) count rest

-- whatever is counted so, a text has as much of it as the nodes that a path from the first one reaches, each once
pub record HasEachOnce (nodes : List StNode) (body : List Stmt) : Type 0 where
  pub reached : ℕ → Bool
  pub reaches : (b : ℕ) → (reached b ≡ true) ↔ IsReached (blocks_of (flow_of nodes)) b
  pub once : (count : S.Stmt-F Stmt Arm CaseArm → ℕ) → CountsWork count
      → count_in count body ≡ reached_sum reached (λ (n : StNode). count_in count n.steps) nodes

-- so does the text that is made of plain nodes
abbrev pub MadeHasEachOnce : Type 0
MadeHasEachOnce = (nodes : List StNode) (next : ℕ) (body : List Stmt) (loops : ℕ) → ArePlain nodes
    → IsMade nodes next body loops → HasEachOnce nodes body
