-- Laws of shapes: counts of texts one after another are sums, a worked text, and what more jumps allow.
use Rattle.std.specs.Prelude.{◌≡◌, ℕ, ◌+◌, ◌≤◌, pos, List, [], ◌∷◌, ◌++◌, Option, Some, None}
use Rattle.st_tree.specs.declared.expr.Expr.{Expr}
use Rattle.st_tree.specs.declared.expr.Expr.TheVariants as expr
use Rattle.st_tree.specs.declared.expr.StType.TheVariants as type
use Rattle.st_tree.specs.declared.expr.Var.TheVariants as var
use Rattle.st_tree.specs.declared.program.Arm.{Arm}
use Rattle.st_tree.specs.declared.program.CaseArm.{CaseArm}
use Rattle.st_tree.specs.declared.program.Stmt.{Stmt}
use Rattle.st_tree.specs.declared.program.Stmt.TheOpen as S
use Rattle.st_tree.specs.declared.program.Stmt.TheVariants as stmt
use Rattle.stl_tree.specs.Flows.{Flow, Segment}
use Rattle.text_shapes.specs.Allowed.{AreAmong}
use Rattle.text_shapes.specs.IsShaped.{IsShaped}
use Rattle.text_shapes.specs.Shape.{KeepsSelector, count_in, loops, other_cases, selector_arms, selector_cases, tests}

-- what is counted of two texts, one after the other, is the sum
abbrev pub CountsAdd : Type 0
CountsAdd = (count : S.Stmt-F Stmt Arm CaseArm → ℕ) (first second : List Stmt)
    → count_in count (first ++ second) ≡ count_in count first + count_in count second

-- what has a shape has it also where there may be more tests and jump lists
abbrev pub MoreJumpsAllowMore : Type 0
MoreJumpsAllowMore = (flow : Flow) (conditionals lists more_conditionals more_lists : ℕ) (next : Option ℕ)
    (body : List Stmt) → conditionals ≤ more_conditionals → lists ≤ more_lists
    → IsShaped flow conditionals lists next body → IsShaped flow more_conditionals more_lists next body

-- segments are among themselves
abbrev pub AllAreAmong : Type 0
AllAreAmong = (segments : List Segment) → AreAmong segments segments

-- A worked text, with the local at position 2 as its selector: a dispatch loop of two arms, in one of which an IF is

abbrev pub worked_selector : Expr
worked_selector = expr.Read (var.Local 2)

-- the local takes a number
abbrev pub worked_set : ℕ → Stmt
worked_set n = stmt.Assign (var.Local 2) (expr.Literal type.Dint (pos n))

abbrev pub worked_arms : Expr → List CaseArm
worked_arms e =
    record { labels = pos 0 ∷ []; body = stmt.If (record { test = e; body = stmt.Exit ∷ [] } ∷ []) [] ∷ [] }
    ∷ record { labels = pos 1 ∷ []; body = worked_set 0 ∷ [] } ∷ []

abbrev pub worked_text : Expr → List Stmt
worked_text e =
    worked_set 0
    ∷ stmt.While (expr.Literal type.Bool (pos 1)) (stmt.Case worked_selector (worked_arms e) [] ∷ []) ∷ []

-- what is counted of it
pub record IsCounted (body : List Stmt) : Type 0 where
  pub loops : count_in loops body ≡ 1
  pub tests : count_in tests body ≡ 1
  pub selectors : count_in (selector_cases (Some 2)) body ≡ 1
  pub arms : count_in (selector_arms (Some 2)) body ≡ 2
  pub others : count_in (other_cases (Some 2)) body ≡ 0
  -- with no selector, or with another one, the CASE is one over something else
  pub no_selector : count_in (other_cases None) body ≡ 1
  pub another : count_in (other_cases (Some 3)) body ≡ 1

abbrev pub WorkedTextIsCounted : Type 0
WorkedTextIsCounted = (e : Expr) → IsCounted (worked_text e)

-- The selector may not be assigned another variable, nor given to a call, nor be part of an expression

abbrev pub SelectorIsKept : Type 0
SelectorIsKept = (next : ℕ) (e : Expr) (arms : List CaseArm) (other : List Stmt)
    → (KeepsSelector (Some next) (S.Assign (var.Local next) (expr.Read (var.Local 0))) → ⊥)
    × (KeepsSelector (Some next) (S.Invoke 0 (var.Local next ∷ [])) → ⊥)
    × (KeepsSelector (Some next) (S.While (expr.Read (var.Local next)) other) → ⊥)
    × KeepsSelector (Some next) (S.Case (expr.Read (var.Local next)) arms other)
    × KeepsSelector (Some next) (S.Assign (var.Local next) (expr.Literal type.Dint (pos 0)))
