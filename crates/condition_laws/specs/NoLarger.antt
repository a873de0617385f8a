-- When the statements of a body are no more than those of another: what is counted of them, how high their expressions
-- are, and how deep they stand in one another.
-- Held against: this project's own readable texts.
use Rattle.std.specs.Prelude.{ℕ, ◌≤◌, List, Option, All}
use Rattle.condition_laws.specs.Depth.{body_depth}
use Rattle.st_tree.specs.BodyParts.{expressions_in, height}
use Rattle.st_tree.specs.Fitting.{Paired}
use Rattle.st_tree.specs.declared.expr.Expr.{Expr}
use Rattle.st_tree.specs.declared.program.Pou.{Pou}
use Rattle.st_tree.specs.declared.program.StProgram.{StProgram}
use Rattle.st_tree.specs.declared.program.Stmt.{Stmt}
use Rattle.text_shapes.specs.Shape.{KeepSelector, count_in, loops, other_cases, selector_arms, selector_cases, tests}

-- the expressions of a body are at most 32 high
abbrev pub AreLow : List Stmt → Type 0
AreLow body = All (λ (e : Expr). height e ≤ 32) (expressions_in body)

-- no count of a body is larger than that of another, whichever local is the selector; it uses the selector as that one
-- does; its expressions are low where those of the other are; and it stands no deeper
pub record IsNoLarger (old new : List Stmt) : Type 0 where
  pub loops : count_in loops new ≤ count_in loops old
  pub tests : count_in tests new ≤ count_in tests old
  pub selectors : (next : Option ℕ) → count_in (selector_cases next) new ≤ count_in (selector_cases next) old
  pub arms : (next : Option ℕ) → count_in (selector_arms next) new ≤ count_in (selector_arms next) old
  pub cases : (next : Option ℕ) → count_in (other_cases next) new ≤ count_in (other_cases next) old
  pub selector : (next : Option ℕ) → KeepSelector next old → KeepSelector next new
  pub low : AreLow old → AreLow new
  pub depth : body_depth new ≤ body_depth old

-- so the bodies of the units of a tree, in their order
abbrev pub HasNoLarger : StProgram → StProgram → Type 0
HasNoLarger old new = Paired (λ (u : Pou) (v : Pou). IsNoLarger u.body v.body) old.pous new.pous
