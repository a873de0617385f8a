-- What is left of some statements when the first of them are done.
use Rattle.std.specs.Prelude.{◌≡◌, ℕ, ◌≤◌, List}
use Rattle.st_runner.specs.inner.Costs.{Costs, body_most}
use Rattle.st_runner.specs.inner.Measures.{body_weight}
use Rattle.st_runner.specs.inner.Plan.{Stands, body_parts}
use Rattle.st_runner.specs.declared.plan.Part.{Part}
use Rattle.st_tree.specs.Meaning.{Calls, body_meaning}
use Rattle.st_tree.specs.State.{State}
use Rattle.st_tree.specs.declared.program.Located.{Located}
use Rattle.st_tree.specs.declared.program.Stmt.{Stmt}

-- the rest of a body does from here what the body did from there, costs no more, and has its parts at the same place
pub record HasBegun (globals : List Located) (body rest : List Stmt) (s t : State) : Type 0 where
  pub meaning : (c : Calls) (u : ℕ) → body_meaning globals c body u s ≡ body_meaning globals c rest u t
  pub most : (k : Costs) → body_most k rest ≤ body_most k body
  pub weight : body_weight rest ≤ body_weight body
  pub planned : (plan : List Part) (n : ℕ) → Stands plan n (body_parts body) → Stands plan n (body_parts rest)
