-- What EXIT, CONTINUE and RETURN leave of the frames that wait.
use Rattle.std.specs.Prelude.{◌≡◌, ℕ, ◌≤◌, List}
use Rattle.st_runner.specs.inner.Measures.{tall, units, work_weight}
use Rattle.st_runner.specs.inner.Costs.{Costs}
use Rattle.st_runner.specs.inner.Plan.{ArePlanned}
use Rattle.st_runner.specs.inner.Waiting.{ending}
use Rattle.st_runner.specs.declared.frame.Frame.{Frame}
use Rattle.st_runner.specs.declared.plan.Part.{Part}
use Rattle.st_tree.specs.Meaning.{Out, Calls}
use Rattle.st_tree.specs.State.{State}
use Rattle.st_tree.specs.declared.program.Located.{Located}

-- the frames that are left mean after one end what all frames meant after another, and cost no more
pub record Leaves (from to : ℕ → State → Out) (before after : List Frame) : Type 0 where
  pub meaning : (g : List Located) (c : Calls) (u : ℕ) (s : State)
      → ending g c after (to u s) ≡ ending g c before (from u s)
  pub tall : (k : Costs) → tall k after ≤ tall k before
  pub units : units after ≡ units before
  pub weight : work_weight after ≤ work_weight before
  pub planned : (plan : List Part) → ArePlanned plan before → ArePlanned plan after
