-- When a text runs as another does.
-- Held against: this project's own runs.
use Rattle.std.specs.Prelude.{◌≡◌}
use Rattle.memory_areas.specs.declared.call.Call.{Call}
use Rattle.st_tree.specs.StRun.{FitsSt}
use Rattle.st_tree.specs.declared.program.StProgram.{StProgram}
use Rattle.condition_laws.specs.SameRuns.{RunsAlike}

-- two texts have the same data blocks, the same calls fit them, and each call that fits ends alike in both, from each
-- memory of these data blocks and within each number of units
pub record RunsAsBefore (old new : StProgram) : Type 0 where
  pub blocks : new.dbs ≡ old.dbs
  pub fits : (call : Call) → FitsSt old call → FitsSt new call
  pub fits_back : (call : Call) → FitsSt new call → FitsSt old call
  pub runs : RunsAlike old new
