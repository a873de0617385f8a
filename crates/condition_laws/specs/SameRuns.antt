-- When a tree runs as another does.
-- Held against: this project's own runs.
use Rattle.std.specs.Prelude.{◌≡◌, ℕ}
use Rattle.memory_areas.specs.Areas.{Areas, IsMemoryOf}
use Rattle.memory_areas.specs.declared.call.Call.{Call}
use Rattle.st_tree.specs.StRun.{FitsSt, st_run}
use Rattle.st_tree.specs.declared.program.StProgram.{StProgram}

-- each call that fits a tree ends alike in another, with equal memory, or goes on in both, within each number of units
abbrev pub RunsAlike : StProgram → StProgram → Type 0
RunsAlike old new =
    (call : Call) (areas : Areas) (units : ℕ) → FitsSt old call → IsMemoryOf old.dbs areas
    → st_run new call areas units ≡ st_run old call areas units
