-- What can be seen of a run. Within a bound it has ended, with its areas and the fault that ended it if one did, or
-- it goes on. Runs of both languages are seen so.
-- Held against: this project's own runs.
use Rattle.std.specs.Prelude.{Option}
use Rattle.s7_base.specs.declared.outcome.Fault.{Fault}
use Rattle.memory_areas.specs.Areas.{Areas}

-- the end of a run: it ended, with the areas as they then were and the fault that ended it if one did, or it goes on
pub data End : Type 0 where
  Ended : Areas → Option Fault → End
  Going : End
