-- What waits and what comes next in the runner, as plain data.
use Rattle.st_runner.specs.Standing.{Coming, Pending, again, call, over, rest, test, unit, work}
use Rattle.st_runner.specs.declared.frame.At.{At}
use Rattle.st_runner.specs.declared.frame.At.TheVariants as at
use Rattle.st_runner.specs.declared.frame.Frame.{Frame}
use Rattle.st_runner.specs.declared.frame.Frame.TheVariants as frame

-- what waits
abbrev pub pending : Frame → Pending
pending (frame.Rest body place) = rest body.now
pending (frame.Again t body place) = again t.now body.now
pending frame.Unit = unit

-- what comes next
abbrev pub coming : At → Coming
coming at.Work = work
coming (at.Test t body place) = test t.now body.now
coming (at.Call n actuals) = call n actuals.now
coming (at.Over f) = over f
