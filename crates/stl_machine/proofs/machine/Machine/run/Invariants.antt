use Rattle.std.proofs.Common.{◌≡◌}
use Rattle.stl_machine.specs.inner.Runs.{IsSound}
use Rattle.stl_machine.specs.inner.Views.{standing}
use Rattle.stl_machine.proofs.machine.Machine.run.Given as goal
use Rattle.stl_tree.specs.Accepted.{IsAccepted}
use Rattle.stl_tree.specs.StlRun.{steps_on}

abbrev pub invariant-loop : goal.invariant-loop
invariant-loop l =
    (standing l.self-inside.program.now l.self-inside.progress l.self-inside.state ≡ steps_on l.counter l.fn.self)
    × IsAccepted l.self-inside.program.now × IsSound l.self-inside.program.now l.self-inside.progress l.self-inside.state
