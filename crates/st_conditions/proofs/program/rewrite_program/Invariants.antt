use Rattle.std.proofs.Common.{◌≡◌, map}
use Rattle.condition_laws.specs.inner.Rewriting.{rewrite_unit}
use Rattle.st_conditions.proofs.program.rewrite_program.Given as goal

abbrev pub invariant-loop-unit : goal.invariant-loop-unit
invariant-loop-unit l = l.pous ≡ map rewrite_unit l.yielded
