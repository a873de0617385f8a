use Rattle.std.proofs.Common.{◌≡◌, ◌+◌, ◌^◌, ◌<◌, ◌++◌, length}
use Rattle.std.specs.Iterator.Adapters.{zip_first, zip_second}
use Rattle.std.specs.Slice.Iter.{iter_rest}
use Rattle.call_templates.specs.Calls.{types_of_constants, variables_given}
use Rattle.call_templates.proofs.actuals.variables.Given as goal

abbrev pub invariant-loop-formal : goal.invariant-loop-formal
invariant-loop-formal l =
    let formals = iter_rest (zip_first l.formal-iterator) in
    let actuals = iter_rest (zip_second l.formal-iterator) in
    (l.vars ++ variables_given l.next formals actuals ≡ variables_given l.fn.next l.fn.formals l.fn.actuals)
    × (l.next + length (types_of_constants formals actuals) < 2 ^ 32)
