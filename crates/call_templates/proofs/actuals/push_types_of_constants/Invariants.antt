use Rattle.std.proofs.Common.{◌≡◌, ◌++◌}
use Rattle.std.specs.Iterator.Adapters.{zip_first, zip_second}
use Rattle.std.specs.Slice.Iter.{iter_rest}
use Rattle.call_templates.specs.Calls.{types_of_constants}
use Rattle.call_templates.proofs.actuals.push_types_of_constants.Given as goal

abbrev pub invariant-loop-formal : goal.invariant-loop-formal
invariant-loop-formal l =
    let formals = iter_rest (zip_first l.formal-iterator) in
    let actuals = iter_rest (zip_second l.formal-iterator) in
    l.types ++ types_of_constants formals actuals ≡ l.fn.types ++ types_of_constants l.fn.formals l.fn.actuals
