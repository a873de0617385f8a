use Rattle.std.proofs.Common.{◌≡◌, ◌+◌, ◌^◌, ◌<◌, ◌++◌, length}
use Rattle.std.specs.Iterator.Adapters.{zip_first, zip_second}
use Rattle.std.specs.Slice.Iter.{iter_rest}
use Rattle.call_templates.specs.Calls.{operands_read, types_of_operands}
use Rattle.call_templates.proofs.actuals.push_operands.Given as goal

abbrev pub invariant-loop-formal : goal.invariant-loop-formal
invariant-loop-formal l =
    let formals = iter_rest (zip_first l.formal-iterator) in
    let actuals = iter_rest (zip_second l.formal-iterator) in
    (l.steps ++ operands_read l.next formals actuals ≡ l.fn.steps ++ operands_read l.fn.next l.fn.formals l.fn.actuals)
    × (l.next + length (types_of_operands formals actuals) < 2 ^ 32)
