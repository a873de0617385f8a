use Rattle.std.proofs.Common.{◌≡◌, ◌++◌}
use Rattle.std.specs.Iterator.Adapters.{zip_first, zip_second}
use Rattle.std.specs.Slice.Iter.{iter_rest}
use Rattle.call_templates.specs.Calls.{copies, copy_in}
use Rattle.call_templates.proofs.actuals.push_copies_in.Given as goal

abbrev pub invariant-loop-formal : goal.invariant-loop-formal
invariant-loop-formal l =
    let formals = iter_rest (zip_first l.formal-iterator) in
    let actuals = iter_rest (zip_second l.formal-iterator) in
    l.steps ++ copies (copy_in l.instance) formals actuals ≡ l.fn.steps ++ copies (copy_in l.fn.instance) l.fn.formals l.fn.actuals
