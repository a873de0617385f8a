use Rattle.std.proofs.Common.{◌≡◌, ◌-◌, ◌++◌, flat_map}
use Rattle.std.specs.List.{range_with_len}
use Rattle.s7_demo.specs.Demo.{call_line, functions_of}
use Rattle.s7_demo.proofs.source.put_calls.Given as goal

abbrev pub invariant-loop-function : goal.invariant-loop-function
invariant-loop-function l =
    l.out.items ++ flat_map call_line (range_with_len l.function (l.function-end - l.function))
    ≡ l.fn.out.items ++ flat_map call_line (functions_of l.networks)
