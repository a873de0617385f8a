use Rattle.std.proofs.Common.{◌≡◌, ◌-◌, ◌++◌, flat_map}
use Rattle.std.specs.List.{range_with_len}
use Rattle.s7_demo.specs.Demo.{function_text, functions_of}
use Rattle.s7_demo.proofs.source.put_functions.Given as goal

abbrev pub invariant-loop-function : goal.invariant-loop-function
invariant-loop-function l =
    l.out.items ++ flat_map (function_text l.networks) (range_with_len l.function (l.function-end - l.function))
    ≡ l.fn.out.items ++ flat_map (function_text l.networks) (functions_of l.networks)
