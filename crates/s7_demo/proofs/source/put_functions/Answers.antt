use Rattle.std.proofs.Common.{◌∙◌}
use Rattle.s7_demo.specs.Demo.{function_text}
use Rattle.s7_demo.proofs.Ranges.{next_text}
use Rattle.s7_demo.proofs.source.put_functions.Goals as goal

pub loop-function-preserved : goal.loop-function-preserved
loop-function-preserved c =
    next_text (function_text c.args.networks) c.loop-function.out.items c.put_function.new.out.items
    c.loop-function.function _ c.loop-function-test.true c.in_ok-put_function.ensures
    ∙ c.loop-function.invariant
