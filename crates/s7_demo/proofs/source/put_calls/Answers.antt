use Rattle.std.proofs.Common.{◌∙◌}
use Rattle.s7_demo.specs.Demo.{call_line}
use Rattle.s7_demo.proofs.Ranges.{next_text}
use Rattle.s7_demo.proofs.source.put_calls.Goals as goal

pub loop-function-preserved : goal.loop-function-preserved
loop-function-preserved c =
    next_text call_line c.loop-function.out.items c.put_call.new.out.items c.loop-function.function _ c.loop-function-test.true c.in_ok-put_call.ensures
    ∙ c.loop-function.invariant
