use Rattle.std.proofs.Common.{◌+◌, ◌∙◌, ap}
use Rattle.st_runner.proofs.Frames.{given, longer}
use Rattle.st_runner.proofs.reserve.spare.Goals as goal

pub loop-preserved : goal.loop-preserved
loop-preserved c = (
  given c.args.locals c.args.formals c.push_reserved.new.self.items c.loop.spare.items c.in_ok-activation.field-0
      c.push_reserved.ensures.items c.loop.invariant.0 c.in_ok-activation.ensures.frame,
  longer c.push_reserved.new.self.items c.loop.spare.items c.in_ok-activation.field-0 c.push_reserved.ensures.items ∙ ap (λ n. n + 1) c.loop.invariant.1,
  c.push_reserved.ensures.capacity ∙ c.loop.invariant.2,
)
