use Rattle.std.proofs.Common.{rules, refl}
use Rattle.call_templates.specs.Calls.{variables_given}
use Rattle.call_templates.proofs.Zipped.{nothing_left, one_ends}
use Rattle.call_templates.proofs.actuals.variables.Goals as goal

pub returns : goal.returns
returns c =
    let ended = one_ends _ c.next.new.self _ c.in-None.is c.next.ensures.steps in
    let left = nothing_left (variables_given c.loop-formal.next) (λ ys. refl) (λ x xs. refl) _ _ ended in
    search rules
