use Rattle.std.proofs.Common.{rules, refl}
use Rattle.call_templates.specs.Calls.{types_of_operands}
use Rattle.call_templates.proofs.Zipped.{nothing_left, one_ends}
use Rattle.call_templates.proofs.actuals.push_types_of_operands.Goals as goal

pub returns : goal.returns
returns c =
    let ended = one_ends _ c.next.new.self _ c.in-None.is c.next.ensures.steps in
    let left = nothing_left types_of_operands (λ ys. refl) (λ x xs. refl) _ _ ended in
    search rules
