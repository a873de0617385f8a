use Rattle.std.proofs.Common.{ap, ◌∙◌}
use Rattle.call_operands.proofs.LeastRules.{rules_turn}
use Rattle.call_operands.specs.inner.Rules.{with_rules}
use Rattle.stl_rules.specs.Calls.{own_rules}
use Rattle.stl_rules.specs.Raw.{resolved_operand}
use Rattle.stl_tree.specs.declared.raw.RawActual.{RawActual}
use Rattle.call_operands.proofs.rules.note_all_own.Goals as goal

pub loop-actual-preserved : goal.loop-actual-preserved
loop-actual-preserved c =
    let scope = c.args.scope.now in
    rules_turn (λ (a : RawActual). own_rules (resolved_operand scope a.value)) c.args.least.now c.loop-actual.least c.note_own.new.least
    c.args.actuals.now c.loop-actual.actual-index c.actual-item.result c.loop-actual-test.true c.actual-item.is c.loop-actual.invariant
    (c.note_own.ensures ∙ ap (λ g. with_rules c.loop-actual.least (own_rules g)) c.in_ok-given.ensures)
