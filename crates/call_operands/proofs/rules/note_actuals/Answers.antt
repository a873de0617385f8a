use Rattle.std.proofs.Common.{ℕ, List, Option, ap, ◌∙◌}
use Rattle.call_operands.proofs.LeastRules.{rules_turn}
use Rattle.call_operands.specs.inner.Rules.{with_rules}
use Rattle.stl_rules.specs.Calls.{rules_with}
use Rattle.stl_rules.specs.Interfaces.{formal_named, formals_of}
use Rattle.stl_rules.specs.Raw.{resolved_operand}
use Rattle.stl_tree.specs.declared.program.Formal.{Formal}
use Rattle.stl_tree.specs.declared.raw.RawActual.{RawActual}
use Rattle.call_operands.proofs.rules.note_actuals.Goals as goal

pub loop-actual-preserved : goal.loop-actual-preserved
loop-actual-preserved c =
    let scope = c.args.scope.now in
    let formals = formals_of c.args.called.now in
    let actual = c.actual-item.result in
    rules_turn (λ (a : RawActual). rules_with (formal_named 0 formals a.formal) (resolved_operand scope a.value))
    c.args.least.now c.loop-actual.least c.note_with.new.least
    c.args.actuals.now c.loop-actual.actual-index actual c.loop-actual-test.true c.actual-item.is c.loop-actual.invariant
    (c.note_with.ensures ∙ ap (λ (f : Option (ℕ × Formal)). with_rules c.loop-actual.least (rules_with f c.in_ok-given.given)) c.in_ok-formal.ensures
    ∙ ap (λ (name : List ℕ). with_rules c.loop-actual.least (rules_with (formal_named 0 formals name) c.in_ok-given.given)) c.as_slice.ensures
    ∙ ap (λ g. with_rules c.loop-actual.least (rules_with (formal_named 0 formals actual.formal) g)) c.in_ok-given.ensures)
