use Rattle.std.proofs.Common.{ℕ, ◌++◌, List, Result, ap, ◌∙◌}
use Rattle.call_operands.proofs.LeastRules.{of_three}
use Rattle.call_operands.specs.inner.Rules.{with_rules}
use Rattle.s7_base.specs.declared.reason.Reason.{Reason}
use Rattle.s7_base.specs.declared.reason.Reason.TheVariants.{DuplicateName}
use Rattle.stl_rules.specs.Calls.{are_repeated, block_rules, instance_rules, least_rule as least_of, rule_if}
use Rattle.stl_tree.specs.declared.raw.RawActual.{RawActual}
use Rattle.stl_tree.specs.declared.raw.RawCall.{out-RawCall}
use Rattle.call_operands.proofs.rules.least_rule.Goals as goal

pub returns : goal.returns
returns c =
    let scope = c.args.scope.now in
    let call = out-RawCall c.args.call.now in
    let actuals = c.args.actuals.now in
    let number = c.args.number in
    let before = c.note_instance_rules.new.least in
    let repeated = c.in_ok-repeated.ensures ∙ ap (λ (all : List RawActual). are_repeated all) c.all.ensures in
    of_three c.note_block.new.least before c.note_if.new.least
    (block_rules scope call.kind actuals number) (instance_rules scope.text call.kind number call.db) (rule_if (are_repeated actuals) DuplicateName)
    c.in_ok-note_block.ensures c.in_ok-note_instance_rules.ensures
    (c.note_if.ensures ∙ ap (λ b. with_rules before (rule_if b DuplicateName)) repeated)
    ∙ ap (λ (all : List RawActual). least_of ((block_rules scope call.kind all number ++ instance_rules scope.text call.kind number call.db)
    ++ rule_if (are_repeated all) DuplicateName)) c.requires.actuals
    ∙ ap (λ (n : Result ℕ Reason). least_of ((block_rules scope call.kind call.actuals n ++ instance_rules scope.text call.kind n call.db)
    ++ rule_if (are_repeated call.actuals) DuplicateName)) c.requires.number
