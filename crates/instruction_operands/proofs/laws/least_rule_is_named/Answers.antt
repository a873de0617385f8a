use Rattle.instruction_operands.proofs.Rules.{least_named}
use Rattle.instruction_operands.proofs.laws.least_rule_is_named.Goals as goal

pub returns : goal.returns
returns c = least_named
