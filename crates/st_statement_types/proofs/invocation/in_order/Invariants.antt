use Rattle.std.proofs.Common.{◌≡◌, take}
use Rattle.st_rules.specs.Invocations.{in_order}
use Rattle.st_statement_types.proofs.invocation.in_order.Given as goal

abbrev pub invariant-loop-key : goal.invariant-loop-key
invariant-loop-key l = l.list ≡ in_order l.vars (take l.key-index l.keys)
