use Rattle.std.proofs.Common.{◌≡◌, drop}
use Rattle.st_rules.specs.Globals.{number_from}
use Rattle.st_scopes.proofs.global.number_from.Given as goal

abbrev pub invariant-loop-digit : goal.invariant-loop-digit
invariant-loop-digit l = number_from l.value (drop l.digit-index l.digits) ≡ number_from 0 l.digits
