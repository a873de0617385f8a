use Rattle.std.proofs.Common.{◌≡◌, ◌≤◌, drop}
use Rattle.stl_statement_grammar.specs.Numbers.{hex_from}
use Rattle.stl_constants.proofs.number.hex_number.Given as goal

-- the digits that are left, after the value so far, give the number of all
abbrev pub invariant-loop-digit : goal.invariant-loop-digit
invariant-loop-digit l = (l.value ≤ l.most) × (hex_from l.most l.value (drop l.digit-index l.digits) ≡ hex_from l.most 0 l.digits)
