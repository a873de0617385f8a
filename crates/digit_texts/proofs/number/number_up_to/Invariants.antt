use Rattle.std.proofs.Common.{◌≡◌, ◌≤◌, drop}
use Rattle.digit_texts.specs.Digits.{bounded_from}
use Rattle.digit_texts.proofs.number.number_up_to.Given as goal

-- the digits that are left, after the value so far, give the number of all
abbrev pub invariant-loop-digit : goal.invariant-loop-digit
invariant-loop-digit l = record {
  within : l.value ≤ l.most;
  same : bounded_from l.most l.value (drop l.digit-index l.digits) ≡ bounded_from l.most 0 l.digits;
}
