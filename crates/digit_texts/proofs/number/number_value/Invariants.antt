use Rattle.std.proofs.Common.{◌≡◌, ◌<◌, ◌^◌, drop}
use Rattle.digit_texts.specs.Digits.{capped_number, written_from}
use Rattle.digit_texts.proofs.number.number_value.Given as goal

-- the digits that are left, after the value so far, give the number of all
abbrev pub invariant-loop-digit : goal.invariant-loop-digit
invariant-loop-digit l = record {
  within : l.value < 2 ^ 32;
  same : capped_number (written_from l.value (drop l.digit-index l.digits)) ≡ capped_number (written_from 0 l.digits);
}
